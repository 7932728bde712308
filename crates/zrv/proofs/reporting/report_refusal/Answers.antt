use mathlib.Core.Path.{◌≡◌, sym, ◌∙◌, refl}
use borrow.Author.Tests.{not-true, not-false, eq-eqb, ne_eqb}
use mathlib.Core.Bool.{true}
use Rattle.tables.specs.meaning.GeometryTest.{is_valid}
use Rattle.tables.specs.laws.GeometryTest.{valid_if_test}
use Rattle.zrv.specs.meaning.EdgeCalls.{report_input}
use borrow.Author.Rules.{rules}
use Rattle.zrv.proofs.reporting.report_refusal.Goals as goal

pub returns-then-not-valid : goal.returns-then-not-valid
unfolding report_input
returns-then-not-valid c = rw (sym c.valid.ensures ∙ c.if-not-valid.true) refl

pub state_bad-requires : goal.state_bad-requires
state_bad-requires c = valid_if_test _ (sym c.valid.ensures ∙ c.if-not-valid.false)

pub returns-then-state_bad : goal.returns-then-state_bad
unfolding report_input
returns-then-state_bad c = rw (sym c.valid.ensures ∙ c.if-not-valid.false, sym c.state_bad.ensures ∙ c.if-state_bad.true) refl

pub returns-then-state-eq-STATE_BYTES : goal.returns-then-state-eq-STATE_BYTES
unfolding report_input
returns-then-state-eq-STATE_BYTES c = rw (sym c.valid.ensures ∙ c.if-not-valid.false, sym c.state_bad.ensures ∙ c.if-state_bad.false, eq-eqb _ _ c.if-state-eq-STATE_BYTES.true) refl

pub returns-else-state-eq-STATE_BYTES : goal.returns-else-state-eq-STATE_BYTES
unfolding report_input
returns-else-state-eq-STATE_BYTES c = rw (sym c.valid.ensures ∙ c.if-not-valid.false, sym c.state_bad.ensures ∙ c.if-state_bad.false, ne_eqb _ _ c.if-state-eq-STATE_BYTES.false) refl
