use mathlib.Core.Path.{◌≡◌, sym, ◌∙◌, refl}
use borrow.Author.Tests.{not-true, not-false}
use mathlib.Core.Bool.{true}
use Rattle.tables.specs.meaning.GeometryTest.{is_valid}
use Rattle.tables.specs.laws.GeometryTest.{valid_if_test}
use Rattle.zrv.specs.meaning.EdgeCalls.{sizes_number}
use borrow.Author.Rules.{rules}
use Rattle.zrv.proofs.input.sizes_refusal.Goals as goal

pub returns-then-not-valid : goal.returns-then-not-valid
unfolding sizes_number
returns-then-not-valid c = rw (sym c.valid.ensures ∙ c.if-not-valid.true) refl

pub sizes_fit-requires : goal.sizes_fit-requires
sizes_fit-requires c = valid_if_test _ (sym c.valid.ensures ∙ c.if-not-valid.false)

pub returns-then-sizes_fit : goal.returns-then-sizes_fit
unfolding sizes_number
returns-then-sizes_fit c = rw (sym c.valid.ensures ∙ c.if-not-valid.false, sym c.sizes_fit.ensures ∙ c.if-sizes_fit.true) refl

pub returns-else-sizes_fit : goal.returns-else-sizes_fit
unfolding sizes_number
returns-else-sizes_fit c = rw (sym c.valid.ensures ∙ c.if-not-valid.false, sym c.sizes_fit.ensures ∙ c.if-sizes_fit.false) refl
