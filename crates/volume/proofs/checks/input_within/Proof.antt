use mathlib.Core.Path.{◌≡◌, refl, sym, ◌∙◌}
use mathlib.Core.Bool.{true}
use borrow.Author.Rules.{rules}
use borrow.Author.Tests.{not-true, not-false}
use Rattle.tables.specs.meaning.GeometryTest.{is_valid}
use Rattle.tables.specs.laws.GeometryTest.{valid_if_test}
use Rattle.volume.proofs.checks.input_within.Statement.{statement}
use Rattle.volume.proofs.checks.input_within.Tie as tie

returns : tie.Need-returns-then-not-ok
returns c = rw (sym c.valid-ok.ensures ∙ not-true c.valid-ok.result c.if-not-ok.true-raw) refl

valid : (c : tie.Else-not-ok) → is_valid c.args.g ≡ true
valid c = sym c.valid-ok.ensures ∙ not-false c.valid-ok.result c.if-not-ok.false-raw

returns-2 : tie.Need-returns
returns-2 c = rw (valid c.before) c.state_within.ensures

pub input_within_spec : {M : Type 1} → statement M
input_within_spec = tie.close (tie.spec (λ c κs. search rules) returns (λ c κs. valid_if_test _ (valid c)) returns-2)
