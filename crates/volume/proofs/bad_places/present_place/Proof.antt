use mathlib.Core.Path.{refl, ◌∙◌}
use borrow.Author.Tests.{not-true, not-false}
use borrow.Author.Rules.{rules}
use Rattle.volume.proofs.bad_places.present_place.Statement.{statement}
use Rattle.volume.proofs.bad_places.present_place.Tie as tie

returns : tie.Need-returns-then-not-present
returns c = let a = c.args in c.no_place.ensures ∙ rw (not-true a.present c.if-not-present.true-raw) refl

returns-2 : tie.Need-returns
returns-2 c = let a = c.args in c.drive_place.ensures ∙ rw (not-false a.present c.if-not-present.false-raw) refl

pub present_place_spec : {M : Type 1} → statement M
present_place_spec = tie.close (tie.spec (λ c κs. search rules) returns (λ c κs. search rules) returns-2)
