use mathlib.Core.Path.{refl}
use borrow.Author.Tests.{not-true, not-false}
use borrow.Author.Rules.{rules}
use Rattle.volume.proofs.drives_lost.array_differs.Statement.{statement}
use Rattle.volume.proofs.drives_lost.array_differs.Tie as tie

returns-2 : tie.Need-returns
returns-2 c = let a = c.args in rw (c.first_array-a.ensures, not-false a.present c.if-not-present.false-raw) refl

pub array_differs_spec : {M : Type 1} → statement M
array_differs_spec = tie.close (tie.spec (λ c. rw (not-true c.args.present c.if-not-present.true-raw) refl) (λ c κs. search rules) returns-2)
