use mathlib.Core.Path.{refl}
use borrow.Author.Rules.{rules}
use Rattle.grouped.specs.meaning.Segment.{two_missing}
use Rattle.grouped.proofs.checks.two_missing.Statement.{statement}
use Rattle.grouped.proofs.checks.two_missing.Tie as tie

returns : tie.Need-returns
unfolding two_missing
returns c = rw c.count_missing-k.ensures refl

pub two_missing_spec : {M : Type 1} → statement M
two_missing_spec = tie.close (tie.spec (λ c κs. search rules) returns)
