use mathlib.Core.Path.{refl}
use native.Mathlib.Omega.{arith}
use borrow.Author.Rules.{rules}
use Rattle.grouped.specs.meaning.Segment.{ranges_fit}
use Rattle.grouped.specs.laws.Segment.{bytes_small}
use Rattle.grouped.proofs.checks.lengths_fit.Statement.{statement}
use Rattle.grouped.proofs.checks.lengths_fit.Tie as tie

mul-result : tie.Need-overflow_mul-result
mul-result c = rw c.total_blocks-cells.ensures.0 (omega (arith, bytes_small c.args.s c.requires))

returns : tie.Need-returns
unfolding ranges_fit
returns c = rw c.total_blocks-cells.ensures.0 refl

pub lengths_fit_spec : {M : Type 1} → statement M
lengths_fit_spec = tie.close (tie.spec (λ c κs. search rules) mul-result (λ c. search rules) (λ c. search rules) returns)
