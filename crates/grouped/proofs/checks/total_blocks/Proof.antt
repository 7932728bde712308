use mathlib.Core.Path.{refl}
use native.Mathlib.Omega.{arith}
use Rattle.grouped.specs.laws.Segment.{total_small}
use Rattle.grouped.proofs.checks.total_blocks.Statement.{statement}
use Rattle.grouped.proofs.checks.total_blocks.Tie as tie

mul-result : tie.Need-overflow_mul-result
mul-result c = omega (arith, total_small c.args.s c.requires)

returns : tie.Need-returns
returns c = (refl, total_small c.args.s c.requires)

pub total_blocks_spec : {M : Type 1} → statement M
total_blocks_spec = tie.close (tie.spec mul-result returns)
