use Rattle.std.proofs.Common.{ℕ, arith}
use Rattle.volume.specs.checks.Records.{zone_look, points_shown}
use Rattle.volume.specs.laws.FilledArrays.{filled_turn, filled_end}
use Rattle.volume.proofs.records.points_shown.Goals as goal

pub loop-z-preserved : goal.loop-z-preserved
loop-z-preserved c = filled_turn (λ (y : ℕ). (zone_look c.args.look y).pointer) 16 c.loop-z.z c.loop-z.points (omega arith) c.loop-z.invariant

pub returns : goal.returns
unfolding points_shown
returns c = filled_end _ 16 _ _ (omega arith) c.loop-z.invariant
