use Rattle.std.proofs.Common.{ℕ, arith, get_or}
use Rattle.volume.specs.meaning.CallContracts.{blank_record}
use Rattle.volume.specs.checks.Records.{generations_in}
use Rattle.volume.specs.laws.FilledArrays.{filled_turn, filled_end}
use Rattle.volume.proofs.records.generations_of.Goals as goal

pub loop-z-preserved : goal.loop-z-preserved
loop-z-preserved c = filled_turn (λ (y : ℕ). (get_or c.args.state.zones y blank_record).generation) 16 c.loop-z.z c.loop-z.generations (omega arith) c.loop-z.invariant

pub returns : goal.returns
unfolding generations_in
returns c = filled_end _ 16 _ _ (omega arith) c.loop-z.invariant
