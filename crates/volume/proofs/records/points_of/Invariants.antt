use Rattle.std.proofs.Common.{ℕ, get_or}
use Rattle.volume.specs.meaning.State.{pointer_in}
use Rattle.volume.specs.meaning.CallContracts.{blank_record}
use Rattle.volume.specs.laws.FilledArrays.{FilledTo}
use Rattle.volume.proofs.records.points_of.Given as goal

abbrev pub invariant-loop-z : goal.invariant-loop-z
invariant-loop-z l = FilledTo (λ (y : ℕ). pointer_in (get_or l.state.zones y blank_record).condition) 16 l.z l.points
