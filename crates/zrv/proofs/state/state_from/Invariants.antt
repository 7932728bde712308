use Rattle.std.proofs.Common.{◌≡◌, ℕ, ◌+◌, ◌*◌}
use Rattle.volume.specs.meaning.CallContracts.{records_below}
use Rattle.zrv.specs.meaning.Bytes.{record_from}
use Rattle.zrv.proofs.state.state_from.Given as goal

abbrev pub invariant-loop-z : goal.invariant-loop-z
invariant-loop-z l = l.zones ≡ records_below (λ (i : ℕ). record_from l.bytes (8 + 16 * i)) l.z
