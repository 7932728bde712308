use Rattle.std.proofs.Common.{◌≡◌}
use Rattle.volume.specs.meaning.CallContracts.{record_seen, records_below}
use Rattle.volume.specs.meaning.Calls.{format_state}
use Rattle.volume.proofs.formatting.fresh_state.Given as goal

abbrev pub invariant-loop-z : goal.invariant-loop-z
invariant-loop-z l = l.zones ≡ records_below (record_seen (format_state l.lost)) l.z
