use Rattle.std.proofs.Common.{◌≡◌}
use Rattle.volume.specs.meaning.CallContracts.{is_set}
use Rattle.compacting.specs.Compacting.{some_stale}
use Rattle.compacting.proofs.some_stale.Given as goal

abbrev pub invariant-loop-z : goal.invariant-loop-z
invariant-loop-z l = l.stale ≡ some_stale l.g (is_set l.here) l.state l.written l.z
