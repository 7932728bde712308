use Rattle.std.proofs.Common.{◌≡◌}
use Rattle.volume.specs.meaning.CallContracts.{view_state}
use Rattle.zrv.specs.laws.Report.{told_bytes}
use Rattle.zrv.proofs.reporting.fill_list.Given as goal

abbrev pub invariant-loop-z : goal.invariant-loop-z
invariant-loop-z l = l.list ≡ told_bytes l.g (view_state l.state).condition l.z l.fn.list
