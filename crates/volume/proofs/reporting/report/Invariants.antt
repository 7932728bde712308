use Rattle.std.proofs.Common.{◌≡◌}
use Rattle.volume.specs.meaning.CallContracts.{view_state}
use Rattle.volume.specs.meaning.Report.{filled_list}
use Rattle.volume.proofs.reporting.report.Given as goal

-- the first z descriptors are filled
abbrev pub invariant-loop-z : goal.invariant-loop-z
invariant-loop-z l = l.list ≡ filled_list l.g (view_state l.state).condition l.z l.fn.list
