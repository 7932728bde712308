use Rattle.std.proofs.Common.{◌≡◌}
use Rattle.tables.specs.meaning.Drives.{find_below}
use Rattle.volume.specs.meaning.CallContracts.{is_set}
use Rattle.volume.proofs.drives_lost.last_present.Given as goal

abbrev pub invariant-loop-d : goal.invariant-loop-d
invariant-loop-d l = l.x ≡ find_below (is_set l.here) l.d
