use Rattle.tables.specs.meaning.Below.{each_below}
use Rattle.tables.specs.meaning.Phases.{on_present}
use Rattle.tables.specs.laws.Made.{MadeAppends}
use Rattle.volume.specs.meaning.CallContracts.{is_set}
use Rattle.volume.specs.looking.Knowing.{read_device}
use Rattle.mounting.specs.MountValues.{shown_at}
use Rattle.volume.specs.laws.FillStores.{fill_zone}
use Rattle.mounting.proofs.fill.fill_drive.Given as goal

abbrev pub invariant-loop-z : goal.invariant-loop-z
invariant-loop-z l =
    MadeAppends l.basis.geometry l.budget l.rest (on_present (is_set l.basis.here) (each_below (fill_zone l.basis.geometry (shown_at l.basis.geometry l.basis.here l.basis.look l.fn.sectors l.pointers) (read_device l.basis.geometry l.fn.sectors l.pointers) l.drive) l.z)) l.fn.sectors l.fn.written l.sectors l.written
