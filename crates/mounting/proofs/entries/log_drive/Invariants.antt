use Rattle.tables.specs.meaning.Below.{each_below}
use Rattle.tables.specs.meaning.Phases.{on_present}
use Rattle.tables.specs.laws.Made.{MadeAppends}
use Rattle.volume.specs.meaning.CallContracts.{is_set}
use Rattle.volume.specs.looking.Knowing.{read_device}
use Rattle.volume.specs.meaning.Rules.{parity_entries}
use Rattle.mounting.specs.MountValues.{shown_at}
use Rattle.mounting.specs.MountLastEntries.{zone_entry_stores}
use Rattle.mounting.proofs.entries.log_drive.Given as goal

abbrev pub invariant-loop-z : goal.invariant-loop-z
invariant-loop-z l =
    MadeAppends l.to l.budget l.rest (on_present (is_set l.basis.here) (each_below (zone_entry_stores l.basis.geometry l.basis.look (shown_at l.basis.geometry l.basis.here l.basis.look l.fn.sectors l.pointers) (parity_entries l.to (read_device l.to l.fn.sectors l.starts) l.drive) l.drive) l.z)) l.fn.sectors l.fn.written l.sectors l.written
