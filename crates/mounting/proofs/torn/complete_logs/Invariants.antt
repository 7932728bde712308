use Rattle.tables.specs.meaning.Below.{each_below}
use Rattle.tables.specs.meaning.Phases.{on_present}
use Rattle.tables.specs.laws.Made.{MadeAppends}
use Rattle.volume.specs.meaning.CallContracts.{is_set}
use Rattle.volume.specs.looking.Knowing.{read_device}
use Rattle.mounting.specs.MountValues.{shown_at}
use Rattle.mounting.specs.MountTornLogs.{torn_stores}
use Rattle.mounting.proofs.torn.complete_logs.Given as goal

abbrev pub invariant-loop-d : goal.invariant-loop-d
invariant-loop-d l =
    MadeAppends l.basis.geometry l.budget l.rest (on_present (is_set l.basis.here) (each_below (torn_stores l.basis.geometry (shown_at l.basis.geometry l.basis.here l.basis.look l.fn.sectors l.pointers) (read_device l.basis.geometry l.fn.sectors l.pointers)) l.d)) l.fn.sectors l.fn.written l.sectors l.written
