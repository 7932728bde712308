use Rattle.std.proofs.Common.{◌≡◌, length}
use Rattle.tables.specs.meaning.Below.{each_below}
use Rattle.tables.specs.meaning.Phases.{on_present}
use Rattle.tables.specs.laws.Made.{MadeAppends}
use Rattle.volume.specs.meaning.CallContracts.{is_set}
use Rattle.volume.specs.storing.Formatting.{drive_entries}
use Rattle.volume.proofs.formatting.label_drives.Given as goal

abbrev pub invariant-loop-d : goal.invariant-loop-d
invariant-loop-d l =
    (length l.sectors ≡ length l.fn.sectors) × (length l.written ≡ length l.fn.written)
    × MadeAppends l.g l.budget l.rest (on_present (is_set l.here) (each_below (drive_entries l.g l.lost l.array) l.d)) l.fn.sectors l.fn.written l.sectors l.written
