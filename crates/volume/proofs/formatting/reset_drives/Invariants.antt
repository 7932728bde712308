use Rattle.std.proofs.Common.{◌≡◌, length}
use Rattle.tables.specs.meaning.Below.{each_below}
use Rattle.tables.specs.meaning.Phases.{on_present}
use Rattle.tables.specs.laws.Made.{MadePointers}
use Rattle.volume.specs.meaning.CallContracts.{is_set}
use Rattle.volume.specs.storing.Formatting.{drive_resets}
use Rattle.volume.proofs.formatting.reset_drives.Given as goal

abbrev pub invariant-loop-d : goal.invariant-loop-d
invariant-loop-d l =
    (length l.written ≡ length l.fn.written) × (length l.durable ≡ length l.fn.durable)
    × MadePointers l.g l.budget l.rest (on_present (is_set l.here) (each_below (drive_resets l.g) l.d)) l.fn.written l.fn.durable l.written l.durable
