use Rattle.std.proofs.Common.{◌≡◌, length}
use Rattle.tables.specs.laws.Made.{MadePointers}
use Rattle.volume.specs.storing.Formatting.{resets_if}
use Rattle.volume.proofs.formatting.reset_drive.Given as goal

abbrev pub invariant-loop-y : goal.invariant-loop-y
invariant-loop-y l =
    (length l.written ≡ length l.fn.written) × (length l.durable ≡ length l.fn.durable)
    × MadePointers l.g l.budget l.rest (resets_if l.here l.drive l.y) l.fn.written l.fn.durable l.written l.durable
