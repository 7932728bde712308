use Rattle.std.proofs.Common.{◌≡◌, length}
use Rattle.tables.specs.laws.Made.{MadeAppends}
use Rattle.volume.specs.looking.Knowing.{read_device}
use Rattle.volume.specs.emptying.ParityCopies.{old_entries, entries_on, entries_below}
use Rattle.volume.proofs.emptying_parity.copy_parity.Given as goal

abbrev pub invariant-loop-z : goal.invariant-loop-z
invariant-loop-z l =
    (length l.sectors ≡ length l.fn.sectors) × (length l.written ≡ length l.fn.written)
    × MadeAppends l.e.to l.budget l.rest (entries_on l.e (entries_below l.e (read_device l.e.from l.fn.sectors l.pointers) l.generations l.points (old_entries l.e (read_device l.e.from l.fn.sectors l.starts)) l.z)) l.fn.sectors l.fn.written l.sectors l.written
