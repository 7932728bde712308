use Rattle.std.proofs.Common.{◌≡◌, length}
use Rattle.tables.specs.laws.Made.{MadeAppends}
use Rattle.volume.specs.emptying.GeneralCopies.{old_heads, headers_on, copies_below}
use Rattle.volume.proofs.emptying.copy_headers.Given as goal

abbrev pub invariant-loop-z : goal.invariant-loop-z
invariant-loop-z l =
    (length l.sectors ≡ length l.fn.sectors) × (length l.written ≡ length l.fn.written)
    × MadeAppends l.e.to l.budget l.rest (headers_on l.e (copies_below l.e.from l.kind l.generations (old_heads l.e l.fn.sectors l.pointers) l.z)) l.fn.sectors l.fn.written l.sectors l.written
