use Rattle.std.proofs.Common.{◌≡◌, length, true}
use Rattle.tables.specs.meaning.Tables.{sector_at}
use Rattle.tables.specs.laws.Made.{MadeAppends}
use Rattle.logs.specs.meaning.Entry.{parity_zone}
use Rattle.volume.specs.rows.RowStores.{rows_if}
use Rattle.volume.proofs.emptying_parity.copy_run.Given as goal

abbrev pub invariant-loop-n : goal.invariant-loop-n
invariant-loop-n l =
    (length l.sectors ≡ length l.fn.sectors) × (length l.written ≡ length l.fn.written)
    × MadeAppends l.e.to l.budget l.rest (rows_if true l.e.drive parity_zone (sector_at l.e.from l.fn.sectors l.e.drive parity_zone) l.first l.n) l.fn.sectors l.fn.written l.sectors l.written
