use Rattle.tables.specs.laws.Made.{MadeAppends}
use Rattle.volume.specs.meaning.Content.{row_xor_below}
use Rattle.volume.specs.looking.Knowing.{read_device}
use Rattle.volume.specs.rows.RowStores.{rows_if}
use Rattle.volume.specs.rows.RowsInPlace.{content_of}
use Rattle.volume.proofs.rows.append_rows.Given as goal

-- the rows so far are stored
abbrev pub invariant-loop-r : goal.invariant-loop-r
invariant-loop-r l =
    let g = l.known.geometry in
    MadeAppends l.known.to l.budget l.rest
    (rows_if l.target.present l.target.drive l.target.zone (row_xor_below g.drives g.unit (content_of l.known (read_device g l.fn.sectors l.pointers) l.buffer) l.s l.known.end) l.from l.r)
    l.fn.sectors l.fn.written l.sectors l.written
