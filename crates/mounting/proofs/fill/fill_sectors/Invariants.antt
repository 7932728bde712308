use Rattle.tables.specs.laws.Made.{MadeAppends}
use Rattle.volume.specs.rows.RowStores.{rows_if}
use Rattle.volume.specs.meaning.Content.{content_at}
use Rattle.mounting.specs.MountReady.{values_in}
use Rattle.mounting.proofs.fill.fill_sectors.Given as goal

abbrev pub invariant-loop-x : goal.invariant-loop-x
invariant-loop-x l =
    MadeAppends l.known.to l.budget l.rest (rows_if l.target.present l.target.drive l.target.zone (content_at l.known.geometry.drives l.known.geometry.unit l.known.zone (values_in l.known l.fn.sectors l.pointers) l.target.drive) l.from l.x) l.fn.sectors l.fn.written l.sectors l.written
