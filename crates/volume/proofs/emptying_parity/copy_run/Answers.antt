use Rattle.std.proofs.Common.{◌≡◌, ◌≤◌, ◌<◌, ◌∙◌, true, arith, add-one}
use Rattle.tables.specs.meaning.Device.{append}
use Rattle.tables.specs.meaning.Tables.{sector_at}
use Rattle.tables.specs.laws.Made.{MadeAppends, store_if}
use Rattle.logs.specs.meaning.Entry.{parity_zone}
use Rattle.volume.specs.laws.CallContracts.{appends_append}
use Rattle.volume.specs.rows.RowStores.{rows_if, rows_more}
use Rattle.volume.specs.emptying.ParityCopies.{run_kept}
use Rattle.volume.proofs.emptying_parity.copy_run.Goals as goal

pub loop-n-preserved : goal.loop-n-preserved
loop-n-preserved c =
    let a = c.args in
    let l = c.loop-n in
    let f = c.copy_sector-rest in
    let F = sector_at a.e.from a.sectors.now a.e.drive parity_zone in
    let from : a.first ≤ l.n = omega arith in
    let below : l.n < a.e.from.capacity = omega arith in
    -- what is still to be copied is as it was
    let kept = run_kept a.e a.sectors.now a.written.now c.requires.valid c.requires.copying.0 a.budget l.rest a.first l.n l.sectors l.written (omega arith) from l.invariant.2 in
    let one : MadeAppends a.e.to l.rest f.result (store_if true (append a.e.drive parity_zone (F l.n))) l.sectors l.written f.new.sectors f.new.written = rw (kept.1 l.n below) at f.ensures in (
      f.auto.sectors ∙ l.invariant.0,
      f.auto.written ∙ l.invariant.1,
      rw (add-one, rows_more true a.e.drive parity_zone F a.first l.n from) (appends_append a.e.to a.budget l.rest f.result (rows_if true a.e.drive parity_zone F a.first l.n) (store_if true (append a.e.drive parity_zone (F l.n))) a.sectors.now a.written.now l.sectors l.written f.new.sectors f.new.written l.invariant.2 one),
    )

pub returns : goal.returns
returns c = let e : c.loop-n.n ≡ c.args.m = omega arith in rw e at c.loop-n.invariant.2
