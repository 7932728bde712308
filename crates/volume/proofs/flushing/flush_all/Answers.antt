use Rattle.std.proofs.Common.{◌≡◌, ◌∙◌, arith, add-one}
use Rattle.tables.specs.laws.Made.{store_if}
use Rattle.tables.specs.meaning.Device.{flush}
use Rattle.volume.specs.laws.CallContracts.{pointers_append}
use Rattle.volume.specs.meaning.CallContracts.{is_set}
use Rattle.volume.specs.storing.Flushing.{flush_more, flush_stores_lem, flush_to}
use Rattle.volume.proofs.flushing.flush_all.Goals as goal

pub loop-d-preserved : goal.loop-d-preserved
loop-d-preserved c =
    let a = c.args in
    let l = c.loop-d in
    let f = c.flush_counted-rest in
    let p = is_set a.here in
    (f.auto.durable ∙ l.invariant.0, rw (add-one, flush_more p l.d) (pointers_append a.g a.budget l.rest f.result (flush_to p l.d) (store_if (p l.d) (flush l.d)) a.written.now a.durable.now a.written.now l.durable a.written.now f.new.durable l.invariant.1 f.ensures))

pub returns : goal.returns
returns c =
    let a = c.args in
    let e : c.loop-d.d ≡ a.g.drives = omega arith in
    rw (flush_stores_lem a.g (is_set a.here)) (rw e at c.loop-d.invariant.1)
