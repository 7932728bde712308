use Rattle.std.proofs.Common.{◌≡◌, ◌∙◌, arith, add-one}
use Rattle.tables.specs.meaning.Device.{reset}
use Rattle.tables.specs.meaning.Geometry.{physical_zones}
use Rattle.tables.specs.laws.Made.{store_if}
use Rattle.volume.specs.laws.CallContracts.{pointers_append}
use Rattle.volume.specs.storing.Formatting.{resets_if}
use Rattle.volume.proofs.formatting.reset_drive.Goals as goal

pub loop-y-preserved : goal.loop-y-preserved
loop-y-preserved c =
    let a = c.args in
    let l = c.loop-y in
    let f = c.reset_counted-rest in (
      f.auto.written ∙ l.invariant.0,
      f.auto.durable ∙ l.invariant.1,
      rw add-one (pointers_append a.g a.budget l.rest f.result (resets_if a.here a.drive l.y) (store_if a.here (reset a.drive l.y)) a.written.now a.durable.now l.written l.durable f.new.written f.new.durable l.invariant.2 f.ensures),
    )

pub returns : goal.returns
returns c = let e : c.loop-y.y ≡ physical_zones c.args.g = omega arith in rw e at c.loop-y.invariant.2
