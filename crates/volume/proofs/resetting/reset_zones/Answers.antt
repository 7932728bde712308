use Rattle.std.proofs.Common.{◌≡◌, arith, add-one}
use Rattle.tables.specs.meaning.Below.{each_below}
use Rattle.tables.specs.meaning.Device.{reset}
use Rattle.tables.specs.meaning.Geometry.{data_zone}
use Rattle.tables.specs.meaning.Phases.{on_present}
use Rattle.tables.specs.laws.Made.{store_if}
use Rattle.volume.specs.meaning.CallContracts.{is_set}
use Rattle.volume.specs.laws.CallContracts.{pointers_append}
use Rattle.volume.specs.checks.StoreLoops.{each_more, present_one}
use Rattle.volume.specs.storing.Resetting.{zone_reset_at}
use Rattle.volume.proofs.resetting.reset_zones.Goals as goal

pub loop-d-preserved : goal.loop-d-preserved
loop-d-preserved c =
    let a = c.args in
    let l = c.loop-d in
    let f = c.reset_counted-rest in
    let p = is_set a.here in
    let x = reset l.d (data_zone a.z) in
    rw (add-one, each_more p (zone_reset_at a.z) l.d, present_one p x) (pointers_append a.g a.budget l.rest f.result (on_present p (each_below (zone_reset_at a.z) l.d)) (store_if (p l.d) x) a.written.now a.durable.now l.written l.durable f.new.written f.new.durable l.invariant f.ensures)

pub returns : goal.returns
returns c = let e : c.loop-d.d ≡ c.args.g.drives = omega arith in rw e at c.loop-d.invariant
