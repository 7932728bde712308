use Rattle.std.proofs.Common.{◌≡◌, add-one, arith, ltb}
use Rattle.mounting.specs.MountTables.{pointers_more}
use Rattle.tables.specs.laws.Made.{MadePointers}
use Rattle.tables.specs.meaning.Phases.{on_present}
use Rattle.logs.specs.meaning.Entry.{spare_zone}
use Rattle.volume.specs.meaning.CallContracts.{is_set}
use Rattle.volume.specs.looking.DriveLogs.{zone_pointer}
use Rattle.mounting.specs.MountResets.{reset_one}
use Rattle.mounting.specs.MountRooms.{spare_reset}
use Rattle.mounting.proofs.rooms.reset_spares.Goals as goal

pub loop-d-preserved : goal.loop-d-preserved
loop-d-preserved c =
    let a = c.args in
    let l = c.loop-d in
    let f = c.reset_counted-rest in
    let ps = a.pointers.now in
    let made : MadePointers a.g l.rest f.result (on_present (is_set a.here) (spare_reset a.g ps l.d)) l.written l.durable f.new.written f.new.durable =
    rw (reset_one (is_set a.here) (ltb 0 (zone_pointer a.g ps l.d spare_zone)) l.d spare_zone) (rw c.zone_pointer-used.ensures.0 at f.ensures) in
    rw add-one (pointers_more a.g (is_set a.here) a.budget l.rest f.result (spare_reset a.g ps) l.d a.written.now a.durable.now l.written l.durable f.new.written f.new.durable l.invariant made)

pub returns : goal.returns
returns c = let e : c.loop-d.d ≡ c.args.g.drives = omega arith in rw e at c.loop-d.invariant
