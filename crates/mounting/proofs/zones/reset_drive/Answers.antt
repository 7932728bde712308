use Rattle.std.proofs.Common.{◌≡◌, add-one, arith, [], ◌∷◌}
use Rattle.mounting.specs.MountTables.{pointers_more}
use Rattle.tables.specs.meaning.Basics.{pick}
use Rattle.tables.specs.meaning.Device.{reset}
use Rattle.tables.specs.meaning.Phases.{on_present}
use Rattle.tables.specs.laws.Made.{MadePointers}
use Rattle.tables.specs.meaning.Geometry.{data_zone}
use Rattle.volume.specs.meaning.CallContracts.{is_set}
use Rattle.volume.specs.checks.Records.{zone_look}
use Rattle.mounting.specs.MountLook.{reset_needed}
use Rattle.mounting.specs.MountResets.{reset_one}
use Rattle.mounting.proofs.zones.reset_drive.Goals as goal

pub loop-z-preserved : goal.loop-z-preserved
loop-z-preserved c =
    let a = c.args in
    let l = c.loop-z in
    let f = c.reset_counted-rest in
    let made : MadePointers a.g l.rest f.result (on_present (is_set a.here) (pick (reset_needed (zone_look a.look l.z)) (reset a.drive (data_zone l.z) ∷ []) [])) l.written l.durable f.new.written f.new.durable =
    rw (reset_one (is_set a.here) (reset_needed (zone_look a.look l.z)) a.drive (data_zone l.z)) (rw c.reset_needed-needed.ensures at f.ensures) in
    rw add-one (pointers_more a.g (is_set a.here) a.budget l.rest f.result (λ z. pick (reset_needed (zone_look a.look z)) (reset a.drive (data_zone z) ∷ []) []) l.z a.written.now a.durable.now l.written l.durable f.new.written f.new.durable l.invariant made)

pub returns : goal.returns
returns c = let e : c.loop-z.z ≡ c.args.g.zones = omega arith in rw e at c.loop-z.invariant
