use Rattle.std.proofs.Common.{◌≡◌, add-one, arith}
use Rattle.mounting.specs.MountTables.{pointers_more}
use Rattle.volume.specs.meaning.CallContracts.{is_set}
use Rattle.mounting.specs.MountResets.{zone_resets, zone_reset_steps}
use Rattle.mounting.proofs.zones.reset_zones.Goals as goal

pub loop-d-preserved : goal.loop-d-preserved
loop-d-preserved c =
    let a = c.args in
    let l = c.loop-d in
    let f = c.reset_drive-rest in
    rw add-one (pointers_more a.g (is_set a.here) a.budget l.rest f.result (λ e. zone_resets a.look e a.g.zones) l.d a.written.now a.durable.now l.written l.durable f.new.written f.new.durable l.invariant f.ensures)

pub returns : goal.returns
returns c =
    let e : c.loop-d.d ≡ c.args.g.drives = omega arith in
    rw (zone_reset_steps c.args.g c.args.look) (rw e at c.loop-d.invariant)
