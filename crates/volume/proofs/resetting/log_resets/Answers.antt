use Rattle.std.proofs.Common.{◌≡◌, ◌&&◌, arith, add-one}
use Rattle.tables.specs.meaning.Below.{each_below}
use Rattle.tables.specs.meaning.Device.{append}
use Rattle.tables.specs.meaning.Phases.{on_present}
use Rattle.tables.specs.laws.Made.{store_if}
use Rattle.logs.specs.meaning.Entry.{general_zone, encode, zone_reset}
use Rattle.volume.specs.meaning.Calls.{logs_reset}
use Rattle.volume.specs.meaning.CallContracts.{is_set}
use Rattle.volume.specs.laws.CallContracts.{appends_append}
use Rattle.volume.specs.checks.StoreLoops.{each_more, present_due}
use Rattle.volume.specs.storing.Resetting.{reset_entry}
use Rattle.volume.proofs.resetting.log_resets.Goals as goal

pub loop-d-preserved : goal.loop-d-preserved
loop-d-preserved c =
    let a = c.args in
    let l = c.loop-d in
    let f = c.append_reset-rest in
    let p = is_set a.here in
    let x = append l.d general_zone (encode a.g l.d (zone_reset a.z a.generation)) in
    let q = rw (c.first_drive-first.ensures.0, c.parity_drive-parity.ensures.0) at f.ensures in
    rw (add-one, each_more p (reset_entry a.g a.z a.generation) l.d, present_due p (logs_reset a.g a.z l.d) x) (appends_append a.g a.budget l.rest f.result (on_present p (each_below (reset_entry a.g a.z a.generation) l.d)) (store_if (p l.d && logs_reset a.g a.z l.d) x) a.sectors.now a.written.now l.sectors l.written f.new.sectors f.new.written l.invariant q)

pub returns : goal.returns
returns c = let e : c.loop-d.d ≡ c.args.g.drives = omega arith in rw e at c.loop-d.invariant
