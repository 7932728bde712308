use Rattle.std.proofs.Common.{◌≡◌, take, arith, add-one}
use Rattle.tables.specs.meaning.Below.{each_below}
use Rattle.tables.specs.meaning.Device.{append}
use Rattle.tables.specs.meaning.Phases.{on_present}
use Rattle.tables.specs.laws.Made.{store_if}
use Rattle.logs.specs.meaning.Entry.{general_zone, encode, counters}
use Rattle.volume.specs.meaning.CallContracts.{is_set}
use Rattle.volume.specs.laws.CallContracts.{appends_append}
use Rattle.volume.specs.checks.StoreLoops.{each_more, present_one}
use Rattle.volume.specs.storing.Resetting.{counters_at}
use Rattle.volume.proofs.resetting.log_counters.Goals as goal

pub loop-d-preserved : goal.loop-d-preserved
loop-d-preserved c =
    let a = c.args in
    let l = c.loop-d in
    let f = c.append_counters-rest in
    let p = is_set a.here in
    let ns = take a.g.zones a.generations.now in
    let x = append l.d general_zone (encode a.g l.d (counters ns)) in
    rw (add-one, each_more p (counters_at a.g ns) l.d, present_one p x) (appends_append a.g a.budget l.rest f.result (on_present p (each_below (counters_at a.g ns) l.d)) (store_if (p l.d) x) a.sectors.now a.written.now l.sectors l.written f.new.sectors f.new.written l.invariant f.ensures)

pub returns : goal.returns
returns c = let e : c.loop-d.d ≡ c.args.g.drives = omega arith in rw e at c.loop-d.invariant
