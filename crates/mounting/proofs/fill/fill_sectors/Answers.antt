use Rattle.std.proofs.Common.{◌≡◌, ℕ, List, add-one, arith, eqb}
use Rattle.tables.specs.laws.Basics.{eqb_same}
use Rattle.tables.specs.meaning.Device.{append}
use Rattle.tables.specs.laws.Made.{store_if}
use Rattle.volume.specs.meaning.Content.{content_at}
use Rattle.volume.specs.laws.CallContracts.{appends_append}
use Rattle.volume.specs.looking.Knowing.{read_device}
use Rattle.volume.specs.rows.RowStores.{rows_if, rows_more, rows_in}
use Rattle.mounting.specs.MountReady.{values_in, ZoneReady, zone_kept}
use Rattle.mounting.specs.MountFillOn.{content_long}
use Rattle.mounting.proofs.fill.fill_sectors.Goals as goal
use Rattle.mounting.proofs.fill.fill_sectors.Goals.{At-loop-x}

-- what lies at each sector of the drive
abbrev sector_on : At-loop-x → ℕ → List ℕ
sector_on c = let a = c.args in content_at a.known.geometry.drives a.known.geometry.unit a.known.zone (values_in a.known a.sectors.now a.pointers.now) a.target.drive

-- what the sectors so far have left alone
kept : (c : At-loop-x) → let a = c.args in
    ZoneReady a.known a.target c.loop-x.sectors c.loop-x.written a.pointers.now × (read_device a.known.geometry c.loop-x.sectors a.pointers.now ≡ read_device a.known.geometry a.sectors.now a.pointers.now)
kept c =
    let a = c.args in
    let t = a.target in
    let l = c.loop-x in
    let k = a.known in
    let ready = c.requires.zone_ready.0 in
    zone_kept a.known t a.sectors.now a.written.now a.pointers.now ready a.budget l.rest (rows_if t.present t.drive t.zone (sector_on c) a.from l.x) l.sectors l.written
    (rows_in k.geometry (λ y. eqb y t.zone) t.present t.drive t.zone (sector_on c) a.from l.x (ready.rows 0).drive_in (ready.rows 0).zone_in_lem (eqb_same t.zone)
    (λ p i h. content_long k.geometry k.here a.sectors.now a.pointers.now k.zone k.generation k.limit k.end t.drive i c.requires.valid ready.known_below (ready.rows 0).drive_in (omega (arith, h))))
    l.invariant

pub fill_sector-rest-requires-clause-zone_ready : goal.fill_sector-rest-requires-clause-zone_ready
fill_sector-rest-requires-clause-zone_ready c = let k = kept (goal.at.fill_sector-rest-requires-clause-zone_ready c).At-loop-x in (k.0, omega arith)

pub loop-x-preserved : goal.loop-x-preserved
loop-x-preserved c =
    let p = (goal.at.loop-x-preserved c).At-loop-x in
    let a = c.args in
    let t = a.target in
    let l = c.loop-x in
    let f = c.fill_sector-rest in
    rw (add-one, rows_more t.present t.drive t.zone (sector_on p) a.from l.x (omega arith))
    (appends_append a.known.to a.budget l.rest f.result (rows_if t.present t.drive t.zone (sector_on p) a.from l.x) (store_if t.present (append t.drive t.zone (sector_on p l.x))) a.sectors.now a.written.now l.sectors l.written f.new.sectors f.new.written l.invariant (rw (kept p).1 at f.ensures))

pub returns : goal.returns
returns c = let e : c.loop-x.x ≡ c.args.to = omega arith in rw e at c.loop-x.invariant
