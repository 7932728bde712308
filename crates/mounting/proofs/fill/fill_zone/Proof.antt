use mathlib.Core.Path.{◌≡◌, sym, ap, subst, ◌∙◌}
use mathlib.Core.Bool.{true}
use Prim.Native.Nat.{ℕ, ◌≤◌, ◌<◌}
use native.Mathlib.Omega.{arith}
use Rattle.tables.specs.meaning.Geometry.{Valid, data_zone}
use Rattle.tables.specs.meaning.Placement.{needed}
use Rattle.tables.specs.laws.Made.{MadeAppends}
use Rattle.volume.specs.declared.rows.Extent.{Extent}
use Rattle.volume.specs.declared.rows.Target.{Target}
use Rattle.volume.specs.meaning.Content.{content_at}
use Rattle.volume.specs.laws.CallContracts.{appends_nil}
use Rattle.volume.specs.rows.RowStores.{rows_if}
use Rattle.volume.specs.checks.Records.{zone_look}
use Rattle.mounting.specs.MountReady.{values_in, ZoneReady, filling_appends, zone_ready}
use Rattle.mounting.specs.MountFillOn.{missing_none, missing_to, missing_made, filled_stays}
use borrow.Author.Rules.{rules}
use Rattle.mounting.proofs.fill.fill_zone.Statement.{statement}
use Rattle.mounting.proofs.fill.fill_zone.Tie as tie

-- from the place after a call to that after the one before
abbrev to_start : tie.After-missing_in-missing → tie.Start
to_start c = c.before.before.before.before

abbrev to-missing : tie.After-known_below-known → tie.After-missing_in-missing
to-missing c = c.before.before.before

missing-in-requires : tie.Need-missing_in-missing-requires
missing-in-requires c κs = let s = c.before.before.before in (s.requires.0, (s.requires.1.0, s.requires.1.1, s.requires.1.2.logging.pointers_long, s.requires.1.2.logging.within))

returns : tie.Need-returns-then-to-from
returns c =
    let m = c.before in
    let s = to_start m in
    let a = s.args in
    rw (missing_none a.basis a.sectors.now a.pointers.now a.drive a.z m.missing_in-missing.result m.missing_in-missing.ensures s.requires.1.0 s.requires.1.1 c.if-to-from.true) (appends_nil a.basis.geometry a.budget a.sectors.now a.written.now)

known-below-requires : tie.Need-known_below-known-requires
known-below-requires c κs = let s = c.before.before.before.before.before.before in (s.requires.0, (s.requires.1.2.known_below s.args.z s.requires.1.1).readable)

fill-sectors-requires : tie.Need-fill_sectors-requires
fill-sectors-requires c κs =
    let e = c.before.before in
    let found = (to-missing e).missing_in-missing in
    let m = found.result in
    let s = to_start (to-missing e) in
    let a = s.args in
    let b = a.basis in
    let h = c.if-to-from.false in
    let last = missing_to b a.sectors.now a.pointers.now a.drive a.z m found.ensures s.requires.1.0 s.requires.1.1 h in
    let end : m.to ≡ needed b.geometry.drives b.geometry.unit a.z m.pointer a.drive = last ∙ ap (λ (p : ℕ). needed b.geometry.drives b.geometry.unit a.z p a.drive) (sym found.ensures.pointer_is) in
    let some : m.from < needed b.geometry.drives b.geometry.unit a.z (zone_look b.look a.z).pointer a.drive = omega (arith, h, last) in
    let t : Target = record { drive = a.drive; zone = data_zone a.z; present = true } in
    subst (λ (k : Extent). Valid k.geometry × (ZoneReady k t a.sectors.now a.written.now a.pointers.now × (m.from ≤ m.to) × (m.to ≤ needed k.geometry.drives k.geometry.unit k.zone k.end a.drive))) (sym e.known_below-known.ensures) (
      s.requires.0,
      (
        zone_ready b.geometry b.geometry b.here b.look (data_zone a.z) a.pointers.now a.sectors.now a.written.now
            (filling_appends b.geometry b.here b.look (data_zone a.z) a.pointers.now a.sectors.now a.written.now
            (filled_stays b.geometry b.here b.look a.pointers.now a.sectors.now a.written.now s.requires.0 s.requires.1.2 a.drive a.z m.from s.requires.1.1 some) s.requires.1.2)
            a.z m.pointer a.drive s.requires.1.1 (omega (arith, found.ensures.pointer_is)) s.requires.1.0 (omega (arith, s.requires.1.1)),
        omega (arith, h),
        omega (arith, end),
      ),
    )

returns-2 : tie.Need-returns
returns-2 c =
    let e = c.before.before.before.before.before.before.before in
    let found = (to-missing e).missing_in-missing in
    let m = found.result in
    let s = to_start (to-missing e) in
    let a = s.args in
    let f = c.fill_sectors in
    rw (missing_made a.basis a.sectors.now a.pointers.now a.drive a.z m found.ensures s.requires.1.0 s.requires.1.1 c.if-to-from.false)
    (subst (λ (k : Extent). MadeAppends k.to a.budget f.result (rows_if true a.drive (data_zone a.z) (content_at k.geometry.drives k.geometry.unit k.zone (values_in k a.sectors.now a.pointers.now) a.drive) m.from m.to) a.sectors.now a.written.now f.new.sectors f.new.written)
    e.known_below-known.ensures f.ensures)

pub fill_zone_spec : {M : Type 1} → statement M
fill_zone_spec =
    tie.close
    (tie.spec missing-in-requires returns known-below-requires (λ c. let s = c.before.before.before.before.before.before.before in omega (arith, s.requires.1.1, s.requires.0.zones_most)) fill-sectors-requires (λ c. search rules) (λ c. search rules) returns-2)
