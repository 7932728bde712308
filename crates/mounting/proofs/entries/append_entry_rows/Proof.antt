use Prim.Native.Nat.{ℕ, ◌+◌, ◌*◌, ◌≤◌, min}
use mathlib.Core.Path.{sym, subst}
use mathlib.Core.Bool.{true}
use mathlib.Core.List.{[]}
use native.Mathlib.Omega.{arith}
use Rattle.tables.specs.meaning.Geometry.{Valid, stripe_sectors}
use Rattle.tables.specs.laws.Made.{MadeAppends}
use Rattle.tables.specs.laws.Sizes.{zone_small}
use Rattle.logs.specs.meaning.Entry.{parity_zone}
use Rattle.volume.specs.declared.rows.Extent.{Extent}
use Rattle.volume.specs.declared.rows.Target.{Target}
use Rattle.volume.specs.meaning.Content.{row_xor_below}
use Rattle.volume.specs.looking.Knowing.{read_device}
use Rattle.volume.specs.rows.RowStores.{rows_if}
use Rattle.volume.specs.rows.RowsInPlace.{content_of, RowsReady}
use Rattle.volume.specs.checks.Records.{zone_look}
use Rattle.mounting.specs.MountRows.{values_of}
use Rattle.mounting.specs.MountReady.{known_extent, ZoneReady, zone_ready, rows_known}
use borrow.Author.Rules.{rules}
use Rattle.mounting.proofs.entries.append_entry_rows.Statement.{statement}
use Rattle.mounting.proofs.entries.append_entry_rows.Tie as tie

-- the entry's end is at or below the pointer, and small
end_below : (c : tie.After-stripe_sectors-k) → let s = c.before.before.before.before in let e = s.args.entry in
    (e.stripe * c.stripe_sectors-k.result + e.fill ≤ (zone_look s.args.basis.look e.zone).pointer) × ((zone_look s.args.basis.look e.zone).pointer ≤ 458752)
end_below c =
    let s = c.before.before.before.before in
    let z = s.args.entry.zone in
    (rw c.stripe_sectors-k.ensures.0 s.requires.1.2, omega (arith, s.requires.1.4.within.pointer_most z s.requires.1.1, (zone_small s.args.basis.geometry s.requires.0).1))

mul-end : tie.Need-overflow_mul-end
mul-end c = let e = end_below c in omega (arith, e.0, e.1)

add-end : tie.Need-overflow_add-end
add-end c = let e = end_below c in omega (arith, e.0, e.1)

known-below-requires : tie.Need-known_below-known-requires
known-below-requires c κs = let s = c.before.before.before.before.before in (s.requires.0, (s.requires.1.4.known_below s.args.entry.zone s.requires.1.1).readable)

-- what is known, and where it goes
abbrev extent : tie.After-stripe_sectors-k → Extent
extent c =
    let a = c.args in
    known_extent a.basis.geometry a.to a.basis.here a.basis.look a.sectors.now a.pointers.now a.entry.zone (a.entry.stripe * c.stripe_sectors-k.result + a.entry.fill)

abbrev target : tie.After-stripe_sectors-k → Target
target c = record { drive = c.args.entry.drive; zone = parity_zone; present = true }

ready : (c : tie.After-stripe_sectors-k) → let a = c.args in ZoneReady (extent c) (target c) a.sectors.now a.written.now a.pointers.now
ready c =
    let s = c.before.before.before.before in
    let a = s.args in
    let b = a.basis in
    let e = a.entry in
    zone_ready b.geometry a.to b.here b.look parity_zone a.pointers.now a.sectors.now a.written.now s.requires.1.4 e.zone (e.stripe * c.stripe_sectors-k.result + e.fill) e.drive s.requires.1.1 (end_below c).0 s.requires.1.0 (omega arith)

append-rows-requires : tie.Need-append_rows-requires
append-rows-requires c κs =
    let s = c.before.before.before.before.before.before.before.before.before.before in
    let a = s.args in
    let at = c.before.before.before.before.before in
    let m = c.min-m in
    let i = a.entry.stripe in
    subst (λ (k : Extent). Valid k.geometry × (RowsReady k (target at) a.sectors.now a.written.now a.pointers.now [] i × (a.entry.from ≤ m.result) × (m.result ≤ k.geometry.unit) × (i * stripe_sectors k.geometry + m.result ≤ k.end))) (sym c.known_below-known.ensures)
    (s.requires.0, ((ready at).rows i, rw m.ensures s.requires.1.3, omega (arith, m.ensures), rw at.stripe_sectors-k.ensures.0 (omega (arith, m.ensures))))

returns : tie.Need-returns
returns c =
    let a = c.args in
    let b = a.basis in
    let g = b.geometry in
    let e = a.entry in
    let at = c.before.before.before.before.before.before.before.before.before.before in
    let xs = a.sectors.now in
    let ws = a.written.now in
    let ps = a.pointers.now in
    let f = c.append_rows in
    let S = values_of b.geometry b.here xs ps e.zone (zone_look b.look e.zone).generation in
    let made = subst (λ (k : Extent). MadeAppends k.to a.budget f.result (rows_if true e.drive parity_zone (row_xor_below k.geometry.drives k.geometry.unit (content_of k (read_device k.geometry a.sectors.now a.pointers.now) []) e.stripe k.end) e.from c.min-m.result) a.sectors.now a.written.now f.new.sectors f.new.written) c.known_below-known.ensures f.ensures in
    subst (λ (k : ℕ). MadeAppends a.to a.budget f.result (rows_if true e.drive parity_zone (row_xor_below g.drives g.unit S e.stripe (e.stripe * k + e.fill)) e.from (min e.fill g.unit)) xs ws f.new.sectors f.new.written) at.stripe_sectors-k.ensures.0
    (rw (c.min-m.ensures, rows_known (extent at) xs ps e.stripe (ready at).no_buffer) at made)

pub append_entry_rows_spec : {M : Type 1} → statement M
append_entry_rows_spec =
    tie.close
    (tie.spec (λ c κs. search rules) mul-end add-end known-below-requires (λ c κs. search rules) (λ c. search rules) (λ c. search rules) append-rows-requires (λ c. search rules)
    (λ c. search rules) returns)
