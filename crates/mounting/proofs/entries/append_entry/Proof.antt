use Prim.Native.Nat.{ℕ, ◌+◌, ◌-◌, ◌*◌, ◌/◌, ◌≤◌}
use mathlib.Core.Path.{◌≡◌, refl, sym, subst}
use mathlib.Core.Bool.{true}
use mathlib.Core.List.{List, [], ◌∷◌}
use native.Mathlib.Nat.{div-add-mod'}
use native.Mathlib.Omega.{arith}
use Rattle.tables.specs.meaning.Geometry.{stripe_sectors, zone_sectors}
use Rattle.tables.specs.meaning.Placement.{stripe_of}
use Rattle.tables.specs.meaning.Device.{Store, append}
use Rattle.tables.specs.laws.Made.{MadeAppends}
use Rattle.tables.specs.laws.Placement.{stripe_quotient, stripe_begin, stripe_rest}
use Rattle.tables.specs.laws.Sizes.{zone_small}
use Rattle.logs.specs.meaning.Entry.{parity_zone, encode}
use Rattle.volume.specs.meaning.Content.{fill_of, entry_header}
use Rattle.volume.specs.laws.CallContracts.{appends_append}
use Rattle.volume.specs.looking.Knowing.{read_device}
use Rattle.volume.specs.checks.Logging.{appended_as}
use Rattle.volume.specs.rows.SameShape.{encode_same, partial_placed}
use Rattle.volume.specs.checks.Records.{zone_look}
use Rattle.mounting.specs.MountRows.{values_of}
use Rattle.mounting.specs.MountReady.{Appending, appending_kept}
use Rattle.mounting.specs.MountLastEntries.{on_parity, entry_rows, entry_parts_lem, header_in}
use borrow.Author.Rules.{rules}
use Rattle.mounting.proofs.entries.append_entry.Statement.{statement}
use Rattle.mounting.proofs.entries.append_entry.Tie as tie

-- the stripe begins at or below the pointer, which is small
begins : (c : tie.After-stripe_sectors-k) → let a = c.args in let p = (zone_look a.basis.look a.z).pointer in
    (p / c.stripe_sectors-k.result * c.stripe_sectors-k.result ≤ p) × (p ≤ 458752)
begins c =
    let s = c.before.before.before.before.before.before in
    let a = s.args in
    let p = (zone_look a.basis.look a.z).pointer in
    (omega (arith, div-add-mod' p c.stripe_sectors-k.result), omega (arith, s.requires.1.3.within.pointer_most a.z s.requires.1.1, (zone_small a.basis.geometry s.requires.0).1))

mul-fill : tie.Need-overflow_mul-fill
mul-fill c = let e = begins c in omega (arith, e.0, e.1)

sub-fill : tie.Need-overflow_sub-fill
sub-fill c = omega (arith, (begins c).0)

append-partial-requires : tie.Need-append_partial-rest-requires
append-partial-requires c κs =
    let s = c.before.before.before.before.before.before.before.before in
    let a = s.args in
    let l = s.requires.1.3 in
    let g = a.basis.geometry in
    let p = (zone_look a.basis.look a.z).pointer in
    let k = c.stripe_sectors-k in
    let inside : p / k.result * stripe_sectors g + (p - p / k.result * k.result) ≤ zone_sectors g =
    subst (λ (n : ℕ). p / n * stripe_sectors g + (p - p / n * n) ≤ zone_sectors g) (sym k.ensures.0) (omega (arith, div-add-mod' p (stripe_sectors g), l.within.pointer_most a.z s.requires.1.1)) in
    partial_placed g a.to l.shape a.sectors.now a.written.now a.drive a.z (p / k.result) (p - p / k.result * k.result) s.requires.0 s.requires.1.0 s.requires.1.1 inside l.sectors_long l.written_long

-- the zone's values
abbrev values : tie.Start → ℕ → List ℕ
values s = let a = s.args in let b = a.basis in values_of b.geometry b.here a.sectors.now a.pointers.now a.z (zone_look b.look a.z).generation

-- the header
abbrev header : tie.Start → List Store
header s = let a = s.args in append a.drive parity_zone (encode a.basis.geometry a.drive (entry_header a.basis.geometry a.z (zone_look a.basis.look a.z).generation (zone_look a.basis.look a.z).pointer)) ∷ []

abbrev to_start : tie.After-append_partial-rest → tie.Start
to_start c = c.before.before.before.before.before.before.before.before.before.before

headed : (c : tie.After-append_partial-rest) → let a = (to_start c).args in let f = c.append_partial-rest in MadeAppends a.to a.budget f.result (header (to_start c)) a.sectors.now a.written.now f.new.sectors f.new.written
headed c =
    let n = c.stripe_sectors-k in
    let s = to_start c in
    let a = s.args in
    let g = a.basis.geometry in
    let f = c.append_partial-rest in
    let p = (zone_look a.basis.look a.z).pointer in
    let h = entry_header g a.z (zone_look a.basis.look a.z).generation p in
    appended_as a.to a.budget f.result true a.drive parity_zone (encode a.to a.drive h) (encode g a.drive h) a.sectors.now a.written.now f.new.sectors f.new.written (encode_same g a.to s.requires.1.3.shape a.drive h)
    (rw (stripe_begin g.drives g.unit p n.result n.ensures.0, stripe_quotient g.drives g.unit p n.result n.ensures.0) at f.ensures)

-- what it has left alone
kept : (c : tie.After-append_partial-rest) → let a = (to_start c).args in let b = a.basis in let f = c.append_partial-rest in
    Appending b.geometry a.to b.here b.look parity_zone a.pointers.now f.new.sectors f.new.written × (read_device b.geometry f.new.sectors a.pointers.now ≡ read_device b.geometry a.sectors.now a.pointers.now)
kept c =
    let s = to_start c in
    let a = s.args in
    let b = a.basis in
    let f = c.append_partial-rest in
    let p = (zone_look b.look a.z).pointer in
    appending_kept b.geometry a.to b.here b.look parity_zone a.budget f.result (header s) a.pointers.now a.sectors.now a.written.now f.new.sectors f.new.written s.requires.1.3
    (header_in b.geometry on_parity a.drive a.z (stripe_of b.geometry.drives b.geometry.unit p) (fill_of b.geometry p) (zone_look b.look a.z).generation s.requires.0 s.requires.1.0 refl) (headed c)

append-entry-rows-requires : tie.Need-append_entry_rows-requires
append-entry-rows-requires c κs =
    let s = c.before.before.before.before.before.before.before.before.before.before.before.before.before.before.before in
    let a = s.args in
    let k = c.before.before.before.before.before.before.before.before.before in
    (s.requires.0, (s.requires.1.0, s.requires.1.1, rw (← k.stripe_sectors-k.ensures.0) (omega (arith, (begins k).0)), omega arith, (kept c.before.before.before.before.before.before).0))

-- the rows, as they are meant
rows : (c : tie.After-append_entry_rows) → let s = c.before.before.before.before.before.before.before.before.before.before.before.before.before.before.before.before.before in let a = s.args in let b = a.basis in let f = c.append_partial-rest in let r = c.append_entry_rows in
    MadeAppends a.to f.result r.result (entry_rows b.geometry (values s) a.drive (zone_look b.look a.z).pointer) f.new.sectors f.new.written r.new.sectors r.new.written
rows c =
    let s = c.before.before.before.before.before.before.before.before.before.before.before.before.before.before.before.before in
    let a = s.args in
    let b = a.basis in
    let at = c.before.before.before.before.before.before.before in
    let f = at.append_partial-rest in
    let r = c.append_entry_rows in
    let p = (zone_look b.look a.z).pointer in
    let g = b.geometry in
    let n = c.stripe_sectors-k in
    let start = stripe_of g.drives g.unit p * stripe_sectors g in
    let e : start + (p - start) ≡ p = omega (arith, stripe_rest g.drives g.unit p) in
    rw (stripe_begin g.drives g.unit p n.result n.ensures.0, stripe_quotient g.drives g.unit p n.result n.ensures.0, e) at (rw (kept at).1 at r.ensures)

returns : tie.Need-returns
returns c =
    let s = c.before.before.before.before.before.before.before.before.before.before.before.before.before.before.before.before.before.before.before.before.before in
    let a = s.args in
    let b = a.basis in
    let at = c.before.before.before.before.before.before.before.before.before.before.before in
    let f = at.append_partial-rest in
    let r = c.append_entry_rows in
    let p = (zone_look b.look a.z).pointer in
    subst (λ (stores : List Store). MadeAppends a.to a.budget r.result stores a.sectors.now a.written.now r.new.sectors r.new.written) (sym (entry_parts_lem b.geometry a.drive a.z (zone_look b.look a.z).generation (values s) p))
    (appends_append a.to a.budget f.result r.result (header s) (entry_rows b.geometry (values s) a.drive p) a.sectors.now a.written.now f.new.sectors f.new.written r.new.sectors r.new.written (headed at) (rows c.before.before.before.before))

pub append_entry_spec : {M : Type 1} → statement M
append_entry_spec =
    tie.close
    (tie.spec (λ c. search rules) (λ c. search rules) (λ c κs. search rules) (λ c. search rules) mul-fill sub-fill append-partial-requires append-entry-rows-requires
    (λ c. search rules) (λ c. search rules) returns)
