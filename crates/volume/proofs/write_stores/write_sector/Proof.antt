use Prim.Native.Nat.{ℕ, suc, ◌+◌, ◌-◌, ◌*◌, ◌/◌, ◌%◌, ◌≤◌, ◌<◌}
use mathlib.Core.Path.{◌≡◌, sym, ap, ◌∙◌, subst}
use mathlib.Core.List.{List}
use native.Mathlib.Nat.{mod-lt}
use native.Mathlib.Numerals.{add-one}
use native.Mathlib.Omega.{arith}
use lib.ListN.{length, take, drop}
use Rattle.tables.specs.meaning.Device.{Device, append}
use Rattle.tables.specs.meaning.Geometry.{stripe_sectors, zone_sectors, data_zone}
use Rattle.tables.specs.meaning.Placement.{stripe_of, drive_of, parity_drive}
use Rattle.tables.specs.laws.Made.{MadeAppends, store_if}
use Rattle.tables.specs.laws.Placement.{parity_drive_below, stripe_quotient, stripe_rest}
use Rattle.tables.specs.laws.Sizes.{stripes_most, unit_in_stripe}
use Rattle.tables.specs.laws.Within.{part_long}
use Rattle.volume.specs.checks.Logging.{appended_as}
use Rattle.volume.specs.meaning.CallContracts.{is_set}
use Rattle.volume.specs.meaning.Content.{row_xor_below}
use Rattle.volume.specs.laws.CallContracts.{appends_append}
use Rattle.volume.specs.looking.Knowing.{read_device}
use Rattle.volume.specs.rows.SameShape.{data_not_spare, append_placed}
use Rattle.volume.specs.rows.RowStores.{rows_if}
use Rattle.volume.specs.rows.RowsInPlace.{content_of, content_new, RowsReady}
use Rattle.volume.specs.writing.WriteStores.{Writing, sector_inside, sector_last, writing_kept, writing_rows, buffer_fits_lem, stripe_reached, new_in}
use borrow.Author.Rules.{rules}
use Rattle.volume.proofs.write_stores.write_sector.Statement.{statement}
use Rattle.volume.proofs.write_stores.write_sector.Tie as tie

-- the content, the drive of the address, its stripe, and the stripe's parity drive
abbrev content : tie.Start → ℕ → List ℕ
content s = let a = s.args in content_of a.known (read_device a.known.geometry a.sectors.now a.pointers.now) a.buffer.now

abbrev drive : tie.Start → ℕ
drive s = let a = s.args in drive_of a.known.geometry.drives a.known.geometry.unit a.known.zone a.a

abbrev stripe : tie.Start → ℕ
stripe s = let a = s.args in stripe_of a.known.geometry.drives a.known.geometry.unit a.a

abbrev parity : tie.Start → ℕ
parity s = parity_drive s.args.known.geometry.drives s.args.known.zone (stripe s)

-- its sector in the buffer
fits : (s : tie.Start) → let a = s.args in (a.a - a.known.below) * a.known.geometry.sector + a.known.geometry.sector ≤ length a.buffer.now
fits s = let a = s.args in buffer_fits_lem a.known s.requires.0 a.sectors.now a.written.now a.pointers.now a.buffer.now s.requires.1.0 a.a s.requires.1.1 s.requires.1.2

append-counted-requires : tie.Need-append_counted-rest-requires
append-counted-requires c κs =
    let s = c.before.before.before.before.before.before.before.before.before.before.before in
    let a = s.args in
    let w = s.requires.1.0 in
    let from = (a.a - a.known.below) * a.known.geometry.sector in
    let b = a.known.geometry.sector in
    let e : from + b - from ≡ b = omega arith in
    append_placed a.known.geometry a.known.to w.shape a.sectors.now a.written.now (take (from + b - from) (drop from a.buffer.now)) c.drive_of-d.result (data_zone a.known.zone) s.requires.0 c.drive_of-d.ensures.1 (omega (arith, w.zone_in_lem)) w.sectors_long w.written_long (rw e (part_long a.buffer.now from b (fits s)))

-- the sector as it is stored
abbrev to_start : tie.After-append_counted-rest → tie.Start
to_start c = c.before.before.before.before.before.before.before.before.before.before.before.before

stored : (c : tie.After-append_counted-rest) → let a = (to_start c).args in
    MadeAppends a.known.to a.budget c.append_counted-rest.result (store_if (is_set a.known.here (drive (to_start c))) (append (drive (to_start c)) (data_zone a.known.zone) (content (to_start c) a.a))) a.sectors.now a.written.now c.append_counted-rest.new.sectors c.append_counted-rest.new.written
stored c =
    let s = to_start c in
    let a = s.args in
    let g = a.known.geometry in
    let f = c.append_counted-rest in
    let from = (a.a - a.known.below) * g.sector in
    let e : from + g.sector - from ≡ g.sector = omega arith in
    let q : take (from + g.sector - from) (drop from a.buffer.now) ≡ content s a.a =
    ap (λ (n : ℕ). take n (drop from a.buffer.now)) e ∙ sym (content_new a.known (read_device g a.sectors.now a.pointers.now) a.buffer.now a.a s.requires.1.1) in
    appended_as a.known.to a.budget f.result (is_set a.known.here (drive s)) (drive s) (data_zone a.known.zone) (take (from + g.sector - from) (drop from a.buffer.now)) (content s a.a) a.sectors.now a.written.now f.new.sectors f.new.written q
    (subst (λ (d : ℕ). MadeAppends a.known.to a.budget f.result (store_if (is_set a.known.here d) (append d (data_zone a.known.zone) (take (from + g.sector - from) (drop from a.buffer.now)))) a.sectors.now a.written.now f.new.sectors f.new.written) c.drive_of-d.ensures.0 f.ensures)

add-if1 : tie.Need-overflow_add-a
add-if1 c =
    let k = c.stripe_sectors-k in
    omega (arith, mod-lt c.args.a k.ensures.1, k.ensures.2)

returns : tie.Need-returns-then-a-k
returns c =
    let f = c.before.before.before.before.before.before.before in
    let s = to_start f in
    let a = s.args in
    let k = c.stripe_sectors-k in
    let h : suc (a.a % stripe_sectors a.known.geometry) < stripe_sectors a.known.geometry = rw (k.ensures.0, add-one) at c.if-a-k.true in
    rw (sector_inside a.known.geometry s.requires.0 (is_set a.known.here) a.known.zone (content s) a.a h) (stored f)

parity-drive-requires : tie.Need-parity_drive-p-requires
parity-drive-requires c κs =
    let s = c.before.before.before.before.before.before.before.before.before.before.before.before.before.before.before.before in
    let g = s.args.known.geometry in
    let w = s.requires.1.0 in
    let k = c.stripe_sectors-k in
    let h : s.args.a ≤ zone_sectors g = omega (arith, s.requires.1.2, w.end_most) in
    (omega (arith, s.requires.0.drives_least), s.requires.0.drives_most, omega (arith, w.zone_in_lem, s.requires.0.zones_most), rw (stripe_quotient g.drives g.unit s.args.a k.result k.ensures.0) (omega (arith, stripes_most g s.args.a s.requires.0 h, s.requires.0.zone_most)))

-- at the stripe's end: what the sector's store has left alone
kept : (c : tie.After-append_counted-rest) → let a = (to_start c).args in
    Writing a.known c.append_counted-rest.new.sectors c.append_counted-rest.new.written a.pointers.now a.buffer.now × (read_device a.known.geometry c.append_counted-rest.new.sectors a.pointers.now ≡ read_device a.known.geometry a.sectors.now a.pointers.now)
kept c =
    let s = to_start c in
    let a = s.args in
    let f = c.append_counted-rest in
    writing_kept a.known s.requires.0 a.sectors.now a.written.now a.pointers.now a.buffer.now s.requires.1.0 a.budget f.result (store_if (is_set a.known.here (drive s)) (append (drive s) (data_zone a.known.zone) (content s a.a))) f.new.sectors f.new.written
    (new_in a.known s.requires.0 a.sectors.now a.written.now a.pointers.now a.buffer.now s.requires.1.0 a.a s.requires.1.1 s.requires.1.2 (is_set a.known.here (drive s))) (stored c)

-- the stripe and its parity drive, as they are computed
stripe-is : (c : tie.Else-a-k) → c.args.a / c.stripe_sectors-k.result ≡ stripe c.before.before.before.before.before.before.before.before.before.before.before.before.before.before.before.before.before.before.before
stripe-is c =
    let a = c.args in
    stripe_quotient a.known.geometry.drives a.known.geometry.unit a.a c.stripe_sectors-k.result c.stripe_sectors-k.ensures.0

parity-is : (c : tie.After-parity_drive-p) → c.parity_drive-p.result ≡ parity c.before.before.before.before.before.before.before.before.before.before.before.before.before.before.before.before.before.before.before.before
parity-is c = let s = c.before.before.before.before.before.before.before.before.before.before.before.before.before.before.before.before.before in c.parity_drive-p.ensures.0 ∙ ap (parity_drive s.args.known.geometry.drives s.args.known.zone) (stripe-is c.before)

-- the address is its stripe's last
last : (c : tie.Else-a-k) → let s = c.before.before.before.before.before.before.before.before.before.before.before.before.before.before.before.before in suc (s.args.a % stripe_sectors s.args.known.geometry) ≡ stripe_sectors s.args.known.geometry
last c =
    let s = c.before.before.before.before.before.before.before.before.before.before.before.before.before.before.before.before in
    let k = c.stripe_sectors-k in
    let m : s.args.a % k.result < k.result = mod-lt s.args.a k.ensures.1 in
    let e : suc (s.args.a % k.result) ≡ k.result = omega (arith, c.if-a-k.false) in
    subst (λ (n : ℕ). suc (s.args.a % n) ≡ n) k.ensures.0 e

append-rows-requires : tie.Need-append_rows-requires
append-rows-requires c κs =
    let p = c.before.before in
    let d = p.before in
    let f = d.before.before.before.before.before.before.before in
    let s = to_start f in
    let a = s.args in
    let g = a.known.geometry in
    let xs = f.append_counted-rest.new.sectors in
    let ws = f.append_counted-rest.new.written in
    let n = d.stripe_sectors-k.result in
    let below = parity_drive_below g.drives g.unit a.known.zone (omega (arith, s.requires.0.drives_least)) s.requires.0.unit_least (stripe s) in
    let ready = writing_rows a.known s.requires.0 xs ws a.pointers.now a.buffer.now (kept f).0 (stripe s) (data_zone a.known.zone) (stripe_reached a.known s.requires.0 a.sectors.now a.written.now a.pointers.now a.buffer.now s.requires.1.0 a.a s.requires.1.1) (omega (arith, s.requires.1.0.zone_in_lem)) (data_not_spare a.known.zone) below in (
      s.requires.0,
      (
        subst (λ (x : ℕ). RowsReady a.known (record { drive = x; zone = data_zone a.known.zone; present = is_set a.known.here x }) xs ws a.pointers.now a.buffer.now (a.a / n)) (sym (parity-is p))
            (subst (λ (x : ℕ). RowsReady a.known (record { drive = parity s; zone = data_zone a.known.zone; present = is_set a.known.here (parity s) }) xs ws a.pointers.now a.buffer.now x) (sym (stripe-is d)) ready),
        omega arith,
        omega arith,
        subst (λ (x : ℕ). x * stripe_sectors g + g.unit ≤ a.known.end) (sym (stripe-is d)) (rows-in-end s (last d)),
      ),
    )
  where
    rows-in-end : (s : tie.Start) → suc (s.args.a % stripe_sectors s.args.known.geometry) ≡ stripe_sectors s.args.known.geometry → stripe s * stripe_sectors s.args.known.geometry + s.args.known.geometry.unit ≤ s.args.known.end
    rows-in-end s e = let g = s.args.known.geometry in omega (arith, stripe_rest g.drives g.unit s.args.a, e, s.requires.1.2, unit_in_stripe g s.requires.0)

returns-2 : tie.Need-returns
returns-2 c =
    let r = c.append_rows in
    let p = c.before.before.before.before.before.before.before in
    let d = p.before in
    let f = d.before.before.before.before.before.before.before in
    let s = to_start f in
    let a = s.args in
    let g = a.known.geometry in
    let z = data_zone a.known.zone in
    let x = f.append_counted-rest in
    let rows : ℕ → ℕ → Device → Type 0 = λ q t v. MadeAppends a.known.to x.result r.result (rows_if (is_set a.known.here q) q z (row_xor_below g.drives g.unit (content_of a.known v a.buffer.now) t a.known.end) 0 g.unit) x.new.sectors x.new.written r.new.sectors r.new.written in
    let made : rows (parity s) (stripe s) (read_device g a.sectors.now a.pointers.now) =
    subst (λ (v : Device). rows (parity s) (stripe s) v) (kept f).1 (subst (λ (t : ℕ). rows (parity s) t (read_device g x.new.sectors a.pointers.now)) (stripe-is d) (subst (λ (q : ℕ). rows q (a.a / d.stripe_sectors-k.result) (read_device g x.new.sectors a.pointers.now)) (parity-is p) r.ensures)) in
    rw (sector_last g s.requires.0 (is_set a.known.here) a.known.zone (content s) a.a a.known.end (last d) s.requires.1.2)
    (appends_append a.known.to a.budget x.result r.result (store_if (is_set a.known.here (drive s)) (append (drive s) z (content s a.a))) (rows_if (is_set a.known.here (parity s)) (parity s) z (row_xor_below g.drives g.unit (content s) (stripe s) a.known.end) 0 g.unit)
    a.sectors.now a.written.now x.new.sectors x.new.written r.new.sectors r.new.written (stored f) made)

pub write_sector_spec : {M : Type 1} → statement M
write_sector_spec =
    tie.close
    (tie.spec (λ c. search rules) (λ c κs. search rules) (λ c. search rules) (λ c. omega (arith, fits c.before.before.before.before.before.before.before)) (λ c. omega (arith, fits c.before.before.before.before.before.before.before))
    (λ c. search rules) (λ c. search rules) (λ c. search rules) (λ c. fits c.before.before.before.before.before.before.before.before.before.before) append-counted-requires (λ c κs. search rules) (λ c. search rules) add-if1
    (λ c. search rules) (λ c. search rules) returns (λ c. search rules) parity-drive-requires (λ c. search rules) (λ c. search rules) append-rows-requires
    (λ c. search rules) (λ c. search rules) returns-2)
