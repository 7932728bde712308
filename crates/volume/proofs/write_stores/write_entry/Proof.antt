use Prim.Native.Nat.{ℕ, ◌+◌, ◌-◌, ◌*◌, ◌/◌, ◌≤◌, ◌<◌, min}
use mathlib.Core.Path.{◌≡◌, refl, sym, ap, ◌∙◌, subst}
use mathlib.Core.List.{List}
use native.Mathlib.Nat.{div-add-mod'}
use native.Mathlib.Omega.{arith}
use Rattle.tables.specs.meaning.Device.{Device, append}
use Rattle.tables.specs.meaning.Geometry.{stripe_sectors, zone_sectors}
use Rattle.tables.specs.meaning.Placement.{stripe_of, parity_drive}
use Rattle.tables.specs.laws.Made.{MadeAppends, store_if}
use Rattle.tables.specs.laws.Placement.{parity_drive_below, stripe_quotient, stripe_begin}
use Rattle.tables.specs.laws.Sizes.{stripes_most, zone_small}
use Rattle.logs.specs.meaning.Entry.{parity_zone, encode, partial_parity}
use Rattle.logs.specs.laws.Legal.{header_long}
use Rattle.volume.specs.meaning.CallContracts.{is_set}
use Rattle.volume.specs.meaning.Content.{row_xor_below, parity_drive_at, entry_header, fill_of}
use Rattle.volume.specs.laws.CallContracts.{appends_nil, appends_append}
use Rattle.volume.specs.looking.Knowing.{read_device}
use Rattle.volume.specs.checks.Logging.{appended_as}
use Rattle.volume.specs.rows.SameShape.{not_spare, encode_same, partial_placed}
use Rattle.volume.specs.rows.RowStores.{rows_if, store_if_in}
use Rattle.volume.specs.rows.RowsInPlace.{content_of, RowsReady}
use Rattle.volume.specs.writing.WriteStores.{Writing, entry_inside, entry_none, writing_kept, writing_rows, stripe_reached}
use borrow.Author.Rules.{rules}
use Rattle.volume.proofs.write_stores.write_entry.Statement.{statement}
use Rattle.volume.proofs.write_stores.write_entry.Tie as tie

-- the content, the stripe of the end, its parity drive, and the header
abbrev content : tie.Start → ℕ → List ℕ
content s = let a = s.args in content_of a.known (read_device a.known.geometry a.sectors.now a.pointers.now) a.buffer.now

abbrev stripe : tie.Start → ℕ
stripe s = let k = s.args.known in stripe_of k.geometry.drives k.geometry.unit k.end

abbrev parity : tie.Start → ℕ
parity s = let k = s.args.known in parity_drive_at k.geometry k.zone k.end

abbrev header : tie.Start → List ℕ
header s = let k = s.args.known in encode k.geometry (parity s) (entry_header k.geometry k.zone k.generation k.end)

-- the stripe begins at or below the end
start-most : (c : tie.After-stripe_sectors-k) → let k = c.args.known in k.end / c.stripe_sectors-k.result * c.stripe_sectors-k.result ≤ k.end
start-most c = omega (arith, div-add-mod' c.args.known.end c.stripe_sectors-k.result)

returns : tie.Need-returns-then-end-start
returns c =
    let s = c.before.before.before.before.before.before.before.before in
    let a = s.args in
    let k = a.known in
    let n = c.stripe_sectors-k.result in
    rw (entry_none k.geometry s.requires.0 (is_set k.here) k.zone (content s) k.generation k.end (rw (stripe_begin k.geometry.drives k.geometry.unit k.end n c.stripe_sectors-k.ensures.0) at c.if-end-start.true)) (appends_nil k.to a.budget a.sectors.now a.written.now)

-- the stripe, its start, its fill and its parity drive, as they are computed
abbrev to_start : tie.Else-end-start → tie.Start
to_start c = c.before.before.before.before.before.before.before.before

stripe-is : (c : tie.Else-end-start) → (to_start c).args.known.end / c.stripe_sectors-k.result ≡ stripe (to_start c)
stripe-is c = let k = (to_start c).args.known in stripe_quotient k.geometry.drives k.geometry.unit k.end c.stripe_sectors-k.result c.stripe_sectors-k.ensures.0

start_is : (c : tie.Else-end-start) → let k = (to_start c).args.known in let n = c.stripe_sectors-k.result in k.end / n * n ≡ stripe (to_start c) * stripe_sectors k.geometry
start_is c = let k = (to_start c).args.known in stripe_begin k.geometry.drives k.geometry.unit k.end c.stripe_sectors-k.result c.stripe_sectors-k.ensures.0

fill_is : (c : tie.Else-end-start) → let k = (to_start c).args.known in let n = c.stripe_sectors-k.result in k.end - k.end / n * n ≡ fill_of k.geometry k.end
fill_is c = ap (λ (x : ℕ). (to_start c).args.known.end - x) (start_is c)

parity-is : (c : tie.After-parity_drive-p) → c.parity_drive-p.result ≡ parity (to_start c.before)
parity-is c = let k = (to_start c.before).args.known in c.parity_drive-p.ensures.0 ∙ ap (parity_drive k.geometry.drives k.zone) (stripe-is c.before)

-- the end lies inside it
inside : (c : tie.Else-end-start) → stripe (to_start c) * stripe_sectors (to_start c).args.known.geometry < (to_start c).args.known.end
inside c = rw (start_is c) at c.if-end-start.false

parity-drive-requires : tie.Need-parity_drive-p-requires
parity-drive-requires c κs =
    let s = to_start c in
    let g = s.args.known.geometry in
    let w = s.requires.1 in
    (omega (arith, s.requires.0.drives_least), s.requires.0.drives_most, omega (arith, w.zone_in_lem, s.requires.0.zones_most), rw (stripe-is c) (omega (arith, stripes_most g s.args.known.end s.requires.0 w.end_most, s.requires.0.zone_most)))

append-partial-requires : tie.Need-append_partial-rest-requires
append-partial-requires c κs =
    let d = c.before.before.before.before in
    let s = to_start d in
    let w = s.requires.1 in
    let k = d.stripe_sectors-k in
    let a = s.args in
    let g = a.known.geometry in
    let end = a.known.end in
    let inside : end / k.result * stripe_sectors g + (end - end / k.result * k.result) ≤ zone_sectors g =
    subst (λ (n : ℕ). end / n * stripe_sectors g + (end - end / n * n) ≤ zone_sectors g) (sym k.ensures.0) (omega (arith, div-add-mod' end (stripe_sectors g), w.end_most)) in
    partial_placed g a.known.to w.shape a.sectors.now a.written.now c.parity_drive-p.result a.known.zone (end / k.result) (end - end / k.result * k.result) s.requires.0 c.parity_drive-p.ensures.1 w.zone_in_lem inside w.sectors_long w.written_long

-- the header as it is stored
abbrev at-if : tie.After-append_partial-rest → tie.Else-end-start
at-if c = c.before.before.before.before.before

stored : (c : tie.After-append_partial-rest) → let s = to_start (at-if c) in
    MadeAppends s.args.known.to s.args.budget c.append_partial-rest.result (store_if (is_set s.args.known.here (parity s)) (append (parity s) parity_zone (header s))) s.args.sectors.now s.args.written.now c.append_partial-rest.new.sectors c.append_partial-rest.new.written
stored c =
    let d = at-if c in
    let s = to_start d in
    let a = s.args in
    let k = a.known in
    let f = c.append_partial-rest in
    let n = d.stripe_sectors-k.result in
    let made : ℕ → ℕ → ℕ → Type 0 = λ p t x. MadeAppends k.to a.budget f.result (store_if (is_set k.here p) (append p parity_zone (encode k.to p (partial_parity k.zone t x k.generation)))) a.sectors.now a.written.now f.new.sectors f.new.written in
    let placed = subst (λ (x : ℕ). made (parity s) (stripe s) x) (fill_is d)
    (subst (λ (t : ℕ). made (parity s) t (k.end - k.end / n * n)) (stripe-is d) (subst (λ (p : ℕ). made p (k.end / n) (k.end - k.end / n * n)) (parity-is c.before.before.before.before) f.ensures)) in
    appended_as k.to a.budget f.result (is_set k.here (parity s)) (parity s) parity_zone (encode k.to (parity s) (entry_header k.geometry k.zone k.generation k.end)) (header s) a.sectors.now a.written.now f.new.sectors f.new.written
    (encode_same k.geometry k.to s.requires.1.shape (parity s) (entry_header k.geometry k.zone k.generation k.end)) placed

parity-below : (s : tie.Start) → parity s < s.args.known.geometry.drives
parity-below s = let k = s.args.known in parity_drive_below k.geometry.drives k.geometry.unit k.zone (omega (arith, s.requires.0.drives_least)) s.requires.0.unit_least (stripe s)

-- what it has left alone
kept : (c : tie.After-append_partial-rest) → let a = (to_start (at-if c)).args in
    Writing a.known c.append_partial-rest.new.sectors c.append_partial-rest.new.written a.pointers.now a.buffer.now × (read_device a.known.geometry c.append_partial-rest.new.sectors a.pointers.now ≡ read_device a.known.geometry a.sectors.now a.pointers.now)
kept c =
    let s = to_start (at-if c) in
    let a = s.args in
    let k = a.known in
    let f = c.append_partial-rest in
    let long = header_long k.geometry (parity s) (entry_header k.geometry k.zone k.generation k.end) s.requires.0 tt in
    writing_kept k s.requires.0 a.sectors.now a.written.now a.pointers.now a.buffer.now s.requires.1 a.budget f.result (store_if (is_set k.here (parity s)) (append (parity s) parity_zone (header s))) f.new.sectors f.new.written
    (store_if_in k.geometry not_spare (is_set k.here (parity s)) (parity s) parity_zone (header s) (parity-below s) (omega arith) refl (λ _. long)) (stored c)

append-rows-requires : tie.Need-append_rows-requires
append-rows-requires c κs =
    let f = c.before.before.before.before.before.before.before in
    let d = at-if f in
    let s = to_start d in
    let a = s.args in
    let k = a.known in
    let xs = f.append_partial-rest.new.sectors in
    let ws = f.append_partial-rest.new.written in
    let n = d.stripe_sectors-k.result in
    let w = s.requires.1 in
    let ready = writing_rows k s.requires.0 xs ws a.pointers.now a.buffer.now (kept f).0 (stripe s) parity_zone (stripe_reached k s.requires.0 a.sectors.now a.written.now a.pointers.now a.buffer.now w k.end w.below_most) (omega arith) refl (parity-below s) in
    let m : c.min-m.result ≡ min (k.end - k.end / n * n) k.geometry.unit = c.min-m.ensures in
    let e : k.end / n * stripe_sectors k.geometry ≡ k.end / n * n = ap (λ (x : ℕ). k.end / n * x) (sym d.stripe_sectors-k.ensures.0) in (
      s.requires.0,
      (
        subst (λ (x : ℕ). RowsReady k (record { drive = x; zone = parity_zone; present = is_set k.here x }) xs ws a.pointers.now a.buffer.now (k.end / n)) (sym (parity-is f.before.before.before.before))
            (subst (λ (x : ℕ). RowsReady k (record { drive = parity s; zone = parity_zone; present = is_set k.here (parity s) }) xs ws a.pointers.now a.buffer.now x) (sym (stripe-is d)) ready),
        omega arith,
        omega (arith, m),
        omega (arith, m, e, start-most d.before),
      ),
    )

returns-2 : tie.Need-returns
returns-2 c =
    let r = c.append_rows in
    let at-min = c.before.before.before.before.before.before.before in
    let f = c.before.before.before.before.before.before.before.before.before.before.before.before in
    let d = at-if f in
    let s = to_start d in
    let a = s.args in
    let k = a.known in
    let g = k.geometry in
    let x = f.append_partial-rest in
    let n = d.stripe_sectors-k in
    let few = min (fill_of g k.end) g.unit in
    let m : at-min.min-m.result ≡ few = at-min.min-m.ensures ∙ ap (λ (y : ℕ). min y g.unit) (fill_is d) in
    let rows : ℕ → ℕ → ℕ → Device → Type 0 = λ q t u v. MadeAppends k.to x.result r.result (rows_if (is_set k.here q) q parity_zone (row_xor_below g.drives g.unit (content_of k v a.buffer.now) t k.end) 0 u) x.new.sectors x.new.written r.new.sectors r.new.written in
    let v = read_device g x.new.sectors a.pointers.now in
    let made : rows (parity s) (stripe s) few (read_device g a.sectors.now a.pointers.now) =
    subst (λ (w : Device). rows (parity s) (stripe s) few w) (kept f).1 (subst (λ (u : ℕ). rows (parity s) (stripe s) u v) m (subst (λ (t : ℕ). rows (parity s) t at-min.min-m.result v) (stripe-is d) (subst (λ (q : ℕ). rows q (k.end / n.result) at-min.min-m.result v) (parity-is f.before.before.before.before) r.ensures))) in
    rw (entry_inside g s.requires.0 (is_set k.here) k.zone (content s) k.generation k.end (inside d))
    (appends_append k.to a.budget x.result r.result (store_if (is_set k.here (parity s)) (append (parity s) parity_zone (header s))) (rows_if (is_set k.here (parity s)) (parity s) parity_zone (row_xor_below g.drives g.unit (content s) (stripe s) k.end) 0 few)
    a.sectors.now a.written.now x.new.sectors x.new.written r.new.sectors r.new.written (stored f) made)

pub write_entry_spec : {M : Type 1} → statement M
write_entry_spec =
    tie.close
    (tie.spec (λ c κs. search rules) (λ c. search rules) (λ c. let s = c.before.before.before.before.before.before in omega (arith, start-most c, s.requires.1.end_most, (zone_small s.args.known.geometry s.requires.0).1)) returns
    (λ c. search rules) parity-drive-requires (λ c. search rules) append-partial-requires (λ c κs. search rules) append-rows-requires (λ c. search rules)
    (λ c. search rules) returns-2)
