-- The value of a sector by each of the three ways, as the code makes it: that it is rule 4's.
use Rattle.std.specs.Prelude.{◌≡◌, ◌⊎◌, Bool, ◌&&◌, ℕ, zero, suc, ◌+◌, ◌-◌, ◌*◌, ◌≤◌, ◌<◌, min, length, get_or, drop, leb}
use Rattle.std.proofs.Math.Path.{refl, sym, ap, ap₂}
use Rattle.std.proofs.Common.{◌∙◌, inl, inr, true≢false, arith, length-drop, get_or-take, get_or-drop, length-take-le}
use Rattle.std.proofs.Math.Bool.{true, false}
use mathlib.Core.List.{List, []}
use Rattle.std.proofs.Math.Arith.{digits_lt}
use Rattle.std.proofs.Math.Dec.{ltb, eqb}
use borrow.Author.Tests.{lt-ltb, ltb-true, eq-eqb, ne_eqb}
use Rattle.tables.specs.declared.Geometry.{Geometry}
use Rattle.tables.specs.meaning.Basics.{pick}
use Rattle.tables.specs.laws.Basics.{and_split}
use Rattle.tables.specs.laws.Below.{get_d_tabulate, length_tabulate}
use Rattle.tables.specs.meaning.Geometry.{Valid, stripe_sectors, zone_sectors, physical_zones, total_bytes, data_zone}
use Rattle.tables.specs.meaning.Placement.{sector_of, unit_index, row_index, stripe_of, drive_of}
use Rattle.tables.specs.laws.Placement.{row_index_below, address_parts, drive_below, sector_sum, stripe_lt}
use Rattle.tables.specs.laws.Sizes.{zone_stripes}
use Rattle.tables.specs.meaning.Tables.{cell, sector_at}
use Rattle.tables.specs.laws.Tables.{sector_in}
use Rattle.tables.specs.meaning.Xor.{xor_bytes, xor_below, without}
use Rattle.tables.specs.laws.Xor.{xor_below_cong}
use Rattle.logs.specs.meaning.Entry.{Header, label, counters, zone_reset, partial_parity, seal, closing, parity_zone, rows_of, Decoded, decode, legal, fits_log}
use Rattle.logs.specs.laws.Entry.{decode_legal}
use Rattle.logs.specs.code.Judge.{seen, partial_small}
use Rattle.logs.specs.laws.Heads.{ends_within}
use Rattle.logs.specs.code.WalkCode.{log_sectors}
use Rattle.logs.specs.code.QueryLaws.{SmallSeen}
use Rattle.volume.specs.declared.knowing.Source.{Source}
use Rattle.volume.specs.declared.knowing.Source.TheVariants.{Unknown, Held, Row}
use Rattle.volume.specs.meaning.Rules.{nothing, from_entry, parity_of, row_drive, row_address, entry_for, seal_limit, zone_view, value_at}
use Rattle.volume.specs.meaning.CallContracts.{is_set}
use Rattle.volume.specs.looking.Knowing.{read_device, Readable, held_on, own_sector, stripe_end, reach_of, serving_place, row_complete, source_of, has_source, row_xor, end_seen, entry_end, way_value, SourceFits}
use Rattle.volume.specs.looking.KnowingLaws.{leb_min, row_address_below, parity_in, row_drive_in, held_is, held_sector, reach_held, reach_most, by_parity_is, stripe_end_is, stripe_end_small}
use Rattle.volume.specs.looking.KnowingEntries.{end_in, partial_inside, same_stripe, Serving, serving_is}
use Rattle.logs.specs.code.Judge as judge
use Rattle.volume.specs.declared.knowing.Source.TheVariants as way

-- ---- places and lengths
-- a zone's sectors lie within its physical zones
pub sector_within : (g : Geometry) (a : ℕ) → Valid g → a < zone_sectors g → sector_of g.drives g.unit a < g.capacity
sector_within g a ok h =
    let two : 1 < g.drives = omega (arith, ok.drives_least) in
    let l : a < ok.units * stripe_sectors g = omega (arith, zone_stripes g ok, h) in
    let m : stripe_of g.drives g.unit a < ok.units = (stripe_lt g.drives g.unit zero two ok.unit_least ok.units a).0 l in
    rw (sector_sum g.drives g.unit a, ok.whole_units) (digits_lt m (row_index_below g.drives g.unit zero two ok.unit_least a))

pub sector_long : (g : Geometry) (xs : List ℕ) (d y i : ℕ) → length xs ≡ total_bytes g → d < g.drives → y < physical_zones g → i < g.capacity → length (sector_at g xs d y i) ≡ g.sector
sector_long g xs d y i e hd hy hi = length-take-le g.sector (drop ((cell g d y * g.capacity + i) * g.sector) xs) (rw (length-drop, e) (omega (arith, sector_in g d y i hd hy hi)))

pub own_long : (g : Geometry) (xs : List ℕ) (z a : ℕ) → Valid g → z < g.zones → a < zone_sectors g → length xs ≡ total_bytes g → length (own_sector g xs z a) ≡ g.sector
own_long g xs z a ok hz ha e =
    sector_long g xs (drive_of g.drives g.unit z a) (data_zone z) (sector_of g.drives g.unit a) e (drive_below g.drives g.unit z (omega (arith, ok.drives_least)) ok.unit_least a) (omega (arith, hz)) (sector_within g a ok ha)

-- ---- headers
end_seen_lem : (g : Geometry) (h : Header) → end_seen g (seen h) ≡ end_in g h
end_seen_lem g (label x a) = refl
end_seen_lem g (counters cs) = refl
end_seen_lem g (zone_reset y m) = refl
end_seen_lem g (partial_parity y s f m) = refl
end_seen_lem g (seal y p m) = refl
end_seen_lem g (closing kind gen) = refl

small_seen : (g : Geometry) (d : ℕ) (h : Header) → fits_log g d true h ≡ true → SmallSeen g (seen h)
small_seen g d (label x a) e = tt
small_seen g d (counters cs) e = tt
small_seen g d (zone_reset y m) e = tt
small_seen g d (partial_parity y s f m) e = let k = partial_small g d true y s f m e in (k.1, k.2)
small_seen g d (seal y p m) e = tt
small_seen g d (closing kind gen) e = tt

ends_within_lem : (g : Geometry) (z n low high : ℕ) (h : Header) → ends_within g z n low high h ≡ true → (low < end_in g h) × (leb (end_in g h) high ≡ true)
ends_within_lem g z n low high (label x a) e = absurd (true≢false (sym e))
ends_within_lem g z n low high (counters cs) e = absurd (true≢false (sym e))
ends_within_lem g z n low high (zone_reset y m) e = absurd (true≢false (sym e))
ends_within_lem g z n low high (seal y p m) e = absurd (true≢false (sym e))
ends_within_lem g z n low high (closing kind gen) e = absurd (true≢false (sym e))
ends_within_lem g z n low high (partial_parity y s f m) e =
    let x = s * stripe_sectors g + f in
    let (a, b) = and_split (eqb y z) (eqb m n && (ltb low x && leb x high)) e in
    let (c, d) = and_split (eqb m n) (ltb low x && leb x high) b in
    let (p, q) = and_split (ltb low x) (leb x high) d in
    (ltb-true low x p, q)

-- an entry of a's stripe that ends past a has a's row
has_row : (g : Geometry) (d a z n high : ℕ) (h : Header) → Valid g → a < zone_sectors g → fits_log g d true h ≡ true → ends_within g z n a high h ≡ true → end_in g h ≤ stripe_end g a → (row_index g.drives g.unit a) < rows_of g h
has_row g d a z n high (label x y) ok ha fit e m = absurd (true≢false (sym e))
has_row g d a z n high (counters cs) ok ha fit e m = absurd (true≢false (sym e))
has_row g d a z n high (zone_reset x y) ok ha fit e m = absurd (true≢false (sym e))
has_row g d a z n high (seal x y p) ok ha fit e m = absurd (true≢false (sym e))
has_row g d a z n high (closing kind gen) ok ha fit e m = absurd (true≢false (sym e))
has_row g d a z n high (partial_parity y s f k) ok ha fit e m =
    let i = partial_inside g d y s f k fit in
    let w = ends_within_lem g z n a high (partial_parity y s f k) e in
    let b = stripe_end_small g a ok ha in
    let t : s ≡ stripe_of g.drives g.unit a = same_stripe (stripe_sectors g) s (stripe_of g.drives g.unit a) f a i.0 i.1 b.0 w.0 (omega (arith, m, stripe_end_is g a)) in
    let parts = address_parts g.drives g.unit zero (omega (arith, ok.drives_least)) ok.unit_least a in
    let u = ap (λ (x : ℕ). x * stripe_sectors g) t in
    omega (arith, w.0, parts, u, row_index_below g.drives g.unit zero (omega (arith, ok.drives_least)) ok.unit_least a)

module _ (g : Geometry) (here : List Bool) (xs ws : List ℕ) (z : ℕ) (r : Readable g here xs ws z) (ok : Valid g) (n a : ℕ) (ha : a < zone_sectors g) where
  -- sector k of the row of address a, if it lies below an end, as it is in the tables
  abbrev row_part : ℕ → ℕ → List ℕ
  row_part e = λ (k : ℕ). pick (ltb (row_address g.drives g.unit a k) e) (sector_at g xs (row_drive g.drives g.unit z a k) (data_zone z) (sector_of g.drives g.unit a)) []

  -- the row's other sectors below an end that its reach allows are those of the tables
  row_same : (e : ℕ) (f : ℕ → List ℕ) → e ≤ stripe_end g a → leb e (reach_of g here ws z a) ≡ true
      → ((k : ℕ) → k < g.drives - 1 → f k ≡ pick (ltb (row_address g.drives g.unit a k) e) ((zone_view g (is_set here) (read_device g xs ws) z n).sector_at (row_drive g.drives g.unit z a k) (sector_of g.drives g.unit a)) [])
      → xor_below (without f (unit_index g.drives g.unit a)) (g.drives - 1) ≡ row_xor g xs z a e
  unfolding row_xor
  row_same e f h l same = xor_below_cong (without f (unit_index g.drives g.unit a)) (without (row_part e) (unit_index g.drives g.unit a)) (g.drives - 1) each
    where
      inner : (k : ℕ) → k < g.drives - 1 → eqb k (unit_index g.drives g.unit a) ≡ false → (b : Bool) → ltb (row_address g.drives g.unit a k) e ≡ b
          → pick b ((zone_view g (is_set here) (read_device g xs ws) z n).sector_at (row_drive g.drives g.unit z a k) (sector_of g.drives g.unit a)) [] ≡ pick b (sector_at g xs (row_drive g.drives g.unit z a k) (data_zone z) (sector_of g.drives g.unit a)) []
      inner k m q true t =
          held_sector g here xs ws z r n (row_drive g.drives g.unit z a k) (sector_of g.drives g.unit a) (row_drive_in g z a k ok) (reach_held g here xs ws z r ok n a e k h l m q (ltb-true (row_address g.drives g.unit a k) e t))
      inner k m q false t = refl

      each : (k : ℕ) → k < g.drives - 1 → without f (unit_index g.drives g.unit a) k ≡ without (row_part e) (unit_index g.drives g.unit a) k
      each k m = go (eqb k (unit_index g.drives g.unit a)) refl
        where
          go : (b : Bool) → eqb k (unit_index g.drives g.unit a) ≡ b → without f (unit_index g.drives g.unit a) k ≡ without (row_part e) (unit_index g.drives g.unit a) k
          go true q = rw (q, without) refl
          go false q =
              let u : without f (unit_index g.drives g.unit a) k ≡ f k = rw (q, without) refl in
              let v : without (row_part e) (unit_index g.drives g.unit a) k ≡ row_part e k = rw (q, without) refl in
              u ∙ same k m ∙ inner k m q (ltb (row_address g.drives g.unit a k) e) refl ∙ sym v

  own_drive : drive_of g.drives g.unit z a < g.drives
  own_drive = drive_below g.drives g.unit z (omega (arith, ok.drives_least)) ok.unit_least a

  -- ---- held
  pub value_held : held_on g here ws z (drive_of g.drives g.unit z a) (sector_of g.drives g.unit a) ≡ true → value_at g (is_set here) (read_device g xs ws) z n a ≡ way_value g xs z a Held
  unfolding value_at
  value_held h = rw (held_is g here xs ws z r n (drive_of g.drives g.unit z a) (sector_of g.drives g.unit a) own_drive ∙ h) (held_sector g here xs ws z r n (drive_of g.drives g.unit z a) (sector_of g.drives g.unit a) own_drive h)

  -- ---- by the row
  value_row : held_on g here ws z (drive_of g.drives g.unit z a) (sector_of g.drives g.unit a) ≡ false → row_complete g here ws z a ≡ true → value_at g (is_set here) (read_device g xs ws) z n a ≡ way_value g xs z a Row
  unfolding value_at
  value_row h c =
      let (p, q) = and_split (held_on g here ws z (parity_of g.drives g.unit z a) (sector_of g.drives g.unit a)) (leb (stripe_end g a) (reach_of g here ws z a)) c in
      let all : (k : ℕ) → k < g.drives - 1 → (zone_view g (is_set here) (read_device g xs ws) z n).sector_at (row_drive g.drives g.unit z a k) (sector_of g.drives g.unit a) ≡ pick (ltb (row_address g.drives g.unit a k) (stripe_end g a)) ((zone_view g (is_set here) (read_device g xs ws) z n).sector_at (row_drive g.drives g.unit z a k) (sector_of g.drives g.unit a)) [] =
      λ k l. sym (ap (λ (b : Bool). pick b ((zone_view g (is_set here) (read_device g xs ws) z n).sector_at (row_drive g.drives g.unit z a k) (sector_of g.drives g.unit a)) []) (lt-ltb (row_address g.drives g.unit a k) (stripe_end g a) (row_address_below g a k ok l))) in
      rw (held_is g here xs ws z r n (drive_of g.drives g.unit z a) (sector_of g.drives g.unit a) own_drive ∙ h, by_parity_is g here xs ws z r ok n a ∙ c)
      (ap₂ xor_bytes (row_same (stripe_end g a) (λ k. (zone_view g (is_set here) (read_device g xs ws) z n).sector_at (row_drive g.drives g.unit z a k) (sector_of g.drives g.unit a)) (omega arith) q all) (held_sector g here xs ws z r n (parity_of g.drives g.unit z a) (sector_of g.drives g.unit a) (parity_in g z a ok) p))

  -- ---- by an entry
  module _ (q : ℕ) (s : Serving g here xs ws z r ok n a ha q) where
    head_in : q < get_or ws (cell g (parity_of g.drives g.unit z a) parity_zone) 0
    head_in = omega (arith, s.stands.within, length_tabulate (λ i. sector_at g xs (parity_of g.drives g.unit z a) parity_zone i) (get_or ws (cell g (parity_of g.drives g.unit z a) parity_zone) 0))

    header_is : get_or (log_sectors g (parity_of g.drives g.unit z a) parity_zone xs (get_or ws (cell g (parity_of g.drives g.unit z a) parity_zone) 0)) q [] ≡ sector_at g xs (parity_of g.drives g.unit z a) parity_zone q
    header_is = get_d_tabulate (λ i. sector_at g xs (parity_of g.drives g.unit z a) parity_zone i) (get_or ws (cell g (parity_of g.drives g.unit z a) parity_zone) 0) q [] head_in

    reads_is : decode g (parity_of g.drives g.unit z a) true (sector_at g xs (parity_of g.drives g.unit z a) parity_zone (q + 1 - 1)) ≡ legal s.entry.head
    reads_is =
        let e : q + 1 - 1 ≡ q = omega arith in
        ap (λ (i : ℕ). decode g (parity_of g.drives g.unit z a) true (sector_at g xs (parity_of g.drives g.unit z a) parity_zone i)) e ∙ ap (decode g (parity_of g.drives g.unit z a) true) (sym header_is) ∙ s.stands.reads

    fits : fits_log g (parity_of g.drives g.unit z a) true s.entry.head ≡ true
    fits = (decode_legal g (parity_of g.drives g.unit z a) true (get_or (log_sectors g (parity_of g.drives g.unit z a) parity_zone xs (get_or ws (cell g (parity_of g.drives g.unit z a) parity_zone) 0)) q []) s.entry.head s.stands.reads).1

    end_is : entry_end g xs (parity_of g.drives g.unit z a) (q + 1) ≡ end_in g s.entry.head
    unfolding entry_end
    end_is = ap (λ (d : Decoded). end_seen g (judge.found d)) reads_is ∙ end_seen_lem g s.entry.head

    within : (a < end_in g s.entry.head) × (leb (end_in g s.entry.head) (reach_of g here ws z a) ≡ true)
    within =
        let w = ends_within_lem g z n a (min (seal_limit g (is_set here) (read_device g xs ws) z n) (reach_of g here ws z a)) s.entry.head s.passes in
        (w.0, (and_split (leb (end_in g s.entry.head) (seal_limit g (is_set here) (read_device g xs ws) z n)) (leb (end_in g s.entry.head) (reach_of g here ws z a)) (sym (leb_min (end_in g s.entry.head) (seal_limit g (is_set here) (read_device g xs ws) z n) (reach_of g here ws z a)) ∙ w.1)).1)

    end_most : end_in g s.entry.head ≤ stripe_end g a
    end_most = reach_most g here xs ws z r ok n a (end_in g s.entry.head) within.1

    row_in : (row_index g.drives g.unit a) < rows_of g s.entry.head
    row_in = has_row g (parity_of g.drives g.unit z a) a z n (min (seal_limit g (is_set here) (read_device g xs ws) z n) (reach_of g here ws z a)) s.entry.head ok ha fits s.passes end_most

    row_place : q + 1 + (row_index g.drives g.unit a) < get_or ws (cell g (parity_of g.drives g.unit z a) parity_zone) 0
    row_place = omega (arith, row_in, s.stands.within, length_tabulate (λ i. sector_at g xs (parity_of g.drives g.unit z a) parity_zone i) (get_or ws (cell g (parity_of g.drives g.unit z a) parity_zone) 0))

    row_is : get_or s.entry.rows (row_index g.drives g.unit a) [] ≡ sector_at g xs (parity_of g.drives g.unit z a) parity_zone (q + 1 + (row_index g.drives g.unit a))
    row_is =
        let e : suc q + (row_index g.drives g.unit a) ≡ q + 1 + (row_index g.drives g.unit a) = omega arith in
        ap (λ (rs : List (List ℕ)). get_or rs (row_index g.drives g.unit a) []) s.stands.rows_are
        ∙ get_or-take (rows_of g s.entry.head) (drop (suc q) (log_sectors g (parity_of g.drives g.unit z a) parity_zone xs (get_or ws (cell g (parity_of g.drives g.unit z a) parity_zone) 0))) (row_index g.drives g.unit a) [] row_in
        ∙ get_or-drop (suc q) (log_sectors g (parity_of g.drives g.unit z a) parity_zone xs (get_or ws (cell g (parity_of g.drives g.unit z a) parity_zone) 0)) (row_index g.drives g.unit a) []
        ∙ ap (λ (i : ℕ). get_or (log_sectors g (parity_of g.drives g.unit z a) parity_zone xs (get_or ws (cell g (parity_of g.drives g.unit z a) parity_zone) 0)) i []) e
        ∙ get_d_tabulate (λ i. sector_at g xs (parity_of g.drives g.unit z a) parity_zone i) (get_or ws (cell g (parity_of g.drives g.unit z a) parity_zone) 0) (q + 1 + (row_index g.drives g.unit a)) [] row_place

    value_entry : held_on g here ws z (drive_of g.drives g.unit z a) (sector_of g.drives g.unit a) ≡ false → row_complete g here ws z a ≡ false → value_at g (is_set here) (read_device g xs ws) z n a ≡ way_value g xs z a (way.Entry (q + 1))
    unfolding value_at
    value_entry h c =
        rw (held_is g here xs ws z r n (drive_of g.drives g.unit z a) (sector_of g.drives g.unit a) own_drive ∙ h, by_parity_is g here xs ws z r ok n a ∙ c)
        (ap (from_entry g.drives g.unit z (zone_view g (is_set here) (read_device g xs ws) z n) a) s.chosen_is
        ∙ ap₂ xor_bytes (row_same (end_in g s.entry.head) (λ k. pick (ltb (row_address g.drives g.unit a k) (end_in g s.entry.head)) ((zone_view g (is_set here) (read_device g xs ws) z n).sector_at (row_drive g.drives g.unit z a k) (sector_of g.drives g.unit a)) []) end_most within.1 (λ k l. refl) ∙ ap (row_xor g xs z a) (sym end_is)) row_is)

    entry_fits : SourceFits g xs z a (way.Entry (q + 1))
    entry_fits = (
      omega arith,
      omega (arith, row_place, r.pointers (parity_of g.drives g.unit z a) parity_zone (parity_in g z a ok) s.present (omega arith)),
      rw (ap judge.found reads_is) (small_seen g (parity_of g.drives g.unit z a) s.entry.head fits),
    )

  -- ---- THE VALUE BY THE WAY THAT IS FOUND
  abbrev pub Valued : Source → Type 0
  Valued w = SourceFits g xs z a w × (has_source w ≡ true → value_at g (is_set here) (read_device g xs ws) z n a ≡ way_value g xs z a w)

  pub value_is : Valued (source_of g here xs ws z n (seal_limit g (is_set here) (read_device g xs ws) z n) a)
  unfolding source_of
  value_is = own (held_on g here ws z (drive_of g.drives g.unit z a) (sector_of g.drives g.unit a)) refl
    where
      by_entry_lem : held_on g here ws z (drive_of g.drives g.unit z a) (sector_of g.drives g.unit a) ≡ false → row_complete g here ws z a ≡ false
          → ((serving_place g here xs ws z n (seal_limit g (is_set here) (read_device g xs ws) z n) a ≡ 0) × (entry_for g.drives g.unit z (zone_view g (is_set here) (read_device g xs ws) z n) a ≡ nothing)) ⊎ ((q : ℕ) × Serving g here xs ws z r ok n a ha q × (serving_place g here xs ws z n (seal_limit g (is_set here) (read_device g xs ws) z n) a ≡ q + 1))
          → Valued (pick (eqb (serving_place g here xs ws z n (seal_limit g (is_set here) (read_device g xs ws) z n) a) 0) Unknown (way.Entry (serving_place g here xs ws z n (seal_limit g (is_set here) (read_device g xs ws) z n) a)))
      by_entry_lem h c (inl (p, e)) = rw (eq-eqb (serving_place g here xs ws z n (seal_limit g (is_set here) (read_device g xs ws) z n) a) 0 p) (tt, λ k. absurd (true≢false (sym k)))
      by_entry_lem h c (inr (q, s, p)) =
          let ne : eqb (q + 1) 0 ≡ false = ne_eqb (q + 1) 0 (λ e. omega (arith, e)) in
          rw p (rw ne (entry_fits q s, λ k. value_entry q s h c))

      by_row : held_on g here ws z (drive_of g.drives g.unit z a) (sector_of g.drives g.unit a) ≡ false → (b : Bool) → row_complete g here ws z a ≡ b
          → Valued (pick b Row (pick (eqb (serving_place g here xs ws z n (seal_limit g (is_set here) (read_device g xs ws) z n) a) 0) Unknown (way.Entry (serving_place g here xs ws z n (seal_limit g (is_set here) (read_device g xs ws) z n) a))))
      by_row h true c = (tt, λ k. value_row h c)
      by_row h false c = by_entry_lem h c (serving_is g here xs ws z r ok n a ha)

      own : (b : Bool) → held_on g here ws z (drive_of g.drives g.unit z a) (sector_of g.drives g.unit a) ≡ b
          → Valued (pick b Held (pick (row_complete g here ws z a) Row (pick (eqb (serving_place g here xs ws z n (seal_limit g (is_set here) (read_device g xs ws) z n) a) 0) Unknown (way.Entry (serving_place g here xs ws z n (seal_limit g (is_set here) (read_device g xs ws) z n) a)))))
      own true h = (tt, λ k. value_held h)
      own false h = by_row h (row_complete g here ws z a) refl
