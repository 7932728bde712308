-- Appends to one zone, one after the other, are one: the sectors lie there joined. Units of a stripe on drives of their own.
use Rattle.std.specs.Prelude.{◌≡◌, ◌≢◌, ℕ, zero, suc, ◌+◌, ◌*◌, ◌≤◌, ◌<◌, set}
use Rattle.std.proofs.Math.Path.{refl, ap, ap₂}
use Rattle.std.proofs.Common.{sym, ◌∙◌, inl, inr, mul-le-mul_right, length-set, length-append, set-set, get_or-set_other, lt-ltb}
use Rattle.std.proofs.Math.Nat.{suc-mul}
use Rattle.std.proofs.Math.Decide.{dec_lt}
use native.Mathlib.Omega.{arith}
use mathlib.Core.List.{List, [], ◌∷◌}
use Rattle.std.proofs.Math.ListN.{length, get_or}
use Rattle.std.proofs.Math.Seq.{set-get_or, get_or-set_same}
use Rattle.tables.specs.declared.Geometry.{Geometry}
use Rattle.tables.specs.meaning.Below.{each_below}
use Rattle.tables.specs.meaning.Lists.{concat, overlay}
use Rattle.tables.specs.laws.Lists.{length_overlay, lay_lay}
use Rattle.tables.specs.meaning.Geometry.{physical_zones, cells, total_bytes}
use Rattle.tables.specs.meaning.Tables.{tables_of, cell, byte_at, run_stores, sectors_after_append, written_after_append}
use Rattle.tables.specs.laws.Tables.{cell_in, cell_injective, sector_in}
use Rattle.tables.specs.laws.Within.{Apart}
use Rattle.tables.specs.laws.Counted.{run_both}
use Rattle.volume.specs.meaning.Calls.{append_all}
use Rattle.volume.specs.laws.PlacedStores.{AllLong}
use Rattle.volume.specs.laws.StoreCounts.{appends_long}
use Rattle.tables.specs.laws.Overlays.{overlay_nil}

-- sectors of one length, joined
pub joined_long : (B : ℕ) (ss : List (List ℕ)) → AllLong B ss → length (concat ss) ≡ length ss * B
joined_long B [] h = let e : 0 * B ≡ 0 = omega arith in rw e refl
joined_long B (s ∷ ss) h = rw (length-append, suc-mul) (omega (arith, h.0, joined_long B ss h.1))

-- ---- places: n sectors from the zone's sector w on
pub unit_in_lem : (g : Geometry) (d y w n : ℕ) → d < g.drives → y < physical_zones g → w + n ≤ g.capacity → byte_at g d y w + n * g.sector ≤ total_bytes g
unit_in_lem g d y w n hd hy h =
    let a : cell g d y * g.capacity + w + n ≤ cells g * g.capacity = omega (arith, rw suc-mul at (mul-le-mul_right g.capacity (cell_in g d y hd hy))) in
    omega (arith, mul-le-mul_right g.sector a)

-- of two zones
pub units_apart : (g : Geometry) (c e w v n : ℕ) → c ≢ e → w + n ≤ g.capacity → v + n ≤ g.capacity → Apart ((c * g.capacity + w) * g.sector) ((e * g.capacity + v) * g.sector) (n * g.sector)
units_apart g c e w v n ne hw hv = go (dec_lt c e)
  where
    go : Dec (c < e) → Apart ((c * g.capacity + w) * g.sector) ((e * g.capacity + v) * g.sector) (n * g.sector)
    go (yes l) =
        let a : c * g.capacity + w + n ≤ e * g.capacity + v = omega (arith, rw suc-mul at (mul-le-mul_right g.capacity l)) in
        inl (omega (arith, mul-le-mul_right g.sector a))
    go (no l) =
        let k : e < c = omega (arith, ne) in
        let a : e * g.capacity + v + n ≤ c * g.capacity + w = omega (arith, rw suc-mul at (mul-le-mul_right g.capacity k)) in
        inr (omega (arith, mul-le-mul_right g.sector a))

module _ (g : Geometry) (d y : ℕ) (hd : d < g.drives) (hy : y < physical_zones g) where
  pub run_unit : (ss : List (List ℕ)) (xs ws ds : List ℕ) → AllLong g.sector ss → get_or ws (cell g d y) 0 + length ss ≤ g.capacity → length xs ≡ total_bytes g → length ws ≡ cells g
      → run_stores g (length ss) (append_all d y ss) (tables_of xs ws ds) ≡ tables_of (overlay xs (byte_at g d y (get_or ws (cell g d y) 0)) (concat ss)) (set ws (cell g d y) (get_or ws (cell g d y) 0 + length ss)) ds
  unfolding sectors_after_append written_after_append
  run_unit [] xs ws ds h room lx lw =
      let w = get_or ws (cell g d y) 0 in
      let e : w + 0 ≡ w = omega arith in
      rw (e, overlay_nil xs (byte_at g d y w), set-get_or ws (cell g d y) 0) refl
  run_unit (s ∷ ss) xs ws ds h room lx lw =
      let c = cell g d y in
      let w = get_or ws c 0 in
      let l : w < g.capacity = omega arith in
      let fits : byte_at g d y w + g.sector ≤ total_bytes g = sector_in g d y w hd hy l in
      let at : get_or (set ws c (w + 1)) c 0 ≡ w + 1 = get_or-set_same ws c (w + 1) 0 (rw lw (cell_in g d y hd hy)) in
      let ih = run_unit ss (overlay xs (byte_at g d y w) s) (set ws c (w + 1)) ds h.1 (rw at (omega arith)) (length_overlay xs (byte_at g d y w) s (rw (lx, h.0) fits) ∙ lx) (length-set ws c (w + 1) ∙ lw) in
      let p = byte_at g d y w in
      let next : byte_at g d y (w + 1) ≡ p + length s = omega (arith, h.0) in
      let long = joined_long g.sector ss h.1 in
      let room : p + length s + length (concat ss) ≤ length xs = rw (lx, h.0, long) (omega (arith, rw suc-mul at (unit_in_lem g d y w (suc (length ss)) hd hy room))) in
      rw (lt-ltb w g.capacity l)
      (ih
      ∙ ap₂ (λ (a b : List ℕ). tables_of a b ds)
      (ap (λ (v : ℕ). overlay (overlay xs p s) (byte_at g d y v) (concat ss)) at ∙ ap (λ (q : ℕ). overlay (overlay xs p s) q (concat ss)) next ∙ lay_lay xs p s (concat ss) room)
      (set-set ws c (w + 1) (get_or (set ws c (w + 1)) c 0 + length ss) ∙ ap (set ws c) (ap (λ (v : ℕ). v + length ss) at ∙ omega arith)))

-- ---- units on drives of their own: unit j goes to a zone of drive `drive j`, at its written pointer
abbrev pub unit_place : Geometry → ℕ → (ℕ → ℕ) → List ℕ → ℕ → ℕ
unit_place g y drive ws j = byte_at g (drive j) y (get_or ws (cell g (drive j) y) 0)

-- the bytes with the first n units, and the pointers past them
abbrev pub units_laid : (ℕ → ℕ) → (ℕ → List ℕ) → List ℕ → ℕ → List ℕ
units_laid place unit xs zero = xs
units_laid place unit xs (suc n) = overlay (units_laid place unit xs n) (place n) (unit n)

abbrev pub units_passed : Geometry → ℕ → (ℕ → ℕ) → List ℕ → ℕ → List ℕ
units_passed g y drive ws zero = ws
units_passed g y drive ws (suc n) = set (units_passed g y drive ws n) (cell g (drive n) y) (get_or ws (cell g (drive n) y) 0 + g.unit)

-- what n of them rely on
pub record UnitsFit (g : Geometry) (y : ℕ) (drive : ℕ → ℕ) (n : ℕ) (xs ws : List ℕ) : Type 0 where
  pub zone_in_lem : y < physical_zones g
  pub drive_in : (j : ℕ) → j < n → drive j < g.drives
  pub own : (i j : ℕ) → i < n → j < n → drive i ≡ drive j → i ≡ j
  pub room : (j : ℕ) → j < n → get_or ws (cell g (drive j) y) 0 + g.unit ≤ g.capacity
  pub sectors_long : length xs ≡ total_bytes g
  pub written_long : length ws ≡ cells g

module _ (g : Geometry) (y : ℕ) (drive : ℕ → ℕ) (n : ℕ) (xs ws : List ℕ) (u : UnitsFit g y drive n xs ws) where
  own_cell : (i j : ℕ) → i < n → j < n → i ≢ j → cell g (drive i) y ≢ cell g (drive j) y
  own_cell i j hi hj ne e = ne (u.own i j hi hj (cell_injective g (drive j) y (drive i) y u.zone_in_lem u.zone_in_lem e).0)

  pub place_in : (j : ℕ) → j < n → unit_place g y drive ws j + g.unit * g.sector ≤ total_bytes g
  place_in j h = unit_in_lem g (drive j) y (get_or ws (cell g (drive j) y) 0) g.unit (u.drive_in j h) u.zone_in_lem (u.room j h)

  pub places_apart : (i j : ℕ) → i < n → j < n → i ≢ j → Apart (unit_place g y drive ws i) (unit_place g y drive ws j) (g.unit * g.sector)
  places_apart i j hi hj ne = units_apart g (cell g (drive i) y) (cell g (drive j) y) (get_or ws (cell g (drive i) y) 0) (get_or ws (cell g (drive j) y) 0) g.unit (own_cell i j hi hj ne) (u.room i hi) (u.room j hj)

  pub passed_long : (j : ℕ) → length (units_passed g y drive ws j) ≡ cells g
  passed_long zero = u.written_long
  passed_long (suc j) = length-set (units_passed g y drive ws j) (cell g (drive j) y) (get_or ws (cell g (drive j) y) 0 + g.unit) ∙ passed_long j

  pub passed_later : (j k : ℕ) → j ≤ k → k < n → get_or (units_passed g y drive ws j) (cell g (drive k) y) 0 ≡ get_or ws (cell g (drive k) y) 0
  passed_later zero k h l = refl
  passed_later (suc j) k h l = get_or-set_other (units_passed g y drive ws j) (cell g (drive j) y) (cell g (drive k) y) (get_or ws (cell g (drive j) y) 0 + g.unit) 0 (own_cell k j l (omega arith) (omega arith)) ∙ passed_later j k (omega arith) l

  laid_long : (unit : ℕ → List ℕ) → ((j : ℕ) → j < n → length (unit j) ≡ g.unit * g.sector) → (j : ℕ) → j ≤ n → length (units_laid (unit_place g y drive ws) unit xs j) ≡ total_bytes g
  laid_long unit long zero h = u.sectors_long
  laid_long unit long (suc j) h =
      let l = laid_long unit long j (omega arith) in
      length_overlay (units_laid (unit_place g y drive ws) unit xs j) (unit_place g y drive ws j) (unit j) (rw (l, long j (omega arith)) (place_in j (omega arith))) ∙ l

  -- the stores of the first so many, made one after the other
  module _ (content : ℕ → List (List ℕ)) (full : (j : ℕ) → j < n → length (content j) ≡ g.unit) (long : (j : ℕ) → j < n → AllLong g.sector (content j)) where
    unit_long : (j : ℕ) → j < n → length (concat (content j)) ≡ g.unit * g.sector
    unit_long j h = joined_long g.sector (content j) (long j h) ∙ ap (λ (k : ℕ). k * g.sector) (full j h)

    pub run_units : (ds : List ℕ) (j : ℕ) → j ≤ n
        → run_stores g (length (each_below (λ i. append_all (drive i) y (content i)) j)) (each_below (λ i. append_all (drive i) y (content i)) j) (tables_of xs ws ds)
        ≡ tables_of (units_laid (unit_place g y drive ws) (λ i. concat (content i)) xs j) (units_passed g y drive ws j) ds
    run_units ds zero h = refl
    run_units ds (suc j) h =
        let first = each_below (λ i. append_all (drive i) y (content i)) j in
        let more = append_all (drive j) y (content j) in
        let here = units_laid (unit_place g y drive ws) (λ i. concat (content i)) xs j in
        let passed = units_passed g y drive ws j in
        let w = passed_later j j (omega arith) (omega arith) in
        let e : get_or passed (cell g (drive j) y) 0 + length (content j) ≤ g.capacity = rw (w, full j (omega arith)) (u.room j (omega arith)) in
        sym (run_both g first more (tables_of xs ws ds))
        ∙ ap (run_stores g (length more) more) (run_units ds j (omega arith))
        ∙ ap (λ (k : ℕ). run_stores g k more (tables_of here passed ds)) (appends_long (drive j) y (content j))
        ∙ run_unit g (drive j) y (u.drive_in j (omega arith)) u.zone_in_lem (content j) here passed ds (long j (omega arith)) e (laid_long (λ i. concat (content i)) unit_long j (omega arith)) (passed_long j)
        ∙ rw (w, full j (omega arith)) refl
