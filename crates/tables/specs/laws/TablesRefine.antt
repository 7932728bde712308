-- That a store, a list of stores, a cut and a loss of the flat tables are those of the device they stand for (`run_is`, `cut_is`), and what stores
-- leave alone: the bytes and pointers of every other drive, an absent one's among them (`run_frame`).
use Rattle.std.specs.Prelude.{◌≡◌, ◌≢◌, Bool, true, false, ◌&&◌, length, drop, ltb, eqb}
use Rattle.std.proofs.Math.Path.{refl, ap, ap₂, fun_ext}
use Rattle.std.proofs.Common.{sym, ◌∙◌, length-drop, length-set, length-take-le, ltb-true, lt-ltb, eq-eqb, ne_eqb}
use Prim.Native.Nat.{ℕ, zero, suc, ◌+◌, ◌*◌, ◌≤◌, ◌<◌, min, zero-le}
use Rattle.std.proofs.Math.Nat.{mul-le-mul_right}
use Rattle.std.proofs.Math.Decide.{ℕ_discrete, dec_lt}
use native.Mathlib.Omega.{arith}
use mathlib.Core.List.{List, [], ◌∷◌, ◌++◌}
use Rattle.std.proofs.Math.ListN.{get_or, take}
use Rattle.std.proofs.Math.Seq.{take-nil, get_or-set_same, get_or-set_other, get_or-take, get_or-drop}
use Rattle.tables.specs.declared.Geometry.{Geometry}
use Rattle.tables.specs.meaning.Basics.{pick}
use Rattle.tables.specs.meaning.Below.{tabulate}
use Rattle.tables.specs.laws.Below.{tabulate_cong, length_tabulate, take_tabulate}
use Rattle.tables.specs.meaning.Lists.{overlay}
use Rattle.tables.specs.laws.Lists.{length_overlay, overlay_inside, overlay_below, overlay_above}
use Rattle.tables.specs.meaning.Geometry.{physical_zones, cells}
use Rattle.tables.specs.meaning.Device.{ZoneView, Device, Store, append, reset, flush, apply, apply_all, appended, blank_zone, flushed, put_zone, Cut, ZoneCut, Loss}
use Rattle.tables.specs.laws.Device.{put_zone_same, put_zone_other_drive, put_zone_other_zone, At, here, other_drive, other_zone, at}
use Rattle.tables.specs.meaning.Tables.{has_room, Tables, zone_place, first_cell, cell, byte_at, sector_no, sectors_after_append, written_after_append, pointers_after_reset, durable_after_flush, make_store, run_stores, zone_at_cell, device_of, SectorsKept, TablesCut, TablesLoss}
use Rattle.tables.specs.laws.Made.{Placed, AllPlaced, WellSized, Fits, FitsAll}
use Rattle.tables.specs.laws.ZonePlaces.{place_in}
use Rattle.tables.specs.laws.Tables.{cell_in, row_in, sector_in, cell_injective, sector_laid, sector_elsewhere, In, inside, outside, in_or_out, device_inside, device_outside, device_in_lem, device_length}

-- ---- append
module _ (g : Geometry) (t : Tables) (w : WellSized g t) (d z : ℕ) (s : List ℕ) (hd : d < g.drives) (hz : z < physical_zones g) (hs : length s ≡ g.sector) (room : get_or t.written (cell g d z) 0 < g.capacity) where
  append_fits : (cell g d z * g.capacity + get_or t.written (cell g d z) 0) * g.sector + g.sector ≤ length t.sectors
  append_fits = rw w.sectors_long (sector_in g d z (get_or t.written (cell g d z) 0) hd hz room)

  append_makes : make_store g (append d z s) t ≡ record { sectors = sectors_after_append g d z s t.sectors t.written; written = written_after_append g d z t.written; durable = t.durable }
  append_makes = rw (lt-ltb (get_or t.written (cell g d z) 0) g.capacity room) refl

  append_own : zone_at_cell g (make_store g (append d z s) t) (cell g d z) ≡ appended s (zone_at_cell g t (cell g d z))
  unfolding zone_at_cell sectors_after_append written_after_append
  append_own = rw append_makes (
      let C = g.capacity in
      let B = g.sector in
      let k = cell g d z in
      let n = get_or t.written (cell g d z) 0 in
      let e : min (n + 1) C ≡ suc n = omega arith in
      let f : min n C ≡ n = omega arith in
      ap (λ (l : List (List ℕ)). let r : ZoneView = record { sectors = l; durable = min (get_or t.durable k 0) C } in r) (
      rw (get_or-set_same t.written k (n + 1) 0 (rw w.written_long (cell_in g d z hd hz)), e, f) (
      ap₂ (λ (x : List (List ℕ)) (y : List ℕ). x ++ (y ∷ []))
      (tabulate_cong (λ i. sector_no B (overlay t.sectors ((k * C + n) * B) s) (k * C + i)) (λ i. sector_no B t.sectors (k * C + i)) n (λ i h. sector_elsewhere B t.sectors (k * C + n) s hs append_fits (k * C + i) (omega arith)))
      (sector_laid B t.sectors (k * C + n) s hs append_fits))))

  append_other : (m : ℕ) → m ≢ cell g d z → zone_at_cell g (make_store g (append d z s) t) m ≡ zone_at_cell g t m
  unfolding zone_at_cell sectors_after_append written_after_append
  append_other m ne = rw append_makes (
      let C = g.capacity in
      let B = g.sector in
      let k = cell g d z in
      let n = get_or t.written (cell g d z) 0 in
      ap (λ (l : List (List ℕ)). let r : ZoneView = record { sectors = l; durable = min (get_or t.durable m 0) C } in r) (
      rw (get_or-set_other t.written k m (n + 1) 0 ne) (
      tabulate_cong (λ i. sector_no B (overlay t.sectors ((k * C + n) * B) s) (m * C + i)) (λ i. sector_no B t.sectors (m * C + i)) (min (get_or t.written m 0) C)
      (λ i h. sector_elsewhere B t.sectors (k * C + n) s hs append_fits (m * C + i) (apart i (omega arith) (dec_lt m k))))))
    where
      -- sectors of two zones are never one
      apart : (i : ℕ) → i < g.capacity → Dec (m < cell g d z) → m * g.capacity + i ≢ cell g d z * g.capacity + get_or t.written (cell g d z) 0
      apart i h (yes l) e = omega (arith, mul-le-mul_right g.capacity l)
      apart i h (no l) e = let q : cell g d z < m = omega arith in omega (arith, mul-le-mul_right g.capacity q)

-- ---- reset
module _ (g : Geometry) (t : Tables) (w : WellSized g t) (d z : ℕ) (hd : d < g.drives) (hz : z < physical_zones g) where
  reset_own : zone_at_cell g (make_store g (reset d z) t) (cell g d z) ≡ blank_zone
  unfolding zone_at_cell pointers_after_reset
  reset_own =
      let k = cell g d z in
      let h : cell g d z < cells g = cell_in g d z hd hz in
      let e : min 0 g.capacity ≡ 0 = omega arith in
      rw (get_or-set_same t.written k 0 0 (rw w.written_long h), get_or-set_same t.durable k 0 0 (rw w.durable_long h), e) refl

  reset_other : (m : ℕ) → m ≢ cell g d z → zone_at_cell g (make_store g (reset d z) t) m ≡ zone_at_cell g t m
  unfolding zone_at_cell pointers_after_reset
  reset_other m ne = rw (get_or-set_other t.written (cell g d z) m 0 0 ne, get_or-set_other t.durable (cell g d z) m 0 0 ne) refl

-- a store at one place, from what it makes of that place's cell and of all others
store_is : (g : Geometry) (t u : Tables) (d z : ℕ) (x : ZoneView) → d < g.drives → z < physical_zones g
    → zone_at_cell g u (cell g d z) ≡ x → ((m : ℕ) → m ≢ cell g d z → zone_at_cell g u m ≡ zone_at_cell g t m)
    → device_of g u ≡ put_zone (device_of g t) d z x
store_is g t u d z x hd hz own other = fun_ext λ e. fun_ext λ y. go e y (in_or_out g e y) (at d z e y)
  where
    v : Device
    v = device_of g t

    far : (e y : ℕ) → y < physical_zones g → ltb e g.drives && ltb y (physical_zones g) ≡ true → ((e ≡ d) → (y ≡ z) → ⊥) → device_of g u e y ≡ device_of g t e y
    far e y r q n = device_inside g u e y q ∙ other (cell g e y) (λ p. n (cell_injective g d z e y hz r p).0 (cell_injective g d z e y hz r p).1) ∙ sym (device_inside g t e y q)

    go : (e y : ℕ) → In g e y → At d z e y → device_of g u e y ≡ put_zone (device_of g t) d z x e y
    go e y i (here p r) = rw (p, r, put_zone_same v d z x) (device_in_lem g u d z hd hz ∙ own)
    go e y (inside p r q) (other_drive n) = far e y r q (λ a b. n a) ∙ sym (put_zone_other_drive v d z x e y n)
    go e y (inside p r q) (other_zone a n) = far e y r q (λ a b. n b) ∙ sym (put_zone_other_zone v d z x e y n)
    go e y (outside q) (other_drive n) = device_outside g u e y q ∙ sym (device_outside g t e y q) ∙ sym (put_zone_other_drive v d z x e y n)
    go e y (outside q) (other_zone a n) = device_outside g u e y q ∙ sym (device_outside g t e y q) ∙ sym (put_zone_other_zone v d z x e y n)

-- ---- flush
module _ (g : Geometry) (t : Tables) (w : WellSized g t) (d : ℕ) (hd : d < g.drives) where
  row_long : length (take (physical_zones g) (drop (first_cell g d) t.written)) ≡ physical_zones g
  row_long = length-take-le (physical_zones g) (drop (first_cell g d) t.written) (rw (length-drop, w.written_long) (omega (arith, row_in g d hd)))

  row_fits : first_cell g d + length (take (physical_zones g) (drop (first_cell g d) t.written)) ≤ length t.durable
  row_fits = rw (row_long, w.durable_long) (row_in g d hd)

  -- the durable pointers of the drive are its written ones, and no others change
  pub flush_own : (y : ℕ) → y < physical_zones g → get_or (durable_after_flush g d t.written t.durable) (cell g d y) 0 ≡ get_or t.written (cell g d y) 0
  unfolding durable_after_flush
  flush_own y k =
      let p = take (physical_zones g) (drop (first_cell g d) t.written) in
      let q = zone_place g d y in
      let h : q < physical_zones g = place_in g d y k in
      overlay_inside t.durable (first_cell g d) p q row_fits (rw row_long h) ∙ get_or-take (physical_zones g) (drop (first_cell g d) t.written) q 0 h ∙ get_or-drop (first_cell g d) t.written q 0

  pub flush_other : (e y : ℕ) → y < physical_zones g → e ≢ d → get_or (durable_after_flush g d t.written t.durable) (cell g e y) 0 ≡ get_or t.durable (cell g e y) 0
  unfolding durable_after_flush
  flush_other e y q n = go (dec_lt e d)
    where
      go : Dec (e < d) → get_or (overlay t.durable (first_cell g d) (take (physical_zones g) (drop (first_cell g d) t.written))) (cell g e y) 0 ≡ get_or t.durable (cell g e y) 0
      go (yes k) = overlay_below t.durable (first_cell g d) (take (physical_zones g) (drop (first_cell g d) t.written)) (cell g e y) row_fits (omega (arith, place_in g e y q, mul-le-mul_right (physical_zones g) k))
      go (no k) =
          let m : d < e = omega arith in
          overlay_above t.durable (first_cell g d) (take (physical_zones g) (drop (first_cell g d) t.written)) (cell g e y) row_fits (omega (arith, row_long, mul-le-mul_right (physical_zones g) m))

  flush_is : device_of g (make_store g (flush d) t) ≡ apply (flush d) (device_of g t)
  flush_is = fun_ext λ e. fun_ext λ y. go e y (in_or_out g e y) (ℕ_discrete e d)
    where
      u : Tables
      u = make_store g (flush d) t

      there : (k : ℕ) → get_or (durable_after_flush g d t.written t.durable) k 0 ≡ get_or t.written k 0 → zone_at_cell g (make_store g (flush d) t) k ≡ flushed (zone_at_cell g t k)
      there k q = unfold zone_at_cell in rw (q, length_tabulate (λ i. sector_no g.sector t.sectors (k * g.capacity + i)) (min (get_or t.written k 0) g.capacity)) refl

      far : (k : ℕ) → get_or (durable_after_flush g d t.written t.durable) k 0 ≡ get_or t.durable k 0 → zone_at_cell g (make_store g (flush d) t) k ≡ zone_at_cell g t k
      far k q = unfold zone_at_cell in rw q refl

      go : (e y : ℕ) → In g e y → Dec (e ≡ d) → device_of g (make_store g (flush d) t) e y ≡ pick (eqb e d) (flushed (device_of g t e y)) (device_of g t e y)
      go e y (inside p q i) (yes r) = rw (eq-eqb e d r) (device_inside g u e y i ∙ there (cell g e y) (rw r (flush_own y q)) ∙ ap flushed (sym (device_inside g t e y i)))
      go e y (inside p q i) (no r) = rw (ne_eqb e d r) (device_inside g u e y i ∙ far (cell g e y) (flush_other e y q r) ∙ sym (device_inside g t e y i))
      go e y (outside i) (yes r) = rw (eq-eqb e d r) (device_outside g u e y i ∙ ap flushed (sym (device_outside g t e y i)))
      go e y (outside i) (no r) = rw (ne_eqb e d r) (device_outside g u e y i ∙ sym (device_outside g t e y i))

-- ---- every store, every list of stores
-- what `Fits` says of the device, on the tables
pub pointer_room : (g : Geometry) (t : Tables) (d z : ℕ) → d < g.drives → z < physical_zones g → length (device_of g t d z).sectors < g.capacity → get_or t.written (cell g d z) 0 < g.capacity
pointer_room g t d z hd hz h = omega (arith, device_length g t d z hd hz)

pub store_refines : (g : Geometry) (x : Store) (t : Tables) → WellSized g t → Fits g x (device_of g t) → device_of g (make_store g x t) ≡ apply x (device_of g t)
store_refines g (append d z s) t w f =
    let room = pointer_room g t d z f.0 f.1 f.3 in
    store_is g t (make_store g (append d z s) t) d z (appended s (device_of g t d z)) f.0 f.1
    (append_own g t w d z s f.0 f.1 f.2 room ∙ ap (appended s) (sym (device_in_lem g t d z f.0 f.1))) (append_other g t w d z s f.0 f.1 f.2 room)
store_refines g (reset d z) t w f = store_is g t (make_store g (reset d z) t) d z blank_zone f.0 f.1 (reset_own g t w d z f.0 f.1) (reset_other g t w d z f.0 f.1)
store_refines g (flush d) t w f = flush_is g t w d f

-- lengths stay as they are, whether an append has room or not
append_sized : (g : Geometry) (t : Tables) (d z : ℕ) (s : List ℕ) (b : Bool) → has_room g d z t.written ≡ b → WellSized g t → d < g.drives → z < physical_zones g → length s ≡ g.sector
    → WellSized g (pick b (record { sectors = sectors_after_append g d z s t.sectors t.written; written = written_after_append g d z t.written; durable = t.durable }) t)
unfolding sectors_after_append written_after_append
append_sized g t d z s false e w hd hz hs = w
append_sized g t d z s true e w hd hz hs =
    let n = get_or t.written (cell g d z) 0 in
    let room : n < g.capacity = ltb-true n g.capacity e in
    record {
      sectors_long = length_overlay t.sectors (byte_at g d z n) s (omega (arith, w.sectors_long, hs, sector_in g d z n hd hz room)) ∙ w.sectors_long;
      written_long = rw length-set w.written_long;
      durable_long = w.durable_long;
    }

pub store_sized : (g : Geometry) (x : Store) (t : Tables) → WellSized g t → Placed g x → WellSized g (make_store g x t)
unfolding pointers_after_reset durable_after_flush
store_sized g (append d z s) t w f = append_sized g t d z s (has_room g d z t.written) refl w f.0 f.1 f.2
store_sized g (reset d z) t w f = record { sectors_long = w.sectors_long; written_long = rw length-set w.written_long; durable_long = rw length-set w.durable_long }
store_sized g (flush d) t w f = record {
  sectors_long = w.sectors_long;
  written_long = w.written_long;
  durable_long = length_overlay t.durable (first_cell g d) (take (physical_zones g) (drop (first_cell g d) t.written)) (row_fits g t w d f) ∙ w.durable_long;
}

pub fits_placed : (g : Geometry) (x : Store) (v : Device) → Fits g x v → Placed g x
fits_placed g (append d z s) v f = (f.0, f.1, f.2)
fits_placed g (reset d z) v f = f
fits_placed g (flush d) v f = f

pub all_placed_append : (g : Geometry) (xs ys : List Store) → AllPlaced g xs → AllPlaced g ys → AllPlaced g (xs ++ ys)
all_placed_append g [] ys p q = q
all_placed_append g (x ∷ xs) ys p q = (p.0, all_placed_append g xs ys p.1 q)

-- the first k stores on the tables are the first k on the device
pub run_refines : (g : Geometry) (k : ℕ) (xs : List Store) (t : Tables) → WellSized g t → FitsAll g xs (device_of g t) → device_of g (run_stores g k xs t) ≡ apply_all (take k xs) (device_of g t)
run_refines g k [] t w f = rw take-nil refl
run_refines g zero (x ∷ xs) t w f = refl
run_refines g (suc k) (x ∷ xs) t w f =
    let e = store_refines g x t w f.0 in
    run_refines g k xs (make_store g x t) (store_sized g x t w (fits_placed g x (device_of g t) f.0)) (rw e f.1) ∙ ap (apply_all (take k xs)) e

pub run_sized : (g : Geometry) (k : ℕ) (xs : List Store) (t : Tables) → WellSized g t → AllPlaced g xs → WellSized g (run_stores g k xs t)
run_sized g k [] t w p = w
run_sized g zero (x ∷ xs) t w p = w
run_sized g (suc k) (x ∷ xs) t w p = run_sized g k xs (make_store g x t) (store_sized g x t w p.0) p.1

-- ---- cuts and losses
-- the first n sectors of a zone that is not the lost drive's
sectors_kept : (g : Geometry) (x : ℕ) (t u : Tables) → SectorsKept g x t u → (d z n : ℕ) → d < g.drives → z < physical_zones g → d ≢ x → n ≤ g.capacity
    → tabulate (λ i. sector_no g.sector u.sectors (cell g d z * g.capacity + i)) n ≡ tabulate (λ i. sector_no g.sector t.sectors (cell g d z * g.capacity + i)) n
sectors_kept g x t u s d z n hd hz ne h = tabulate_cong _ _ n (λ i k. s.sectors_same d z i hd hz (omega arith) ne)

cut_zone : (g : Geometry) (x : ℕ) (t u : Tables) → TablesCut g x t u → (d z : ℕ) → d < g.drives → z < physical_zones g → d ≢ x → ZoneCut (zone_at_cell g t (cell g d z)) (zone_at_cell g u (cell g d z))
unfolding zone_at_cell
cut_zone g x t u c d z hd hz n =
    let k = cell g d z in
    let f : ℕ → List ℕ = λ n. sector_no g.sector t.sectors (k * g.capacity + n) in
    let a = min (get_or u.written k 0) g.capacity in
    let b = min (get_or t.written k 0) g.capacity in
    let l : a ≤ b = omega (arith, c.most d z hd hz n) in
    record {
      kept = a;
      least = omega (arith, c.least d z hd hz n);
      most = rw (length_tabulate f b) l;
      is = rw (sectors_kept g x t u c.kept d z a hd hz n (omega arith), c.durable_is d z hd hz n, take_tabulate f b a l) refl;
    }

pub cut_refines : (g : Geometry) (x : ℕ) (t u : Tables) → TablesCut g x t u → Cut x (device_of g t) (device_of g u)
unfolding Cut
cut_refines g x t u c d z n = go (in_or_out g d z)
  where
    go : In g d z → ZoneCut (device_of g t d z) (device_of g u d z)
    go (inside p q i) = rw (device_inside g t d z i, device_inside g u d z i) (cut_zone g x t u c d z p q n)
    go (outside i) = rw (device_outside g t d z i, device_outside g u d z i) (record { kept = zero; least = zero-le; most = zero-le; is = refl })

loss_zone : (g : Geometry) (x : ℕ) (t u : Tables) → TablesLoss g x t u → (d z : ℕ) → d < g.drives → z < physical_zones g → d ≢ x → zone_at_cell g u (cell g d z) ≡ zone_at_cell g t (cell g d z)
unfolding zone_at_cell
loss_zone g x t u c d z hd hz n = rw (c.written_same d z hd hz n, c.durable_same d z hd hz n, sectors_kept g x t u c.kept d z (min (get_or t.written (cell g d z) 0) g.capacity) hd hz n (omega arith)) refl

pub loss_refines : (g : Geometry) (x : ℕ) (t u : Tables) → TablesLoss g x t u → Loss x (device_of g t) (device_of g u)
unfolding Loss
loss_refines g x t u c d z n = go (in_or_out g d z)
  where
    go : In g d z → device_of g u d z ≡ device_of g t d z
    go (inside p q i) = rw (device_inside g t d z i, device_inside g u d z i) (loss_zone g x t u c d z p q n)
    go (outside i) = rw (device_outside g t d z i, device_outside g u d z i) refl

-- tables of the same lengths have the lengths that the geometry gives
pub kept_sized : (g : Geometry) (x : ℕ) (t u : Tables) → SectorsKept g x t u → WellSized g t → WellSized g u
kept_sized g x t u s w = record { sectors_long = s.sectors_long ∙ w.sectors_long; written_long = s.written_long ∙ w.written_long; durable_long = s.durable_long ∙ w.durable_long }
