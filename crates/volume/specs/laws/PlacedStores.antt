-- The stores of format, reset and write have their place: a drive and zone of the geometry, and a sector of B bytes. (Mount: MountPlaced.)
use Rattle.std.specs.Prelude.{◌≡◌, refl, Bool, false, length, eqb}
use Rattle.std.proofs.Math.Bool.{true}
use Prim.Native.Nat.{ℕ, zero, suc, ◌+◌, ◌*◌, ◌%◌, ◌≤◌, ◌<◌, min}
use Rattle.std.proofs.Common.{le_refl, mul-le-mul_right, eqb-true}
use Rattle.std.proofs.Math.Decide.{dec_lt}
use native.Mathlib.Omega.{arith}
use mathlib.Core.List.{List, [], ◌∷◌, ◌++◌}
use Rattle.tables.specs.declared.Geometry.{Geometry}
use Rattle.tables.specs.meaning.Basics.{pick}
use Rattle.tables.specs.meaning.Below.{each_below, tabulate_from}
use Rattle.tables.specs.meaning.Geometry.{Valid, stripe_sectors, physical_zones, data_zone}
use Rattle.tables.specs.meaning.Placement.{stripe_of, stripe_length, parity_drive, address}
use Rattle.tables.specs.laws.Placement.{drive_below, parity_drive_below, unit_row_lt, stripe_below, stripe_above, address_sum}
use Rattle.tables.specs.meaning.Device.{Store, reset, store_drive}
use Rattle.tables.specs.meaning.Phases.{on_present, flush_all}
use Rattle.tables.specs.laws.Phases.{each_on_present_lem}
use Rattle.tables.specs.meaning.Lists.{concat}
use Rattle.tables.specs.laws.Made.{Placed, AllPlaced}
use Rattle.tables.specs.laws.TablesRefine.{all_placed_append}
use Rattle.logs.specs.meaning.Entry.{parity_zone, Header, label, counters, zone_reset, partial_parity}
use Rattle.logs.specs.meaning.Walk.{sectors_of}
use Rattle.volume.specs.meaning.State.{StateView}
use Rattle.volume.specs.meaning.Content.{row_xor, row_xor_below, inside_stripe, fill_of, entry_at, parity_drive_at}
use Rattle.volume.specs.meaning.Calls.{append_all, append_general, generations_from, parity_stores, sector_stores, data_stores, entry_stores, write_with, logs_reset, raised_at, reset_phases, reset_stores, format_phases, format_stores}
use Rattle.logs.specs.laws.Legal.{CountersFit, header_long}
use Rattle.volume.specs.laws.Counters.{generations_length}
use Rattle.volume.specs.laws.Content.{row_long, row_complete_lem, stripe_last}
use Rattle.tables.specs.laws.StoresFit.{placed_each, placed_present, placed_pick, placed_flushes, placed_concat}

-- ---- a header on a general log
pub placed_general : (g : Geometry) (h : Header) (d : ℕ) → Valid g → CountersFit g h → d < g.drives → AllPlaced g (append_general g h d)
placed_general g h d ok r hd = ((hd, omega arith, header_long g d h ok r), tt)

-- ---- sectors appended to one zone
abbrev pub AllLong : ℕ → List (List ℕ) → Type 0
AllLong B [] = Unit {0}
AllLong B (s ∷ ss) = (length s ≡ B) × AllLong B ss

pub placed_appends : (g : Geometry) (d y : ℕ) (ss : List (List ℕ)) → d < g.drives → y < physical_zones g → AllLong g.sector ss → AllPlaced g (append_all d y ss)
placed_appends g d y [] hd hy p = tt
placed_appends g d y (s ∷ ss) hd hy p = ((hd, hy, p.0), placed_appends g d y ss hd hy p.1)

-- ---- rows of sectors of B bytes
pub long_from : (B : ℕ) (f : ℕ → List ℕ) (i n : ℕ) → ((k : ℕ) → k < n → length (f (i + k)) ≡ B) → AllLong B (tabulate_from f i n)
long_from B f i zero h = tt
long_from B f i (suc n) h =
    let z : i + 0 ≡ i = omega arith in
    (rw z at (h 0 (omega arith)), long_from B f (suc i) n (λ k l. let q : suc i + k ≡ i + suc k = omega arith in rw q (h (suc k) (omega arith))))

-- ---- of a list from which the stores to absent drives are skipped, the stores on present drives need a place
abbrev pub PlacedOn : Geometry → (ℕ → Bool) → List Store → Type 0
PlacedOn g present [] = Unit {0}
PlacedOn g present (x ∷ xs) = (present (store_drive x) ≡ true → Placed g x) × PlacedOn g present xs

pub placed_on_present : (g : Geometry) (present : ℕ → Bool) (xs : List Store) → PlacedOn g present xs → AllPlaced g (on_present present xs)
placed_on_present g present [] p = tt
placed_on_present g present (x ∷ xs) p = go (present (store_drive x)) refl (placed_on_present g present xs p.1)
  where
    go : (b : Bool) → present (store_drive x) ≡ b → AllPlaced g (on_present present xs) → AllPlaced g (pick b (x ∷ on_present present xs) (on_present present xs))
    go true e q = (p.0 e, q)
    go false e q = q

module _ (g : Geometry) (present : ℕ → Bool) where
  placed_on_append : (xs ys : List Store) → PlacedOn g present xs → PlacedOn g present ys → PlacedOn g present (xs ++ ys)
  placed_on_append [] ys p q = q
  placed_on_append (x ∷ xs) ys p q = (p.0, placed_on_append xs ys p.1 q)

  placed_on_appends : (d y : ℕ) (ss : List (List ℕ)) → d < g.drives → y < physical_zones g → (present d ≡ true → AllLong g.sector ss) → PlacedOn g present (append_all d y ss)
  placed_on_appends d y [] hd hy p = tt
  placed_on_appends d y (s ∷ ss) hd hy p = (λ e. (hd, hy, (p e).0), placed_on_appends d y ss hd hy (λ e. (p e).1))

  placed_on_pick : (b : Bool) (xs : List Store) → (b ≡ true → PlacedOn g present xs) → PlacedOn g present (pick b xs [])
  placed_on_pick true xs p = p refl
  placed_on_pick false xs p = tt

-- ---- write: k sectors from n on. S is B bytes at every address written, and at the earlier ones of the first stripe where that stripe's parity drive is
-- present. What lies below is not asked: its stripes have their parity.
module _ (g : Geometry) (ok : Valid g) (present : ℕ → Bool) (z : ℕ) (hz : z < g.zones) (S : ℕ → List ℕ) (n k : ℕ) (new : (a : ℕ) → n ≤ a → a < n + k → length (S a) ≡ g.sector)
    (old : present (parity_drive_at g z n) ≡ true → (a : ℕ) → stripe_of g.drives g.unit n * stripe_sectors g ≤ a → a < n → length (S a) ≡ g.sector) where
  abbrev D : ℕ
  D = g.drives

  abbrev U : ℕ
  U = g.unit

  h_d : 1 < D
  h_d = omega (arith, ok.drives_least)

  -- a stripe that has n, or begins past it
  stripe_of_lem : (s : ℕ) → s * stripe_sectors g ≤ n → n < s * stripe_sectors g + stripe_sectors g → stripe_of D U n ≡ s
  stripe_of_lem s h l = go (dec_lt s (stripe_of D U n)) (dec_lt (stripe_of D U n) s)
    where
      go : Dec (s < stripe_of D U n) → Dec (stripe_of D U n < s) → stripe_of D U n ≡ s
      go (yes p) q = absurd (omega (arith, stripe_below D U z h_d ok.unit_least n, mul-le-mul_right (stripe_sectors g) p))
      go (no p) (yes q) = absurd (omega (arith, stripe_above D U z h_d ok.unit_least n, mul-le-mul_right (stripe_sectors g) q))
      go (no p) (no q) = omega arith

  -- all of a stripe that the write reaches is B bytes up to the write's end, if its parity drive is present
  stripe_long : (s : ℕ) → n < s * stripe_sectors g + stripe_sectors g → present (parity_drive D z s) ≡ true → (a : ℕ) → s * stripe_sectors g ≤ a → a < n + k → length (S a) ≡ g.sector
  stripe_long s reach here a h l = go (dec_lt a n)
    where
      go : Dec (a < n) → length (S a) ≡ g.sector
      go (no q) = new a (omega arith) l
      go (yes q) = let e = stripe_of_lem s (omega arith) reach in old (rw e here) a (rw e h) q

  -- a row of a complete stripe, and one of the entry at the end
  full_row_long : (s r : ℕ) → n < s * stripe_sectors g + stripe_sectors g → present (parity_drive D z s) ≡ true → r < U → suc s * stripe_sectors g ≤ n + k → length (row_xor D U S s r) ≡ g.sector
  full_row_long s r reach here hr h =
      let first : s * stripe_sectors g + r < suc s * stripe_sectors g = omega (arith, unit_row_lt D U 0 h_d ok.unit_least 0 r (omega arith) hr) in
      rw (← row_complete_lem D U h_d S s (suc s * stripe_sectors g) r ok.unit_least hr (le_refl (suc s * stripe_sectors g)))
      (row_long g ok S s (suc s * stripe_sectors g) r hr first (λ j hj l. stripe_long s reach here (address D U s j r) (omega (arith, address_sum D U s j r)) (omega arith)))

  entry_row_long : (r : ℕ) → present (parity_drive_at g z (n + k)) ≡ true → r < min (fill_of g (n + k)) U → length (row_xor_below D U S (stripe_of D U (n + k)) (n + k) r) ≡ g.sector
  entry_row_long r here hr =
      let s = stripe_of D U (n + k) in
      row_long g ok S s (n + k) r (omega arith) (omega arith) (λ j hj l. stripe_long s (omega (arith, stripe_above D U z h_d ok.unit_least (n + k))) here (address D U s j r) (omega (arith, address_sum D U s j r)) l)

  placed_parity : (s : ℕ) → n < s * stripe_sectors g + stripe_sectors g → suc s * stripe_sectors g ≤ n + k → PlacedOn g present (parity_stores D U z S s)
  placed_parity s reach h =
      placed_on_appends g present (parity_drive D z s) (data_zone z) (tabulate_from (row_xor D U S s) zero U) (parity_drive_below D U z h_d ok.unit_least s) (omega arith)
      (λ here. long_from g.sector (row_xor D U S s) zero U (λ r hr. let e : 0 + r ≡ r = omega arith in rw e (full_row_long s r reach here hr h)))

  placed_sector : (a : ℕ) → n ≤ a → a < n + k → PlacedOn g present (sector_stores D U z S a)
  placed_sector a l h = (λ e. (drive_below D U z h_d ok.unit_least a, omega arith, new a l h), placed_on_pick g present (eqb (suc (a % stripe_length D U)) (stripe_length D U)) (parity_stores D U z S (stripe_of D U a)) last)
    where
      last : eqb (suc (a % stripe_length D U)) (stripe_length D U) ≡ true → PlacedOn g present (parity_stores D U z S (stripe_of D U a))
      last e =
          let q = stripe_last g a (eqb-true (suc (a % stripe_length D U)) (stripe_length D U) e) in
          placed_parity (stripe_of D U a) (omega (arith, stripe_above D U z h_d ok.unit_least a)) (omega (arith, q))

  placed_data : (a m : ℕ) → n ≤ a → a + m ≤ n + k → PlacedOn g present (data_stores D U z S a m)
  placed_data a zero l h = tt
  placed_data a (suc m) l h = placed_on_append g present (sector_stores D U z S a) (data_stores D U z S (suc a) m) (placed_sector a l (omega arith)) (placed_data (suc a) m (omega arith) (omega arith))

  placed_entry : (generation : ℕ) → PlacedOn g present (entry_stores g z generation S (n + k))
  unfolding entry_at
  placed_entry generation =
      let p = parity_drive_at g z (n + k) in
      placed_on_appends g present p parity_zone (sectors_of g p true (entry_at g z generation S (n + k))) (parity_drive_below D U z h_d ok.unit_least (stripe_of D U (n + k))) (omega arith)
      (λ here. (header_long g p (partial_parity z (stripe_of D U (n + k)) (fill_of g (n + k)) generation) ok tt, long_from g.sector (row_xor_below D U S (stripe_of D U (n + k)) (n + k)) zero (min (fill_of g (n + k)) U) (λ r hr. let e : 0 + r ≡ r = omega arith in rw e (entry_row_long r here hr))))

  pub placed_write : (generation : ℕ) → AllPlaced g (on_present present (write_with g z generation S n k))
  unfolding write_with
  placed_write generation =
      let entry = pick (inside_stripe g (n + k)) (entry_stores g z generation S (n + k)) [] in
      placed_on_present g present (data_stores D U z S n k ++ entry) (placed_on_append g present (data_stores D U z S n k) entry (placed_data n k (le_refl n) (le_refl (n + k))) (placed_on_pick g present (inside_stripe g (n + k)) (entry_stores g z generation S (n + k)) (λ e. placed_entry generation)))

-- ---- reset and format
module _ (g : Geometry) (ok : Valid g) where
  placed_counters : (f : ℕ → ℕ) (d : ℕ) → d < g.drives → AllPlaced g (append_general g (counters (generations_from f zero g.zones)) d)
  placed_counters f d hd = placed_general g (counters (generations_from f zero g.zones)) d ok (generations_length f zero g.zones) hd

  pub reset_placed : (present : ℕ → Bool) (state : StateView) (z : ℕ) → z < g.zones → AllPlaced g (reset_stores g present state z)
  unfolding reset_stores
  reset_placed present state z hz =
      rw (each_on_present_lem present (reset_phases g state z)) (placed_present g present (concat (reset_phases g state z)) (placed_concat g (reset_phases g state z) (entries, (flushes, (resets, (flushes, (raised, (flushes, tt))))))))
    where
      flushes : AllPlaced g (flush_all g.drives)
      flushes = placed_flushes g g.drives (le_refl g.drives)

      entries : AllPlaced g (each_below (λ d. pick (logs_reset g z d) (append_general g (zone_reset z (state.generation z)) d) []) g.drives)
      entries = placed_each g (λ d. pick (logs_reset g z d) (append_general g (zone_reset z (state.generation z)) d) []) g.drives (λ d hd. placed_pick g (logs_reset g z d) (append_general g (zone_reset z (state.generation z)) d) (placed_general g (zone_reset z (state.generation z)) d ok tt hd))

      resets : AllPlaced g (each_below (λ d. reset d (data_zone z) ∷ []) g.drives)
      resets = placed_each g (λ d. reset d (data_zone z) ∷ []) g.drives (λ d hd. ((hd, omega arith), tt))

      raised : AllPlaced g (each_below (λ d. append_general g (counters (generations_from (raised_at state z) zero g.zones)) d) g.drives)
      raised = placed_each g (λ d. append_general g (counters (generations_from (raised_at state z) zero g.zones)) d) g.drives (λ d hd. placed_counters (raised_at state z) d hd)

  pub format_placed : (present : ℕ → Bool) (x a : ℕ) → AllPlaced g (format_stores g present x a)
  unfolding format_stores
  format_placed present x a = rw (each_on_present_lem present (format_phases g x a)) (placed_present g present (concat (format_phases g x a)) (placed_concat g (format_phases g x a) (resets, (flushes, (begins, (flushes, tt))))))
    where
      flushes : AllPlaced g (flush_all g.drives)
      flushes = placed_flushes g g.drives (le_refl g.drives)

      resets : AllPlaced g (each_below (λ d. each_below (λ y. reset d y ∷ []) (physical_zones g)) g.drives)
      resets = placed_each g (λ d. each_below (λ y. reset d y ∷ []) (physical_zones g)) g.drives (λ d hd. placed_each g (λ y. reset d y ∷ []) (physical_zones g) (λ y hy. ((hd, hy), tt)))

      begins : AllPlaced g (each_below (λ d. append_general g (label x a) d ++ append_general g (counters (generations_from (λ z. 1) zero g.zones)) d) g.drives)
      begins = placed_each g (λ d. append_general g (label x a) d ++ append_general g (counters (generations_from (λ z. 1) zero g.zones)) d) g.drives
          (λ d hd. all_placed_append g (append_general g (label x a) d) (append_general g (counters (generations_from (λ z. 1) zero g.zones)) d) (placed_general g (label x a) d ok tt hd) (placed_counters (λ z. 1) d hd))
