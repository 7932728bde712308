-- How many sectors the stores of a mount append to each zone, by its look k: to a general log at most a label, a reset entry or a seal for each zone, and
-- counters; to a parity log the rows that a torn entry lacks and an entry for each zone; to a zone what its pointer needs and it has not.
use Rattle.std.specs.Prelude.{◌≡◌, refl, ◌≢◌, true, false, ◌&&◌, ◌||◌, ltb, eqb}
use Rattle.std.proofs.Common.{ap, ◌∙◌, true≢false, le_refl, arith, eq-eqb, ne_eqb}
use Rattle.std.proofs.Math.Bool.{Bool, not}
use Prim.Native.Nat.{ℕ, zero, ◌+◌, ◌-◌, ◌*◌, ◌≤◌, ◌<◌, min}
use Rattle.std.proofs.Math.Decide.{ℕ_discrete}
use mathlib.Core.List.{List, [], ◌∷◌, ◌++◌}
use Rattle.std.proofs.Math.ListN.{length}
use Rattle.tables.specs.declared.Geometry.{Geometry}
use Rattle.tables.specs.meaning.Basics.{pick}
use Rattle.tables.specs.laws.Basics.{eqb_same}
use Rattle.tables.specs.meaning.Below.{each_below, any_below}
use Rattle.tables.specs.laws.Below.{length_tabulate_from}
use Rattle.tables.specs.meaning.Lists.{concat, is_nil, any_of}
use Rattle.tables.specs.laws.Lists.{concat_append}
use Rattle.tables.specs.meaning.Geometry.{data_zone}
use Rattle.tables.specs.meaning.Placement.{needed}
use Rattle.tables.specs.meaning.Drives.{no_drive}
use Rattle.tables.specs.meaning.Device.{Device, Store, reset}
use Rattle.tables.specs.meaning.Phases.{on_present, flush_all}
use Rattle.logs.specs.meaning.Entry.{parity_zone, label, counters, zone_reset, seal, closing, partial_parity, Entry}
use Rattle.logs.specs.meaning.Heads.{last_lost, is_seal_at, ends_at}
use Rattle.logs.specs.meaning.Walk.{Ending, at_pointer, no_entry, torn, sectors_of}
use Rattle.volume.specs.meaning.State.{is_empty, is_sealed}
use Rattle.volume.specs.meaning.Content.{content_at, inside_stripe, entry_at, parity_drive_at}
use Rattle.volume.specs.meaning.Rules.{Shown, general_heads, parity_entries, parity_ending}
use Rattle.volume.specs.meaning.Calls.{append_all, append_general, generations_from, logs_reset}
use Rattle.volume.specs.meaning.Mount.{label_step, reset_entry_step, needs_reset, zone_reset_step, next_generation, counter_step, seal_step, row_for, missing_rows, torn_row_step, fill_step, entry_step, with_flush, with_flushes}
use Rattle.volume.specs.laws.FillStores.{missing, fill_zone}
use Rattle.tables.specs.laws.AppendCounts.{appends_to, appends_append, appends_present, appends_flushes, appends_pick, appends_each, appends_one, appends_both, appends_zones}
use Rattle.volume.specs.laws.CallAppends.{in_general, appends_general, appends_general_pick, appends_all, appends_all_most, appends_elsewhere, entry_long}

-- ---- flushes after steps append nothing
pub step_appends : (g : Geometry) (a : ℕ → Bool) (d y : ℕ) (xs : List Store) → appends_to d y (concat (with_flush g a xs)) ≤ appends_to d y xs
step_appends g a d y xs =
    let flushes = pick (is_nil (on_present a xs)) [] (on_present a (flush_all g.drives)) in
    omega (arith, appends_append d y (on_present a xs) (flushes ++ []), appends_append d y flushes [], appends_present a d y xs, none (is_nil (on_present a xs)))
  where
    none : (b : Bool) → appends_to d y (pick b [] (on_present a (flush_all g.drives))) ≤ 0
    none true = le_refl 0
    none false = omega (arith, appends_present a d y (flush_all g.drives), appends_flushes d y g.drives)

pub steps_append : (g : Geometry) (a : ℕ → Bool) (d y : ℕ) (steps : List (List Store)) → appends_to d y (concat (with_flushes g a steps)) ≤ appends_to d y (concat steps)
steps_append g a d y [] = le_refl 0
steps_append g a d y (xs ∷ steps) =
    let e : appends_to d y (concat (with_flushes g a (xs ∷ steps))) ≡ appends_to d y (concat (with_flush g a xs)) + appends_to d y (concat (with_flushes g a steps)) = ap (appends_to d y) (concat_append (with_flush g a xs) (with_flushes g a steps)) ∙ appends_append d y (concat (with_flush g a xs)) (concat (with_flushes g a steps)) in
    omega (arith, e, step_appends g a d y xs, steps_append g a d y steps, appends_append d y xs (concat steps))

module _ (g : Geometry) (k : Shown) (d y : ℕ) where
  -- ---- the general log
  pub label_appends : (x : ℕ) (w : Device) → appends_to d y (label_step g x k w) ≤ in_general y
  unfolding label_step
  label_appends x w = appends_one d y d _ g.drives (in_general y) (λ e l. appends_general_pick g (ltb x g.drives && not (eqb (last_lost no_drive (general_heads g w e)) x)) (label x k.array) d y e)

  pub counter_appends : (differ : Bool) → appends_to d y (counter_step g k differ) ≤ in_general y
  unfolding counter_step
  counter_appends differ =
      let cs = counters (generations_from (next_generation k) zero g.zones) in
      appends_pick d y (in_general y) (any_below (λ z. is_empty (k.zone z).condition) g.zones || differ) (each_below (λ e. append_general g cs e) g.drives)
      (appends_one d y d (λ e. append_general g cs e) g.drives (in_general y) (λ e l. appends_general g cs d y e))

  -- a zone gets a reset entry or a seal, not both
  pub header_appends : (w : Device) → ((z : ℕ) → z < g.zones → (k.zone z).by_reset ≡ true → is_sealed (k.zone z).condition ≡ false) → appends_to d y (reset_entry_step g k) + appends_to d y (seal_step g k w) ≤ g.zones * in_general y
  unfolding reset_entry_step seal_step
  header_appends w apart = omega (arith, appends_both d y (λ e. each_below (resets e) g.zones) (λ e. each_below (seals e) g.zones) g.drives, appends_one d y d both g.drives (g.zones * in_general y) (λ e l. each e))
    where
      resets : ℕ → ℕ → List Store
      resets e z = pick ((k.zone z).by_reset && logs_reset g z e) (append_general g (zone_reset z (k.zone z).generation) e) []

      seals : ℕ → ℕ → List Store
      seals e z = pick (is_sealed (k.zone z).condition && not (any_of (is_seal_at z (k.zone z).generation (k.zone z).pointer) (general_heads g w e))) (append_general g (seal z (k.zone z).pointer (k.zone z).generation) e) []

      both : ℕ → List Store
      both e = each_below (resets e) g.zones ++ each_below (seals e) g.zones

      none_twice : (e z : ℕ) (b c p q : Bool) → (b ≡ true → c ≡ false)
          → appends_to d y (pick (b && p) (append_general g (zone_reset z (k.zone z).generation) e) [] ++ pick (c && q) (append_general g (seal z (k.zone z).pointer (k.zone z).generation) e) []) ≤ pick (eqb d e) (in_general y) 0
      none_twice e z true true p q h = absurd (true≢false (h refl))
      none_twice e z true false p q h =
          omega (arith, appends_append d y (pick p (append_general g (zone_reset z (k.zone z).generation) e) []) [], appends_general_pick g p (zone_reset z (k.zone z).generation) d y e)
      none_twice e z false true p q h = appends_general_pick g q (seal z (k.zone z).pointer (k.zone z).generation) d y e
      none_twice e z false false p q h = omega arith

      each : (e : ℕ) → appends_to d y (both e) ≤ pick (eqb d e) (g.zones * in_general y) 0
      each e =
          let zones = appends_zones d y (λ z. resets e z ++ seals e z) g.zones e (in_general y) (λ z l.
          none_twice e z (k.zone z).by_reset (is_sealed (k.zone z).condition) (logs_reset g z e) (not (any_of (is_seal_at z (k.zone z).generation (k.zone z).pointer) (general_heads g w e))) (apart z l)) in
          omega (arith, zones, appends_append d y (each_below (resets e) g.zones) (each_below (seals e) g.zones), appends_both d y (resets e) (seals e) g.zones)

  pub zone_reset_appends : appends_to d y (zone_reset_step g k) ≤ 0
  unfolding zone_reset_step
  zone_reset_appends =
      let zones : ℕ → List Store = λ e. each_below (λ z. pick (needs_reset (k.zone z)) (reset e (data_zone z) ∷ []) []) g.zones in
      let none : (e : ℕ) → appends_to d y (zones e) ≤ 0 = λ e. omega (arith, appends_each d y (λ z. pick (needs_reset (k.zone z)) (reset e (data_zone z) ∷ []) []) g.zones 0 (λ z l. appends_pick d y 0 (needs_reset (k.zone z)) (reset e (data_zone z) ∷ []) (le_refl 0))) in
      omega (arith, appends_each d y zones g.drives 0 (λ e l. none e))

  -- ---- the parity log: in it m sectors, elsewhere none
  abbrev in_parity : ℕ → ℕ
  in_parity m = pick (eqb y parity_zone) m 0

  parity_most : (e m : ℕ) (ss : List (List ℕ)) → length ss ≤ m → appends_to d y (append_all e parity_zone ss) ≤ pick (eqb d e) (in_parity m) 0
  parity_most e m ss h = rw (appends_all d y e parity_zone ss) (go (eqb d e) (eqb y parity_zone))
    where
      go : (b c : Bool) → pick (b && c) (length ss) 0 ≤ pick b (pick c m 0) 0
      go true true = h
      go true false = le_refl 0
      go false c = le_refl 0

  pub missing_most : (l : Ending) → length (missing_rows g k l) ≤ g.unit
  missing_most at_pointer = omega arith
  missing_most (no_entry f) = omega arith
  missing_most (torn (label x a) rs) = omega arith
  missing_most (torn (counters cs) rs) = omega arith
  missing_most (torn (zone_reset z n) rs) = omega arith
  missing_most (torn (partial_parity z s f n) rs) = omega (arith, length_tabulate_from (row_for g (k.zone z) s f n) (length rs) (min f g.unit - length rs))
  missing_most (torn (seal z p n) rs) = omega arith
  missing_most (torn (closing kind gen) rs) = omega arith

  pub torn_appends : (w : Device) → appends_to d y (torn_row_step g k w) ≤ in_parity g.unit
  unfolding torn_row_step
  torn_appends w =
      appends_one d y d (λ e. append_all e parity_zone (missing_rows g k (parity_ending g w e))) g.drives (in_parity g.unit) (λ e l. parity_most e g.unit (missing_rows g k (parity_ending g w e)) (missing_most (parity_ending g w e)))

  pub entry_appends : (u : Device) → appends_to d y (entry_step g k u) ≤ g.zones * in_parity (1 + g.unit)
  unfolding entry_step
  entry_appends u = appends_one d y d (λ e. each_below (entry e) g.zones) g.drives (g.zones * in_parity (1 + g.unit)) (λ e l. appends_zones d y (entry e) g.zones e (in_parity (1 + g.unit)) (λ z h. one e z))
    where
      due : ℕ → ℕ → Bool
      due e z = inside_stripe g (k.zone z).pointer && (eqb e (parity_drive_at g z (k.zone z).pointer) && not (any_of (λ (h : Entry). ends_at g z (k.zone z).generation (k.zone z).pointer h.head) (parity_entries g u e)))

      sectors : ℕ → ℕ → List (List ℕ)
      sectors e z = sectors_of g e true (entry_at g z (k.zone z).generation (k.zone z).value (k.zone z).pointer)

      entry : ℕ → ℕ → List Store
      entry e z = pick (due e z) (append_all e parity_zone (sectors e z)) []

      one : (e z : ℕ) → appends_to d y (entry e z) ≤ pick (eqb d e) (in_parity (1 + g.unit)) 0
      one e z =
          appends_pick d y (pick (eqb d e) (in_parity (1 + g.unit)) 0) (due e z) (append_all e parity_zone (sectors e z))
          (parity_most e (1 + g.unit) (sectors e z) (omega (arith, entry_long g e z (k.zone z).generation (k.zone z).value (k.zone z).pointer)))

  -- ---- the zones: what the pointer needs and the zone has not
  abbrev pub lacking : Device → ℕ → ℕ
  lacking w z = needed g.drives g.unit z (k.zone z).pointer d - length (w d (data_zone z)).sectors

  fill_most : (w : Device) (e z : ℕ) → appends_to d y (fill_zone g k w e z) ≤ pick (eqb d e) (length (missing g k w e z)) 0
  fill_most w e z = appends_all_most d y e (data_zone z) (missing g k w e z)

  other_drive_lem : (w : Device) (e : ℕ) → d ≢ e → appends_to d y (each_below (fill_zone g k w e) g.zones) ≤ 0
  other_drive_lem w e n = omega (arith, appends_each d y (fill_zone g k w e) g.zones 0 (λ z l. rw (ne_eqb d e n) at (fill_most w e z)))

  -- in a zone that is none of the volume's, nothing
  pub fill_elsewhere : (w : Device) → ((z : ℕ) → z < g.zones → y ≢ data_zone z) → appends_to d y (fill_step g k w) ≤ 0
  unfolding fill_step
  fill_elsewhere w n =
      let none : (e : ℕ) → appends_to d y (each_below (fill_zone g k w e) g.zones) ≤ 0 = λ e. omega (arith, appends_each d y (fill_zone g k w e) g.zones 0 (λ z l. omega (arith, appends_elsewhere d y e (data_zone z) (missing g k w e z) (n z l)))) in
      omega (arith, appends_each d y (λ e. each_below (fill_zone g k w e) g.zones) g.drives 0 (λ e l. none e))

  pub fill_appends : (w : Device) (i : ℕ) → y ≡ data_zone i → appends_to d y (fill_step g k w) ≤ lacking w i
  unfolding fill_step
  fill_appends w i h = appends_one d y d (λ e. each_below (fill_zone g k w e) g.zones) g.drives (lacking w i) (λ e l. drive e (ℕ_discrete d e))
    where
      zone : (z : ℕ) → Dec (i ≡ z) → appends_to d y (fill_zone g k w d z) ≤ pick (eqb i z) (lacking w i) 0
      zone z (yes q) =
          let n : length (missing g k w d z) ≡ lacking w z = length_tabulate_from (content_at g.drives g.unit z (k.zone z).value d) (length (w d (data_zone z)).sectors) (lacking w z) in
          rw (eq-eqb i z q, q) (rw (eqb_same d, n) at (fill_most w d z))
      zone z (no q) = rw (ne_eqb i z q) (omega (arith, appends_elsewhere d y d (data_zone z) (missing g k w d z) (omega (arith, h, q))))

      drive : (e : ℕ) → Dec (d ≡ e) → appends_to d y (each_below (fill_zone g k w e) g.zones) ≤ pick (eqb d e) (lacking w i) 0
      drive e (yes q) = rw (← q, eqb_same d) (appends_one d y i (fill_zone g k w d) g.zones (lacking w i) (λ z l. zone z (ℕ_discrete i z)))
      drive e (no q) = rw (ne_eqb d e q) (other_drive_lem w e q)
