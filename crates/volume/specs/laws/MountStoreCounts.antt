-- "A count of 2^32 − 1 stops no call": the stores of an accepted mount are fewer than that, on any input.
use Rattle.std.specs.Prelude.{◌≡◌, ◌≢◌, false, ◌&&◌, ◌||◌, ltb, eqb}
use Rattle.std.proofs.Common.{sym, ◌∙◌}
use Rattle.std.proofs.Math.Path.{ap, subst}
use Rattle.std.proofs.Math.Bool.{Bool, true, not}
use Prim.Native.Nat.{ℕ, zero, ◌+◌, ◌-◌, ◌*◌, ◌^◌, ◌≤◌, ◌<◌}
use Rattle.std.proofs.Math.Nat.{le_refl}
use native.Mathlib.Omega.{arith}
use mathlib.Core.List.{List, [], ◌∷◌, ◌++◌, map}
use Rattle.std.proofs.Math.ListN.{length, length-append}
use Rattle.tables.specs.declared.Geometry.{Geometry}
use Rattle.tables.specs.meaning.Basics.{pick}
use Rattle.tables.specs.meaning.Below.{each_below, any_below}
use Rattle.tables.specs.laws.Below.{length_tabulate_from}
use Rattle.tables.specs.meaning.Lists.{concat, is_nil, any_of}
use Rattle.tables.specs.laws.Lists.{concat_append, length_map}
use Rattle.tables.specs.meaning.Geometry.{Valid, zone_sectors, physical_zones, data_zone}
use Rattle.tables.specs.meaning.Placement.{needed}
use Rattle.tables.specs.laws.Sizes.{needed_fits}
use Rattle.tables.specs.meaning.Drives.{no_drive}
use Rattle.tables.specs.meaning.Device.{Device, Store, reset, apply_all}
use Rattle.tables.specs.meaning.Through.{through, carry}
use Rattle.tables.specs.meaning.Phases.{on_present, flush_all}
use Rattle.tables.specs.meaning.Tables.{Tables, device_of}
use Rattle.tables.specs.laws.AppendCounts.{each_most, present_most, flushes_long}
use Rattle.logs.specs.meaning.Entry.{parity_zone, spare_zone, label, counters, zone_reset, seal, Entry}
use Rattle.logs.specs.meaning.Heads.{last_lost, is_seal_at, ends_at}
use Rattle.logs.specs.meaning.Walk.{sectors_of}
use Rattle.volume.specs.declared.State.{State}
use Rattle.volume.specs.declared.Answer.TheVariants.{Unfinished}
use Rattle.volume.specs.meaning.State.{is_empty, is_sealed}
use Rattle.volume.specs.meaning.Content.{content_at, inside_stripe, entry_at, parity_drive_at}
use Rattle.volume.specs.meaning.Rules.{Shown, general_heads, parity_entries, parity_ending}
use Rattle.volume.specs.meaning.Refusals.{accept, mount_full}
use Rattle.volume.specs.meaning.Roles.{placed_by}
use Rattle.volume.specs.meaning.Emptying.{by_look, spare_written, empty_parity}
use Rattle.volume.specs.meaning.Answers.{present_in, lost_drive_in}
use Rattle.volume.specs.meaning.Calls.{append_all, append_general, generations_from, logs_reset}
use Rattle.volume.specs.meaning.Mount.{spare_step, label_step, reset_entry_step, needs_reset, zone_reset_step, next_generation, counters_differ, counter_step, seal_step, missing_rows, torn_row_step, fill_step, entry_step}
use Rattle.volume.specs.meaning.Mount.{with_flush, with_flushes, steps_before_entries, mount_view, mount_look, start_roles, emptied_parity, middle_roles, end_roles, phases_before_entries, phases_of_parity_logs, phases_of_entries, after_fill, mount_stores}
use Rattle.volume.specs.meaning.CallContracts.{bad_place_on, storing_on, is_set, seen_in, verdict_number, mount_verdict, mount_stores_on, mount_shown_on, mount_on}
use Rattle.volume.specs.laws.FillStores.{missing, fill_zone}
use Rattle.volume.specs.laws.BadPlaces.{told_unfinished}
use Rattle.volume.specs.laws.PassedRows.{mount_passed, mount_number_accepts}
use Rattle.volume.specs.laws.CallAppends.{entry_long}
use Rattle.volume.specs.laws.MountAppends.{missing_most}
use Rattle.volume.specs.laws.LookPointers.{look_pointer}
use Rattle.volume.specs.laws.StoreCounts.{covered_ends, appends_long, pick_most, emptyings_few}
use Rattle.volume.specs.laws.CallStoresFit.{zone_short}
use Rattle.volume.specs.laws.SectorLengths.{LongDevice, tables_long}
use Rattle.volume.specs.laws.MountPlaced.{present_is_named}
use Rattle.volume.specs.laws.CarriedSteps.{concat_carried}
use Rattle.volume.specs.laws.MountLogsFit.{EG, NG, generals, new_general_fits}
use Rattle.volume.specs.laws.MountStoresFit.{carried, filled, NP, parities, new_parity_fits, s0, s1, s2, before_is, fill_is, mount_stores_are, not_full_here, mount_stores_fit}

-- the flush after a step
flush_most : (g : Geometry) (a : ℕ → Bool) (xs : List Store) → g.drives ≤ 8 → length (concat (with_flush g a xs)) ≤ length xs + 8
flush_most g a xs h =
    let flushes = pick (is_nil (on_present a xs)) [] (on_present a (flush_all g.drives)) in
    omega (arith, length-append (on_present a xs) (flushes ++ []), length-append flushes [], present_most a xs, some (is_nil (on_present a xs)))
  where
    some : (b : Bool) → length (pick b [] (on_present a (flush_all g.drives))) ≤ 8
    some true = omega arith
    some false = omega (arith, present_most a (flush_all g.drives), flushes_long g.drives)

flushes_most : (g : Geometry) (a : ℕ → Bool) (steps : List (List Store)) → g.drives ≤ 8 → length (concat (with_flushes g a steps)) ≤ length (concat steps) + length steps * 8
flushes_most g a [] h = omega arith
flushes_most g a (xs ∷ steps) h =
    let e : length (concat (with_flushes g a (xs ∷ steps))) ≡ length (concat (with_flush g a xs)) + length (concat (with_flushes g a steps)) = ap length (concat_append (with_flush g a xs) (with_flushes g a steps)) ∙ length-append (concat (with_flush g a xs)) (concat (with_flushes g a steps)) in
    omega (arith, e, flush_most g a xs h, flushes_most g a steps h, length-append xs (concat steps))

-- ---- each step (k: the mount's look)
module _ (g : Geometry) (ok : Valid g) (k : Shown) where
  -- one list for each drive and zone
  places_most : (f : ℕ → ℕ → List Store) (m : ℕ) → ((d z : ℕ) → length (f d z) ≤ m) → length (each_below (λ d. each_below (f d) g.zones) g.drives) ≤ 8 * (16 * m)
  places_most f m h = each_most (λ d. each_below (f d) g.zones) g.drives 8 (16 * m) ok.drives_most (λ d l. each_most (f d) g.zones 16 m ok.zones_most (λ z q. h d z))

  drives_most : (f : ℕ → List Store) (m : ℕ) → ((d : ℕ) → length (f d) ≤ m) → length (each_below f g.drives) ≤ 8 * m
  drives_most f m h = each_most f g.drives 8 m ok.drives_most (λ d l. h d)

  label_few : (x : ℕ) (w : Device) → length (label_step g x k w) ≤ 8 * 1
  unfolding label_step
  label_few x w = drives_most _ 1 (λ d. pick_most (ltb x g.drives && not (eqb (last_lost no_drive (general_heads g w d)) x)) (append_general g (label x k.array) d) 1 (le_refl 1))

  reset_entry_few : length (reset_entry_step g k) ≤ 8 * (16 * 1)
  unfolding reset_entry_step
  reset_entry_few = places_most (λ d z. pick ((k.zone z).by_reset && logs_reset g z d) (append_general g (zone_reset z (k.zone z).generation) d) []) 1 (λ d z. pick_most ((k.zone z).by_reset && logs_reset g z d) (append_general g (zone_reset z (k.zone z).generation) d) 1 (le_refl 1))

  zone_reset_few : length (zone_reset_step g k) ≤ 8 * (16 * 1)
  unfolding zone_reset_step
  zone_reset_few = places_most (λ d z. pick (needs_reset (k.zone z)) (reset d (data_zone z) ∷ []) []) 1 (λ d z. pick_most (needs_reset (k.zone z)) (reset d (data_zone z) ∷ []) 1 (le_refl 1))

  counter_few : (differ : Bool) → length (counter_step g k differ) ≤ 8 * 1
  unfolding counter_step
  counter_few differ =
      let cs = counters (generations_from (next_generation k) zero g.zones) in
      pick_most (any_below (λ z. is_empty (k.zone z).condition) g.zones || differ) (each_below (λ d. append_general g cs d) g.drives) (8 * 1) (drives_most (λ d. append_general g cs d) 1 (λ d. le_refl 1))

  seal_few : (w : Device) → length (seal_step g k w) ≤ 8 * (16 * 1)
  unfolding seal_step
  seal_few w = places_most seals 1 (λ d z. pick_most (is_sealed (k.zone z).condition && not (any_of (is_seal_at z (k.zone z).generation (k.zone z).pointer) (general_heads g w d))) (append_general g (seal z (k.zone z).pointer (k.zone z).generation) d) 1 (le_refl 1))
    where
      seals : ℕ → ℕ → List Store
      seals d z = pick (is_sealed (k.zone z).condition && not (any_of (is_seal_at z (k.zone z).generation (k.zone z).pointer) (general_heads g w d))) (append_general g (seal z (k.zone z).pointer (k.zone z).generation) d) []

  torn_few : (w : Device) → length (torn_row_step g k w) ≤ 8 * 16
  unfolding torn_row_step
  torn_few w = drives_most (λ d. append_all d parity_zone (missing_rows g k (parity_ending g w d))) 16 (λ d. omega (arith, appends_long d parity_zone (missing_rows g k (parity_ending g w d)), missing_most g k 0 0 (parity_ending g w d), ok.unit_most))

  fill_few : (w : Device) → ((z : ℕ) → (k.zone z).pointer ≤ zone_sectors g) → length (fill_step g k w) ≤ 8 * (16 * 65536)
  unfolding fill_step
  fill_few w h = places_most (fill_zone g k w) 65536 (λ d z.
      let here = length (w d (data_zone z)).sectors in
      let n = needed g.drives g.unit z (k.zone z).pointer d in
      omega (arith, appends_long d (data_zone z) (missing g k w d z), length_tabulate_from (content_at g.drives g.unit z (k.zone z).value d) here (n - here), needed_fits g ok z (k.zone z).pointer d (h z), ok.zone_most))

  entry_few : (u : Device) → length (entry_step g k u) ≤ 8 * (16 * 17)
  unfolding entry_step
  entry_few u = places_most (λ d z. pick (due d z) (entry d z) []) 17 (λ d z. pick_most (due d z) (entry d z) 17 (long d z))
    where
      due : ℕ → ℕ → Bool
      due d z = inside_stripe g (k.zone z).pointer && (eqb d (parity_drive_at g z (k.zone z).pointer) && not (any_of (λ (e : Entry). ends_at g z (k.zone z).generation (k.zone z).pointer e.head) (parity_entries g u d)))

      entry : ℕ → ℕ → List Store
      entry d z = append_all d parity_zone (sectors_of g d true (entry_at g z (k.zone z).generation (k.zone z).value (k.zone z).pointer))

      long : (d z : ℕ) → length (entry d z) ≤ 17
      long d z = omega (arith, appends_long d parity_zone (sectors_of g d true (entry_at g z (k.zone z).generation (k.zone z).value (k.zone z).pointer)), entry_long g d z (k.zone z).generation (k.zone z).value (k.zone z).pointer, ok.unit_most)

  -- ---- all of them
  steps_few : (present : ℕ → Bool) (x : ℕ) (w : Device) → ((z : ℕ) → (k.zone z).pointer ≤ zone_sectors g) → length (concat (steps_before_entries g present x k w)) ≤ 8389136
  steps_few present x w h =
      let s1 = label_step g x k w in
      let s2 = reset_entry_step g k in
      let s3 = zone_reset_step g k in
      let s4 = counter_step g k (counters_differ g present w) in
      let s5 = seal_step g k w in
      let s6 = torn_row_step g k w in
      let s7 = fill_step g k w in
      omega (
        arith,
        length-append s1 (s2 ++ (s3 ++ (s4 ++ (s5 ++ (s6 ++ (s7 ++ [])))))),
        length-append s2 (s3 ++ (s4 ++ (s5 ++ (s6 ++ (s7 ++ []))))),
        length-append s3 (s4 ++ (s5 ++ (s6 ++ (s7 ++ [])))),
        length-append s4 (s5 ++ (s6 ++ (s7 ++ []))),
        length-append s5 (s6 ++ (s7 ++ [])),
        length-append s6 (s7 ++ []),
        length-append s7 [],
        label_few x w,
        reset_entry_few,
        zone_reset_few,
        counter_few (counters_differ g present w),
        seal_few w,
        torn_few w,
        fill_few w h,
      )

  spare_few : (w : Device) → length (spare_step g w) ≤ 8 * 1
  unfolding spare_step
  spare_few w = drives_most (λ d. pick (spare_written w d) (reset d spare_zone ∷ []) []) 1 (λ d. pick_most (spare_written w d) (reset d spare_zone ∷ []) 1 (le_refl 1))

-- ---- the mount of v (refusal 14 asked of its look)
module _ (g : Geometry) (ok : Valid g) (present : ℕ → Bool) (x : ℕ) (v : Device) (longs : LongDevice g.sector v) (below : (d : ℕ) → present d ≡ true → d < g.drives)
    (short : (d y : ℕ) → present d ≡ true → y < physical_zones g → length (v d y).sectors ≤ g.capacity)
    (full : mount_full g present (start_roles g present x v) (by_look (mount_look g present x v)) (mount_view g present x v) ≡ false) where
  abbrev k : Shown
  k = mount_look g present x v

  before_few : length (concat (phases_before_entries g present x v)) ≤ 8913648
  before_few =
      let R = start_roles g present x v in
      let M = middle_roles g present x v in
      let steps = steps_before_entries g present x k (mount_view g present x v) in
      let resets = map (carry (placed_by R)) (spare_step g (mount_view g present x v)) in
      let general = generals g ok present x v longs below short full in
      let own = concat (with_flushes g present steps) in
      let a = s0 g ok present x v longs below short full in
      let b = s1 g ok present x v longs below short full in
      let c = s2 g ok present x v longs below short full in
      let d = carried g ok present x v longs below short full in
      omega (
        arith,
        ap (λ (xs : List Store). length xs) (before_is g ok present x v longs below short full),
        length-append (a ++ (b ++ c)) d,
        length-append a (b ++ c),
        length-append b c,
        present_most present (flush_all g.drives),
        flushes_long g.drives,
        ok.drives_most,
        flush_most g present resets ok.drives_most,
        length_map (carry (placed_by R)) (spare_step g (mount_view g present x v)),
        spare_few g ok k (mount_view g present x v),
        flush_most g present general ok.drives_most,
        emptyings_few g present false R (EG g ok present x v longs below short full) (NG g ok present x v longs below short full) ok.drives_most (λ d e. omega (arith, new_general_fits g ok present x v longs below short full d e, ok.zone_most)),
        length_map (carry (placed_by M)) own,
        flushes_most g present steps ok.drives_most,
        steps_few g ok k present x (mount_view g present x v) (look_pointer g present x v),
      )

  parity_few : (u : Device) → u ≡ filled g ok present x v longs below short full → length (concat (phases_of_parity_logs g present x v u)) ≤ 524432
  unfolding phases_of_parity_logs empty_parity
  parity_few u e =
      let logs = parities g ok present x v longs below short full in
      subst (λ (w : Device). length (concat (with_flush g present (empty_parity g present (middle_roles g present x v) (by_look k) (emptied_parity g present x v) (through (placed_by (middle_roles g present x v)) w)))) ≤ 524432) (sym e) (
      omega (
        arith,
        flush_most g present logs ok.drives_most,
        emptyings_few g present true (middle_roles g present x v) (emptied_parity g present x v) (NP g ok present x v longs below short full) ok.drives_most (λ d e. omega (arith, new_parity_fits g ok present x v longs below short full d e, ok.zone_most)),
      ))

  entries_few : (u : Device) → length (concat (phases_of_entries g present x v u)) ≤ 2184
  unfolding phases_of_entries
  entries_few u =
      let ρ = placed_by (end_roles g present x v) in
      let last = entry_step g k (through ρ u) in
      omega (
        arith,
        ap (λ (xs : List Store). length xs) (concat_carried ρ (with_flush g present last)),
        length_map (carry ρ) (concat (with_flush g present last)),
        flush_most g present last ok.drives_most,
        entry_few g ok k (through ρ u),
      )

  pub stores_few : length (mount_stores g present x v) ≤ 9440264
  unfolding mount_stores
  stores_few =
      let b = concat (phases_before_entries g present x v) in
      let a = after_fill g present x v in
      let p = concat (phases_of_parity_logs g present x v a) in
      let q = concat (phases_of_entries g present x v (apply_all p a)) in
      omega (arith, length-append b (p ++ q), length-append p q, before_few, parity_few a (fill_is g ok present x v longs below short full), entries_few (apply_all p a))

-- ---- the call
pub mount_few : (g : Geometry) (named : List Bool) (t : Tables) → mount_verdict g named t ≡ accept → length (mount_stores_on g (present_in g (is_set named) (device_of g t)) (lost_drive_in g (is_set named) (device_of g t)) t) ≤ 9440264
mount_few g named t e =
    let q = mount_passed g named t e in
    let v = device_of g t in
    let present = present_in g (is_set named) v in
    let x = lost_drive_in g (is_set named) v in
    let within : (d : ℕ) → present d ≡ true → d < g.drives = λ d h. (present_is_named g (is_set named) (seen_in g t) d h).0 in
    rw (mount_stores_are g present x t q.tables.sized (mount_stores_fit g named t e)) (
    stores_few g q.tables.valid present x v (tables_long g t q.tables.sized) within (λ d y p hy. zone_short g t d y (within d p) hy) (not_full_here g named t e))

pub mount_ends : (g : Geometry) (named : List Bool) (old : State) (t : Tables) → (mount_on g named old (2 ^ 32 - 1) t).outcome.answer ≢ Unfinished
unfolding mount_on
mount_ends g named old t e =
    let present = present_in g (is_set named) (device_of g t) in
    let x = lost_drive_in g (is_set named) (device_of g t) in
    let n = verdict_number (mount_verdict g named t) in
    covered_ends g n (mount_stores_on g present x t) (mount_shown_on g present x t) old (2 ^ 32 - 1) t (λ z. omega (arith, mount_few g named t (mount_number_accepts g named t z)))
    (told_unfinished (bad_place_on g named t) (storing_on g n (mount_stores_on g present x t) (mount_shown_on g present x t) old (2 ^ 32 - 1) t).outcome.answer e)
