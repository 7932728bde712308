-- The stores of a mount's steps have their place, on any input, where what its look shows is sectors of B bytes (`look_values`); and they are on present drives.
use Rattle.std.specs.Prelude.{◌≡◌, refl, Bool, false, ◌&&◌, ◌||◌, List, [], ◌∷◌, ◌++◌, replicate, ltb, leb, eqb}
use Rattle.std.proofs.Common.{sym, ap, ◌∙◌, le_refl, mod-lt, arith, ltb-true, leb-true}
use Rattle.std.proofs.Math.Bool.{true, not}
use Prim.Native.Nat.{ℕ, zero, ◌+◌, ◌-◌, ◌*◌, ◌/◌, ◌%◌, ◌<◌, min}
use Rattle.std.proofs.Math.Decide.{ℕ_discrete}
use Rattle.std.proofs.Math.ListN.{length}
use Rattle.std.proofs.lemmas.List.{length-replicate}
use Rattle.tables.specs.declared.Geometry.{Geometry}
use Rattle.tables.specs.meaning.Basics.{pick}
use Rattle.tables.specs.laws.Basics.{and_split, or_none, not_true, not_not}
use Rattle.tables.specs.meaning.Below.{any_below, each_below, tabulate_from}
use Rattle.tables.specs.meaning.Geometry.{Valid, stripe_sectors, data_zone}
use Rattle.tables.specs.meaning.Placement.{needed, parity_drive, address, address_at}
use Rattle.tables.specs.meaning.Lists.{any_of, concat, is_nil}
use Rattle.tables.specs.laws.Lists.{concat_append}
use Rattle.tables.specs.meaning.Phases.{on_present, flush_all}
use Rattle.tables.specs.meaning.Device.{Device, Store, reset}
use Rattle.tables.specs.laws.Made.{AllPlaced}
use Rattle.tables.specs.laws.TablesRefine.{all_placed_append}
use Rattle.tables.specs.laws.StoresFit.{on_append, AllOn, on_present_on, placed_each, placed_pick, placed_present, placed_flushes, EachPlaced}
use Rattle.tables.specs.meaning.Drives.{no_drive}
use Rattle.logs.specs.meaning.Entry.{parity_zone, label, counters, zone_reset, partial_parity, seal, closing, Entry}
use Rattle.logs.specs.meaning.Walk.{Ending, at_pointer, no_entry, torn, sectors_of}
use Rattle.logs.specs.meaning.Heads.{last_lost, is_seal_at, ends_at}
use Rattle.volume.specs.meaning.State.{is_empty, is_sealed}
use Rattle.volume.specs.meaning.Content.{content_at, row_xor_below, inside_stripe, entry_at, parity_drive_at}
use Rattle.volume.specs.meaning.Rules.{Shown, is_lost, is_present, general_heads, parity_entries, parity_ending, generation_of, zone_at, zone_shown, showing}
use Rattle.volume.specs.meaning.Calls.{append_all, append_general, generations_from, logs_reset}
use Rattle.volume.specs.meaning.Mount.{label_step, reset_entry_step, needs_reset, zone_reset_step, next_generation, counters_differ, counter_step, seal_step, row_for, missing_rows, torn_row_step, fill_step, entry_step, with_flush, with_flushes, steps_before_entries}
use Rattle.volume.specs.laws.LookPointers.{below_known}
use Rattle.volume.specs.laws.FillStores.{row_all, content_parity, content_data, parity_complete, parity_first, data_below}
use Rattle.volume.specs.laws.Counters.{generations_length}
use Rattle.volume.specs.laws.Content.{row_long}
use Rattle.volume.specs.laws.PlacedStores.{AllLong, placed_general, placed_appends, long_from}
use Rattle.volume.specs.laws.SectorLengths.{LongDevice, known_value_long}
use Rattle.volume.specs.laws.CopyLengths.{entry_sectors_long}

-- ---- what a look shows is sectors
abbrev pub ShowsSectors : Geometry → Shown → Type 0
ShowsSectors g k = (z a : ℕ) → a < (k.zone z).pointer → length ((k.zone z).value a) ≡ g.sector

pub look_values : (g : Geometry) → Valid g → (present : ℕ → Bool) (x : ℕ) (w : Device) → LongDevice g.sector w → ShowsSectors g (showing g present x w)
unfolding showing zone_shown zone_at
look_values g ok present x w longs z a h = let n = generation_of g present w z in known_value_long g ok present w longs z n a (below_known g present w z n a h)

-- ---- the steps
module _ (g : Geometry) (ok : Valid g) (k : Shown) (values : ShowsSectors g k) where
  labels_placed : (x : ℕ) (w : Device) → AllPlaced g (label_step g x k w)
  unfolding label_step
  labels_placed x w = placed_each g _ g.drives (λ d hd. placed_pick g (ltb x g.drives && not (eqb (last_lost no_drive (general_heads g w d)) x)) (append_general g (label x k.array) d) (placed_general g (label x k.array) d ok tt hd))

  reset_entries_placed : AllPlaced g (reset_entry_step g k)
  unfolding reset_entry_step
  reset_entries_placed = placed_each g _ g.drives (λ d hd. placed_each g _ g.zones (λ z hz. placed_pick g ((k.zone z).by_reset && logs_reset g z d) (append_general g (zone_reset z (k.zone z).generation) d) (placed_general g (zone_reset z (k.zone z).generation) d ok tt hd)))

  zone_resets_placed : AllPlaced g (zone_reset_step g k)
  unfolding zone_reset_step
  zone_resets_placed = placed_each g _ g.drives (λ d hd. placed_each g _ g.zones (λ z hz. placed_pick g (needs_reset (k.zone z)) (reset d (data_zone z) ∷ []) ((hd, omega (arith, hz)), tt)))

  counters_placed : (differ : Bool) → AllPlaced g (counter_step g k differ)
  unfolding counter_step
  counters_placed differ =
      let cs = generations_from (next_generation k) zero g.zones in
      placed_pick g (any_below (λ z. is_empty (k.zone z).condition) g.zones || differ) (each_below (λ d. append_general g (counters cs) d) g.drives)
      (placed_each g (λ d. append_general g (counters cs) d) g.drives (λ d hd. placed_general g (counters cs) d ok (generations_length (next_generation k) zero g.zones) hd))

  seals_placed : (w : Device) → AllPlaced g (seal_step g k w)
  unfolding seal_step
  seals_placed w =
      placed_each g _ g.drives (λ d hd. placed_each g _ g.zones (λ z hz. placed_pick g (is_sealed (k.zone z).condition && not (any_of (is_seal_at z (k.zone z).generation (k.zone z).pointer) (general_heads g w d)))
      (append_general g (seal z (k.zone z).pointer (k.zone z).generation) d) (placed_general g (seal z (k.zone z).pointer (k.zone z).generation) d ok tt hd)))

  row_for_long : (z s f n r : ℕ) → r < min f g.unit → length (row_for g (k.zone z) s f n r) ≡ g.sector
  row_for_long z s f n r h = go (eqb n (k.zone z).generation && leb (s * stripe_sectors g + f) (k.zone z).pointer) refl
    where
      go : (b : Bool) → eqb n (k.zone z).generation && leb (s * stripe_sectors g + f) (k.zone z).pointer ≡ b
          → length (pick b (row_xor_below g.drives g.unit (k.zone z).value s (s * stripe_sectors g + f) r) (replicate g.sector 0)) ≡ g.sector
      go true q =
          let below = leb-true (s * stripe_sectors g + f) (k.zone z).pointer (and_split (eqb n (k.zone z).generation) (leb (s * stripe_sectors g + f) (k.zone z).pointer) q).1 in
          row_long g ok (k.zone z).value s (s * stripe_sectors g + f) r (omega (arith, h)) (omega (arith, h)) (λ j hj l. values z (address g.drives g.unit s j r) (omega (arith, l, below)))
      go false q = length-replicate {A = ℕ} g.sector 0

  missing_long : (l : Ending) → AllLong g.sector (missing_rows g k l)
  missing_long at_pointer = tt
  missing_long (no_entry f) = tt
  missing_long (torn (label x a) rs) = tt
  missing_long (torn (counters cs) rs) = tt
  missing_long (torn (zone_reset z n) rs) = tt
  missing_long (torn (partial_parity z s f n) rs) = long_from g.sector (row_for g (k.zone z) s f n) (length rs) (min f g.unit - length rs) (λ i h. row_for_long z s f n (length rs + i) (omega (arith, h)))
  missing_long (torn (seal z p n) rs) = tt
  missing_long (torn (closing kind gen) rs) = tt

  torn_placed : (w : Device) → AllPlaced g (torn_row_step g k w)
  unfolding torn_row_step
  torn_placed w = placed_each g _ g.drives (λ d hd. placed_appends g d parity_zone (missing_rows g k (parity_ending g w d)) hd (omega arith) (missing_long (parity_ending g w d)))

  content_long : (z d x : ℕ) → d < g.drives → x < needed g.drives g.unit z (k.zone z).pointer d → length (content_at g.drives g.unit z (k.zone z).value d x) ≡ g.sector
  content_long z d x hd h = go (ℕ_discrete d (parity_drive g.drives z (x / g.unit)))
    where
      two : 1 < g.drives
      two = omega (arith, ok.drives_least)

      go : Dec (d ≡ parity_drive g.drives z (x / g.unit)) → length (content_at g.drives g.unit z (k.zone z).value d x) ≡ g.sector
      go (yes e) =
          let c = parity_complete g.drives g.unit z two ok.unit_least (k.zone z).pointer d x h e in
          let r : x % g.unit < g.unit = mod-lt x ok.unit_least in
          ap (λ (l : List ℕ). length l) (content_parity g.drives g.unit z two ok.unit_least (k.zone z).value d x e ∙ sym (row_all g.drives g.unit z two ok.unit_least (k.zone z).value (k.zone z).pointer (x / g.unit) (x % g.unit) c r))
          ∙ row_long g ok (k.zone z).value (x / g.unit) (k.zone z).pointer (x % g.unit) r (parity_first g.drives g.unit z two ok.unit_least (k.zone z).pointer (x / g.unit) (x % g.unit) c r) (λ j hj l. values z (address g.drives g.unit (x / g.unit) j (x % g.unit)) l)
      go (no e) =
          ap (λ (l : List ℕ). length l) (content_data g.drives g.unit z two ok.unit_least (k.zone z).value d x e)
          ∙ values z (address_at g.drives g.unit z d x) (data_below g.drives g.unit z two ok.unit_least (k.zone z).pointer d x hd h e)

  fill_placed : (w : Device) → AllPlaced g (fill_step g k w)
  unfolding fill_step
  fill_placed w = placed_each g _ g.drives (λ d hd. placed_each g _ g.zones (λ z hz.
      let from = length (w d (data_zone z)).sectors in
      let many = needed g.drives g.unit z (k.zone z).pointer d - from in
      placed_appends g d (data_zone z) (tabulate_from (content_at g.drives g.unit z (k.zone z).value d) from many) hd (omega (arith, hz)) (long_from g.sector (content_at g.drives g.unit z (k.zone z).value d) from many (λ i h. content_long z d (from + i) hd (omega (arith, h))))))

  pub entries_placed : (u : Device) → AllPlaced g (entry_step g k u)
  unfolding entry_step
  entries_placed u = placed_each g _ g.drives (λ d hd. placed_each g _ g.zones (λ z hz.
      let rows = sectors_of g d true (entry_at g z (k.zone z).generation (k.zone z).value (k.zone z).pointer) in
      placed_pick g (inside_stripe g (k.zone z).pointer && (eqb d (parity_drive_at g z (k.zone z).pointer) && not (any_of (λ (e : Entry). ends_at g z (k.zone z).generation (k.zone z).pointer e.head) (parity_entries g u d))))
      (append_all d parity_zone rows) (placed_appends g d parity_zone rows hd (omega arith) (entry_sectors_long g ok d z (k.zone z).generation (k.zone z).value (k.zone z).pointer (λ a low h. values z a h)))))

  pub steps_placed : (present : ℕ → Bool) (x : ℕ) (w : Device) → EachPlaced g (steps_before_entries g present x k w)
  steps_placed present x w = (labels_placed x w, (reset_entries_placed, (zone_resets_placed, (counters_placed (counters_differ g present w), (seals_placed w, (torn_placed w, (fill_placed w, tt)))))))

-- ---- a step with its flush, and several
module _ (g : Geometry) (a : ℕ → Bool) where
  abbrev flush_after : List Store → List Store
  flush_after xs = pick (is_nil (on_present a xs)) [] (on_present a (flush_all g.drives))

  pub placed_step : (xs : List Store) → AllPlaced g xs → AllPlaced g (concat (with_flush g a xs))
  placed_step xs p = all_placed_append g (on_present a xs) (flush_after xs ++ []) (placed_present g a xs p) (all_placed_append g (flush_after xs) [] (go (is_nil (on_present a xs))) tt)
    where
      go : (b : Bool) → AllPlaced g (pick b [] (on_present a (flush_all g.drives)))
      go true = tt
      go false = placed_present g a (flush_all g.drives) (placed_flushes g g.drives (le_refl g.drives))

  pub placed_steps : (steps : List (List Store)) → EachPlaced g steps → AllPlaced g (concat (with_flushes g a steps))
  placed_steps [] p = tt
  placed_steps (xs ∷ steps) p = rw (concat_append (with_flush g a xs) (with_flushes g a steps)) (all_placed_append g (concat (with_flush g a xs)) (concat (with_flushes g a steps)) (placed_step xs p.0) (placed_steps steps p.1))

  pub on_step : (xs : List Store) → AllOn a (concat (with_flush g a xs))
  on_step xs = on_append a (on_present a xs) (flush_after xs ++ []) (on_present_on a xs) (on_append a (flush_after xs) [] (go (is_nil (on_present a xs))) tt)
    where
      go : (b : Bool) → AllOn a (pick b [] (on_present a (flush_all g.drives)))
      go true = tt
      go false = on_present_on a (flush_all g.drives)

  pub on_steps : (steps : List (List Store)) → AllOn a (concat (with_flushes g a steps))
  on_steps [] = tt
  on_steps (xs ∷ steps) = rw (concat_append (with_flush g a xs) (with_flushes g a steps)) (on_append a (concat (with_flush g a xs)) (concat (with_flushes g a steps)) (on_step xs) (on_steps steps))

-- a drive that a look finds present is one of the geometry's, and named
pub present_is_named : (g : Geometry) (named : ℕ → Bool) (v : Device) (d : ℕ) → is_present g named v d ≡ true → (d < g.drives) × (named d ≡ true)
unfolding is_present is_lost
present_is_named g named v d h =
    let (p, q) = and_split (ltb d g.drives) (not (is_lost g named v d)) h in
    let (a, b) = or_none (not (named d)) _ (not_true (is_lost g named v d) q) in
    (ltb-true d g.drives p, not_not (named d) a)
