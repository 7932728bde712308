-- A look shows the same once general logs are emptied: by rules 1 to 6, whatever the logs held; and no refusal of a look answers otherwise.
use Rattle.std.specs.Prelude.{◌≡◌, refl, Bool, false, ◌&&◌, ◌||◌, leb}
use Rattle.std.proofs.Common.{sym, ◌∙◌, le_refl, le_trans, not-suc-le-zero, arith}
use Rattle.std.proofs.Math.Path.{ap}
use Rattle.std.proofs.Math.Bool.{true, not}
use Prim.Native.Nat.{ℕ, zero, suc, ◌≤◌, ◌<◌, min}
use Rattle.std.proofs.Math.Decide.{ℕ_discrete}
use mathlib.Core.List.{List, []}
use Rattle.std.proofs.Math.ListN.{length, get_or}
use Rattle.std.proofs.Math.Dec.{ltb, eqb}
use Rattle.tables.specs.meaning.Basics.{pick}
use Rattle.tables.specs.meaning.Below.{any_below, all_below, count_below}
use Rattle.tables.specs.meaning.Lists.{any_of}
use Rattle.tables.specs.meaning.Drives.{find_below, no_drive}
use Rattle.tables.specs.declared.Geometry.{Geometry}
use Rattle.tables.specs.meaning.Geometry.{zone_sectors, data_zone}
use Rattle.tables.specs.meaning.Placement.{needed}
use Rattle.tables.specs.meaning.Device.{Device}
use Rattle.logs.specs.meaning.Entry.{parity_zone, Entry}
use Rattle.logs.specs.meaning.Walk.{walk_log}
use Rattle.logs.specs.meaning.Heads.{ends_past, least_seal}
use Rattle.logs.specs.laws.HeadLaws.{least_seal_most, least_seal_below, least_seal_least}
use Rattle.volume.specs.meaning.Rules.{View, value_of, known_prefix, general_heads, general_ending, parity_entries, parity_ending, is_lost, is_present, generation_of, reset_seen, seal_limit_below, seal_limit, serving_entries, view_of, zone_view, value_at, pointer_at, seal_seen, ending_past, clean_at, condition_of, zone_at, zone_shown, showing}
use Rattle.volume.specs.meaning.Refusals.{two_lost, bad_labels, is_no_entry, bad_logs}
use Rattle.volume.specs.meaning.Roles.{Roles}
use Rattle.volume.specs.meaning.Emptying.{InForce}
use Rattle.volume.specs.laws.LookRows.{logs_end}
use Rattle.volume.specs.laws.EmptiedLogs.{Emptied, emptied_ending, kept_ending}
use Rattle.volume.specs.laws.EmptiedSays.{resets_alike, seals_alike, least_alike, lost_alike, labelled_alike, array_alike, generation_same}

-- ---- the limit of a zone's seals lies in the zone, and at or below every present drive's least seal
module _ (g : Geometry) (present : ℕ → Bool) (v : Device) (z n : ℕ) where
  limit_below_next : (d : ℕ) → seal_limit_below g present v z n (suc d) ≤ seal_limit_below g present v z n d
  limit_below_next d = go (present d)
    where
      go : (b : Bool) → pick b (least_seal z n (seal_limit_below g present v z n d) (general_heads g v d)) (seal_limit_below g present v z n d) ≤ seal_limit_below g present v z n d
      go true = least_seal_most z n (seal_limit_below g present v z n d) (general_heads g v d)
      go false = le_refl (seal_limit_below g present v z n d)

  limit_below_most : (d : ℕ) → seal_limit_below g present v z n d ≤ zone_sectors g
  limit_below_most zero = le_refl (zone_sectors g)
  limit_below_most (suc d) = le_trans (limit_below_next d) (limit_below_most d)

  least_mono : (q m d : ℕ) → q ≤ m → least_seal z n q (general_heads g v d) ≤ least_seal z n m (general_heads g v d)
  least_mono q m d l = least_seal_least z n m (least_seal z n q (general_heads g v d)) (general_heads g v d) (omega (arith, l, least_seal_most z n q (general_heads g v d))) (λ c k. least_seal_below z n q (general_heads g v d) c k)

  limit_below_own : (m d : ℕ) → d < m → present d ≡ true → seal_limit_below g present v z n m ≤ least_seal z n (zone_sectors g) (general_heads g v d)
  limit_below_own zero d l p = absurd (not-suc-le-zero l)
  limit_below_own (suc m) d l p = go (ℕ_discrete d m) (λ k. limit_below_own m d k p)
    where
      go : Dec (d ≡ m) → (d < m → seal_limit_below g present v z n m ≤ least_seal z n (zone_sectors g) (general_heads g v d)) → seal_limit_below g present v z n (suc m) ≤ least_seal z n (zone_sectors g) (general_heads g v d)
      go (yes e) ih = rw (← e, p) (least_mono (seal_limit_below g present v z n d) (zone_sectors g) d (limit_below_most d))
      go (no e) ih = le_trans (limit_below_next m) (ih (omega arith))

  pub limit_own : (d : ℕ) → d < g.drives → present d ≡ true → seal_limit g present v z n ≤ least_seal z n (zone_sectors g) (general_heads g v d)
  unfolding seal_limit
  limit_own d l p = limit_below_own g.drives d l p

  -- so does the pointer
  pub pointer_own : (d : ℕ) → d < g.drives → present d ≡ true → pointer_at g present v z n ≤ least_seal z n (zone_sectors g) (general_heads g v d)
  unfolding pointer_at
  pointer_own d l p = go (reset_seen g present v z n)
    where
      k : ℕ
      k = known_prefix g.drives g.unit z (zone_view g present v z n) (zone_sectors g)

      go : (b : Bool) → pick b zero (min k (seal_limit g present v z n)) ≤ least_seal z n (zone_sectors g) (general_heads g v d)
      go true = omega arith
      go false = omega (arith, limit_own d l p)

module _ (g : Geometry) (present : ℕ → Bool) (f : InForce) (r : ℕ → Roles) (emptied : ℕ → Bool) (w w1 : Device) (k : Emptied g present f r emptied w w1) where
  abbrev now : ℕ → ℕ
  now z = generation_of g present w z

  -- ---- parity logs and data zones are untouched
  pub data_same : (d z : ℕ) → (w1 d (data_zone z)).sectors ≡ (w d (data_zone z)).sectors
  data_same d z = k.elsewhere d (data_zone z) (λ e. omega (arith, e)) (λ e. omega (arith, e))

  log_same : (d : ℕ) → (w1 d parity_zone).sectors ≡ (w d parity_zone).sectors
  log_same d = k.elsewhere d parity_zone (λ e. omega (arith, e)) (λ e. omega (arith, e))

  pub entries_same : (d : ℕ) → parity_entries g w1 d ≡ parity_entries g w d
  unfolding parity_entries
  entries_same d = ap (λ (ss : List (List ℕ)). (walk_log g d true ss).entries) (log_same d)

  pub parity_ending_same : (d : ℕ) → parity_ending g w1 d ≡ parity_ending g w d
  unfolding parity_ending
  parity_ending_same d = ap (λ (ss : List (List ℕ)). (walk_log g d true ss).last) (log_same d)

  -- ==== rule 1 (by any drives named)
  pub lost_same_lem : (named : ℕ → Bool) (d : ℕ) → is_lost g named w1 d ≡ is_lost g named w d
  unfolding is_lost
  lost_same_lem named d i = not (named d) || any_below (λ e. named e && (labelled_alike g present f r emptied w w1 k e i && eqb (lost_alike g present f r emptied w w1 k e no_drive i) d)) g.drives

  pub present_same : (named : ℕ → Bool) → is_present g named w1 ≡ is_present g named w
  unfolding is_present
  present_same named i d = ltb d g.drives && not (lost_same_lem named d i)

  pub two_lost_same : (named : ℕ → Bool) → two_lost g named w1 ≡ two_lost g named w
  unfolding two_lost
  two_lost_same named i = ltb 1 (count_below (λ d. lost_same_lem named d i) g.drives)

  -- ==== 5 and 6 (of any drives a)
  pub labels_same : (a : ℕ → Bool) → bad_labels g a w1 ≡ bad_labels g a w
  unfolding bad_labels
  labels_same a i =
      any_below (λ d. a d && (not (labelled_alike g present f r emptied w w1 k d i)
      || any_below (λ e. a e && not (eqb (array_alike g present f r emptied w w1 k d i) (array_alike g present f r emptied w w1 k e i))) g.drives)) g.drives

  -- an emptied log is no bad one, whatever it was; so 6 answers as before where none of them was
  pub general_ending_same : (d : ℕ) → (emptied d ≡ true → is_no_entry (general_ending g w d) ≡ false) → is_no_entry (general_ending g w1 d) ≡ is_no_entry (general_ending g w d)
  general_ending_same d h = go (emptied d) refl
    where
      go : (b : Bool) → emptied d ≡ b → is_no_entry (general_ending g w1 d) ≡ is_no_entry (general_ending g w d)
      go true e = ap is_no_entry (emptied_ending g present f r emptied w w1 k d e) ∙ sym (h e)
      go false e = ap is_no_entry (kept_ending g present f r emptied w w1 k d e)

  pub logs_same : (a : ℕ → Bool) → ((d : ℕ) → emptied d ≡ true → is_no_entry (general_ending g w d) ≡ false) → bad_logs g a w1 ≡ bad_logs g a w
  unfolding bad_logs
  logs_same a h i = any_below (λ d. a d && (general_ending_same d (h d) i || is_no_entry (parity_ending_same d i))) g.drives

  -- in particular where a look was not refused
  pub logs_kept : bad_logs g present w ≡ false → bad_logs g present w1 ≡ false
  logs_kept h = logs_same present (λ d e. (logs_end g present w h d (k.there d e).1 (k.there d e).0).0) ∙ h

  -- ==== rule 3
  pub reset_same : (z : ℕ) → reset_seen g present w1 z (now z) ≡ reset_seen g present w z (now z)
  unfolding reset_seen
  reset_same z i = any_below (λ d. present d && resets_alike g present f r emptied w w1 k d z i) g.drives

  -- ==== rule 4
  limit_below_same : (z d : ℕ) → seal_limit_below g present w1 z (now z) d ≡ seal_limit_below g present w z (now z) d
  limit_below_same z zero = refl
  limit_below_same z (suc d) =
      let q = seal_limit_below g present w z (now z) d in
      let p : seal_limit_below g present w1 z (now z) d ≡ q = limit_below_same z d in
      ap (λ (c : ℕ). pick (present d) (least_seal z (now z) c (general_heads g w1 d)) c) p
      ∙ ap (λ (c : ℕ). pick (present d) c q) (least_alike g present f r emptied w w1 k d z q (limit_below_most g present w z (now z) d))

  pub limit_same : (z : ℕ) → seal_limit g present w1 z (now z) ≡ seal_limit g present w z (now z)
  unfolding seal_limit
  limit_same z = limit_below_same z g.drives

  pub view_same : (z : ℕ) → zone_view g present w1 z (now z) ≡ zone_view g present w z (now z)
  unfolding zone_view view_of
  view_same z i = record {
    present = present;
    written = λ d. length (data_same d z i);
    sector_at = λ d x. get_or (data_same d z i) x [];
    entries = λ d. serving_entries g z (now z) (limit_same z i) (entries_same d i);
  }

  pub value_same : (z a : ℕ) → value_at g present w1 z (now z) a ≡ value_at g present w z (now z) a
  unfolding value_at
  value_same z a = ap (λ (u : View). value_of g.drives g.unit z u a) (view_same z)

  -- ==== rule 5
  pub pointer_same : (z : ℕ) → pointer_at g present w1 z (now z) ≡ pointer_at g present w z (now z)
  unfolding pointer_at
  pointer_same z i = pick (reset_same z i) zero (min (known_prefix g.drives g.unit z (view_same z i) (zone_sectors g)) (limit_same z i))

  -- ==== rule 6
  pub seal_seen_same : (z : ℕ) → seal_seen g present w1 z (now z) ≡ seal_seen g present w z (now z)
  unfolding seal_seen
  seal_seen_same z i = any_below (λ d. present d && seals_alike g present f r emptied w w1 k d z i) g.drives

  -- (of any generation and pointer)
  pub clean_same : (z n q : ℕ) → clean_at g present w1 z n q ≡ clean_at g present w z n q
  unfolding clean_at
  clean_same z n q i =
      all_below (λ d. not (present d) || (leb (length (data_same d z i)) (needed g.drives g.unit z q d)
      && (not (any_of (λ (e : Entry). ends_past g z n q e.head) (entries_same d i)) && not (ending_past g z n q (parity_ending_same d i))))) g.drives

  -- ==== ALL THAT IS SHOWN
  zone_at_same : (z : ℕ) → zone_at g present w1 z (now z) ≡ zone_at g present w z (now z)
  unfolding zone_at
  zone_at_same z i = record {
    generation = now z;
    condition = condition_of (now z) (pointer_same z i) (clean_same z (now z) (pointer_same z i) i) (seal_seen_same z i);
    pointer = pointer_same z i;
    value = λ a. value_same z a i;
    by_reset = reset_same z i;
    clean = clean_same z (now z) (pointer_same z i) i;
  }

  pub zone_same : (z : ℕ) → zone_shown g present w1 z ≡ zone_shown g present w z
  unfolding zone_shown
  zone_same z = ap (zone_at g present w1 z) (generation_same g present f r emptied w w1 k z) ∙ zone_at_same z

  -- THE LOOK IS THE SAME
  pub look_same : (x : ℕ) → showing g present x w1 ≡ showing g present x w
  unfolding showing
  look_same x i = record { lost = x; array = array_alike g present f r emptied w w1 k (find_below present g.drives) i; zone = λ z. zone_same z i }
