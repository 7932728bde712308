-- The stores of a mount depend on the sectors of the present drives, and on nothing else of the device: of two devices that agree there, each step's stores
-- on present drives are the same.
use Rattle.std.specs.Prelude.{◌≡◌, refl, ◌⊎◌, true, ◌&&◌, length, ltb, eqb}
use Rattle.std.proofs.Common.{sym, ap₂, ◌∙◌, inl, inr}
use Rattle.std.proofs.Math.Path.{ap}
use Rattle.std.proofs.Math.Bool.{Bool, false, not}
use Prim.Native.Nat.{ℕ, zero, suc, ◌-◌, ◌<◌}
use mathlib.Core.List.{List, [], ◌∷◌, ◌++◌, map}
use Rattle.tables.specs.declared.Geometry.{Geometry}
use Rattle.tables.specs.meaning.Basics.{pick}
use Rattle.tables.specs.meaning.Below.{each_below, any_below, tabulate_from}
use Rattle.tables.specs.meaning.Lists.{any_of, is_nil}
use Rattle.tables.specs.meaning.LittleEndian.{same_bytes}
use Rattle.tables.specs.meaning.Geometry.{data_zone}
use Rattle.tables.specs.meaning.Placement.{needed}
use Rattle.tables.specs.meaning.Drives.{no_drive, find_below}
use Rattle.tables.specs.laws.Drives.{find_below_is}
use Rattle.tables.specs.meaning.Device.{Device, Store, store_drive}
use Rattle.tables.specs.meaning.Phases.{on_present, flush_all}
use Rattle.tables.specs.laws.Phases.{on_present_append}
use Rattle.logs.specs.meaning.Entry.{general_zone, parity_zone, label, seal, Header, Entry}
use Rattle.logs.specs.meaning.Heads.{array_in, last_lost, last_counters, is_seal_at, ends_at}
use Rattle.logs.specs.meaning.Walk.{walk_log, sectors_of}
use Rattle.volume.specs.meaning.State.{is_sealed}
use Rattle.volume.specs.meaning.Content.{content_at, inside_stripe, entry_at, parity_drive_at}
use Rattle.volume.specs.meaning.Rules.{Shown, showing, general_heads, parity_entries, parity_ending}
use Rattle.volume.specs.meaning.Calls.{append_all, append_general}
use Rattle.volume.specs.meaning.Mount.{label_step, reset_entry_step, zone_reset_step, counters_differ, counter_step, seal_step, missing_rows, torn_row_step, fill_step, entry_step, with_flush, with_flushes, steps_before_entries, after_opening}
use Rattle.volume.specs.laws.FillStores.{missing, fill_zone}
use Rattle.volume.specs.laws.OpeningFlush.{opening_sectors}
use Rattle.volume.specs.laws.Depends.{SameOn, and_same, heads_same, parity_same, ending_same, zone_depends}

-- ---- stores of one drive
abbrev pub AllOf : ℕ → List Store → Type 0
AllOf d [] = Unit {0}
AllOf d (x ∷ xs) = (store_drive x ≡ d) × AllOf d xs

of_append : (d : ℕ) (xs ys : List Store) → AllOf d xs → AllOf d ys → AllOf d (xs ++ ys)
of_append d [] ys p q = q
of_append d (x ∷ xs) ys p q = (p.0, of_append d xs ys p.1 q)

of_each : (d : ℕ) (f : ℕ → List Store) (n : ℕ) → ((k : ℕ) → AllOf d (f k)) → AllOf d (each_below f n)
of_each d f zero h = tt
of_each d f (suc n) h = of_append d (each_below f n) (f n) (of_each d f n h) (h n)

pub of_pick : (d : ℕ) (b : Bool) (xs : List Store) → AllOf d xs → AllOf d (pick b xs [])
of_pick d true xs p = p
of_pick d false xs p = tt

of_appends : (d y : ℕ) (ss : List (List ℕ)) → AllOf d (append_all d y ss)
of_appends d y [] = tt
of_appends d y (s ∷ ss) = (refl, of_appends d y ss)

-- those of an absent drive are skipped
own_absent : (a : ℕ → Bool) (d : ℕ) (xs : List Store) → a d ≡ false → AllOf d xs → on_present a xs ≡ []
own_absent a d [] h p = refl
own_absent a d (x ∷ xs) h p = rw (p.0, h) (own_absent a d xs h p.1)

-- so lists for each drive count only where a drive is present
pub present_each : (a : ℕ → Bool) (f h : ℕ → List Store) (n : ℕ) → ((d : ℕ) → AllOf d (f d)) → ((d : ℕ) → AllOf d (h d)) → ((d : ℕ) → a d ≡ true → f d ≡ h d) → on_present a (each_below f n) ≡ on_present a (each_below h n)
present_each a f h zero p q e = refl
present_each a f h (suc n) p q e =
    on_present_append a (each_below f n) (f n) ∙ ap₂ (λ (xs ys : List Store). xs ++ ys) (present_each a f h n p q e) (go (a n) refl) ∙ sym (on_present_append a (each_below h n) (h n))
  where
    go : (b : Bool) → a n ≡ b → on_present a (f n) ≡ on_present a (h n)
    go true r = ap (on_present a) (e n r)
    go false r = own_absent a n (f n) r (p n) ∙ sym (own_absent a n (h n) r (q n))

-- ---- the steps (k: the look, x: the lost drive)
module _ (g : Geometry) (present : ℕ → Bool) (v w : Device) (same : SameOn present v w) (k : Shown) where
  abbrev heads : (d : ℕ) → present d ≡ true → general_heads g v d ≡ general_heads g w d
  heads = heads_same g present v w same

  label_depends : (x : ℕ) → on_present present (label_step g x k v) ≡ on_present present (label_step g x k w)
  unfolding label_step
  label_depends x = present_each present (labels v) (labels w) g.drives (own v) (own w) (λ d p. ap (λ (hs : List Header). pick (ltb x g.drives && not (eqb (last_lost no_drive hs) x)) (append_general g (label x k.array) d) []) (heads d p))
    where
      labels : Device → ℕ → List Store
      labels u d = pick (ltb x g.drives && not (eqb (last_lost no_drive (general_heads g u d)) x)) (append_general g (label x k.array) d) []

      own : (u : Device) (d : ℕ) → AllOf d (labels u d)
      own u d = of_pick d (ltb x g.drives && not (eqb (last_lost no_drive (general_heads g u d)) x)) (append_general g (label x k.array) d) (refl, tt)

  counters_differ_depends : counters_differ g present v ≡ counters_differ g present w
  unfolding counters_differ
  counters_differ_depends i = any_below (λ d. and_same (present d) (any_below (differ v d) g.drives) (any_below (differ w d) g.drives) (λ p j. any_below (λ e. and_same (present e) (other v d e) (other w d e) (others d e p) j) g.drives) i) g.drives
    where
      other : Device → ℕ → ℕ → Bool
      other u d e = not (same_bytes (last_counters [] (general_heads g u d)) (last_counters [] (general_heads g u e)))

      differ : Device → ℕ → ℕ → Bool
      differ u d e = present e && not (same_bytes (last_counters [] (general_heads g u d)) (last_counters [] (general_heads g u e)))

      others : (d e : ℕ) → present d ≡ true → present e ≡ true → other v d e ≡ other w d e
      others d e p q = ap₂ (λ (a b : List Header). not (same_bytes (last_counters [] a) (last_counters [] b))) (heads d p) (heads e q)

  counter_depends : counter_step g k (counters_differ g present v) ≡ counter_step g k (counters_differ g present w)
  counter_depends = ap (counter_step g k) counters_differ_depends

  seal_depends : on_present present (seal_step g k v) ≡ on_present present (seal_step g k w)
  unfolding seal_step
  seal_depends = present_each present (seals v) (seals w) g.drives (own v) (own w) (λ d p. ap (λ (hs : List Header). each_below (one hs d) g.zones) (heads d p))
    where
      one : List Header → ℕ → ℕ → List Store
      one hs d z = pick (is_sealed (k.zone z).condition && not (any_of (is_seal_at z (k.zone z).generation (k.zone z).pointer) hs)) (append_general g (seal z (k.zone z).pointer (k.zone z).generation) d) []

      seals : Device → ℕ → List Store
      seals u d = each_below (one (general_heads g u d) d) g.zones

      own : (u : Device) (d : ℕ) → AllOf d (seals u d)
      own u d = of_each d (one (general_heads g u d) d) g.zones (λ z. of_pick d (is_sealed (k.zone z).condition && not (any_of (is_seal_at z (k.zone z).generation (k.zone z).pointer) (general_heads g u d))) (append_general g (seal z (k.zone z).pointer (k.zone z).generation) d) (refl, tt))

  torn_depends : on_present present (torn_row_step g k v) ≡ on_present present (torn_row_step g k w)
  unfolding torn_row_step
  torn_depends =
      present_each present (λ d. append_all d parity_zone (missing_rows g k (parity_ending g v d))) (λ d. append_all d parity_zone (missing_rows g k (parity_ending g w d))) g.drives
      (λ d. of_appends d parity_zone (missing_rows g k (parity_ending g v d))) (λ d. of_appends d parity_zone (missing_rows g k (parity_ending g w d))) (λ d p i. append_all d parity_zone (missing_rows g k (ending_same g present v w same d p i)))

  fill_depends : on_present present (fill_step g k v) ≡ on_present present (fill_step g k w)
  unfolding fill_step
  fill_depends = present_each present (λ d. each_below (fill_zone g k v d) g.zones) (λ d. each_below (fill_zone g k w d) g.zones) g.drives (own v) (own w) (λ d p i. each_below (λ z. zone d z p i) g.zones)
    where
      own : (u : Device) (d : ℕ) → AllOf d (each_below (fill_zone g k u d) g.zones)
      own u d = of_each d (fill_zone g k u d) g.zones (λ z. of_appends d (data_zone z) (missing g k u d z))

      zone : (d z : ℕ) → present d ≡ true → fill_zone g k v d z ≡ fill_zone g k w d z
      zone d z p = ap (λ (ss : List (List ℕ)). append_all d (data_zone z) (tabulate_from (content_at g.drives g.unit z (k.zone z).value d) (length ss) (needed g.drives g.unit z (k.zone z).pointer d - length ss))) (same d p (data_zone z))

  pub entry_depends : on_present present (entry_step g k v) ≡ on_present present (entry_step g k w)
  unfolding entry_step
  entry_depends = present_each present (λ d. each_below (one (parity_entries g v d) d) g.zones) (λ d. each_below (one (parity_entries g w d) d) g.zones) g.drives (λ d. own (parity_entries g v d) d) (λ d. own (parity_entries g w d) d) (λ d p. ap (λ (es : List Entry). each_below (one es d) g.zones) (parity_same g present v w same d p))
    where
      due : List Entry → ℕ → ℕ → Bool
      due es d z = inside_stripe g (k.zone z).pointer && (eqb d (parity_drive_at g z (k.zone z).pointer) && not (any_of (λ (e : Entry). ends_at g z (k.zone z).generation (k.zone z).pointer e.head) es))

      one : List Entry → ℕ → ℕ → List Store
      one es d z = pick (due es d z) (append_all d parity_zone (sectors_of g d true (entry_at g z (k.zone z).generation (k.zone z).value (k.zone z).pointer))) []

      own : (es : List Entry) (d : ℕ) → AllOf d (each_below (one es d) g.zones)
      own es d = of_each d (one es d) g.zones (λ z. of_pick d (due es d z) (append_all d parity_zone (sectors_of g d true (entry_at g z (k.zone z).generation (k.zone z).value (k.zone z).pointer))) (of_appends d parity_zone (sectors_of g d true (entry_at g z (k.zone z).generation (k.zone z).value (k.zone z).pointer))))

  -- a step and its flush go by its stores on present drives
  pub flush_depends : (xs ys : List Store) → on_present present xs ≡ on_present present ys → with_flush g present xs ≡ with_flush g present ys
  flush_depends xs ys e = ap (λ (r : List Store). r ∷ pick (is_nil r) [] (on_present present (flush_all g.drives)) ∷ []) e

  pub steps_depend : (x : ℕ) → with_flushes g present (steps_before_entries g present x k v) ≡ with_flushes g present (steps_before_entries g present x k w)
  steps_depend x i =
      flush_depends (label_step g x k v) (label_step g x k w) (label_depends x) i ++ (with_flush g present (reset_entry_step g k) ++ (with_flush g present (zone_reset_step g k)
      ++ (with_flush g present (counter_depends i) ++ (flush_depends (seal_step g k v) (seal_step g k w) seal_depends i ++ (flush_depends (torn_row_step g k v) (torn_row_step g k w) torn_depends i
      ++ (flush_depends (fill_step g k v) (fill_step g k w) fill_depends i ++ []))))))

-- ---- what is shown; past: what the device has where there is no drive
module _ (g : Geometry) (present : ℕ → Bool) (v w : Device) (same : SameOn present v w) (past : (y : ℕ) → (v no_drive y).sectors ≡ (w no_drive y).sectors) where
  array_depends : array_in (general_heads g v (find_below present g.drives)) ≡ array_in (general_heads g w (find_below present g.drives))
  unfolding general_heads
  array_depends = go (find_below_is present g.drives)
    where
      at : ℕ → List (List ℕ) → ℕ
      at d ss = array_in (map (λ (e : Entry). e.head) (walk_log g d false ss).entries)

      go : ((find_below present g.drives ≡ no_drive) × ((k : ℕ) → k < g.drives → present k ≡ false)) ⊎ ((find_below present g.drives < g.drives) × (present (find_below present g.drives) ≡ true))
          → array_in (general_heads g v (find_below present g.drives)) ≡ array_in (general_heads g w (find_below present g.drives))
      go (inl (e, q)) = rw e (ap (at no_drive) (past general_zone))
      go (inr (l, q)) = ap (at (find_below present g.drives)) (same (find_below present g.drives) q general_zone)

  pub showing_depends : (x : ℕ) → showing g present x v ≡ showing g present x w
  unfolding showing
  showing_depends x i = record { lost = x; array = array_depends i; zone = λ z. zone_depends g present v w same z i }

pub opening_same : (g : Geometry) (present a : ℕ → Bool) (v w : Device) → SameOn present v w → SameOn present (after_opening g a v) (after_opening g a w)
opening_same g present a v w same d p y = opening_sectors g a v d y ∙ same d p y ∙ sym (opening_sectors g a w d y)
