-- What a mount's steps store, by the look that it took before the general logs were emptied, is what they would have stored there: labels, seals, torn rows,
-- missing sectors and entries. (Counters may agree where they differed before: that step keeps the first look's answer.)
use Rattle.std.specs.Prelude.{◌≡◌, refl, ◌⊎◌, Bool, true, ◌&&◌, ltb, eqb}
use Rattle.std.proofs.Common.{sym, ap₂, ◌∙◌, inl, inr, arith}
use Rattle.std.proofs.Math.Path.{ap}
use Rattle.std.proofs.Math.Bool.{false, not}
use Prim.Native.Nat.{ℕ, zero, suc, ◌-◌, ◌≤◌, ◌<◌}
use mathlib.Core.List.{List, [], ◌++◌}
use Rattle.std.proofs.Math.ListN.{length, get_or}
use Rattle.tables.specs.meaning.Basics.{pick}
use Rattle.tables.specs.laws.Basics.{not_not}
use Rattle.tables.specs.meaning.Below.{each_below, tabulate_from, max_below}
use Rattle.tables.specs.laws.Below.{any_below_false, max_below_is, max_below_least}
use Rattle.tables.specs.meaning.Lists.{any_of}
use Rattle.tables.specs.meaning.LittleEndian.{same_bytes}
use Rattle.tables.specs.laws.LittleEndian.{same_bytes_eq}
use Rattle.tables.specs.meaning.Drives.{no_drive}
use Rattle.tables.specs.declared.Geometry.{Geometry}
use Rattle.tables.specs.meaning.Geometry.{data_zone}
use Rattle.tables.specs.meaning.Placement.{needed}
use Rattle.tables.specs.meaning.Device.{Device, Store}
use Rattle.logs.specs.meaning.Entry.{parity_zone, label, seal}
use Rattle.logs.specs.meaning.Heads.{last_counters, generation_in, is_seal_at}
use Rattle.volume.specs.meaning.State.{is_sealed}
use Rattle.volume.specs.meaning.Content.{content_at}
use Rattle.volume.specs.meaning.Rules.{Shown, general_heads, generation_of, pointer_at, zone_at, zone_shown, showing}
use Rattle.volume.specs.meaning.Calls.{append_all, append_general}
use Rattle.volume.specs.meaning.Roles.{Roles}
use Rattle.volume.specs.meaning.Emptying.{InForce}
use Rattle.volume.specs.meaning.Mount.{label_step, counters_differ, seal_step, missing_rows, torn_row_step, fill_step}
use Rattle.volume.specs.laws.EmptiedLogs.{Emptied, kept_heads}
use Rattle.volume.specs.laws.EmptiedSays.{lost_alike, seal_at_alike, emptied_count}
use Rattle.volume.specs.laws.EmptiedLooks.{data_same, parity_ending_same, pointer_own}

-- lists for each number, where they agree below the end
each_below_same : (f h : ℕ → List Store) (n : ℕ) → ((z : ℕ) → z < n → f z ≡ h z) → each_below f n ≡ each_below h n
each_below_same f h zero e = refl
each_below_same f h (suc n) e = ap₂ (λ (a b : List Store). a ++ b) (each_below_same f h n (λ z l. e z (omega (arith, l)))) (e n (omega arith))

module _ (g : Geometry) (present : ℕ → Bool) (f : InForce) (r : ℕ → Roles) (emptied : ℕ → Bool) (w w1 : Device) (k : Emptied g present f r emptied w w1) where
  -- labels, by any look
  pub label_step_same : (x : ℕ) (s : Shown) → label_step g x s w1 ≡ label_step g x s w
  unfolding label_step
  label_step_same x s i = each_below (λ d. pick (ltb x g.drives && not (eqb (lost_alike g present f r emptied w w1 k d no_drive i) x)) (append_general g (label x s.array) d) []) g.drives

  -- torn rows, missing sectors and entries, by any look
  pub torn_step_same : (s : Shown) → torn_row_step g s w1 ≡ torn_row_step g s w
  unfolding torn_row_step
  torn_step_same s i = each_below (λ d. append_all d parity_zone (missing_rows g s (parity_ending_same g present f r emptied w w1 k d i))) g.drives

  pub fill_step_same : (s : Shown) → fill_step g s w1 ≡ fill_step g s w
  unfolding fill_step
  fill_step_same s i =
      each_below (λ d. each_below (λ z. append_all d (data_zone z) (tabulate_from (content_at g.drives g.unit z (s.zone z).value d) (length (data_same g present f r emptied w w1 k d z i))
      (needed g.drives g.unit z (s.zone z).pointer d - length (data_same g present f r emptied w w1 k d z i)))) g.zones) g.drives

  -- seals, by the look before: no present drive has a current one below the pointer
  module _ (x : ℕ) where
    abbrev look : Shown
    look = showing g present x w

    seal_there : (d z : ℕ) → z < g.zones
        → any_of (is_seal_at z (look.zone z).generation (look.zone z).pointer) (general_heads g w1 d) ≡ any_of (is_seal_at z (look.zone z).generation (look.zone z).pointer) (general_heads g w d)
    unfolding showing zone_shown zone_at
    seal_there d z l =
        let n = generation_of g present w z in
        let q = pointer_at g present w z n in
        seal_at_alike g present f r emptied w w1 k d z q l (λ e. pointer_own g present w z n d (k.there d e).1 (k.there d e).0)

    pub seal_step_same : seal_step g (showing g present x w) w1 ≡ seal_step g (showing g present x w) w
    unfolding seal_step
    seal_step_same i = each_below (λ d. each_below_same (one w1 d) (one w d) g.zones (λ z l. zone d z l) i) g.drives
      where
        one : Device → ℕ → ℕ → List Store
        one u d z = pick (is_sealed (look.zone z).condition && not (any_of (is_seal_at z (look.zone z).generation (look.zone z).pointer) (general_heads g u d))) (append_general g (seal z (look.zone z).pointer (look.zone z).generation) d) []

        zone : (d z : ℕ) → z < g.zones → one w1 d z ≡ one w d z
        zone d z l = ap (λ (b : Bool). pick (is_sealed (look.zone z).condition && not b) (append_general g (seal z (look.zone z).pointer (look.zone z).generation) d) []) (seal_there d z l)

  -- ---- counters: where none differed before, each present drive's give every zone its generation in force, before and after. (Whether they differ now is
  -- another question: copies have counters also where a log had none.)
  module _ (agree : counters_differ g present w ≡ false) (z : ℕ) where
    abbrev count : ℕ → ℕ
    count d = generation_in z (general_heads g w d)

    counters_same : (d e : ℕ) → d < g.drives → e < g.drives → present d ≡ true → present e ≡ true → count d ≡ count e
    unfolding counters_differ
    counters_same d e hd he p q =
        let cd = last_counters [] (general_heads g w d) in
        let ce = last_counters [] (general_heads g w e) in
        let a = rw p at (any_below_false _ g.drives d agree hd) in
        let b : not (same_bytes cd ce) ≡ false = rw q at (any_below_false _ g.drives e a he) in
        ap (λ (cs : List ℕ). get_or cs z zero) (same_bytes_eq cd ce (not_not (same_bytes cd ce) b))

    pub counts_before : (d : ℕ) → d < g.drives → present d ≡ true → generation_in z (general_heads g w d) ≡ generation_of g present w z
    unfolding generation_of
    counts_before d hd p = go (max_below_is shown g.drives)
      where
        shown : ℕ → ℕ
        shown e = pick (present e) (generation_in z (general_heads g w e)) zero

        own : shown d ≡ count d
        own = ap (λ (b : Bool). pick b (count d) zero) p

        least : count d ≤ max_below shown g.drives
        least = omega (arith, own, max_below_least shown g.drives d hd)

        at : (e : ℕ) → e < g.drives → (b : Bool) → present e ≡ b → max_below shown g.drives ≡ pick b (count e) zero → count d ≡ max_below shown g.drives
        at e he true q m = counters_same d e hd he p q ∙ sym m
        at e he false q m = omega (arith, least, m)

        go : (max_below shown g.drives ≡ zero) ⊎ ((e : ℕ) × (e < g.drives) × (max_below shown g.drives ≡ shown e)) → count d ≡ max_below shown g.drives
        go (inl m) = omega (arith, least, m)
        go (inr (e, he, m)) = at e he (present e) refl m

    pub counts_after : (d : ℕ) → d < g.drives → present d ≡ true → z < g.zones → generation_in z (general_heads g w1 d) ≡ generation_of g present w z
    counts_after d hd p hz = go (emptied d) refl
      where
        go : (b : Bool) → emptied d ≡ b → generation_in z (general_heads g w1 d) ≡ generation_of g present w z
        go true e = emptied_count g present f r emptied w w1 k d z e hz
        go false e = ap (generation_in z) (kept_heads g present f r emptied w w1 k d e) ∙ counts_before d hd p
