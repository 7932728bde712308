-- A mount's steps on the device by its roles, apart from the emptyings between them: steps 3 to 9 from any device all of which lasts, by a look of it
-- (steps-run). Step 11 is MountParityEntries' entries-run; the end, at rest, MountRest's end-rests. The invariant holds throughout with the
-- ledger as it was.
use Rattle.tables.specs.laws.Lists.{length_map}
use Rattle.tables.specs.meaning.Lists.{concat}
use Rattle.std.specs.Prelude.{◌≡◌, refl, Bool, false, ℕ, ◌+◌, ◌≤◌, List, [], ◌∷◌, ◌++◌, length}
use Rattle.std.proofs.Common.{ap, ◌∙◌, arith}
use Rattle.tables.specs.meaning.Device.{Device, Store}
use Rattle.tables.specs.declared.Geometry.{Geometry}
use Rattle.tables.specs.meaning.Geometry.{Valid}
use Rattle.logs.specs.meaning.Entry.{general_zone, encode}
use Rattle.tables.specs.meaning.Drives.{present_but}
use Rattle.promise.specs.meaning.Ledger.{Ledger}
use Rattle.volume.specs.meaning.Rules.{Shown, showing}
use Rattle.volume.specs.meaning.Mount.{with_flush, with_flushes, label_step, reset_entry_step, zone_reset_step, counter_step, counters_differ, seal_step, torn_row_step, fill_step, steps_before_entries}
use Rattle.promise.proofs.invariant.Obligations.{Invs}
use Rattle.promise.proofs.invariant.Invariant.{Ghost, Here, Inv, LogGenerations}
use Rattle.promise.proofs.mount.MountRuns.{Runs, AllDurable, runs_phases}
use Rattle.promise.proofs.mount.MountPlan.{Start, AfterLabels, AfterResetEntries, AfterZoneResets, AfterCounters, AfterSeals, AfterTornRows, AfterFill, count_reset, count_sealed}
use Rattle.promise.proofs.mount.MountFate.{fate_of, start_stage}
use Rattle.promise.proofs.mount.MountLabels.{label_step_lem}
use Rattle.promise.proofs.mount.MountResetEntries.{reset_entry_step_lem}
use Rattle.promise.proofs.mount.MountZoneResets.{zone_reset_step_lem}
use Rattle.promise.proofs.mount.MountCounters.{CountsSame, counter_step_lem}
use Rattle.promise.proofs.mount.MountSeals.{seal_step_lem}
use Rattle.promise.proofs.mount.MountTornRows.{torn_row_step_lem}
use Rattle.promise.proofs.mount.MountFill.{fill_step_lem}
use Rattle.promise.proofs.mount.MountFilled.{Filled, GrownRows, filled_of}

-- steps 3 to 9, by an answer to whether the counters differ
abbrev pub steps_by : Geometry → ℕ → Bool → Shown → Device → List (List Store)
steps_by g x differ k w = label_step g x k w ∷ reset_entry_step g k ∷ zone_reset_step g k ∷ counter_step g k differ ∷ seal_step g k w ∷ torn_row_step g k w ∷ fill_step g k w ∷ []

-- they are those of the rules, by the answer that the device gives
pub steps_by_lem : (g : Geometry) (x : ℕ) (k : Shown) (w : Device) → steps_before_entries g (present_but g x) x k w ≡ steps_by g x (counters_differ g (present_but g x) w) k w
steps_by_lem g x k w = refl

-- room in each present drive's general log for what a mount adds
abbrev pub GeneralRoom : Geometry → ℕ → Device → Type 0
GeneralRoom g x w = (d : ℕ) → Here g x d → length (w d general_zone).sectors + (g.zones + 2) ≤ g.capacity

pub start_of : (g : Geometry) → Valid g → (x : ℕ) (w : Device) (γ : Ghost) (l : Ledger) → Inv g x w l γ → AllDurable g x w → GeneralRoom g x w → Start g x w γ l (showing g (present_but g x) x w)
start_of g ok x w γ l j s room = record {
  inv = j;
  settled = s;
  look = refl;
  fate = fate_of g ok x w γ l j s;
  general_room = λ d a. let n : length (w d general_zone).sectors ≡ length (γ.general d) = ap length (j.logs.general_is d a) ∙ length_map (encode g d) (γ.general d) in omega (arith, room d a);
}

-- the device after step 9, from w
abbrev pub AfterSteps : Geometry → ℕ → Device → Ledger → Shown → LogGenerations → Device → Type 0
AfterSteps g x w l k c u = (δ : Ghost) × Filled g x u δ l k × GrownRows g x w u × (δ.closed ≡ c)

module _ (g : Geometry) (ok : Valid g) (x : ℕ) (w : Device) (γ : Ghost) (l : Ledger) (k : Shown) (s : Start g x w γ l k) (differ : Bool) (same : differ ≡ false → CountsSame g x w) where
  abbrev present : ℕ → Bool
  present = present_but g x

  abbrev count : ℕ
  count = 2 + (count_reset g k + count_sealed g k)

  -- from each step on
  abbrev from9 : List (List Store)
  from9 = with_flush g present (fill_step g k w)

  abbrev from8 : List (List Store)
  from8 = with_flush g present (torn_row_step g k w) ++ from9

  abbrev from7 : List (List Store)
  from7 = with_flush g present (seal_step g k w) ++ from8

  abbrev from6 : List (List Store)
  from6 = with_flush g present (counter_step g k differ) ++ from7

  abbrev from5 : List (List Store)
  from5 = with_flush g present (zone_reset_step g k) ++ from6

  abbrev from4 : List (List Store)
  from4 = with_flush g present (reset_entry_step g k) ++ from5

  started_run : Runs γ.closed g x l w (concat (with_flushes g present (steps_by g x differ k w))) (AfterFill g x w γ l k count)
  started_run =
      let Z = AfterFill g x w γ l k count in
      runs_phases γ.closed g x l w (with_flush g present (label_step g x k w)) from4 (AfterLabels g x w γ l k 1) Z (label_step_lem g ok x w γ l k s w (start_stage g ok x w γ l k s)) (λ u1 t1.
      runs_phases γ.closed g x l u1 (with_flush g present (reset_entry_step g k)) from5 (AfterResetEntries g x w γ l k (1 + count_reset g k)) Z (reset_entry_step_lem g ok x w γ l k s u1 t1) (λ u2 t2.
      runs_phases γ.closed g x l u2 (with_flush g present (zone_reset_step g k)) from6 (AfterZoneResets g x w γ l k (1 + count_reset g k)) Z (zone_reset_step_lem g ok x w γ l k s u2 t2) (λ u3 t3.
      runs_phases γ.closed g x l u3 (with_flush g present (counter_step g k differ)) from7 (AfterCounters g x w γ l k (2 + count_reset g k)) Z (counter_step_lem g ok x w γ l k s differ same u3 t3) (λ u4 t4.
      runs_phases γ.closed g x l u4 (with_flush g present (seal_step g k w)) from8 (AfterSeals g x w γ l k count) Z (seal_step_lem g ok x w γ l k s u4 t4) (λ u5 t5.
      runs_phases γ.closed g x l u5 (with_flush g present (torn_row_step g k w)) from9 (AfterTornRows g x w γ l k count) Z (torn_row_step_lem g ok x w γ l k s u5 t5) (λ u6 t6.
      fill_step_lem g ok x w γ l k s u6 t6))))))

-- STEPS 3 TO 9
pub steps_run : (g : Geometry) → Valid g → (c : LogGenerations) (x : ℕ) (l : Ledger) (w : Device) → Invs c g x w l → AllDurable g x w → GeneralRoom g x w → (k : Shown) → k ≡ showing g (present_but g x) x w
    → (differ : Bool) → (differ ≡ false → CountsSame g x w) → Runs c g x l w (concat (with_flushes g (present_but g x) (steps_by g x differ k w))) (AfterSteps g x w l k c)
steps_run g ok c x l w (γ, i, q) s room k e differ same =
    let t : Start g x w γ l k = rw e (start_of g ok x w γ l i s room) in
    let r = started_run g ok x w γ l k t differ same in
    record { during = rw (← q) r.during; forgets = r.forgets; after = to t _ r.after }
  where
    to : Start g x w γ l k → (u : Device) → AfterFill g x w γ l k (2 + (count_reset g k + count_sealed g k)) u → AfterSteps g x w l k c u
    to t u a =
        let (δ, f, m, p) = filled_of g ok x w γ l k t u a in
        (δ, f, m, p ∙ q)
