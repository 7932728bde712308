-- Refusals 7 to 12, 18 and 19 of a write to a zone that there is, on the tables. (1 to 4: CheckLaws; 14: WriteRoom.)
use Rattle.std.specs.Prelude.{◌≡◌, ◌≢◌, Bool, not, ℕ, ◌+◌, ◌≤◌, ◌<◌, List, [], ◌∷◌, ltb, eqb}
use Rattle.std.proofs.Math.Path.{refl, sym}
use Rattle.std.proofs.Common.{ap, ◌∙◌, arith}
use Rattle.std.proofs.Math.Bool.{true, false}
use Rattle.std.proofs.Math.Decide.{ℕ_discrete}
use borrow.Author.Tests.{eqb-true, ltb-false, eqb-false, eq-eqb, ne_eqb}
use Rattle.tables.specs.declared.Geometry.{Geometry}
use Rattle.tables.specs.meaning.Basics.{pick}
use Rattle.tables.specs.laws.Basics.{or_none}
use Rattle.tables.specs.meaning.Geometry.{zone_sectors}
use Rattle.volume.specs.meaning.RefusalNumbers.{number_of}
use Rattle.volume.specs.declared.Condition.{Condition}
use Rattle.volume.specs.declared.writing.Run.{Run}
use Rattle.volume.specs.meaning.State.{pointer_in, is_sealed, is_worn}
use Rattle.volume.specs.meaning.Refusals.{first_refusal, bad_run}
use Rattle.volume.specs.meaning.CallContracts.{is_set, verdict_number}
use Rattle.volume.specs.checks.ZoneChecks.{stale_on}

-- ---- the rows of a zone that there is: 9 to 12 ask for the run and the condition alone
unfoldable pub run_number : Geometry → Condition → ℕ → ℕ → ℕ
run_number g c offset count = verdict_number (first_refusal ((9, bad_run g offset count) ∷ (10, not (eqb offset (pointer_in c))) ∷ (11, is_sealed c) ∷ (12, is_worn c) ∷ []))

-- with 7 and 8 before them, and 18 or 19 after
abbrev around_run : Bool → Bool → ℕ → ℕ → ℕ
around_run is_stale known run host = pick is_stale 7 (pick (not known) 8 (pick (eqb run 0) host run))

abbrev pub is_stale_for : Run → Condition → List ℕ → Bool
is_stale_for run c ws = stale_on run.zone.geometry (is_set run.zone.here) ws c run.zone.number

abbrev pub run_number_of : Run → Condition → ℕ
run_number_of run c = run_number run.zone.geometry c run.pointer run.count

unfoldable pub zone_number : Run → Condition → List ℕ → ℕ
zone_number run c ws = around_run (is_stale_for run c ws) run.allowance.known (run_number_of run c) (number_of run.allowance.limits)

-- what passing 9 to 12 gives
pub record RunFits (g : Geometry) (c : Condition) (offset count : ℕ) : Type 0 where
  pub some : 0 < count
  pub inside : offset + count ≤ zone_sectors g
  pub pointer : offset ≡ pointer_in c

four_rows : (a b c d : Bool) → verdict_number (first_refusal ((9, a) ∷ (10, not b) ∷ (11, c) ∷ (12, d) ∷ [])) ≡ 0 → (a ≡ false) × (b ≡ true)
four_rows false true c d h = (refl, refl)
four_rows false false c d h = absurd (omega arith)
four_rows true b c d h = absurd (omega arith)

pub run_fits : (g : Geometry) (c : Condition) (offset count : ℕ) → run_number g c offset count ≡ 0 → RunFits g c offset count
unfolding run_number
run_fits g c offset count h =
    let (p, q) = four_rows (bad_run g offset count) (eqb offset (pointer_in c)) (is_sealed c) (is_worn c) h in
    let (x, y) = or_none (eqb count 0) (ltb (zone_sectors g) (offset + count)) p in
    record { some = let ne = eqb-false count 0 x in omega (arith, ne); inside = ltb-false (zone_sectors g) (offset + count) y; pointer = eqb-true offset (pointer_in c) q }

-- what passing all of them gives
pub record ZonePassed (run : Run) (c : Condition) (ws : List ℕ) : Type 0 where
  pub fresh : is_stale_for run c ws ≡ false
  pub known : run.allowance.known ≡ true
  pub fits : RunFits run.zone.geometry c run.pointer run.count
  pub allowed : number_of run.allowance.limits ≡ 0

-- ---- the number of a zone that there is, case by case
module _ (run : Run) (c : Condition) (ws : List ℕ) where
  pub zone_7 : is_stale_for run c ws ≡ true → 7 ≡ zone_number run c ws
  unfolding zone_number
  zone_7 a = rw a refl

  pub zone_8 : is_stale_for run c ws ≡ false → run.allowance.known ≡ false → 8 ≡ zone_number run c ws
  unfolding zone_number
  zone_8 a b = rw (a, b) refl

  pub zone_run : is_stale_for run c ws ≡ false → run.allowance.known ≡ true → run_number_of run c ≢ 0 → run_number_of run c ≡ zone_number run c ws
  unfolding zone_number
  zone_run a b n = rw (a, b, ne_eqb (run_number_of run c) 0 n) refl

  pub zone_host : is_stale_for run c ws ≡ false → run.allowance.known ≡ true → run_number_of run c ≡ 0 → number_of run.allowance.limits ≡ zone_number run c ws
  unfolding zone_number
  zone_host a b n = rw (a, b, eq-eqb (run_number_of run c) 0 n) refl

  pub zone_passed : zone_number run c ws ≡ 0 → ZonePassed run c ws
  unfolding zone_number
  zone_passed h = go (is_stale_for run c ws) refl run.allowance.known refl (ℕ_discrete (run_number_of run c) 0) h
    where
      go : (a : Bool) → is_stale_for run c ws ≡ a → (b : Bool) → run.allowance.known ≡ b → Dec (run_number_of run c ≡ 0) → around_run a b (run_number_of run c) (number_of run.allowance.limits) ≡ 0 → ZonePassed run c ws
      go true p b q d e = absurd (omega arith)
      go false p false q d e = absurd (omega arith)
      go false p true q (yes n) e = record { fresh = p; known = q; fits = run_fits run.zone.geometry c run.pointer run.count n; allowed = sym (ap (λ (b : Bool). pick b (number_of run.allowance.limits) (run_number_of run c)) (eq-eqb (run_number_of run c) 0 n)) ∙ e }
      go false p true q (no n) e = absurd (n (sym (ap (λ (b : Bool). pick b (number_of run.allowance.limits) (run_number_of run c)) (ne_eqb (run_number_of run c) 0 n)) ∙ e))

-- ---- the same of the rules' rows
-- 18 or 19 is asked only where the rows before have passed
around_same : (a b : Bool) (n x y : ℕ) → (b ≡ true → n ≡ 0 → x ≡ y) → around_run a b n x ≡ around_run a b n y
around_same true b n x y e = refl
around_same false false n x y e = refl
around_same false true n x y e = go (ℕ_discrete n 0)
  where
    go : Dec (n ≡ 0) → pick (eqb n 0) x n ≡ pick (eqb n 0) y n
    go (yes q) = ap (λ (i : ℕ). pick (eqb n 0) i n) (e refl q)
    go (no q) = rw (ne_eqb n 0 q) refl

-- k: the host is known; l, o: rows 18 and 19
after_rows : (a k c d e f l o : Bool) (rest : List (ℕ × Bool)) → let n = around_run a k (verdict_number (first_refusal ((9, c) ∷ (10, d) ∷ (11, e) ∷ (12, f) ∷ []))) (pick l 18 (pick o 19 0)) in
    verdict_number (first_refusal ((7, a) ∷ (8, not k) ∷ (9, c) ∷ (10, d) ∷ (11, e) ∷ (12, f) ∷ (18, l) ∷ (19, o) ∷ rest)) ≡ pick (eqb n 0) (verdict_number (first_refusal rest)) n
after_rows true k c d e f l o rest = refl
after_rows false false c d e f l o rest = refl
after_rows false true true d e f l o rest = refl
after_rows false true false true e f l o rest = refl
after_rows false true false false true f l o rest = refl
after_rows false true false false false true l o rest = refl
after_rows false true false false false false true o rest = refl
after_rows false true false false false false false true rest = refl
after_rows false true false false false false false false rest = refl

pub after_zone : (run : Run) (c : Condition) (ws : List ℕ) (l o : Bool) (rest : List (ℕ × Bool)) → (run.allowance.known ≡ true → RunFits run.zone.geometry c run.pointer run.count → pick l 18 (pick o 19 0) ≡ (number_of run.allowance.limits))
    → verdict_number (first_refusal ((7, is_stale_for run c ws) ∷ (8, not run.allowance.known) ∷ (9, bad_run run.zone.geometry run.pointer run.count) ∷ (10, not (eqb run.pointer (pointer_in c))) ∷ (11, is_sealed c) ∷ (12, is_worn c) ∷ (18, l) ∷ (19, o) ∷ rest))
    ≡ pick (eqb (zone_number run c ws) 0) (verdict_number (first_refusal rest)) (zone_number run c ws)
unfolding zone_number run_number
after_zone run c ws l o rest e =
    let g = run.zone.geometry in
    after_rows (is_stale_for run c ws) run.allowance.known (bad_run g run.pointer run.count) (not (eqb run.pointer (pointer_in c))) (is_sealed c) (is_worn c) l o rest
    ∙ ap (λ (n : ℕ). pick (eqb n 0) (verdict_number (first_refusal rest)) n) (around_same (is_stale_for run c ws) run.allowance.known (run_number_of run c) (pick l 18 (pick o 19 0)) (number_of run.allowance.limits) (λ k n. e k (run_fits g c run.pointer run.count n)))
