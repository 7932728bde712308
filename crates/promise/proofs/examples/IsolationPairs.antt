-- Two scripts for one desk, and what their runs show of isolation: that the other desk is not heard, or that a hypothesis cannot be left out.
use Rattle.std.specs.Prelude.{◌≡◌, refl, ◌≢◌, Bool, true, false, not, ℕ, zero, suc, List, [], ◌∷◌, eqb, T}
use Rattle.std.proofs.Common.{sym, ap, ◌∙◌, true≢false, ne_eqb}
use Rattle.tables.specs.declared.Geometry.{Geometry}
use Rattle.tables.specs.meaning.GeometryTest.{all}
use Rattle.tables.specs.laws.GeometryTest.{all_at}
use Rattle.tables.specs.laws.Basics.{not_both, not_true}
use Rattle.volume.specs.declared.Answer.{Answer}
use Rattle.volume.specs.declared.Answer.TheVariants.{Finished, Unfinished, Refused, BadLog}
use Rattle.promise.specs.meaning.Claim.{Volume}
use Rattle.promise.specs.meaning.Isolation.{Step, has_finished, Moment, calls_in, shared_in, Run, AllAgree, AllHearSame}
use Rattle.promise.proofs.examples.IsolationRuns.{shelf, formatting, formatted, Line, run, calls_of, run_test, is_run}
use Rattle.promise.proofs.examples.IsolationTests.{Tested, same_sectors, sectors_tested, Hypothesis, zones_shared, number_open, past_emptyings, general_logs, lost_drive, AgreeOn, agrees_on, agree_on_tested, asks_of, all_agree, hears, hears_other, not_the_same}

-- ---- every hypothesis, and every one but x
abbrev number_of : Hypothesis → ℕ
number_of zones_shared = 0
number_of number_open = 1
number_of past_emptyings = 2
number_of general_logs = 3
number_of lost_drive = 4

abbrev pub every : Hypothesis → Bool
every x = true

abbrev pub every_but : Hypothesis → Hypothesis → Bool
every_but x y = not (eqb (number_of x) (number_of y))

abbrev same : Bool → Bool → Bool
same true b = b
same false b = not b

if_true : (m b : Bool) → m ≡ true → same m b ≡ true → b ≡ true
if_true m b p e = rw p at e

if_false : (m b : Bool) → m ≡ false → same m b ≡ true → b ≡ false
if_false m b p e = not_true b (rw p at e)

true_of : (b : Bool) → T b → b ≡ true
true_of true t = refl
true_of false t = absurd t

has_finished_lem : (r : Answer) → has_finished r ≡ true → r ≡ Finished
has_finished_lem Finished e = refl
has_finished_lem Unfinished e = absurd (true≢false (sym e))
has_finished_lem (Refused n) e = absurd (true≢false (sym e))
has_finished_lem (BadLog b) e = absurd (true≢false (sym e))

-- another hypothesis than x is one of those
abbrev numbered : ℕ → Hypothesis
numbered zero = zones_shared
numbered (suc zero) = number_open
numbered (suc (suc zero)) = past_emptyings
numbered (suc (suc (suc zero))) = general_logs
numbered (suc (suc (suc (suc n)))) = lost_drive

by_number : (x : Hypothesis) → numbered (number_of x) ≡ x
by_number zones_shared = refl
by_number number_open = refl
by_number past_emptyings = refl
by_number general_logs = refl
by_number lost_drive = refl

is_met : (x y : Hypothesis) → y ≢ x → every_but x y ≡ true
is_met x y n = rw (ne_eqb (number_of x) (number_of y) (λ e. n (sym (by_number y) ∙ (ap numbered (sym e) ∙ by_number x)))) refl

-- ==== two scripts, the desk that listens, what they agree on, and what it hears at each of its calls
pub record Pair : Type 0 where
  pub shape : Geometry
  pub desk : ℕ
  pub first : List Line
  pub second : List Line
  pub met : Hypothesis → Bool
  pub first_heard : List (List ℕ)
  pub second_heard : List (List ℕ)

module _ (e : Pair) where
  abbrev pub volume_of : Volume
  volume_of = shelf e.shape

  abbrev pub first_calls : List (Moment e.shape (shelf e.shape))
  first_calls = calls_of e.shape e.desk e.first

  abbrev pub second_calls : List (Moment e.shape (shelf e.shape))
  second_calls = calls_of e.shape e.desk e.second

  abbrev pub shared_zones : ℕ → Bool
  shared_zones = shared_in e.shape volume_of e.desk (formatted e.shape) (run e.shape e.first) (run e.shape e.second)

  -- THE COMPARISON: both are runs from a finished format on, the desk makes the same calls in them, they agree at these on the hypotheses that are met and on no other, and
  -- the desk hears what is said
  pub record Compared : Type 0 where
    pub format_finishes : (formatting e.shape).answer ≡ Finished
    pub first_run : Run e.shape volume_of (formatted e.shape) (run e.shape e.first)
    pub second_run : Run e.shape volume_of (formatted e.shape) (run e.shape e.second)
    pub same_calls : asks_of e.shape first_calls ≡ asks_of e.shape second_calls
    pub agree : (y : Hypothesis) → e.met y ≡ true → AgreeOn e.shape y shared_zones first_calls second_calls
    pub differ : (y : Hypothesis) → e.met y ≡ false → AgreeOn e.shape y shared_zones first_calls second_calls → ⊥
    pub first_hears : hears e.shape first_calls ≡ e.first_heard
    pub second_hears : hears e.shape second_calls ≡ e.second_heard

  -- computed
  abbrev agreement : Hypothesis → Bool
  agreement y = agrees_on e.shape y shared_zones first_calls second_calls

  abbrev pub comparison : List Bool
  comparison =
      has_finished (formatting e.shape).answer ∷ run_test e.shape (formatted e.shape) e.first ∷ run_test e.shape (formatted e.shape) e.second
      ∷ same_sectors (hears e.shape first_calls) e.first_heard ∷ same_sectors (hears e.shape second_calls) e.second_heard
      ∷ same (e.met zones_shared) (agreement zones_shared) ∷ same (e.met number_open) (agreement number_open) ∷ same (e.met past_emptyings) (agreement past_emptyings)
      ∷ same (e.met general_logs) (agreement general_logs) ∷ same (e.met lost_drive) (agreement lost_drive) ∷ []

  agreement_tested : (y : Hypothesis) → Tested (agreement y) (AgreeOn e.shape y shared_zones first_calls second_calls)
  agreement_tested y = agree_on_tested e.shape y shared_zones first_calls second_calls

  as_met : all comparison ≡ true → (y : Hypothesis) → same (e.met y) (agreement y) ≡ true
  as_met h zones_shared = all_at comparison h 5
  as_met h number_open = all_at comparison h 6
  as_met h past_emptyings = all_at comparison h 7
  as_met h general_logs = all_at comparison h 8
  as_met h lost_drive = all_at comparison h 9

  pub compared : asks_of e.shape first_calls ≡ asks_of e.shape second_calls → T (all comparison) → Compared
  compared calls t =
      let h = true_of (all comparison) t in
      record {
        format_finishes = has_finished_lem (formatting e.shape).answer (all_at comparison h 0);
        first_run = is_run e.shape e.first (all_at comparison h 1);
        second_run = is_run e.shape e.second (all_at comparison h 2);
        same_calls = calls;
        agree = λ y m. (agreement_tested y).sound (if_true (e.met y) (agreement y) m (as_met h y));
        differ = λ y m k. not_both (agreement y) ((agreement_tested y).complete k) (if_false (e.met y) (agreement y) m (as_met h y));
        first_hears = (sectors_tested (hears e.shape first_calls) e.first_heard).sound (all_at comparison h 3);
        second_hears = (sectors_tested (hears e.shape second_calls) e.second_heard).sound (all_at comparison h 4);
      }

  -- where all are met, the runs agree as isolation asks
  pub runs_agree : Compared → ((y : Hypothesis) → e.met y ≡ true) → AllAgree e.shape volume_of shared_zones first_calls second_calls
  runs_agree c m = all_agree e.shape shared_zones first_calls second_calls c.same_calls (λ y. c.agree y (m y))

-- ==== ISOLATION WITHOUT x: the runs need not agree on it
abbrev pub IsolatedWithout : Hypothesis → Type 0
IsolatedWithout x = (g : Geometry) (h : ℕ) (xs ys : List (Step (shelf g))) → (formatting g).answer ≡ Finished → let vol = shelf g in let s = formatted g in
    Run g vol s xs → Run g vol s ys → asks_of g (calls_in g vol h s [] xs) ≡ asks_of g (calls_in g vol h s [] ys)
    → ((y : Hypothesis) → y ≢ x → AgreeOn g y (shared_in g vol h s xs ys) (calls_in g vol h s [] xs) (calls_in g vol h s [] ys))
    → AllHearSame g vol (calls_in g vol h s [] xs) (calls_in g vol h s [] ys)

-- is not so, if two runs that differ in x alone are heard apart
pub refuted : (x : Hypothesis) (e : Pair) → e.met ≡ every_but x → Compared e → T (hears_other e.shape (first_calls e) (second_calls e)) → IsolatedWithout x → ⊥
refuted x e m c t claim =
    not_the_same e.shape (first_calls e) (second_calls e) (true_of (hears_other e.shape (first_calls e) (second_calls e)) t)
    (claim e.shape e.desk (run e.shape e.first) (run e.shape e.second) c.format_finishes c.first_run c.second_run c.same_calls (λ y n. c.agree y (rw m (is_met x y n))))
