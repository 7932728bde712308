-- Stores made drive by drive, those to a lost drive skipped: the loops' invariants are these lists at the loop's counter.
use Rattle.std.specs.Prelude.{◌≡◌, refl, Bool, true, false, ◌&&◌, ℕ, zero, suc, ◌+◌, ◌≤◌, List, [], ◌∷◌, ◌++◌, take}
use Rattle.std.proofs.Common.{ap, sym, ◌∙◌, arith}
use Rattle.tables.specs.meaning.Basics.{pick}
use Rattle.tables.specs.meaning.Below.{each_below, tabulate}
use Rattle.tables.specs.laws.Below.{take_tabulate}
use Rattle.tables.specs.meaning.Device.{Store, store_drive}
use Rattle.tables.specs.meaning.Phases.{on_present}
use Rattle.tables.specs.laws.Phases.{on_present_append}
use Rattle.tables.specs.laws.Made.{store_if}
use Rattle.volume.specs.meaning.Calls.{generations_from}

pub each_more : (present : ℕ → Bool) (f : ℕ → List Store) (i : ℕ) → on_present present (each_below f (suc i)) ≡ on_present present (each_below f i) ++ on_present present (f i)
each_more present f i = on_present_append present (each_below f i) (f i)

pub present_one : (present : ℕ → Bool) (x : Store) → on_present present (x ∷ []) ≡ store_if (present (store_drive x)) x
present_one present x = go (present (store_drive x))
  where
    go : (b : Bool) → pick b (x ∷ []) [] ≡ store_if b x
    go true = refl
    go false = refl

pub present_due : (present : ℕ → Bool) (b : Bool) (x : Store) → on_present present (pick b (x ∷ []) []) ≡ store_if (present (store_drive x) && b) x
present_due present true x = present_one present x ∙ go (present (store_drive x))
  where
    go : (b : Bool) → store_if b x ≡ store_if (b && true) x
    go true = refl
    go false = refl
present_due present false x = go (present (store_drive x))
  where
    go : (b : Bool) → [] ≡ store_if (b && false) x
    go true = refl
    go false = refl

-- ---- the generations of a counters entry
from_more : (f : ℕ → ℕ) (i n : ℕ) → generations_from f i (suc n) ≡ generations_from f i n ++ (f (i + n) ∷ [])
from_more f i zero = let e : i + zero ≡ i = omega arith in rw e refl
from_more f i (suc n) = let e : suc i + n ≡ i + suc n = omega arith in ap (λ (r : List ℕ). f i ∷ r) (from_more f (suc i) n ∙ rw e refl)

generations_are : (f : ℕ → ℕ) (n : ℕ) → tabulate f n ≡ generations_from f zero n
generations_are f zero = refl
generations_are f (suc n) =
    let e : zero + n ≡ n = omega arith in
    ap (λ (r : List ℕ). r ++ (f n ∷ [])) (generations_are f n) ∙ sym (rw e at (from_more f zero n))

pub first_generations : (f : ℕ → ℕ) (n k : ℕ) → k ≤ n → take k (tabulate f n) ≡ generations_from f zero k
first_generations f n k h = take_tabulate f n k h ∙ generations_are f k
