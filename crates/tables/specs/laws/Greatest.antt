-- What `greatest` is: the greatest n with all n first ones passing.
use Rattle.std.specs.Prelude.{◌≡◌, refl, Bool, true, false, ℕ, zero, suc, ◌+◌, ◌≤◌, ◌<◌}
use Rattle.std.proofs.Common.{sym, ◌∙◌, true≢false, zero-le, suc-le-suc, le_refl, not-suc-le-zero, le_of_suc-le-suc, arith}
use Rattle.std.proofs.Math.Decide.{dec_lt}
use Rattle.tables.specs.meaning.Greatest.{run_from, greatest}

module _ (p : ℕ → Bool) where
  run_cases : (i n : ℕ) (b : Bool) → p i ≡ b → run_from p i (suc n) ≡ (elim b as (λ _. ℕ) [ true ↦ suc (run_from p (suc i) n) | false ↦ zero ])
  run_cases i n b e = rw (e, run_from) refl

  pub run_le : (n i : ℕ) → run_from p i n ≤ n
  run_le zero i = le_refl zero
  run_le (suc n) i = go (p i) refl (run_le n (suc i))
    where
      go : (b : Bool) → p i ≡ b → run_from p (suc i) n ≤ n → run_from p i (suc n) ≤ suc n
      go true e ih = rw (run_cases i n true e) (suc-le-suc ih)
      go false e ih = rw (run_cases i n false e) zero-le

  -- all below it hold
  pub run_all : (n i k : ℕ) → k < run_from p i n → p (i + k) ≡ true
  run_all zero i k h = absurd (not-suc-le-zero h)
  run_all (suc n) i k h = go (p i) refl k h (λ j l. run_all n (suc i) j l)
    where
      go : (b : Bool) → p i ≡ b → (k : ℕ) → k < run_from p i (suc n) → ((j : ℕ) → j < run_from p (suc i) n → p (suc i + j) ≡ true) → p (i + k) ≡ true
      go true e zero l ih = let q : i + zero ≡ i = omega arith in rw q e
      go true e (suc k) l ih = let q : i + suc k ≡ suc i + k = omega arith in rw q (ih k (le_of_suc-le-suc (rw (run_cases i n true e) at l)))
      go false e k l ih = absurd (not-suc-le-zero (rw (run_cases i n false e) at l))

  -- and it is the greatest
  pub run_max : (n i m : ℕ) → m ≤ n → ((k : ℕ) → k < m → p (i + k) ≡ true) → m ≤ run_from p i n
  run_max n i zero h f = zero-le
  run_max zero i (suc m) h f = absurd (not-suc-le-zero h)
  run_max (suc n) i (suc m) h f =
      let z : i + zero ≡ i = omega arith in
      let e : p i ≡ true = rw z at (f zero (omega arith)) in
      rw (run_cases i n true e) (suc-le-suc (run_max n (suc i) m (omega arith) (λ k l. let q : suc i + k ≡ i + suc k = omega arith in rw q (f (suc k) (omega arith)))))

-- the three as the characterisation that users cite
pub greatest_le : (p : ℕ → Bool) (n : ℕ) → greatest p n ≤ n
greatest_le p n = run_le p n zero

pub greatest_all : (p : ℕ → Bool) (n k : ℕ) → k < greatest p n → p k ≡ true
greatest_all p n k h = let q : zero + k ≡ k = omega arith in rw q at (run_all p n zero k h)

pub greatest_max : (p : ℕ → Bool) (n m : ℕ) → m ≤ n → ((k : ℕ) → k < m → p k ≡ true) → m ≤ greatest p n
greatest_max p n m h f = run_max p n zero m h (λ k l. let q : zero + k ≡ k = omega arith in rw q (f k l))

-- unique, monotone, and stable under equal tests: each a line from the three
pub greatest_is : (p : ℕ → Bool) (n m : ℕ) → m ≤ n → ((k : ℕ) → k < m → p k ≡ true) → (m < n → p m ≡ false) → greatest p n ≡ m
greatest_is p n m h f g = go (dec_lt m (greatest p n))
  where
    go : Dec (m < greatest p n) → greatest p n ≡ m
    go (yes l) = absurd (true≢false (sym (greatest_all p n m l) ∙ g (omega (arith, greatest_le p n))))
    go (no l) = omega (arith, greatest_max p n m h f)
