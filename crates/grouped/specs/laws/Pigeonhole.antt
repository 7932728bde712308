-- As many blocks as stripes, each of one stripe at most: if every stripe has a block, none has two.
use Rattle.std.specs.Prelude.{◌≡◌, refl, Bool, true, false, not, ℕ, zero, suc, ◌+◌, ◌≤◌, ◌<◌, eqb}
use Rattle.std.proofs.Common.{sym, ap, ◌∙◌, zero-le, not-suc-le-zero, add-zero, arith, eqb-true, ne_eqb}
use Rattle.std.proofs.Math.Decide.{ℕ_discrete}
use Rattle.std.proofs.lemmas.Bool.{eqb-false}
use Rattle.tables.specs.meaning.Basics.{pick}
use Rattle.tables.specs.meaning.Below.{any_below, count_below}
use Rattle.tables.specs.laws.Below.{any_below_some, any_below_false, some_any_below, none_any_below}
use Rattle.grouped.specs.meaning.Stripes.{last_below}

abbrev sum_below : (ℕ → ℕ) → ℕ → ℕ
sum_below f zero = zero
sum_below f (suc n) = sum_below f n + f n

sum_add : (f g : ℕ → ℕ) (m : ℕ) → sum_below (λ n. f n + g n) m ≡ sum_below f m + sum_below g m
sum_add f g zero = refl
sum_add f g (suc m) = omega (arith, sum_add f g m)

sum_none : (m : ℕ) → sum_below (λ n. zero) m ≡ zero
sum_none zero = refl
sum_none (suc m) = omega (arith, sum_none m)

sum_count : (p : ℕ → Bool) (m : ℕ) → sum_below (λ n. pick (p n) 1 0) m ≡ count_below p m
sum_count p zero = refl
sum_count p (suc m) = ap (λ (k : ℕ). k + pick (p m) 1 0) (sum_count p m)

-- b n i: block i is of stripe n
sum_of_counts : (b : ℕ → ℕ → Bool) (m : ℕ) → ((i : ℕ) → count_below (λ n. b n i) m ≤ 1) → (i : ℕ) → sum_below (λ n. count_below (b n) i) m ≤ i
sum_of_counts b m h zero = rw (sum_none m) zero-le
sum_of_counts b m h (suc i) =
    rw (sum_add (λ n. count_below (b n) i) (λ n. pick (b n i) 1 0) m, sum_count (λ n. b n i) m) (omega (arith, sum_of_counts b m h i, h i))

sum_least : (f : ℕ → ℕ) (m : ℕ) → ((k : ℕ) → k < m → 1 ≤ f k) → m ≤ sum_below f m
sum_least f zero h = zero-le
sum_least f (suc m) h = omega (arith, sum_least f m (λ k l. h k (omega arith)), h m (omega arith))

sum_with : (f : ℕ → ℕ) (m k : ℕ) → ((j : ℕ) → j < m → 1 ≤ f j) → k < m → m + f k ≤ suc (sum_below f m)
sum_with f zero k h l = absurd (not-suc-le-zero l)
sum_with f (suc m) k h l = go (ℕ_discrete k m) (λ q. sum_with f m k (λ j r. h j (omega arith)) q)
  where
    go : Dec (k ≡ m) → (k < m → m + f k ≤ suc (sum_below f m)) → suc m + f k ≤ suc (sum_below f m + f m)
    go (yes e) ih = rw e (omega (arith, sum_least f m (λ j r. h j (omega arith))))
    go (no e) ih = omega (arith, ih (omega arith), h m (omega arith))

-- the last is there where some is
pub last_count : (p : ℕ → Bool) (n : ℕ) → eqb (last_below p n) 0 ≡ eqb (count_below p n) 0
last_count p zero = refl
last_count p (suc n) = go (p n) (last_count p n)
  where
    go : (t : Bool) → eqb (last_below p n) 0 ≡ eqb (count_below p n) 0 → eqb (pick t (suc n) (last_below p n)) 0 ≡ eqb (count_below p n + pick t 1 0) 0
    go true ih = ne_eqb (suc n) 0 (omega arith) ∙ sym (ne_eqb (count_below p n + 1) 0 (omega arith))
    go false ih = ih ∙ ap (λ (k : ℕ). eqb k 0) (sym (add-zero (count_below p n)))

-- 23 is lacking one
pub wrong_is_lacking : (b : ℕ → ℕ → Bool) (m : ℕ) → ((i : ℕ) → count_below (λ n. b n i) m ≤ 1)
    → any_below (λ n. not (eqb (count_below (b n) m) 1)) m ≡ any_below (λ n. eqb (last_below (b n) m) 0) m
wrong_is_lacking b m h = go (any_below (λ n. eqb (last_below (b n) m) 0) m) refl
  where
    go : (t : Bool) → any_below (λ n. eqb (last_below (b n) m) 0) m ≡ t → any_below (λ n. not (eqb (count_below (b n) m) 1)) m ≡ t
    go true e =
        let (k, l, q) = any_below_some (λ n. eqb (last_below (b n) m) 0) m e in
        let z : count_below (b k) m ≡ 0 = eqb-true (count_below (b k) m) 0 (sym (last_count (b k) m) ∙ q) in
        some_any_below (λ n. not (eqb (count_below (b n) m) 1)) m k l (rw z refl)
    go false e =
        let some : (k : ℕ) → k < m → 1 ≤ count_below (b k) m =
        λ k l. omega (arith, eqb-false (count_below (b k) m) 0 (sym (last_count (b k) m) ∙ any_below_false (λ n. eqb (last_below (b n) m) 0) m k e l)) in
        none_any_below (λ n. not (eqb (count_below (b n) m) 1)) m
        (λ k l. let one : count_below (b k) m ≡ 1 = omega (arith, some k l, sum_with (λ n. count_below (b n) m) m k some l, sum_of_counts b m h m) in rw one refl)

-- the last is below the end
pub last_most : (p : ℕ → Bool) (n : ℕ) → last_below p n ≤ n
last_most p zero = zero-le
last_most p (suc n) = go (p n) (last_most p n)
  where
    go : (t : Bool) → last_below p n ≤ n → pick t (suc n) (last_below p n) ≤ suc n
    go true h = omega arith
    go false h = omega arith
