-- Folds over the numbers below n: some, all, how many, the sum, the greatest; lists made for each of them. Every loop of the code counts upwards, so each
-- fold takes its last number off: the loop's invariant is the definition at the loop's counter.
use Rattle.std.specs.Prelude.{Bool, true, false, ◌&&◌, ◌||◌, ℕ, zero, suc, ◌+◌, List, [], ◌∷◌, ◌++◌, leb}
use Rattle.tables.specs.meaning.Basics.{pick}

-- ---- some k below n
abbrev pub any_below : (ℕ → Bool) → ℕ → Bool
any_below p zero = false
any_below p (suc n) = any_below p n || p n

-- ---- how many k below n
abbrev pub count_below : (ℕ → Bool) → ℕ → ℕ
count_below p zero = zero
count_below p (suc n) = count_below p n + pick (p n) 1 0

-- ---- the sum of f 0 .. f (n - 1)
abbrev pub sum_below : (ℕ → ℕ) → ℕ → ℕ
sum_below f zero = zero
sum_below f (suc n) = sum_below f n + f n

-- ---- the greatest of f 0 .. f (n - 1), 0 if there is none
abbrev pub larger : ℕ → ℕ → ℕ
larger a b = pick (leb a b) b a

abbrev pub max_below : (ℕ → ℕ) → ℕ → ℕ
max_below f zero = zero
max_below f (suc n) = larger (max_below f n) (f n)

-- ---- every k below n
abbrev pub all_below : (ℕ → Bool) → ℕ → Bool
all_below p zero = true
all_below p (suc n) = all_below p n && p n

-- ---- lists for 0 .. n - 1, one after the other
abbrev pub each_below {ℓ} : {A : Type ℓ} → (ℕ → List A) → ℕ → List A
each_below f zero = []
each_below f (suc n) = each_below f n ++ f n

-- ---- f 0 .. f (n - 1) as a list
abbrev pub tabulate {ℓ} : {A : Type ℓ} → (ℕ → A) → ℕ → List A
tabulate f zero = []
tabulate f (suc n) = tabulate f n ++ (f n ∷ [])

-- f i, f (i + 1), .., n of them
abbrev pub tabulate_from : (ℕ → List ℕ) → ℕ → ℕ → List (List ℕ)
tabulate_from f i zero = []
tabulate_from f i (suc n) = f i ∷ tabulate_from f (suc i) n
