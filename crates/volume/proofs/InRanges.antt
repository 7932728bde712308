-- `any` and `all` over the numbers from a on, n of them, as folds of the specs.
use Rattle.std.specs.Prelude.{◌≡◌, refl, Bool, true, false, ◌&&◌, ◌||◌, ℕ, zero, suc, ◌+◌, List, [], ◌∷◌, ◌++◌}
use Rattle.std.specs.List.{range_with_len, list_any, list_all}
use Rattle.std.proofs.Common.{ap, ◌∙◌, arith}
use Rattle.std.proofs.lemmas.List.Folds.{list_any-append, list_all-append}
use Rattle.tables.specs.meaning.Below.{any_below, all_below}
use Rattle.tables.specs.laws.Below.{any_below_cong}

-- the last number taken off
range_more : (a n : ℕ) → range_with_len a (suc n) ≡ range_with_len a n ++ ((a + n) ∷ [])
range_more a zero = let e : a + zero ≡ a = omega arith in rw e refl
range_more a (suc n) = let e : a + 1 + n ≡ a + suc n = omega arith in ap (λ (r : List ℕ). a ∷ r) (range_more (a + 1) n ∙ rw e refl)

or_none : (b : Bool) → b || false ≡ b
or_none true = refl
or_none false = refl

and_all : (b : Bool) → b && true ≡ b
and_all true = refl
and_all false = refl

pub any_from : (p : ℕ → Bool) (a n : ℕ) → list_any p (range_with_len a n) ≡ any_below (λ i. p (a + i)) n
any_from p a zero = refl
any_from p a (suc n) = ap (list_any p) (range_more a n) ∙ list_any-append p (range_with_len a n) ((a + n) ∷ []) ∙ rw (any_from p a n, or_none (p (a + n))) refl

pub any_in : (p : ℕ → Bool) (n : ℕ) → list_any p (range_with_len 0 n) ≡ any_below p n
any_in p n = any_from p 0 n ∙ any_below_cong (λ i. p (0 + i)) p n (λ k h. let e : 0 + k ≡ k = omega arith in rw e refl)

pub all_in : (p : ℕ → Bool) (n : ℕ) → list_all p (range_with_len 0 n) ≡ all_below p n
all_in p zero = refl
all_in p (suc n) = ap (list_all p) (range_more 0 n) ∙ list_all-append p (range_with_len 0 n) ((0 + n) ∷ []) ∙ (let e : 0 + n ≡ n = omega arith in rw (all_in p n, and_all (p (0 + n)), e) refl)
