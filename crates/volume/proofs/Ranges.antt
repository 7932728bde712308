-- What the methods of iterators answer over the numbers below n, or over the front of a list, where the closure computes p: the folds of the specs.
use Rattle.std.proofs.Common.{◌≡◌, ℕ, zero, suc, ◌+◌, ◌<◌, ◌≤◌, Bool, true, false, ◌&&◌, Option, List, [], ◌∷◌, length, take, get_or, refl, ap, ◌∙◌, add-one, arith}
use Rattle.std.proofs.iter.Yields.{nat_range_steps}
use Rattle.std.proofs.lemmas.Iterator.{YieldsList-from_range}
use Rattle.std.proofs.lemmas.Iterator.Search.{any_from_yields_List, all_from_yields_List}
use Rattle.std.specs.Fn.{Called}
use Rattle.std.specs.Iterator.{YieldsThen}
use Rattle.std.specs.List.{FoldsTo, range_with_len, list_any, list_all, count_by}
use Rattle.std.proofs.lemmas.List.Sums.{count_by_more_yes, count_by_more_no}
use Rattle.std.proofs.lemmas.List.Folds.{list_any-append}
use Rattle.std.proofs.Math.Seq.{take-suc}
use Rattle.std.specs.Option.{MatchOption}
use Rattle.std.specs.declared.ops.Range.{Range}
use Rattle.tables.specs.meaning.Below.{any_below, all_below, count_below}
use Rattle.tables.specs.meaning.Basics.{pick}
use Rattle.volume.proofs.InRanges.{any_in, all_in}
use denote.Param.Members.{Mut}

pub any_below-from_range : {F : Type 0} {g : Mut F (ℕ × Unit {0}) Bool} (p : ℕ → Bool) (n : ℕ) (u : Range ℕ) (f : F) (r : Bool)
    → (xs : List ℕ) × (o : Option ℕ) × (j : F) × YieldsThen nat_range_steps (record { start = 0; end = n }) xs o u × FoldsTo (λ h x q. Called g h (x, tt) false q) f xs j × MatchOption o (r ≡ false) (λ x. (r ≡ true) × ((h : F) × Called g j (x, tt) true h))
    → ((x : ℕ) (b : Bool) (q : F) → Called g f (x, tt) b q → (q ≡ f) × (b ≡ p x)) → r ≡ any_below p n
any_below-from_range p n u f r ran calls = any_from_yields_List p u f r ran (YieldsList-from_range 0 n n refl (omega arith)) calls ∙ any_in p n

pub all_below-from_range : {F : Type 0} {g : Mut F (ℕ × Unit {0}) Bool} (p : ℕ → Bool) (n : ℕ) (u : Range ℕ) (f : F) (r : Bool)
    → (xs : List ℕ) × (o : Option ℕ) × (j : F) × YieldsThen nat_range_steps (record { start = 0; end = n }) xs o u × FoldsTo (λ h x q. Called g h (x, tt) true q) f xs j × MatchOption o (r ≡ true) (λ x. (r ≡ false) × ((h : F) × Called g j (x, tt) false h))
    → ((x : ℕ) (b : Bool) (q : F) → Called g f (x, tt) b q → (q ≡ f) × (b ≡ p x)) → r ≡ all_below p n
all_below-from_range p n u f r ran calls = all_from_yields_List p u f r ran (YieldsList-from_range 0 n n refl (omega arith)) calls ∙ all_in p n

all_more : (p : ℕ → Bool) (a n : ℕ) → list_all p (range_with_len a (suc n)) ≡ (list_all p (range_with_len a n) && p (a + n))
all_more p a zero = grind arith
all_more p a (suc n) = grind (arith, all_more p (a + 1) n)

all_from : (p : ℕ → Bool) (a n : ℕ) → list_all p (range_with_len a n) ≡ all_below (λ i. p (a + i)) n
all_from p a zero = refl
all_from p a (suc n) = grind (arith, all_more p a n, all_from p a n)

-- the same over a..a + n
pub all_below-from_range_at : {F : Type 0} {g : Mut F (ℕ × Unit {0}) Bool} (p : ℕ → Bool) (a n : ℕ) (u : Range ℕ) (f : F) (r : Bool)
    → (xs : List ℕ) × (o : Option ℕ) × (j : F) × YieldsThen nat_range_steps (record { start = a; end = a + n }) xs o u × FoldsTo (λ h x q. Called g h (x, tt) true q) f xs j × MatchOption o (r ≡ true) (λ x. (r ≡ false) × ((h : F) × Called g j (x, tt) false h))
    → ((x : ℕ) (b : Bool) (q : F) → Called g f (x, tt) b q → (q ≡ f) × (b ≡ p x)) → r ≡ all_below (λ i. p (a + i)) n
all_below-from_range_at p a n u f r ran calls = all_from_yields_List p u f r ran (YieldsList-from_range a (a + n) n refl (omega arith)) calls ∙ all_from p a n

-- a list's front has what passes a test
pub any_below-from_take : (p : ℕ → Bool) (xs : List ℕ) (n : ℕ) → n ≤ length xs → list_any p (take n xs) ≡ any_below (λ i. p (get_or xs i 0)) n
any_below-from_take p xs zero h = refl
any_below-from_take p xs (suc n) h =
    let l : n < length xs = omega arith in
    rw (take-suc xs n 0 l, list_any-append p (take n xs) (get_or xs n 0 ∷ [])) (grind (arith, any_below-from_take p xs n (omega arith)))

-- how many of a list's front pass a test
pub count_below-from_take : {A : Type 0} (p : A → Bool) (xs : List A) (d : A) (n : ℕ) → n ≤ length xs → count_by p (take n xs) ≡ count_below (λ i. p (get_or xs i d)) n
count_below-from_take p xs d zero h = refl
count_below-from_take p xs d (suc n) h = go (p (get_or xs n d)) refl (count_below-from_take p xs d n (omega arith))
  where
    l : n < length xs
    l = omega arith

    go : (b : Bool) → p (get_or xs n d) ≡ b → count_by p (take n xs) ≡ count_below (λ i. p (get_or xs i d)) n → count_by p (take (suc n) xs) ≡ count_below (λ i. p (get_or xs i d)) n + pick (p (get_or xs n d)) 1 0
    go true e t = rw (e, ← add-one n) (count_by_more_yes p xs n d l e ∙ ap (λ (k : ℕ). k + 1) t)
    go false e t = rw (e, ← add-one n) (count_by_more_no p xs n d l e ∙ t ∙ omega arith)
