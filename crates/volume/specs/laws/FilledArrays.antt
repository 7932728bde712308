-- An array of m that is filled from the front, as a loop does it: f below n, x from there on.
use Rattle.std.specs.Prelude.{◌≡◌, refl, ℕ, zero, suc, ◌+◌, ◌-◌, ◌≤◌, ◌<◌, List, [], ◌∷◌, ◌++◌, length, get_or, set, replicate}
use Rattle.std.proofs.Common.{sym, ap, ◌∙◌, add-one, arith, append-nil, length-set, length-append, get_or-append-add}
use Rattle.std.proofs.lemmas.List.{length-replicate}
use Rattle.std.proofs.Math.ListN.{get_or-append}
use Rattle.tables.specs.meaning.Below.{tabulate}
use Rattle.tables.specs.laws.Below.{length_tabulate, get_d_tabulate}

set_at_end : {A : Type 0} (xs : List A) (n : ℕ) (x y : A) → set (xs ++ replicate (suc n) x) (length xs) y ≡ xs ++ (y ∷ []) ++ replicate n x
set_at_end [] n x y = refl
set_at_end (z ∷ xs) n x y = ap (λ (r : List _). z ∷ r) (set_at_end xs n x y)

pub fill_more : {A : Type 0} (f : ℕ → A) (x : A) (m n : ℕ) → n < m → set (tabulate f n ++ replicate (m - n) x) n (f n) ≡ tabulate f (suc n) ++ replicate (m - suc n) x
fill_more f x m n h =
    let e : m - n ≡ suc (m - suc n) = omega arith in
    let l : length (tabulate f n) ≡ n = length_tabulate f n in
    rw e (ap (λ (i : ℕ). set (tabulate f n ++ replicate (suc (m - suc n)) x) i (f n)) (sym l) ∙ set_at_end (tabulate f n) (m - suc n) x (f n))

-- an array of n numbers of which the first z are filled, as a loop does it
abbrev pub FilledTo : (ℕ → ℕ) → ℕ → ℕ → List ℕ → Type 0
FilledTo f n z xs = (z ≤ n) × (length xs ≡ n) × (xs ≡ tabulate f z ++ replicate (n - z) 0)

pub filled_turn : (f : ℕ → ℕ) (n z : ℕ) (xs : List ℕ) → z < n → FilledTo f n z xs → FilledTo f n (z + 1) (set xs z (f z))
filled_turn f n z xs h (a, l, e) = (omega (arith, h), simp length-set l, rw (e, add-one) (fill_more f 0 n z h))

pub filled_end : (f : ℕ → ℕ) (n z : ℕ) (xs : List ℕ) → n ≤ z → FilledTo f n z xs → xs ≡ tabulate f n
filled_end f n z xs h (a, l, e) = let q : z ≡ n = omega (arith, h, a) in let k : n - n ≡ 0 = omega arith in e ∙ rw (q, k) (append-nil (tabulate f n))

pub fill_long : {A : Type 0} (f : ℕ → A) (x : A) (m n : ℕ) → n ≤ m → length (tabulate f n ++ replicate (m - n) x) ≡ m
fill_long f x m n h = length-append (tabulate f n) (replicate (m - n) x) ∙ omega (arith, length_tabulate f n, length-replicate (m - n) x, h)

pub fill_at : {A : Type 0} (f : ℕ → A) (x y : A) (n k i : ℕ) → i < n → get_or (tabulate f n ++ replicate k x) i y ≡ f i
fill_at f x y n k i h = get_or-append (tabulate f n) (replicate k x) y i (rw (length_tabulate f n) h) ∙ get_d_tabulate f n i y h

get_d_blank : {A : Type 0} (x : A) (n i : ℕ) → get_or (replicate n x) i x ≡ x
get_d_blank x zero i = refl
get_d_blank x (suc n) zero = refl
get_d_blank x (suc n) (suc i) = get_d_blank x n i

pub fill_past : {A : Type 0} (f : ℕ → A) (x : A) (n k i : ℕ) → n ≤ i → get_or (tabulate f n ++ replicate k x) i x ≡ x
fill_past f x n k i h =
    let e : i ≡ length (tabulate f n) + (i - n) = omega (arith, length_tabulate f n) in
    ap (λ (j : ℕ). get_or (tabulate f n ++ replicate k x) j x) e ∙ get_or-append-add (tabulate f n) (replicate k x) (i - n) x ∙ get_d_blank x k (i - n)
