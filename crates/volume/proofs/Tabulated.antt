-- A list of n numbers is the tabulation of f where it holds f i at each i: what `map` and `from_fn` of an array say of what they made.
use Rattle.std.specs.Prelude.{◌≡◌, ◌≢◌, refl, ℕ, zero, suc, ◌+◌, ◌<◌, List, length, get_or, set}
use denote.Param.Members.{Mut}
use Rattle.std.proofs.Common.{sym, subst, not-suc-le-zero, ◌∙◌, arith, length-set, get_or-set_same, get_or-set_other, eq-eqb, ne_eqb}
use Rattle.std.proofs.Math.Decide.{ℕ_discrete}
use Rattle.std.specs.Array.{IsFromFnResultFrom, IsFromFnResult}
use Rattle.std.specs.Fn.{Called}
use Rattle.tables.specs.meaning.Below.{tabulate}
use Rattle.tables.specs.laws.Below.{length_tabulate, get_d_tabulate}
use Rattle.tables.specs.laws.Lists.{numbers_same}
use Rattle.volume.specs.meaning.State.{set_at}

pub tabulated : (f : ℕ → ℕ) (n : ℕ) (xs : List ℕ) → length xs ≡ n → ((i : ℕ) → i < n → get_or xs i 0 ≡ f i) → xs ≡ tabulate f n
tabulated f n xs l h = numbers_same xs (tabulate f n) (l ∙ sym (length_tabulate f n)) (λ k q. h k (omega (arith, q, l)) ∙ sym (get_d_tabulate f n k 0 (omega (arith, q, l))))

-- with one number anew
pub set_tabulated : (f : ℕ → ℕ) (n z x : ℕ) → z < n → set (tabulate f n) z x ≡ tabulate (set_at f z x) n
set_tabulated f n z x h = tabulated (set_at f z x) n (set (tabulate f n) z x) (simp length-set (length_tabulate f n)) (λ i k. go i k (ℕ_discrete i z))
  where
    within : z < length (tabulate f n)
    within = rw (length_tabulate f n) h

    go : (i : ℕ) → i < n → Dec (i ≡ z) → get_or (set (tabulate f n) z x) i 0 ≡ set_at f z x i
    go i k (yes e) = rw (e, eq-eqb z z refl) (let w = within in rw get_or-set_same refl)
    go i k (no e) = rw (ne_eqb i z e) (let w : i ≢ z = e in rw get_or-set_other (get_d_tabulate f n i 0 k))

-- what `from_fn` made by a closure that keeps what it holds
module _ {F : Type 0} (g : Mut F (ℕ × Unit {0}) ℕ) (f : F) (h : ℕ → ℕ) (calls : (i y : ℕ) (q : F) → Called g f (i, tt) y q → (q ≡ f) × (y ≡ h i)) where
  each_made : (ys : List ℕ) (i n : ℕ) → IsFromFnResultFrom g f ys i n → (k : ℕ) → k < n → get_or ys (i + k) 0 ≡ h (i + k)
  each_made ys i zero _ k l = absurd (not-suc-le-zero l)
  each_made ys i (suc n) (q, y, at, called, rest) zero l = let e : i + zero ≡ i = omega arith in rw e (at.1 0 ∙ (calls i y q called).1)
  each_made ys i (suc n) (q, y, at, called, rest) (suc k) l = let e : i + suc k ≡ i + 1 + k = omega arith in rw e (each_made ys (i + 1) n (subst (λ (p : F). IsFromFnResultFrom g p ys (i + 1) n) (calls i y q called).0 rest) k (omega (arith, l)))

  pub made_tabulated : (ys : List ℕ) (n : ℕ) → IsFromFnResult g f ys n → ys ≡ tabulate h n
  made_tabulated ys n made = tabulated h n ys made.long (λ i l. let e : 0 + i ≡ i = omega arith in rw e at (each_made ys 0 n made.each i l))
