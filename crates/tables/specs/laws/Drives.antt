-- Laws of finding a drive, and of the drives of a volume that has lost one.
use Rattle.std.specs.Prelude.{◌≡◌, refl, ◌≢◌, ◌⊎◌, Bool, true, false, ◌&&◌, not, ℕ, zero, suc, ◌<◌, ltb, eqb}
use Rattle.std.proofs.Common.{sym, ◌∙◌, inl, inr, true≢false, le_refl, not-suc-le-zero, arith, ltb-true, lt-ltb, eq-eqb, ne_eqb}
use Rattle.std.proofs.Math.Decide.{ℕ_discrete}
use Rattle.tables.specs.meaning.Basics.{pick}
use Rattle.tables.specs.laws.Basics.{and_split}
use Rattle.tables.specs.declared.Geometry.{Geometry}
use Rattle.tables.specs.meaning.Drives.{no_drive, find_below, present_but}

pub find_below_cong : (p q : ℕ → Bool) (n : ℕ) → ((k : ℕ) → k < n → p k ≡ q k) → find_below p n ≡ find_below q n
find_below_cong p q zero h = refl
find_below_cong p q (suc n) h = rw (find_below_cong p q n (λ k l. h k (omega arith)), h n (omega arith)) refl

pub find_below_none : (p : ℕ → Bool) (n : ℕ) → ((k : ℕ) → k < n → p k ≡ false) → find_below p n ≡ no_drive
find_below_none p zero h = refl
find_below_none p (suc n) h = rw (h n (omega arith)) (find_below_none p n (λ k l. h k (omega arith)))

pub find_below_one : (p : ℕ → Bool) (n x : ℕ) → x < n → p x ≡ true → ((k : ℕ) → k < n → k ≢ x → p k ≡ false) → find_below p n ≡ x
find_below_one p zero x l q h = absurd (not-suc-le-zero l)
find_below_one p (suc n) x l q h = go (ℕ_discrete n x) (λ m. find_below_one p n x m q (λ k r. h k (omega arith)))
  where
    go : Dec (n ≡ x) → (x < n → find_below p n ≡ x) → pick (p n) n (find_below p n) ≡ x
    go (yes e) ih = rw (e, q) refl
    go (no e) ih = rw (h n (omega arith) e) (ih (omega arith))

pub find_below_is : (p : ℕ → Bool) (n : ℕ) → ((find_below p n ≡ no_drive) × ((k : ℕ) → k < n → p k ≡ false)) ⊎ ((find_below p n < n) × (p (find_below p n) ≡ true))
find_below_is p zero = inl (refl, λ k h. absurd (not-suc-le-zero h))
find_below_is p (suc n) = go (p n) refl (find_below_is p n)
  where
    go : (b : Bool) → p n ≡ b → ((find_below p n ≡ no_drive) × ((k : ℕ) → k < n → p k ≡ false)) ⊎ ((find_below p n < n) × (p (find_below p n) ≡ true))
        → ((pick b n (find_below p n) ≡ no_drive) × ((k : ℕ) → k < suc n → p k ≡ false)) ⊎ ((pick b n (find_below p n) < suc n) × (p (pick b n (find_below p n)) ≡ true))
    go true e ih = inr (le_refl (suc n), e)
    go false e (inr (a, b)) = inr (omega arith, b)
    go false e (inl (a, b)) = inl (a, λ k h. last k (ℕ_discrete k n) h)
      where
        last : (k : ℕ) → Dec (k ≡ n) → k < suc n → p k ≡ false
        last k (yes q) h = rw q e
        last k (no q) h = b k (omega arith)

pub find_below_some : (p : ℕ → Bool) (n d : ℕ) → d < n → p d ≡ true → p (find_below p n) ≡ true
find_below_some p zero d h q = absurd (not-suc-le-zero h)
find_below_some p (suc n) d h q = go (p n) refl (ℕ_discrete d n) (λ m. find_below_some p n d m q)
  where
    go : (b : Bool) → p n ≡ b → Dec (d ≡ n) → (d < n → p (find_below p n) ≡ true) → p (pick b n (find_below p n)) ≡ true
    go true e t ih = e
    go false e (yes t) ih = absurd (true≢false (sym q ∙ rw t e))
    go false e (no t) ih = ih (omega arith)

-- ---- the drives of a volume that has lost drive x
pub present_below : (g : Geometry) (x d : ℕ) → present_but g x d ≡ true → d < g.drives
present_below g x d h = ltb-true d g.drives (and_split (ltb d g.drives) (not (eqb d x)) h).0

pub present_not : (g : Geometry) (x d : ℕ) → present_but g x d ≡ true → d ≢ x
present_not g x d h e = true≢false (sym (and_split (ltb d g.drives) (not (eqb d x)) h).1 ∙ rw (eq-eqb d x e) refl)

pub present_other : (g : Geometry) (x d : ℕ) → d < g.drives → d ≢ x → present_but g x d ≡ true
present_other g x d h n = rw (lt-ltb d g.drives h, ne_eqb d x n) refl
