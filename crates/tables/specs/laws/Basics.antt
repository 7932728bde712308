-- How proofs take tests apart. Rules are written with Boolean tests, so that they compute and agree with code; proofs split on them.
use Rattle.std.specs.Prelude.{◌≡◌, refl, ◌⊎◌, Bool, true, false, ◌&&◌, ◌||◌, not, ℕ, ◌*◌, ◌≤◌, ◌<◌, eqb}
use Rattle.std.proofs.Common.{sym, ◌∙◌, inl, inr, true≢false, mul-le-mul_left, mul-one, arith, eq-eqb}
use Rattle.std.proofs.Math.Decide.{dec_lt}

pub and_split : (a b : Bool) → a && b ≡ true → (a ≡ true) × (b ≡ true)
and_split true true h = (refl, refl)
and_split true false h = (refl, h)
and_split false b h = (h, absurd (true≢false (sym h)))

pub and_join : (a b : Bool) → a ≡ true → b ≡ true → a && b ≡ true
and_join a b p q = rw (p, q) refl

pub and_same : (b : Bool) → b && b ≡ b
and_same true = refl
and_same false = refl

pub or_cases : (a b : Bool) → a || b ≡ true → (a ≡ true) ⊎ ((a ≡ false) × (b ≡ true))
or_cases true b h = inl refl
or_cases false b h = inr (refl, h)

pub or_left : (a b : Bool) → a ≡ true → a || b ≡ true
or_left a b h = rw h refl

pub or_right : (a b : Bool) → b ≡ true → a || b ≡ true
or_right true b h = refl
or_right false b h = h

pub not_true : (a : Bool) → not a ≡ true → a ≡ false
not_true true h = sym h
not_true false h = refl

pub not_false : (a : Bool) → a ≡ false → not a ≡ true
not_false a h = rw h refl

pub not_both {ℓ} : {A : Type ℓ} (b : Bool) → b ≡ true → b ≡ false → A
not_both b p q = absurd (true≢false (sym p ∙ q))

pub or_none : (a b : Bool) → a || b ≡ false → (a ≡ false) × (b ≡ false)
or_none true b h = (h, absurd (true≢false h))
or_none false b h = (refl, h)

pub not_not : (a : Bool) → not a ≡ false → a ≡ true
not_not true h = refl
not_not false h = sym h

-- ---- numbers
pub eqb_same : (a : ℕ) → eqb a a ≡ true
eqb_same a = eq-eqb a a refl

-- one of three: used where a proof needs all three cases
pub data Tri (a b : ℕ) : Type 0 where
  lt : a < b → Tri a b
  eq : a ≡ b → Tri a b
  gt : b < a → Tri a b

pub tri : (a b : ℕ) → Tri a b
tri a b = go (dec_lt a b) (dec_lt b a)
  where
    go : Dec (a < b) → Dec (b < a) → Tri a b
    go (yes h) k = lt h
    go (no h) (yes k) = gt k
    go (no h) (no k) = eq (omega arith)

-- a product with a positive number is no less
pub le_times : (x : ℕ) {b : ℕ} → 1 ≤ b → x ≤ x * b
le_times x h = rw mul-one at (mul-le-mul_left x h)
