-- Where a drive's zones lie: each at a place of its own, and all but the first three at their numbers.
use Rattle.std.specs.Prelude.{◌≡◌, ◌≢◌, Bool, ◌||◌, ℕ, zero, suc, ◌+◌, ◌-◌, ◌/◌, ◌%◌, ◌≤◌, ◌<◌, ltb, eqb}
use Rattle.std.proofs.Math.Path.{refl}
use Rattle.std.proofs.Common.{sym, ◌∙◌, arith, ltb-false}
use Rattle.std.proofs.Math.Bool.{true, false}
use Rattle.std.proofs.lemmas.Bool.{eqb-false}
use Rattle.tables.specs.declared.Geometry.{Geometry}
use Rattle.tables.specs.meaning.Basics.{pick}
use Rattle.tables.specs.laws.Basics.{or_none}
use Rattle.tables.specs.meaning.Geometry.{physical_zones}
use Rattle.tables.specs.meaning.Tables.{moved_zone, unsaid, log_place, log_bits, zone_place}

-- which zone a number is, and where it lies
data Moved (a b z : ℕ) : Type 0 where
  general : z ≡ 0 → moved_zone a b z ≡ a → Moved a b z
  parity : z ≡ 1 → moved_zone a b z ≡ b → Moved a b z
  spare : z ≡ 2 → moved_zone a b z ≡ 3 - (a + b) → Moved a b z
  other : 3 ≤ z → moved_zone a b z ≡ z → Moved a b z

moved : (a b z : ℕ) → Moved a b z
moved a b zero = general refl refl
moved a b (suc zero) = parity refl refl
moved a b (suc (suc zero)) = spare refl refl
moved a b (suc (suc (suc z))) = other (omega arith) refl

moved_in : (a b z n : ℕ) → a ≤ 2 → b ≤ 2 → a ≢ b → z < n → 3 ≤ n → moved_zone a b z < n
moved_in a b z n ha hb ne h l = go (moved a b z)
  where
    go : Moved a b z → moved_zone a b z < n
    go (general p q) = omega arith
    go (parity p q) = omega arith
    go (spare p q) = omega arith
    go (other p q) = omega arith

moved_injective : (a b y z : ℕ) → a ≤ 2 → b ≤ 2 → a ≢ b → moved_zone a b y ≡ moved_zone a b z → y ≡ z
moved_injective a b y z ha hb ne e = go (moved a b y) (moved a b z)
  where
    go : Moved a b y → Moved a b z → y ≡ z
    go (general p q) (general r s) = omega arith
    go (general p q) (parity r s) = omega arith
    go (general p q) (spare r s) = omega arith
    go (general p q) (other r s) = omega arith
    go (parity p q) (general r s) = omega arith
    go (parity p q) (parity r s) = omega arith
    go (parity p q) (spare r s) = omega arith
    go (parity p q) (other r s) = omega arith
    go (spare p q) (general r s) = omega arith
    go (spare p q) (parity r s) = omega arith
    go (spare p q) (spare r s) = omega arith
    go (spare p q) (other r s) = omega arith
    go (other p q) (general r s) = omega arith
    go (other p q) (parity r s) = omega arith
    go (other p q) (spare r s) = omega arith
    go (other p q) (other r s) = omega arith

-- logs that are not two of the first three zones say nothing; others do
pub record Said (a b : ℕ) : Type 0 where
  pub general_in : a ≤ 2
  pub parity_in : b ≤ 2
  pub two : a ≢ b

pub said : (a b : ℕ) → unsaid a b ≡ false → Said a b
said a b e =
    let (p, q) = or_none (ltb 2 a) (ltb 2 b || eqb a b) e in
    let (r, s) = or_none (ltb 2 b) (eqb a b) q in
    record { general_in = ltb-false 2 a p; parity_in = ltb-false 2 b r; two = eqb-false a b s }

module _ (a b : ℕ) where
  pub log_place_unsaid : (z : ℕ) → unsaid a b ≡ true → z ≡ log_place a b z
  unfolding log_place
  log_place_unsaid z e = rw e refl

  pub log_place_said : (z : ℕ) → unsaid a b ≡ false → moved_zone a b z ≡ log_place a b z
  unfolding log_place
  log_place_said z e = rw e refl

  log_place_in : (z n : ℕ) → z < n → 3 ≤ n → log_place a b z < n
  log_place_in z n h k = go (unsaid a b) refl
    where
      go : (c : Bool) → unsaid a b ≡ c → log_place a b z < n
      go true e = rw (← log_place_unsaid z e) h
      go false e = let s = said a b e in rw (← log_place_said z e) (moved_in a b z n s.general_in s.parity_in s.two h k)

  log_place_injective : (y z : ℕ) → log_place a b y ≡ log_place a b z → y ≡ z
  log_place_injective y z h = go (unsaid a b) refl
    where
      go : (c : Bool) → unsaid a b ≡ c → y ≡ z
      go true e = log_place_unsaid y e ∙ h ∙ sym (log_place_unsaid z e)
      go false e = let s = said a b e in moved_injective a b y z s.general_in s.parity_in s.two (log_place_said y e ∙ h ∙ sym (log_place_said z e))

  log_place_of_other : (z : ℕ) → 3 ≤ z → log_place a b z ≡ z
  unfolding log_place
  log_place_of_other z h = go (unsaid a b) (moved a b z)
    where
      go : (c : Bool) → Moved a b z → pick c z (moved_zone a b z) ≡ z
      go true m = refl
      go false (general p q) = absurd (omega arith)
      go false (parity p q) = absurd (omega arith)
      go false (spare p q) = absurd (omega arith)
      go false (other p q) = q

-- ---- the same of a drive's zones
module _ (g : Geometry) (d : ℕ) where
  pub place_in : (z : ℕ) → z < physical_zones g → zone_place g d z < physical_zones g
  unfolding zone_place
  place_in z h = log_place_in (log_bits g d % 4) (log_bits g d / 4) z (physical_zones g) h (omega arith)

  pub place_injective : (y z : ℕ) → zone_place g d y ≡ zone_place g d z → y ≡ z
  unfolding zone_place
  place_injective y z e = log_place_injective (log_bits g d % 4) (log_bits g d / 4) y z e

  pub place_of_other : (z : ℕ) → 3 ≤ z → zone_place g d z ≡ z
  unfolding zone_place
  place_of_other z h = log_place_of_other (log_bits g d % 4) (log_bits g d / 4) z h
