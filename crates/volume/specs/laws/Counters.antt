-- The generations of a counters entry: one for each zone, each as its zone's, and each with room in its field.
use Rattle.std.specs.Prelude.{◌≡◌, refl, ℕ, zero, suc, ◌+◌, ◌^◌, ◌<◌, length, get_or}
use Rattle.std.proofs.Common.{ap, le_of_suc-le-suc, not-suc-le-zero, arith}
use Rattle.tables.specs.laws.LittleEndian.{Small}
use Rattle.volume.specs.meaning.Calls.{generations_from}

pub generations_length : (f : ℕ → ℕ) (i n : ℕ) → length (generations_from f i n) ≡ n
generations_length f i zero = refl
generations_length f i (suc n) = ap suc (generations_length f (suc i) n)

pub generations_at : (f : ℕ → ℕ) (i n k : ℕ) → k < n → get_or (generations_from f i n) k zero ≡ f (i + k)
generations_at f i zero k h = absurd (not-suc-le-zero h)
generations_at f i (suc n) zero h = let e : i + zero ≡ i = omega arith in rw e refl
generations_at f i (suc n) (suc k) h = let e : i + suc k ≡ suc i + k = omega arith in rw e (generations_at f (suc i) n k (le_of_suc-le-suc h))

pub generations_small : (f : ℕ → ℕ) (i n : ℕ) → ((k : ℕ) → k < n → f (i + k) < 256 ^ 8) → Small (generations_from f i n)
generations_small f i zero h = tt
generations_small f i (suc n) h =
    let e : i + zero ≡ i = omega arith in
    (rw e at (h zero (omega arith)), generations_small f (suc i) n (λ k l. let q : suc i + k ≡ i + suc k = omega arith in rw q (h (suc k) (omega arith))))
