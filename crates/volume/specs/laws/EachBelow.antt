-- Lists gathered over drives or zones: pieces that agree below n make the same list.
use Rattle.std.specs.Prelude.{◌≡◌, refl, ℕ, zero, suc, ◌<◌, List, ◌++◌}
use Rattle.std.proofs.Common.{ap₂, arith}
use Rattle.tables.specs.meaning.Below.{each_below}

pub each_below_cong {ℓ} : {A : Type ℓ} (f h : ℕ → List A) (n : ℕ) → ((k : ℕ) → k < n → f k ≡ h k) → each_below f n ≡ each_below h n
each_below_cong f h zero e = refl
each_below_cong {A = A} f h (suc n) e = ap₂ (λ (x y : List A). x ++ y) (each_below_cong f h n (λ k l. e k (omega arith))) (e n (omega arith))
