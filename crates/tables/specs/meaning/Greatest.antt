-- "The greatest n with all n first .. known", as a recursive function.
use Rattle.std.specs.Prelude.{Bool, true, false, ℕ, zero, suc}

-- how many of the first n hold, up to the first that does not (counts from i)
abbrev pub run_from : (ℕ → Bool) → ℕ → ℕ → ℕ
run_from p i zero = zero
run_from p i (suc n) = elim (p i) [ true ↦ suc (run_from p (suc i) n) | false ↦ zero ]

abbrev pub greatest : (ℕ → Bool) → ℕ → ℕ
greatest p n = run_from p zero n
