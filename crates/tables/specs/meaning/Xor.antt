-- Exclusive or of sectors, and of a row of any number of sectors.
use Rattle.std.specs.Prelude.{true, false, ℕ, zero, suc, List, [], ◌∷◌, eqb}
use Rattle.std.specs.Int.Bits.{bit_xor}

-- ---- two sectors, the shorter filled up with zeros: [] is the unit, and the laws need no lengths
abbrev pub xor_bytes : List ℕ → List ℕ → List ℕ
xor_bytes [] ys = ys
xor_bytes (x ∷ xs) [] = x ∷ xs
xor_bytes (x ∷ xs) (y ∷ ys) = bit_xor x y ∷ xor_bytes xs ys

-- ---- a row: f k is member k, for k below n
abbrev pub xor_below : (ℕ → List ℕ) → ℕ → List ℕ
xor_below f zero = []
xor_below f (suc n) = xor_bytes (xor_below f n) (f n)

-- the row without member i
abbrev pub without : (ℕ → List ℕ) → ℕ → ℕ → List ℕ
without f i k = elim (eqb k i) [ true ↦ [] | false ↦ f k ]
