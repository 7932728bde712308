-- Little-endian numbers of any width (document 01: "multi-byte fields little-endian").
use Rattle.std.specs.Prelude.{Bool, true, false, ◌&&◌, ℕ, zero, suc, ◌+◌, ◌*◌, ◌/◌, ◌%◌, List, [], ◌∷◌, ◌++◌, take, drop, eqb}

abbrev pub bytes_le : ℕ → ℕ → List ℕ
bytes_le zero x = []
bytes_le (suc n) x = x % 256 ∷ bytes_le n (x / 256)

abbrev pub number_le : List ℕ → ℕ
number_le [] = zero
number_le (b ∷ bs) = b + 256 * number_le bs

-- numbers of 8 bytes, one after the other
abbrev pub words_le : List ℕ → List ℕ
words_le [] = []
words_le (x ∷ xs) = bytes_le 8 x ++ words_le xs

-- n of them, read from the front
abbrev pub numbers_le : ℕ → List ℕ → List ℕ
numbers_le zero s = []
numbers_le (suc n) s = number_le (take 8 s) ∷ numbers_le n (drop 8 s)

abbrev pub same_bytes : List ℕ → List ℕ → Bool
same_bytes [] [] = true
same_bytes [] (y ∷ ys) = false
same_bytes (x ∷ xs) [] = false
same_bytes (x ∷ xs) (y ∷ ys) = eqb x y && same_bytes xs ys

-- ---- in place: read from, and written into, a list of bytes
-- the number in the k bytes from `at`
abbrev pub read_le : ℕ → List ℕ → ℕ → ℕ
read_le k xs at = number_le (take k (drop at xs))
