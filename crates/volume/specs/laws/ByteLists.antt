-- Lists of bytes: numbers below 256, as every range of bytes holds, and little-endian numbers in them.
use Rattle.std.specs.Prelude.{◌≡◌, refl, ℕ, zero, suc, ◌+◌, ◌*◌, ◌/◌, ◌%◌, ◌^◌, ◌≤◌, ◌<◌, List, [], ◌∷◌, ◌++◌, length, take, drop, replicate}
use Rattle.std.proofs.Common.{ap, ap₂, ◌∙◌, mod-lt, div-add-mod', pow-suc, arith}
use Rattle.tables.specs.meaning.LittleEndian.{bytes_le, number_le, words_le}

abbrev pub Bytes : List ℕ → Type 0
Bytes [] = Unit {0}
Bytes (x ∷ xs) = (x < 256) × Bytes xs

pub bytes_append : (xs ys : List ℕ) → Bytes xs → Bytes ys → Bytes (xs ++ ys)
bytes_append [] ys p q = q
bytes_append (x ∷ xs) ys p q = (p.0, bytes_append xs ys p.1 q)

pub bytes_take : (n : ℕ) (xs : List ℕ) → Bytes xs → Bytes (take n xs)
bytes_take zero xs b = tt
bytes_take (suc n) [] b = tt
bytes_take (suc n) (x ∷ xs) b = (b.0, bytes_take n xs b.1)

pub bytes_drop : (n : ℕ) (xs : List ℕ) → Bytes xs → Bytes (drop n xs)
bytes_drop zero xs b = b
bytes_drop (suc n) [] b = tt
bytes_drop (suc n) (x ∷ xs) b = bytes_drop n xs b.1

pub bytes_zeros : (n : ℕ) → Bytes (replicate n 0)
bytes_zeros zero = tt
bytes_zeros (suc n) = (omega arith, bytes_zeros n)

-- ---- numbers
-- a number is written in bytes
pub number_in_bytes : (n x : ℕ) → Bytes (bytes_le n x)
number_in_bytes zero x = tt
number_in_bytes (suc n) x = (mod-lt x (omega arith), number_in_bytes n (x / 256))

pub words_in_bytes : (xs : List ℕ) → Bytes (words_le xs)
words_in_bytes [] = tt
words_in_bytes (x ∷ xs) = bytes_append (bytes_le 8 x) (words_le xs) (number_in_bytes 8 x) (words_in_bytes xs)

-- n bytes hold a number below 256 ^ n
pub number_small : (n : ℕ) (xs : List ℕ) → length xs ≤ n → Bytes xs → number_le xs < 256 ^ n
number_small zero [] h p = omega arith
number_small zero (x ∷ xs) h p = absurd (omega arith)
number_small (suc n) [] h p = let k : 0 < 256 ^ n = number_small n [] (omega arith) tt in rw pow-suc (omega (arith, k))
number_small (suc n) (x ∷ xs) h p = let k = number_small n xs (omega arith) p.1 in rw pow-suc (omega (arith, k, p.0))

-- bytes, read as a number and written again, are the same
pub bytes_number_bytes : (xs : List ℕ) → Bytes xs → bytes_le (length xs) (number_le xs) ≡ xs
bytes_number_bytes [] b = refl
bytes_number_bytes (x ∷ xs) b =
    let n = x + 256 * number_le xs in
    let h : n % 256 < 256 = mod-lt n (omega arith) in
    let e : n % 256 ≡ x = omega (arith, b.0, h, div-add-mod' n 256) in
    let f : n / 256 ≡ number_le xs = omega (arith, b.0, h, div-add-mod' n 256) in
    ap₂ (λ (y : ℕ) (ys : List ℕ). y ∷ ys) e (ap (bytes_le (length xs)) f ∙ bytes_number_bytes xs b.1)
