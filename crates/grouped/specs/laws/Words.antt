-- The numbers of the work table, four bytes each: one that is set reads back, the others stay.
use Rattle.std.specs.Prelude.{◌≡◌, refl, ◌≢◌, ℕ, zero, suc, ◌+◌, ◌*◌, ◌≤◌, ◌<◌, List, [], length, get_or, take, drop, replicate}
use Rattle.std.proofs.Common.{sym, ◌∙◌, arith}
use Rattle.std.proofs.Math.Decide.{dec_lt}
use Rattle.tables.specs.laws.Lists.{length_overlay, overlay_below, overlay_above}
use Rattle.tables.specs.laws.LittleEndian.{read_from, read_bytes_lem, read_write, write_le}
use Rattle.tables.specs.meaning.LittleEndian.{bytes_le, number_le, read_le}
use Rattle.tables.specs.meaning.Lists.{overlay}

-- ---- two lists of bytes that agree in the bytes of a number
from_cong : (k : ℕ) (xs ys : List ℕ) (at i : ℕ) → ((j : ℕ) → at + i ≤ j → j ≤ at + i + k → get_or xs j 0 ≡ get_or ys j 0) → read_from k xs at i ≡ read_from k ys at i
from_cong zero xs ys at i h = h (at + i) (omega arith) (omega arith)
from_cong (suc k) xs ys at i h = rw (h (at + i) (omega arith) (omega arith), from_cong k xs ys at (suc i) (λ j a b. h j (omega arith) (omega arith))) refl

pub read_cong : (k : ℕ) (xs ys : List ℕ) (at : ℕ) → at + suc (suc k) ≤ length xs → at + suc (suc k) ≤ length ys → ((j : ℕ) → at ≤ j → j < at + suc (suc k) → get_or xs j 0 ≡ get_or ys j 0)
    → read_le (suc (suc k)) xs at ≡ read_le (suc (suc k)) ys at
read_cong k xs ys at hx hy h =
    let e : get_or xs at 0 + 256 * read_from k xs at 1 ≡ get_or ys at 0 + 256 * read_from k ys at 1 =
    rw (h at (omega arith) (omega arith), from_cong k xs ys at 1 (λ j a b. h j (omega arith) (omega arith))) refl in
    sym (read_bytes_lem k xs at hx) ∙ e ∙ read_bytes_lem k ys at hy

-- ---- number i of the work table
unfoldable pub word : List ℕ → ℕ → ℕ
word w i = read_le 4 w (i * 4)

unfoldable pub set_word : List ℕ → ℕ → ℕ → List ℕ
set_word w i v = write_le 4 w (i * 4) v

pub length_set_word : (w : List ℕ) (i v : ℕ) → i * 4 + 4 ≤ length w → length (set_word w i v) ≡ length w
unfolding set_word
length_set_word w i v h = length_overlay w (i * 4) (bytes_le 4 v) h

pub word_set : (w : List ℕ) (i v : ℕ) → i * 4 + 4 ≤ length w → v < 4294967296 → word (set_word w i v) i ≡ v
unfolding word set_word
word_set w i v h l = read_write 4 w (i * 4) v h l

pub word_set_other : (w : List ℕ) (i v j : ℕ) → i * 4 + 4 ≤ length w → j * 4 + 4 ≤ length w → j ≢ i → word (set_word w i v) j ≡ word w j
unfolding word set_word
word_set_other w i v j h k ne = read_cong 2 (overlay w (i * 4) (bytes_le 4 v)) w (j * 4) (rw (length_overlay w (i * 4) (bytes_le 4 v) h) k) k same
  where
    same : (b : ℕ) → j * 4 ≤ b → b < j * 4 + 4 → get_or (overlay w (i * 4) (bytes_le 4 v)) b 0 ≡ get_or w b 0
    same b l m = go (dec_lt j i)
      where
        go : Dec (j < i) → get_or (overlay w (i * 4) (bytes_le 4 v)) b 0 ≡ get_or w b 0
        go (yes q) = overlay_below w (i * 4) (bytes_le 4 v) b h (omega arith)
        go (no q) = overlay_above w (i * 4) (bytes_le 4 v) b h (omega arith)

-- ---- a cleared table
number_nil : (k at : ℕ) → number_le (take k (drop at [])) ≡ 0
number_nil zero zero = refl
number_nil zero (suc at) = refl
number_nil (suc k) zero = refl
number_nil (suc k) (suc at) = refl

number_zeros : (k at n : ℕ) → number_le (take k (drop at (replicate n 0))) ≡ 0
number_zeros k at zero = number_nil k at
number_zeros zero zero (suc n) = refl
number_zeros (suc k) zero (suc n) = omega (arith, number_zeros k zero n)
number_zeros k (suc at) (suc n) = number_zeros k at n

pub word_cleared : (n i : ℕ) → word (replicate n 0) i ≡ 0
unfolding word
word_cleared n i = number_zeros 4 (i * 4) n
