-- Laws of exclusive or; a missing member of a row is the exclusive or of the rest with the row's parity, for every number of members and every
-- sector size.
use Rattle.std.specs.Prelude.{◌≡◌, refl, ◌≢◌, ℕ, zero, ◌≤◌, ◌<◌, suc, ◌/◌, ◌%◌, List, [], ◌∷◌, length, get_or, take, set, replicate}
use Rattle.std.proofs.Common.{sym, ap, ◌∙◌, ap₂, zero-le, suc-le-suc, arith, not-suc-le-zero, le_of_suc-le-suc, mod-lt, zero-lt-suc, ne_eqb}
use Rattle.std.proofs.Math.Decide.{ℕ_discrete}
use Rattle.std.specs.Int.Bits.{bit_xor, differ, xor_step, xor_self, xor_zero_l}
use Rattle.std.proofs.lemmas.Nat.{xor_comm}
use Rattle.std.proofs.Math.Arith.{bin_ind, digits_div, digits_mod}
use Rattle.tables.specs.laws.Basics.{eqb_same}
use Rattle.tables.specs.meaning.Xor.{xor_bytes, xor_below, without}

differ_lt : (x y : ℕ) → x < 2 → y < 2 → differ x y < 2
differ_lt zero y h k = k
differ_lt (suc x) zero h k = h
differ_lt (suc zero) (suc zero) h k = zero-lt-suc 1
differ_lt (suc zero) (suc (suc y)) h k = omega arith
differ_lt (suc (suc x)) (suc y) h k = omega arith

differ_assoc : (x y z : ℕ) → x < 2 → y < 2 → z < 2 → differ (differ x y) z ≡ differ x (differ y z)
differ_assoc zero y z h k l = refl
differ_assoc (suc zero) zero z h k l = refl
differ_assoc (suc zero) (suc zero) zero h k l = refl
differ_assoc (suc zero) (suc zero) (suc zero) h k l = refl
differ_assoc (suc zero) (suc zero) (suc (suc z)) h k l = absurd (omega arith)
differ_assoc (suc zero) (suc (suc y)) z h k l = absurd (omega arith)
differ_assoc (suc (suc x)) y z h k l = absurd (omega arith)

two_pos : zero < 2
two_pos = zero-lt-suc 1

xor_half : (a b : ℕ) → bit_xor a b / 2 ≡ bit_xor (a / 2) (b / 2)
xor_half a b = rw (xor_step a b) (digits_div (bit_xor (a / 2) (b / 2)) (differ_lt (a % 2) (b % 2) (mod-lt a two_pos) (mod-lt b two_pos)))

xor_odd : (a b : ℕ) → bit_xor a b % 2 ≡ differ (a % 2) (b % 2)
xor_odd a b = rw (xor_step a b) (digits_mod (bit_xor (a / 2) (b / 2)) (differ_lt (a % 2) (b % 2) (mod-lt a two_pos) (mod-lt b two_pos)))

pub xor_assoc : (a b c : ℕ) → bit_xor (bit_xor a b) c ≡ bit_xor a (bit_xor b c)
xor_assoc = bin_ind (λ (a : ℕ). (b c : ℕ) → bit_xor (bit_xor a b) c ≡ bit_xor a (bit_xor b c)) (λ b c. refl) (λ a ih b c.
    xor_step (bit_xor a b) c
    ∙ rw (xor_half a b, xor_odd a b, ih (b / 2) (c / 2), differ_assoc (a % 2) (b % 2) (c % 2) (mod-lt a two_pos) (mod-lt b two_pos) (mod-lt c two_pos), ← xor_half b c, ← xor_odd b c) (sym (xor_step a (bit_xor b c))))

pub xor_nil : (xs : List ℕ) → xor_bytes xs [] ≡ xs
xor_nil [] = refl
xor_nil (x ∷ xs) = refl

pub xor_bytes_comm : (xs ys : List ℕ) → xor_bytes xs ys ≡ xor_bytes ys xs
xor_bytes_comm [] ys = sym (xor_nil ys)
xor_bytes_comm (x ∷ xs) [] = refl
xor_bytes_comm (x ∷ xs) (y ∷ ys) = ap₂ (λ (a : ℕ) (b : List ℕ). a ∷ b) (xor_comm x y) (xor_bytes_comm xs ys)

pub xor_bytes_assoc : (xs ys zs : List ℕ) → xor_bytes (xor_bytes xs ys) zs ≡ xor_bytes xs (xor_bytes ys zs)
xor_bytes_assoc [] ys zs = refl
xor_bytes_assoc (x ∷ xs) [] zs = refl
xor_bytes_assoc (x ∷ xs) (y ∷ ys) [] = refl
xor_bytes_assoc (x ∷ xs) (y ∷ ys) (z ∷ zs) = ap₂ (λ (a : ℕ) (b : List ℕ). a ∷ b) (xor_assoc x y z) (xor_bytes_assoc xs ys zs)

pub length_xor_most : (n : ℕ) (xs ys : List ℕ) → length xs ≤ n → length ys ≤ n → length (xor_bytes xs ys) ≤ n
length_xor_most n [] ys h k = k
length_xor_most n (x ∷ xs) [] h k = h
length_xor_most zero (x ∷ xs) (y ∷ ys) h k = absurd (not-suc-le-zero h)
length_xor_most (suc n) (x ∷ xs) (y ∷ ys) h k = suc-le-suc (length_xor_most n xs ys (le_of_suc-le-suc h) (le_of_suc-le-suc k))

-- a list cancels itself against one at least as long
pub xor_bytes_cancel : (xs ys : List ℕ) → length xs ≤ length ys → xor_bytes xs (xor_bytes xs ys) ≡ ys
xor_bytes_cancel [] ys h = refl
xor_bytes_cancel (x ∷ xs) [] h = absurd (not-suc-le-zero h)
xor_bytes_cancel (x ∷ xs) (y ∷ ys) h = ap₂ (λ (a : ℕ) (b : List ℕ). a ∷ b) (sym (xor_assoc x x y) ∙ rw (xor_self x) refl) (xor_bytes_cancel xs ys (le_of_suc-le-suc h))

pub xor_below_cong : (f g : ℕ → List ℕ) (n : ℕ) → ((k : ℕ) → k < n → f k ≡ g k) → xor_below f n ≡ xor_below g n
xor_below_cong f g zero h = refl
xor_below_cong f g (suc n) h = ap₂ xor_bytes (xor_below_cong f g n (λ k l. h k (omega arith))) (h n (omega arith))

pub xor_below_length : (B : ℕ) (f : ℕ → List ℕ) (n : ℕ) → ((k : ℕ) → k < n → length (f k) ≤ B) → length (xor_below f n) ≤ B
xor_below_length B f zero h = zero-le
xor_below_length B f (suc n) h = length_xor_most B (xor_below f n) (f n) (xor_below_length B f n (λ k l. h k (omega arith))) (h n (omega arith))

pub without_self : (f : ℕ → List ℕ) (i : ℕ) → without f i i ≡ []
without_self f i = rw (eqb_same i, without) refl

pub without_other : (f : ℕ → List ℕ) (i k : ℕ) → k ≢ i → without f i k ≡ f k
without_other f i k n = rw (ne_eqb k i n, without) refl

pub xor_below_split : (f : ℕ → List ℕ) (i n : ℕ) → i < n → xor_below f n ≡ xor_bytes (xor_below (without f i) n) (f i)
xor_below_split f i zero h = absurd (not-suc-le-zero h)
xor_below_split f i (suc n) h = go (ℕ_discrete i n) (λ k. xor_below_split f i n k)
  where
    go : Dec (i ≡ n) → (i < n → xor_below f n ≡ xor_bytes (xor_below (without f i) n) (f i)) → xor_below f (suc n) ≡ xor_bytes (xor_below (without f i) (suc n)) (f i)
    go (yes e) ih = rw (← e) (rw (without_self f i, xor_nil) (ap (λ (r : List ℕ). xor_bytes r (f i)) (xor_below_cong f (without f i) i (λ k l. sym (without_other f i k (omega arith))))))
    go (no e) ih = rw (without_other f i n (omega arith), ih (omega arith)) (simp (xor_bytes_assoc, xor_bytes_comm (f i) (f n)))

-- a member from the others, known by other means and no longer than it, and the exclusive or of all
pub rebuild_among : (f g : ℕ → List ℕ) (n i : ℕ) (x : List ℕ) → i < n → ((k : ℕ) → k < n → k ≢ i → g k ≡ f k) → ((k : ℕ) → k < n → length (f k) ≤ length (f i)) → x ≡ xor_below f n
    → xor_bytes (xor_below (without g i) n) x ≡ f i
rebuild_among f g n i x l same short e =
    rw (e, xor_below_cong (without g i) (without f i) n same', xor_below_split f i n l) (xor_bytes_cancel (xor_below (without f i) n) (f i) (xor_below_length (length (f i)) (without f i) n short'))
  where
    same' : (k : ℕ) → k < n → without g i k ≡ without f i k
    same' k h = go (ℕ_discrete k i)
      where
        go : Dec (k ≡ i) → without g i k ≡ without f i k
        go (yes q) = rw q (without_self g i ∙ sym (without_self f i))
        go (no q) = without_other g i k q ∙ same k h q ∙ sym (without_other f i k q)

    short' : (k : ℕ) → k < n → length (without f i k) ≤ length (f i)
    short' k h = go (ℕ_discrete k i)
      where
        go : Dec (k ≡ i) → length (without f i k) ≤ length (f i)
        go (yes q) = rw (q, without_self f i) zero-le
        go (no q) = rw (without_other f i k q) (short k h)

pub xor_below_none : (f : ℕ → List ℕ) (n : ℕ) → ((k : ℕ) → k < n → f k ≡ []) → xor_below f n ≡ []
xor_below_none f zero h = refl
xor_below_none f (suc n) h = rw (xor_below_none f n (λ k l. h k (omega arith)), h n (omega arith)) refl

-- ---- as loops make it: byte by byte, member by member
abbrev pub xor_part : List ℕ → List ℕ → ℕ → List ℕ
xor_part xs ys i = xor_bytes xs (take i ys)

pub length_xor : (xs ys : List ℕ) → length ys ≤ length xs → length (xor_bytes xs ys) ≡ length xs
length_xor [] [] h = refl
length_xor [] (y ∷ ys) h = absurd (omega arith)
length_xor (x ∷ xs) [] h = refl
length_xor (x ∷ xs) (y ∷ ys) h = ap suc (length_xor xs ys (omega arith))

pub xor_part_suc : (xs ys : List ℕ) (i : ℕ) → i < length xs → i < length ys → set (xor_part xs ys i) i (bit_xor (get_or (xor_part xs ys i) i 0) (get_or ys i 0)) ≡ xor_part xs ys (suc i)
xor_part_suc [] ys i h k = absurd (omega arith)
xor_part_suc (x ∷ xs) [] i h k = absurd (omega arith)
xor_part_suc (x ∷ xs) (y ∷ ys) zero h k = ap (λ (l : List ℕ). bit_xor x y ∷ l) (sym (xor_nil xs))
xor_part_suc (x ∷ xs) (y ∷ ys) (suc i) h k = ap (λ (l : List ℕ). bit_xor x y ∷ l) (xor_part_suc xs ys i (omega arith) (omega arith))

pub get_d_xor : (xs ys : List ℕ) (i : ℕ) → i < length xs → i < length ys → get_or (xor_bytes xs ys) i 0 ≡ bit_xor (get_or xs i 0) (get_or ys i 0)
get_d_xor [] ys i h k = absurd (omega arith)
get_d_xor (x ∷ xs) [] i h k = absurd (omega arith)
get_d_xor (x ∷ xs) (y ∷ ys) zero h k = refl
get_d_xor (x ∷ xs) (y ∷ ys) (suc i) h k = get_d_xor xs ys i (omega arith) (omega arith)

-- three sources in one pass: the byte that a loop adds at i
pub xor_three_at : (xs ys zs : List ℕ) (i : ℕ) → length ys ≡ length xs → length zs ≡ length xs → i < length xs
    → bit_xor (get_or xs i 0) (bit_xor (get_or ys i 0) (get_or zs i 0)) ≡ get_or (xor_bytes xs (xor_bytes ys zs)) i 0
xor_three_at xs ys zs i e f h =
    let l = length_xor ys zs (omega arith) in
    sym (get_d_xor xs (xor_bytes ys zs) i h (omega arith) ∙ ap (bit_xor (get_or xs i 0)) (get_d_xor ys zs i (omega arith) (omega arith)))

pub xor_three_long : (xs ys zs : List ℕ) → length ys ≡ length xs → length zs ≡ length xs → length (xor_bytes xs (xor_bytes ys zs)) ≡ length xs
xor_three_long xs ys zs e f = length_xor xs (xor_bytes ys zs) (let l = length_xor ys zs (omega arith) in omega arith)

-- a loop over the units of a row that begins with zeros
pub xor_row_suc : (z : List ℕ) (f : ℕ → List ℕ) (k : ℕ) → xor_bytes (xor_bytes z (xor_below f k)) (f k) ≡ xor_bytes z (xor_below f (suc k))
xor_row_suc z f k = xor_bytes_assoc z (xor_below f k) (f k)

pub xor_zeros : (n : ℕ) (xs : List ℕ) → length xs ≡ n → xor_bytes (replicate n 0) xs ≡ xs
xor_zeros zero [] e = refl
xor_zeros zero (x ∷ xs) e = refl
xor_zeros (suc n) [] e = absurd (omega arith)
xor_zeros (suc n) (x ∷ xs) e = rw (xor_zero_l x) (ap (λ (l : List ℕ). x ∷ l) (xor_zeros n xs (omega arith)))
