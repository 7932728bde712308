-- What is written little-endian reads back.
use Rattle.std.specs.Prelude.{◌≡◌, refl, Bool, true, false, ℕ, zero, suc, ◌+◌, ◌*◌, ◌/◌, ◌%◌, ◌^◌, ◌≤◌, ◌<◌, List, [], ◌∷◌, ◌++◌, length, get_or, take, drop, set, eqb}
use Rattle.std.proofs.Common.{sym, ap, ap₂, ◌∙◌, true≢false, div-add-mod', div-lt_iff_lt-mul, zero-lt-suc, add-zero, add-suc, pow-suc, add-one, arith, append_assoc, length-drop, take_at, drop_at, length-take-le, drop-cons, get_or-drop, eq-eqb, eqb-true}
use Rattle.std.proofs.lemmas.List.Edits.{sets, sets-eq}
use Rattle.tables.specs.laws.Basics.{and_split}
use Rattle.tables.specs.laws.Lists.{lay_lay}
use Rattle.tables.specs.meaning.Lists.{overlay}
use Rattle.tables.specs.meaning.LittleEndian.{bytes_le, number_le, words_le, numbers_le, same_bytes, read_le}

pub length_bytes_le : (n x : ℕ) → length (bytes_le n x) ≡ n
length_bytes_le zero x = refl
length_bytes_le (suc n) x = ap suc (length_bytes_le n (x / 256))

pub number_bytes_le : (n x : ℕ) → x < 256 ^ n → number_le (bytes_le n x) ≡ x
number_bytes_le zero x h = omega arith
number_bytes_le (suc n) x h =
    let k : x < 256 ^ n * 256 = rw pow-suc at h in
    let l : x / 256 < 256 ^ n = (div-lt_iff_lt-mul (zero-lt-suc 255)).1 k in
    rw (number_bytes_le n (x / 256) l) (omega (arith, div-add-mod' x 256))

abbrev pub Small : List ℕ → Type 0
Small [] = Unit {0}
Small (x ∷ xs) = (x < 256 ^ 8) × Small xs

pub numbers_words_le : (xs rest : List ℕ) → Small xs → numbers_le (length xs) (words_le xs ++ rest) ≡ xs
numbers_words_le [] rest s = refl
numbers_words_le (x ∷ xs) rest s = ap₂ (λ (a : ℕ) (b : List ℕ). a ∷ b) (number_bytes_le 8 x s.0) (numbers_words_le xs rest s.1)

pub same_bytes_refl : (xs : List ℕ) → same_bytes xs xs ≡ true
same_bytes_refl [] = refl
same_bytes_refl (x ∷ xs) = rw (eq-eqb x x refl) (same_bytes_refl xs)

pub same_bytes_eq : (xs ys : List ℕ) → same_bytes xs ys ≡ true → xs ≡ ys
same_bytes_eq [] [] h = refl
same_bytes_eq [] (y ∷ ys) h = absurd (true≢false (sym h))
same_bytes_eq (x ∷ xs) [] h = absurd (true≢false (sym h))
same_bytes_eq (x ∷ xs) (y ∷ ys) h = let (p, q) = and_split (eqb x y) (same_bytes xs ys) h in ap₂ (λ (a : ℕ) (b : List ℕ). a ∷ b) (eqb-true x y p) (same_bytes_eq xs ys q)

-- ---- bytes are below 256, so they are those of the number that they read as
abbrev pub Bytes : List ℕ → Type 0
Bytes xs = (i : ℕ) → get_or xs i 0 < 256

pub bytes_drop : (n : ℕ) (xs : List ℕ) → Bytes xs → Bytes (drop n xs)
bytes_drop n xs h i = rw get_or-drop (h (n + i))

pub bytes_number_le : (k : ℕ) (xs : List ℕ) → Bytes xs → k ≤ length xs → bytes_le k (number_le (take k xs)) ≡ take k xs
bytes_number_le zero xs h l = refl
bytes_number_le (suc k) [] h l = absurd (omega arith)
bytes_number_le (suc k) (x ∷ xs) h l =
    let b : x < 256 = h 0 in
    let m : (x + 256 * number_le (take k xs)) % 256 ≡ x = omega arith in
    let d : (x + 256 * number_le (take k xs)) / 256 ≡ number_le (take k xs) = omega arith in
    rw (m, d, bytes_number_le k xs (λ i. h (suc i)) (omega arith)) refl

-- so a number is compared with them as a whole
pub same_number : (k n : ℕ) (xs : List ℕ) (at : ℕ) → Bytes xs → at + k ≤ length xs → n < 256 ^ k → eqb (read_le k xs at) n ≡ same_bytes (bytes_le k n) (take k (drop at xs))
same_number k n xs at h l m = go (eqb (read_le k xs at) n) refl (same_bytes (bytes_le k n) (take k (drop at xs))) refl
  where
    there : bytes_le k (read_le k xs at) ≡ take k (drop at xs)
    there = bytes_number_le k (drop at xs) (bytes_drop at xs h) (rw length-drop (omega arith))

    go : (a : Bool) → eqb (read_le k xs at) n ≡ a → (b : Bool) → same_bytes (bytes_le k n) (take k (drop at xs)) ≡ b → a ≡ b
    go true p true q = refl
    go true p false q = sym (same_bytes_refl (bytes_le k n)) ∙ ap (same_bytes (bytes_le k n)) (ap (bytes_le k) (sym (eqb-true (read_le k xs at) n p)) ∙ there) ∙ q
    go false p true q =
        let e : read_le k xs at ≡ n = ap number_le (sym (same_bytes_eq (bytes_le k n) (take k (drop at xs)) q)) ∙ number_bytes_le k n m in
        sym p ∙ eq-eqb (read_le k xs at) n e
    go false p false q = refl

-- xs with the k bytes of n from `at`
abbrev pub write_le : ℕ → List ℕ → ℕ → ℕ → List ℕ
write_le k xs at n = take at xs ++ bytes_le k n ++ drop (at + k) xs

-- what was written is read back, for every width
pub read_write : (k : ℕ) (xs : List ℕ) (at n : ℕ) → at + k ≤ length xs → n < 256 ^ k → read_le k (write_le k xs at n) at ≡ n
read_write k xs at n room h =
    let front : length (take at xs) ≡ at = length-take-le at xs (omega arith) in
    ap (λ (l : List ℕ). number_le (take k l)) (ap (drop at) (append_assoc (take at xs) (bytes_le k n) (drop (at + k) xs)) ∙ drop_at (take at xs) (bytes_le k n ++ drop (at + k) xs) at front)
    ∙ ap number_le (take_at (bytes_le k n) (drop (at + k) xs) k (length_bytes_le k n))
    ∙ number_bytes_le k n h

-- ---- for code that reads and stores byte by byte

-- k + 1 bytes read one by one
abbrev pub read_from : ℕ → List ℕ → ℕ → ℕ → ℕ
read_from zero xs at i = get_or xs (at + i) 0
read_from (suc k) xs at i = get_or xs (at + i) 0 + 256 * read_from k xs at (suc i)

read_from_lem : (k : ℕ) (xs : List ℕ) (at i : ℕ) → at + i + suc k ≤ length xs → read_from k xs at i ≡ number_le (take (suc k) (drop (at + i) xs))
read_from_lem zero xs at i h =
    let here : at + i < length xs = omega arith in
    sym (ap (λ (l : List ℕ). number_le (take 1 l)) (drop-cons xs (at + i) 0 here) ∙ add-zero _)
read_from_lem (suc k) xs at i h =
    let here : at + i < length xs = omega arith in
    ap (λ (m : ℕ). get_or xs (at + i) 0 + 256 * m) (read_from_lem k xs at (suc i) (omega arith) ∙ ap (λ (j : ℕ). number_le (take (suc k) (drop j xs))) (add-suc at i))
    ∙ sym (ap (λ (l : List ℕ). number_le (take (suc (suc k)) l)) (drop-cons xs (at + i) 0 here))

pub read_bytes_lem : (k : ℕ) (xs : List ℕ) (at : ℕ) → at + suc (suc k) ≤ length xs → get_or xs at 0 + 256 * read_from k xs at 1 ≡ read_le (suc (suc k)) xs at
read_bytes_lem k xs at h = rw add-zero at (read_from_lem (suc k) xs at 0 (omega arith))

-- eight bytes are four and four
pub read_eight : (xs : List ℕ) (at : ℕ) → at + 8 ≤ length xs → read_le 4 xs at + 4294967296 * read_le 4 xs (at + 4) ≡ read_le 8 xs at
read_eight xs at h = omega (arith, rw add-zero at (read_from_lem 7 xs at 0 (omega arith)), rw add-zero at (read_from_lem 3 xs at 0 (omega arith)), read_from_lem 3 xs at 4 (omega arith))

low_byte : (r q : ℕ) → r < 256 → ((r + 256 * q) % 256 ≡ r) × ((r + 256 * q) / 256 ≡ q)
low_byte r q h = (omega arith, omega arith)

-- what lies above k bytes is not seen in them
bytes_low : (k x q : ℕ) → bytes_le k (x + 256 ^ k * q) ≡ bytes_le k x
bytes_low zero x q = refl
bytes_low (suc k) x q =
    let b : x % 256 < 256 = omega arith in
    let e : x + 256 ^ suc k * q ≡ x % 256 + 256 * (x / 256 + 256 ^ k * q) = rw pow-suc (omega (arith, div-add-mod' x 256)) in
    let l = low_byte (x % 256) (x / 256 + 256 ^ k * q) b in
    rw (e, l.0, l.1, bytes_low k (x / 256) q) refl

bytes_eight : (n : ℕ) → bytes_le 4 (n % 4294967296) ++ bytes_le 4 (n / 4294967296) ≡ bytes_le 8 n
bytes_eight n =
    let s : n % 4294967296 + 4294967296 * (n / 4294967296) ≡ n = omega (arith, div-add-mod' n 4294967296) in
    let e : n / 4294967296 ≡ n / 256 / 256 / 256 / 256 = omega arith in
    ap₂ (λ (a b : List ℕ). a ++ b) (sym (bytes_low 4 (n % 4294967296) (n / 4294967296)) ∙ ap (bytes_le 4) s) (ap (bytes_le 4) e)

pub write_eight : (xs : List ℕ) (at n : ℕ) → at + 8 ≤ length xs → write_le 4 (write_le 4 xs at (n % 4294967296)) (at + 4) (n / 4294967296) ≡ write_le 8 xs at n
write_eight xs at n h = lay_lay xs at (bytes_le 4 (n % 4294967296)) (bytes_le 4 (n / 4294967296)) (omega arith) ∙ ap (overlay xs at) (bytes_eight n)

-- stores one by one
abbrev pub sets_from : List ℕ → ℕ → ℕ → List ℕ → List ℕ
sets_from xs at i [] = xs
sets_from xs at i (v ∷ vs) = sets_from (set xs (at + i) v) at (suc i) vs

sets_from_lem : (xs : List ℕ) (at i : ℕ) (vs : List ℕ) → sets_from xs at i vs ≡ sets xs (at + i) vs
sets_from_lem xs at i [] = refl
sets_from_lem xs at i (v ∷ vs) = sets_from_lem (set xs (at + i) v) at (suc i) vs ∙ ap (λ (j : ℕ). sets (set xs (at + i) v) j vs) (add-suc at i)

pub stores : (xs : List ℕ) (at v : ℕ) (vs : List ℕ) → at + suc (length vs) ≤ length xs
    → sets_from (set xs at v) at 1 vs ≡ take at xs ++ (v ∷ vs) ++ drop (at + suc (length vs)) xs
stores xs at v vs h = sets_from_lem (set xs at v) at 1 vs ∙ ap (λ (j : ℕ). sets (set xs at v) j vs) (add-one at) ∙ sets-eq (v ∷ vs) xs at h

pub write_bytes : (k : ℕ) (xs : List ℕ) (at n : ℕ) → at + suc k ≤ length xs → sets_from (set xs at (n % 256)) at 1 (bytes_le k (n / 256)) ≡ write_le (suc k) xs at n
write_bytes k xs at n h = rw (length_bytes_le) at (stores xs at (n % 256) (bytes_le k (n / 256)) (rw length_bytes_le h))
