-- Bytes laid over a sector one after the other: the headers as the code writes them.
use Rattle.std.specs.Prelude.{◌≡◌, refl, Bool, true, false, ◌&&◌, ℕ, zero, suc, ◌+◌, ◌-◌, ◌*◌, ◌≤◌, ◌<◌, ◌≢◌, List, [], ◌∷◌, ◌++◌, length, get_or, take, drop, replicate, eqb}
use Rattle.std.proofs.Common.{sym, ap, ap₂, ◌∙◌, arith, add-one, add-zero, ne_eqb, append-nil, length-append, take-append-drop, take-suc, drop-drop, length-take-le, drop-cons}
use Rattle.std.proofs.Math.Nat.{sub-zero}
use Rattle.std.proofs.lemmas.List.{length-replicate}
use Rattle.std.proofs.Math.Seq.{drop-length}
use Rattle.tables.specs.meaning.Lists.{overlay}
use Rattle.tables.specs.laws.Lists.{lay_lay}
use Rattle.tables.specs.meaning.LittleEndian.{bytes_le, words_le, same_bytes}
use Rattle.tables.specs.laws.LittleEndian.{write_le}
use Rattle.logs.specs.meaning.Entry.{mark, version, mark_bytes, marked, frame, encode, label, counters, label_bytes}
use Rattle.tables.specs.declared.Geometry.{Geometry}
use Rattle.tables.specs.meaning.Geometry.{log2, physical_zones}

-- the first 32 bytes, in four parts
pub frame_laid : (xs : List ℕ) (k s e n : ℕ) → 32 ≤ length xs
    → overlay (overlay (overlay (overlay xs 0 (mark_bytes k)) 8 (bytes_le 8 s)) 16 (bytes_le 8 e)) 24 (bytes_le 8 n) ≡ frame k s e n (drop 32 xs)
unfolding frame
frame_laid xs k s e n h =
    let m : List ℕ = mark_bytes k in
    ap (λ (t : List ℕ). overlay (overlay t 16 (bytes_le 8 e)) 24 (bytes_le 8 n)) (lay_lay xs 0 m (bytes_le 8 s) (omega arith))
    ∙ ap (λ (t : List ℕ). overlay t 24 (bytes_le 8 n)) (lay_lay xs 0 (m ++ bytes_le 8 s) (bytes_le 8 e) (omega arith))
    ∙ lay_lay xs 0 (m ++ bytes_le 8 s ++ bytes_le 8 e) (bytes_le 8 n) (omega arith)

pub drop_replicate : (n m : ℕ) (x : ℕ) → drop n (replicate m x) ≡ replicate (m - n) x
drop_replicate zero m x = rw sub-zero refl
drop_replicate (suc n) zero x = let e : 0 - suc n ≡ 0 = omega arith in rw e refl
drop_replicate (suc n) (suc m) x = let e : suc m - suc n ≡ m - n = omega arith in rw e (drop_replicate n m x)

-- ---- bytes compared
pub same_append : (a b s : List ℕ) → same_bytes (a ++ b) s ≡ same_bytes a (take (length a) s) && same_bytes b (drop (length a) s)
same_append [] b s = refl
same_append (x ∷ a) b [] = refl
same_append (x ∷ a) b (y ∷ s) = go (eqb x y) (same_append a b s)
  where
    go : (t : Bool) → same_bytes (a ++ b) s ≡ same_bytes a (take (length a) s) && same_bytes b (drop (length a) s) → t && same_bytes (a ++ b) s ≡ (t && same_bytes a (take (length a) s)) && same_bytes b (drop (length a) s)
    go true ih = ih
    go false ih = refl

-- the bytes that stand there, one by one
abbrev pub ones : ℕ → List ℕ → ℕ → ℕ → List ℕ
ones zero s at i = []
ones (suc k) s at i = get_or s (at + i) 0 ∷ ones k s at (suc i)

ones_from : (k : ℕ) (s : List ℕ) (at i : ℕ) → at + i + k ≤ length s → take k (drop (at + i) s) ≡ ones k s at i
ones_from zero s at i h = refl
ones_from (suc k) s at i h =
    let e : suc (at + i) ≡ at + suc i = omega arith in
    ap (take (suc k)) (drop-cons s (at + i) 0 (omega arith)) ∙ ap (λ (r : List ℕ). get_or s (at + i) 0 ∷ r) (rw e (ones_from k s at (suc i) (omega arith)))

pub ones_are : (k : ℕ) (s : List ℕ) (at : ℕ) → at + suc k ≤ length s → take (suc k) (drop at s) ≡ get_or s at 0 ∷ ones k s at 1
ones_are k s at h = rw add-zero at (ones_from (suc k) s at 0 (omega arith))

pub zero_go : (s : List ℕ) (i : ℕ) → i < length s → get_or s i 0 ≡ 0 → same_bytes (replicate (length s - i) 0) (drop i s) ≡ same_bytes (replicate (length s - (i + 1)) 0) (drop (i + 1) s)
zero_go s i h e =
    let m : length s - i ≡ suc (length s - (i + 1)) = omega arith in
    rw (m, drop-cons s i 0 h, e, add-one) refl

pub zero_stop : (s : List ℕ) (i : ℕ) → i < length s → get_or s i 0 ≢ 0 → same_bytes (replicate (length s - i) 0) (drop i s) ≡ false
zero_stop s i h e =
    let m : length s - i ≡ suc (length s - (i + 1)) = omega arith in
    rw (m, drop-cons s i 0 h) (rw (ne_eqb 0 (get_or s i 0) (λ q. e (sym q))) refl)

pub zero_end : (s : List ℕ) (i : ℕ) → i ≡ length s → same_bytes (replicate (length s - i) 0) (drop i s) ≡ true
zero_end s i e = let m : length s - length s ≡ 0 = omega arith in rw (e, m, drop-length s) refl

-- the first 32 bytes say so
unfoldable pub head_same : ℕ → ℕ → ℕ → ℕ → List ℕ → Bool
head_same k s e n sec = same_bytes (mark_bytes k) (take 8 sec) && (same_bytes (bytes_le 8 s) (take 8 (drop 8 sec)) && (same_bytes (bytes_le 8 e) (take 8 (drop 16 sec)) && same_bytes (bytes_le 8 n) (take 8 (drop 24 sec))))

five : (a b c d e : Bool) → a && (b && (c && (d && e))) ≡ (a && (b && (c && d))) && e
five true true true d e = refl
five true true false d e = refl
five true false c d e = refl
five false b c d e = refl

-- ---- zeros, 32 bytes at a time
abbrev pub zeros_from : List ℕ → ℕ → Bool
zeros_from s i = same_bytes (replicate (length s - i) 0) (drop i s)

abbrev zero_word : List ℕ → ℕ → Bool
zero_word s i = same_bytes (bytes_le 8 0) (take 8 (drop i s))

unfoldable pub zero_words : List ℕ → ℕ → Bool
zero_words s i = zero_word s i && (zero_word s (i + 8) && (zero_word s (i + 16) && zero_word s (i + 24)))

eight_zeros : (s : List ℕ) (i j : ℕ) → j ≡ i + 8 → j ≤ length s → zeros_from s i ≡ zero_word s i && zeros_from s j
eight_zeros s i j e h =
    let m : length s - i ≡ suc (suc (suc (suc (suc (suc (suc (suc (length s - j)))))))) = omega arith in
    ap (λ (k : ℕ). same_bytes (replicate k 0) (drop i s)) m ∙ same_append (bytes_le 8 0) (replicate (length s - j) 0) (drop i s)
    ∙ ap (λ (t : List ℕ). zero_word s i && same_bytes (replicate (length s - j) 0) t) (drop-drop 8 i s ∙ ap (λ (k : ℕ). drop k s) (sym e))

words_are_zeros : (s : List ℕ) (i : ℕ) → i + 32 ≤ length s → zeros_from s i ≡ zero_words s i && zeros_from s (i + 32)
unfolding zero_words
words_are_zeros s i h =
    let a = zero_word s i in
    let b = zero_word s (i + 8) in
    let c = zero_word s (i + 16) in
    eight_zeros s i (i + 8) refl (omega arith) ∙ ap (λ (t : Bool). a && t) (eight_zeros s (i + 8) (i + 16) (omega arith) (omega arith))
    ∙ ap (λ (t : Bool). a && (b && t)) (eight_zeros s (i + 16) (i + 24) (omega arith) (omega arith))
    ∙ ap (λ (t : Bool). a && (b && (c && t))) (eight_zeros s (i + 24) (i + 32) (omega arith) (omega arith))
    ∙ five a b c (zero_word s (i + 24)) (zeros_from s (i + 32))

pub words_go : (s : List ℕ) (i : ℕ) → i + 32 ≤ length s → zero_words s i ≡ true → zeros_from s i ≡ zeros_from s (i + 32)
words_go s i h e = words_are_zeros s i h ∙ ap (λ (b : Bool). b && zeros_from s (i + 32)) e

pub words_stop : (s : List ℕ) (i : ℕ) → i + 32 ≤ length s → zero_words s i ≡ false → zeros_from s i ≡ false
words_stop s i h e = words_are_zeros s i h ∙ ap (λ (b : Bool). b && zeros_from s (i + 32)) e

pub frame_same : (k s e n : ℕ) (rest sec : List ℕ) → same_bytes (frame k s e n rest) sec ≡ head_same k s e n sec && same_bytes rest (drop 32 sec)
unfolding frame head_same
frame_same k s e n rest sec =
    let m : List ℕ = mark_bytes k in
    let a = same_bytes m (take 8 sec) in
    let b = same_bytes (bytes_le 8 s) (take 8 (drop 8 sec)) in
    let c = same_bytes (bytes_le 8 e) (take 8 (drop 16 sec)) in
    let d = same_bytes (bytes_le 8 n) (take 8 (drop 24 sec)) in
    let p3 : same_bytes (bytes_le 8 n ++ rest) (drop 24 sec) ≡ d && same_bytes rest (drop 32 sec) =
    same_append (bytes_le 8 n) rest (drop 24 sec) ∙ ap (λ (t : List ℕ). d && same_bytes rest t) (drop-drop 8 24 sec) in
    let p2 : same_bytes (bytes_le 8 e ++ (bytes_le 8 n ++ rest)) (drop 16 sec) ≡ c && (d && same_bytes rest (drop 32 sec)) =
    same_append (bytes_le 8 e) (bytes_le 8 n ++ rest) (drop 16 sec) ∙ ap (λ (t : List ℕ). c && same_bytes (bytes_le 8 n ++ rest) t) (drop-drop 8 16 sec) ∙ ap (λ (t : Bool). c && t) p3 in
    let p1 : same_bytes (bytes_le 8 s ++ (bytes_le 8 e ++ (bytes_le 8 n ++ rest))) (drop 8 sec) ≡ b && (c && (d && same_bytes rest (drop 32 sec))) =
    same_append (bytes_le 8 s) (bytes_le 8 e ++ (bytes_le 8 n ++ rest)) (drop 8 sec) ∙ ap (λ (t : List ℕ). b && same_bytes (bytes_le 8 e ++ (bytes_le 8 n ++ rest)) t) (drop-drop 8 8 sec) ∙ ap (λ (t : Bool). b && t) p2 in
    same_append m (bytes_le 8 s ++ (bytes_le 8 e ++ (bytes_le 8 n ++ rest))) sec ∙ ap (λ (t : Bool). a && t) p1 ∙ five a b c d (same_bytes rest (drop 32 sec))

pub and_true : (b : Bool) → b && true ≡ b
and_true true = refl
and_true false = refl

pub mark_same : (k : ℕ) (s : List ℕ) → 8 ≤ length s
    → same_bytes (mark_bytes k) (take 8 s)
    ≡ eqb 90 (get_or s 0 0) && (eqb 82 (get_or s 1 0) && (eqb 86 (get_or s 2 0) && (eqb k (get_or s 3 0) && (eqb 1 (get_or s 4 0) && (eqb 0 (get_or s 5 0) && (eqb 0 (get_or s 6 0) && eqb 0 (get_or s 7 0)))))))
mark_same k s h = ap (same_bytes (mark_bytes k)) (ones_are 7 s 0 h) ∙ rw (and_true (eqb 0 (get_or s 7 0))) refl

pub marked_same : (s : List ℕ) → 8 ≤ length s → marked s ≡ eqb 90 (get_or s 0 0) && (eqb 82 (get_or s 1 0) && (eqb 86 (get_or s 2 0) && (eqb 1 (get_or s 4 0) && eqb 0 (get_or s 5 0))))
unfolding marked
marked_same s h =
    ap₂ (λ (a b : List ℕ). same_bytes mark a && same_bytes version b) (ones_are 2 s 0 (omega arith)) (ones_are 1 s 4 (omega arith))
    ∙ rw (and_true (eqb 86 (get_or s 2 0)), and_true (eqb 0 (get_or s 5 0))) (three (eqb 90 (get_or s 0 0)) (eqb 82 (get_or s 1 0)) (eqb 86 (get_or s 2 0)) (eqb 1 (get_or s 4 0) && eqb 0 (get_or s 5 0)))
  where
    three : (a b c r : Bool) → (a && (b && c)) && r ≡ a && (b && (c && r))
    three true true c r = refl
    three true false c r = refl
    three false b c r = refl

pub mark_marked : (k : ℕ) (s : List ℕ) → 8 ≤ length s → same_bytes (mark_bytes k) (take 8 s) ≡ marked s && (eqb k (get_or s 3 0) && (eqb 0 (get_or s 6 0) && eqb 0 (get_or s 7 0)))
mark_marked k s h =
    mark_same k s h
    ∙ apart (eqb 90 (get_or s 0 0)) (eqb 82 (get_or s 1 0)) (eqb 86 (get_or s 2 0)) (eqb k (get_or s 3 0)) (eqb 1 (get_or s 4 0)) (eqb 0 (get_or s 5 0)) (eqb 0 (get_or s 6 0) && eqb 0 (get_or s 7 0))
    ∙ ap (λ (b : Bool). b && (eqb k (get_or s 3 0) && (eqb 0 (get_or s 6 0) && eqb 0 (get_or s 7 0)))) (sym (marked_same s h))
  where
    apart : (a b c i v z r : Bool) → a && (b && (c && (i && (v && (z && r))))) ≡ (a && (b && (c && (v && z)))) && (i && r)
    apart true true true true true z r = refl
    apart true true true true false z r = refl
    apart true true true false true true r = refl
    apart true true true false true false r = refl
    apart true true true false false z r = refl
    apart true true false i v z r = refl
    apart true false c i v z r = refl
    apart false b c i v z r = refl

-- ---- labels and counters, as the code writes them over a header of zeros
-- bytes 32 to 39 of a label
abbrev pub label_start : Geometry → ℕ → ℕ → List ℕ
label_start g d x = g.drives ∷ g.unit ∷ log2 g.sector ∷ d ∷ x ∷ 0 ∷ 0 ∷ 0 ∷ []

abbrev pub bare : Geometry → ℕ → List ℕ
bare g kind = frame kind 0 0 0 (replicate (g.sector - 32) 0)

pub bare_long : (g : Geometry) (kind : ℕ) → 32 ≤ g.sector → length (bare g kind) ≡ g.sector
unfolding frame
bare_long g kind h = rw (length-replicate {A = ℕ} (g.sector - 32) 0) (omega arith)

pub label_laid : (g : Geometry) (d x a : ℕ) → 56 ≤ g.sector
    → overlay (overlay (overlay (overlay (bare g 1) 32 (label_start g d x)) 40 (bytes_le 4 g.capacity)) 44 (bytes_le 4 (physical_zones g))) 48 (bytes_le 8 a) ≡ encode g d (label x a)
unfolding encode frame label_bytes
label_laid g d x a h =
    let m = label_start g d x in
    let c = bytes_le 4 g.capacity in
    let z = bytes_le 4 (physical_zones g) in
    let n : List ℕ = bytes_le 8 a in
    let l = bare_long g 1 (omega arith) in
    let e : g.sector - 32 - 24 ≡ g.sector - 56 = omega arith in
    ap (λ (t : List ℕ). overlay (overlay t 44 z) 48 n) (lay_lay (bare g 1) 32 m c (omega (arith, l)))
    ∙ ap (λ (t : List ℕ). overlay t 48 n) (lay_lay (bare g 1) 32 (m ++ c) z (omega (arith, l)))
    ∙ lay_lay (bare g 1) 32 (m ++ c ++ z) n (omega (arith, l))
    ∙ ap (λ (t : List ℕ). frame 1 0 0 0 (m ++ (c ++ (z ++ (n ++ t))))) (drop_replicate 24 (g.sector - 32) 0 ∙ ap (λ (k : ℕ). replicate k 0) e)

pub length_words : (xs : List ℕ) → length (words_le xs) ≡ 8 * length xs
length_words [] = refl
length_words (x ∷ xs) = length-append (bytes_le 8 x) (words_le xs) ∙ omega (arith, length_words xs)

words_last : (xs : List ℕ) (y : ℕ) → words_le (xs ++ (y ∷ [])) ≡ words_le xs ++ bytes_le 8 y
words_last [] y = refl
words_last (x ∷ xs) y = ap (λ (t : List ℕ). bytes_le 8 x ++ t) (words_last xs y)

pub words_none : (xs gs : List ℕ) → xs ≡ overlay xs 32 (words_le (take 0 gs))
words_none xs gs = sym (ap (λ (t : List ℕ). t ++ drop 32 xs) (append-nil (take 32 xs)) ∙ take-append-drop 32 xs)

-- one number more, in a loop
pub words_more : (xs gs : List ℕ) (i : ℕ) → i < length gs → 32 + 8 * (i + 1) ≤ length xs
    → write_le 8 (overlay xs 32 (words_le (take i gs))) (32 + 8 * i) (get_or gs i 0) ≡ overlay xs 32 (words_le (take (i + 1) gs))
words_more xs gs i h k =
    let n : length (words_le (take i gs)) ≡ 8 * i = length_words (take i gs) ∙ ap (λ (m : ℕ). 8 * m) (length-take-le i gs (omega arith)) in
    let s : take (i + 1) gs ≡ take i gs ++ (get_or gs i 0 ∷ []) = rw add-one (take-suc gs i 0 h) in
    let w : words_le (take i gs) ++ bytes_le 8 (get_or gs i 0) ≡ words_le (take (i + 1) gs) = sym (words_last (take i gs) (get_or gs i 0)) ∙ ap words_le (sym s) in
    ap (λ (m : ℕ). overlay (overlay xs 32 (words_le (take i gs))) (32 + m) (bytes_le 8 (get_or gs i 0))) (sym n)
    ∙ lay_lay xs 32 (words_le (take i gs)) (bytes_le 8 (get_or gs i 0)) (omega (arith, n, k)) ∙ ap (overlay xs 32) w

pub counters_laid : (g : Geometry) (d : ℕ) (cs : List ℕ) → 32 + 8 * length cs ≤ g.sector → overlay (bare g 2) 32 (words_le cs) ≡ encode g d (counters cs)
unfolding encode frame
counters_laid g d cs h =
    let z : List ℕ = replicate (g.sector - 32) 0 in
    let e : g.sector - 32 - 8 * length cs ≡ g.sector - (32 + 8 * length cs) = omega arith in
    ap (λ (t : List ℕ). frame 2 0 0 0 (words_le cs ++ t)) (sym (drop-drop (length (words_le cs)) 32 (bare g 2)) ∙ ap (λ (n : ℕ). drop n z) (length_words cs) ∙ drop_replicate (8 * length cs) (g.sector - 32) 0 ∙ ap (λ (k : ℕ). replicate k 0) e)
