-- One part of a list copied over another part of it, or added to it by exclusive or, one after the other in a loop: as long as the two parts do not
-- meet, what is read is what was there at the start.
use Rattle.std.specs.Prelude.{◌≡◌, ◌⊎◌, ◌≢◌, ℕ, ◌+◌, ◌-◌, ◌*◌, ◌≤◌, ◌<◌, List, ◌++◌, length, get_or, take, drop, set}
use Rattle.std.proofs.Common.{sym, ap, ap₂, ◌∙◌, inl, inr, mul-le-mul_right, suc-mul, arith, append_assoc, length-drop, length-append, get_or-append-add, get_or-drop, get_or-take, length-take-le, take_at, drop_at, drop-drop}
use Rattle.std.proofs.Math.Decide.{dec_lt}
use Rattle.std.specs.Int.Bits.{bit_xor}
use Rattle.std.proofs.Math.ListN.{get_or-append}
use Rattle.std.proofs.Math.Seq.{length_paste_head}
use Rattle.tables.specs.meaning.Lists.{overlay}
use Rattle.tables.specs.laws.Lists.{Copied, copied_next}
use Rattle.tables.specs.meaning.Xor.{xor_bytes}
use Rattle.tables.specs.laws.Xor.{xor_assoc, length_xor, get_d_xor}

-- two parts of n elements that do not meet
abbrev pub Apart : ℕ → ℕ → ℕ → Type 0
Apart to from n = (to + n ≤ from) ⊎ (from + n ≤ to)

-- two sectors that are not the same
pub sectors_apart : (B i j : ℕ) → i ≢ j → Apart (i * B) (j * B) B
sectors_apart B i j ne = go (dec_lt i j)
  where
    go : Dec (i < j) → Apart (i * B) (j * B) B
    go (yes h) = inl (omega (arith, rw suc-mul at (mul-le-mul_right B h)))
    go (no h) = let k : j < i = omega (arith, ne) in inr (omega (arith, rw suc-mul at (mul-le-mul_right B k)))

-- ---- a part of a list
pub part_long : (xs : List ℕ) (from n : ℕ) → from + n ≤ length xs → length (take n (drop from xs)) ≡ n
part_long xs from n h = length-take-le n (drop from xs) (rw length-drop (omega arith))

get_d_part : (xs : List ℕ) (from n i : ℕ) → i < n → get_or (take n (drop from xs)) i 0 ≡ get_or xs (from + i) 0
get_d_part xs from n i h = get_or-take n (drop from xs) i 0 h ∙ get_or-drop from xs i 0

-- a part changed in place, as code leaves it
pub part_changed : (xs ys : List ℕ) (from n : ℕ) → length ys ≡ n → take from xs ++ (ys ++ drop n (drop from xs)) ≡ overlay xs from ys
part_changed xs ys from n l = ap (λ (r : List ℕ). take from xs ++ (ys ++ r)) (drop-drop n from xs ∙ ap (λ (k : ℕ). drop (from + k) xs) (sym l)) ∙ sym (append_assoc (take from xs) ys (drop (from + length ys) xs))

-- what is laid over a part is what lies there then
pub part_laid : (xs : List ℕ) (at n : ℕ) (s : List ℕ) → length s ≡ n → at + n ≤ length xs → take n (drop at (overlay xs at s)) ≡ s
part_laid xs at n s l h =
    let k : length (take at xs) ≡ at = length-take-le at xs (omega arith) in
    rw append_assoc (rw (drop_at (take at xs) (s ++ drop (at + length s) xs) at k) (take_at s (drop (at + length s) xs) n l))

-- and what is laid over it again is all that counts
pub laid_again : (xs : List ℕ) (at : ℕ) (s t : List ℕ) → length t ≡ length s → at + length s ≤ length xs → overlay (overlay xs at s) at t ≡ overlay xs at t
laid_again xs at s t e h =
    let k : length (take at xs) ≡ at = length-take-le at xs (omega arith) in
    let l : length (take at xs ++ s) ≡ at + length t = length-append (take at xs) s ∙ omega (arith, k, e) in
    let p : take at (overlay xs at s) ≡ take at xs = rw append_assoc (take_at (take at xs) (s ++ drop (at + length s) xs) at k) in
    let q : drop (at + length t) (overlay xs at s) ≡ drop (at + length t) xs = drop_at (take at xs ++ s) (drop (at + length s) xs) (at + length t) l ∙ ap (λ (n : ℕ). drop (at + n) xs) (sym e) in
    ap₂ (λ (u v : List ℕ). u ++ t ++ v) p q

-- ---- the loop: what it has not reached, and the part that it does not touch, are as they were
module _ (xs : List ℕ) (to : ℕ) (src : List ℕ) (i : ℕ) (ys : List ℕ) (fits : to + length src ≤ length xs) (c : Copied xs to src i ys) where
  copied_past : (k : ℕ) → to + i ≤ k → get_or ys k 0 ≡ get_or xs k 0
  copied_past k h =
      let p = take to xs ++ take i src in
      let l : length p ≡ to + i = length_paste_head xs to src i (omega arith) c.within in
      let e : k ≡ length p + (k - (to + i)) = omega arith in
      let f : to + i + (k - (to + i)) ≡ k = omega arith in
      ap (λ (zs : List ℕ). get_or zs k 0) c.so_far
      ∙ ap (λ (j : ℕ). get_or (p ++ drop (to + i) xs) j 0) e ∙ get_or-append-add p (drop (to + i) xs) (k - (to + i)) 0
      ∙ get_or-drop (to + i) xs (k - (to + i)) 0 ∙ ap (λ (j : ℕ). get_or xs j 0) f

  copied_before : (k : ℕ) → k < to → get_or ys k 0 ≡ get_or xs k 0
  copied_before k h =
      let p = take to xs ++ take i src in
      let l : length p ≡ to + i = length_paste_head xs to src i (omega arith) c.within in
      let m : length (take to xs) ≡ to = length-take-le to xs (omega arith) in
      ap (λ (zs : List ℕ). get_or zs k 0) c.so_far
      ∙ get_or-append p (drop (to + i) xs) 0 k (omega arith) ∙ get_or-append (take to xs) (take i src) 0 k (omega arith) ∙ get_or-take to xs k 0 h

  pub copied_apart : (from n : ℕ) → i < n → Apart to from n → get_or ys (from + i) 0 ≡ get_or xs (from + i) 0
  copied_apart from n h (inl p) = copied_past (from + i) (omega arith)
  copied_apart from n h (inr p) = copied_before (from + i) (omega arith)

-- one turn of each loop
module _ (xs : List ℕ) (to from n : ℕ) (ht : to + n ≤ length xs) (hf : from + n ≤ length xs) (apart : Apart to from n) (i : ℕ) (ys : List ℕ) (h : i < n) where
  -- what it reads of the two parts
  abbrev here : List ℕ
  here = take n (drop to xs)

  abbrev there : List ℕ
  there = take n (drop from xs)

  read_here : (src : List ℕ) → length src ≡ n → Copied xs to src i ys → get_or ys (to + i) 0 ≡ get_or here i 0
  read_here src l c = copied_past xs to src i ys (omega arith) c (to + i) (omega arith) ∙ sym (get_d_part xs to n i h)

  read_there : (src : List ℕ) → length src ≡ n → Copied xs to src i ys → get_or ys (from + i) 0 ≡ get_or there i 0
  read_there src l c = copied_apart xs to src i ys (omega arith) c from n h apart ∙ sym (get_d_part xs from n i h)

  pub copied_within : Copied xs to (take n (drop from xs)) i ys → Copied xs to (take n (drop from xs)) (i + 1) (set ys (to + i) (get_or ys (from + i) 0))
  copied_within c =
      let l = part_long xs from n hf in
      rw (read_there there l c) (copied_next xs to there i ys (omega arith) (omega arith) c)

  abbrev added : List ℕ
  added = xor_bytes (take n (drop to xs)) (take n (drop from xs))

  added_long : length added ≡ n
  added_long = length_xor here there (omega (arith, part_long xs to n ht, part_long xs from n hf)) ∙ part_long xs to n ht

  added_at : get_or added i 0 ≡ bit_xor (get_or here i 0) (get_or there i 0)
  added_at = get_d_xor here there i (omega (arith, part_long xs to n ht)) (omega (arith, part_long xs from n hf))

  pub added_within : Copied xs to added i ys → Copied xs to added (i + 1) (set ys (to + i) (bit_xor (get_or ys (to + i) 0) (get_or ys (from + i) 0)))
  added_within c =
      let l = added_long in
      let e : bit_xor (get_or ys (to + i) 0) (get_or ys (from + i) 0) ≡ get_or added i 0 = ap₂ bit_xor (read_here added l c) (read_there added l c) ∙ sym added_at in
      rw e (copied_next xs to added i ys (omega arith) (omega arith) c)

  -- with a source of its own besides
  module _ (src : List ℕ) (ls : length src ≡ n) where
    pub laid_with : Copied xs to (xor_bytes (take n (drop from xs)) src) i ys → Copied xs to (xor_bytes (take n (drop from xs)) src) (i + 1) (set ys (to + i) (bit_xor (get_or ys (from + i) 0) (get_or src i 0)))
    laid_with c =
        let b = part_long xs from n hf in
        let t = xor_bytes there src in
        let l : length t ≡ n = length_xor there src (omega arith) ∙ b in
        let e : bit_xor (get_or ys (from + i) 0) (get_or src i 0) ≡ get_or t i 0 = ap (λ (x : ℕ). bit_xor x (get_or src i 0)) (read_there t l c) ∙ sym (get_d_xor there src i (omega arith) (omega arith)) in
        rw e (copied_next xs to t i ys (omega arith) (omega arith) c)

    pub added_with : Copied xs to (xor_bytes added src) i ys → Copied xs to (xor_bytes added src) (i + 1) (set ys (to + i) (bit_xor (get_or ys (to + i) 0) (bit_xor (get_or ys (from + i) 0) (get_or src i 0))))
    added_with c =
        let a = added_long in
        let t = xor_bytes added src in
        let l : length t ≡ n = length_xor added src (omega arith) ∙ a in
        let e : bit_xor (get_or ys (to + i) 0) (bit_xor (get_or ys (from + i) 0) (get_or src i 0)) ≡ get_or t i 0 =
        ap₂ (λ (x y : ℕ). bit_xor x (bit_xor y (get_or src i 0))) (read_here t l c) (read_there t l c)
        ∙ sym (xor_assoc (get_or here i 0) (get_or there i 0) (get_or src i 0)) ∙ ap (λ (x : ℕ). bit_xor x (get_or src i 0)) (sym added_at) ∙ sym (get_d_xor added src i (omega arith) (omega arith)) in
        rw e (copied_next xs to t i ys (omega arith) (omega arith) c)
