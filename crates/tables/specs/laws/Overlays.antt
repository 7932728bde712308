-- Lists laid over parts of another: where the parts do not meet, the order is the same, and what lies elsewhere is as it was. A loop that lays several
-- at once, a number of each in a turn, leaves what they leave one after the other.
use Rattle.std.specs.Prelude.{◌≡◌, refl, ◌⊎◌, ℕ, ◌+◌, ◌-◌, ◌≤◌, ◌<◌, length, get_or, take, drop, set}
use Rattle.std.proofs.Common.{sym, ap, ◌∙◌, inl, inr, add-one, arith, take-append-drop, get_or-take, get_or-drop, length-take-le, take-suc}
use Rattle.std.proofs.Math.Decide.{dec_lt}
use mathlib.Core.List.{List, [], ◌∷◌, Memᴰ, ◌++◌, append-nil}
use Rattle.std.specs.Int.Bits.{bit_xor}
use Rattle.std.proofs.Math.Seq.{take-length, append_snoc}
use Rattle.std.proofs.lemmas.List.{set_split}
use Rattle.tables.specs.declared.units.Parts.{Parts}
use Rattle.tables.specs.meaning.Lists.{overlay}
use Rattle.tables.specs.laws.Lists.{length_overlay, overlay_inside, overlay_below, overlay_above, lay_lay, numbers_same}
use Rattle.tables.specs.meaning.Xor.{xor_bytes}
use Rattle.tables.specs.laws.Xor.{length_xor, get_d_xor}
use Rattle.tables.specs.laws.Within.{Apart, part_long}

pub overlay_nil : (xs : List ℕ) (p : ℕ) → overlay xs p [] ≡ xs
overlay_nil xs p = let e : p + 0 ≡ p = omega arith in rw (e, append-nil (take p xs)) (take-append-drop p xs)

-- a number outside the part
pub overlay_at_apart : (xs : List ℕ) (p : ℕ) (s : List ℕ) (k : ℕ) → p + length s ≤ length xs → (k < p) ⊎ (p + length s ≤ k) → get_or (overlay xs p s) k 0 ≡ get_or xs k 0
overlay_at_apart xs p s k h (inl l) = overlay_below xs p s k h l
overlay_at_apart xs p s k h (inr l) = overlay_above xs p s k h l

-- the same list laid at the same place of two lists that agree on a number
pub overlay_same : (xs ys : List ℕ) (p : ℕ) (s : List ℕ) (k : ℕ) → p + length s ≤ length xs → length ys ≡ length xs → get_or ys k 0 ≡ get_or xs k 0 → get_or (overlay ys p s) k 0 ≡ get_or (overlay xs p s) k 0
overlay_same xs ys p s k fit long e = go (dec_lt k p) (dec_lt k (p + length s))
  where
    fit' : p + length s ≤ length ys
    fit' = rw long fit

    apart : (k < p) ⊎ (p + length s ≤ k) → get_or (overlay ys p s) k 0 ≡ get_or (overlay xs p s) k 0
    apart o = overlay_at_apart ys p s k fit' o ∙ e ∙ sym (overlay_at_apart xs p s k fit o)

    go : Dec (k < p) → Dec (k < p + length s) → get_or (overlay ys p s) k 0 ≡ get_or (overlay xs p s) k 0
    go (yes l) q = apart (inl l)
    go (no l) (yes m) =
        let j : p + (k - p) ≡ k = omega arith in
        let i : k - p < length s = omega arith in
        rw (← j) (overlay_inside ys p s (k - p) fit' i ∙ sym (overlay_inside xs p s (k - p) fit i))
    go (no l) (no m) = apart (inr (omega arith))

pub overlay_swap : (xs : List ℕ) (p q : ℕ) (s t : List ℕ) → p + length s ≤ length xs → q + length t ≤ length xs → (p + length s ≤ q) ⊎ (q + length t ≤ p)
    → overlay (overlay xs p s) q t ≡ overlay (overlay xs q t) p s
overlay_swap xs p q s t hs ht apart =
    numbers_same (overlay (overlay xs p s) q t) (overlay (overlay xs q t) p s) (length_overlay (overlay xs p s) q t ht' ∙ ls ∙ sym (length_overlay (overlay xs q t) p s hs' ∙ lt)) (λ k h. at k)
  where
    ls : length (overlay xs p s) ≡ length xs
    ls = length_overlay xs p s hs

    lt : length (overlay xs q t) ≡ length xs
    lt = length_overlay xs q t ht

    ht' : q + length t ≤ length (overlay xs p s)
    ht' = rw ls ht

    hs' : p + length s ≤ length (overlay xs q t)
    hs' = rw lt hs

    -- outside s
    off : (k : ℕ) → (k < p) ⊎ (p + length s ≤ k) → get_or (overlay (overlay xs p s) q t) k 0 ≡ get_or (overlay (overlay xs q t) p s) k 0
    off k o = overlay_same xs (overlay xs p s) q t k ht ls (overlay_at_apart xs p s k hs o) ∙ sym (overlay_at_apart (overlay xs q t) p s k hs' o)

    -- inside s, and so outside t
    on : (k : ℕ) → (k < q) ⊎ (q + length t ≤ k) → get_or (overlay (overlay xs p s) q t) k 0 ≡ get_or (overlay (overlay xs q t) p s) k 0
    on k o = overlay_at_apart (overlay xs p s) q t k ht' o ∙ sym (overlay_same xs (overlay xs q t) p s k hs lt (overlay_at_apart xs q t k ht o))

    out : (k : ℕ) → p ≤ k → k < p + length s → (p + length s ≤ q) ⊎ (q + length t ≤ p) → (k < q) ⊎ (q + length t ≤ k)
    out k h l (inl a) = inl (omega arith)
    out k h l (inr a) = inr (omega arith)

    at : (k : ℕ) → get_or (overlay (overlay xs p s) q t) k 0 ≡ get_or (overlay (overlay xs q t) p s) k 0
    at k = go (dec_lt k p) (dec_lt k (p + length s))
      where
        go : Dec (k < p) → Dec (k < p + length s) → get_or (overlay (overlay xs p s) q t) k 0 ≡ get_or (overlay (overlay xs q t) p s) k 0
        go (yes l) m = off k (inl l)
        go (no l) (yes m) = on k (out k (omega arith) m apart)
        go (no l) (no m) = off k (inr (omega arith))

-- ---- a loop that lays several lists at once
-- after i turns: the first i numbers of each list are laid at its place
abbrev pub laid_parts : List (ℕ × List ℕ) → ℕ → List ℕ → List ℕ
laid_parts [] i xs = xs
laid_parts ((p, s) ∷ ps) i xs = laid_parts ps i (overlay xs p (take i s))

-- one turn
abbrev pub set_parts : List (ℕ × List ℕ) → ℕ → List ℕ → List ℕ
set_parts [] i ys = ys
set_parts ((p, s) ∷ ps) i ys = set_parts ps i (set ys (p + i) (get_or s i 0))

-- all of them
abbrev pub all_parts : List (ℕ × List ℕ) → List ℕ → List ℕ
all_parts [] xs = xs
all_parts ((p, s) ∷ ps) xs = all_parts ps (overlay xs p s)

-- n numbers at p meet no part
abbrev pub OffParts : ℕ → ℕ → List (ℕ × List ℕ) → Type 0
OffParts n p [] = Unit {0}
OffParts n p ((q, t) ∷ ps) = Apart p q n × OffParts n p ps

-- lists of n numbers, each with room in a list of len, no two of which meet
abbrev pub PartsFit : ℕ → ℕ → List (ℕ × List ℕ) → Type 0
PartsFit len n [] = Unit {0}
PartsFit len n ((p, s) ∷ ps) = (length s ≡ n) × (p + n ≤ len) × OffParts n p ps × PartsFit len n ps

-- the same, of three units and their row
abbrev pub PartsIn : ℕ → ℕ → Parts → Type 0
PartsIn len n p =
    (p.first + n ≤ len) × (p.second + n ≤ len) × (p.third + n ≤ len) × (p.row + n ≤ len)
    × Apart p.first p.second n × Apart p.first p.third n × Apart p.first p.row n
    × Apart p.second p.third n × Apart p.second p.row n × Apart p.third p.row n

-- ---- one of the lists
module _ (len n i : ℕ) (xs : List ℕ) (p : ℕ) (s : List ℕ) (l : length xs ≡ len) (e : length s ≡ n) (r : p + n ≤ len) (h : i ≤ n) where
  part_room : p + length (take i s) ≤ length xs
  part_room = omega (arith, length-take-le i s (omega arith))

  laid_part_long : length (overlay xs p (take i s)) ≡ len
  laid_part_long = length_overlay xs p (take i s) part_room ∙ l

part_off : (n i p q : ℕ) (s : List ℕ) → length s ≡ n → i < n → Apart q p n → (q + i < p) ⊎ (p + length (take i s) ≤ q + i)
part_off n i p q s e h (inl a) = inl (omega arith)
part_off n i p q s e h (inr a) = inr (omega (arith, length-take-le i s (omega arith)))

pub set_is_overlay : (xs : List ℕ) (k v : ℕ) → k < length xs → set xs k v ≡ overlay xs k (v ∷ [])
set_is_overlay xs k v h = set_split xs k v h ∙ sym (append_snoc (take k xs) v (drop (k + 1) xs) ∙ rw add-one refl)

-- a number set outside a list that is laid, before or after
set_overlay : (xs : List ℕ) (p : ℕ) (s : List ℕ) (k v : ℕ) → p + length s ≤ length xs → k < length xs → (k < p) ⊎ (p + length s ≤ k) → set (overlay xs p s) k v ≡ overlay (set xs k v) p s
set_overlay xs p s k v h l o =
    set_is_overlay (overlay xs p s) k v (rw (length_overlay xs p s h) l) ∙ overlay_swap xs p k s (v ∷ []) h (omega arith) (off o)
    ∙ ap (λ (ys : List ℕ). overlay ys p s) (sym (set_is_overlay xs k v l))
  where
    off : (k < p) ⊎ (p + length s ≤ k) → (p + length s ≤ k) ⊎ (k + 1 ≤ p)
    off (inl a) = inr (omega arith)
    off (inr a) = inl a

-- the next number of it
set_next : (xs : List ℕ) (p : ℕ) (s : List ℕ) (i : ℕ) → p + i < length xs → i < length s → set (overlay xs p (take i s)) (p + i) (get_or s i 0) ≡ overlay xs p (take (i + 1) s)
set_next xs p s i room h =
    let l : length (take i s) ≡ i = length-take-le i s (omega arith) in
    let v = get_or s i 0 in
    let t : take (i + 1) s ≡ take i s ++ (v ∷ []) = rw add-one (take-suc s i 0 h) in
    set_is_overlay (overlay xs p (take i s)) (p + i) v (rw (length_overlay xs p (take i s) (omega arith)) room)
    ∙ ap (λ (k : ℕ). overlay (overlay xs p (take i s)) (p + k) (v ∷ [])) (sym l)
    ∙ lay_lay xs p (take i s) (v ∷ []) (omega arith) ∙ ap (overlay xs p) (sym t)

-- ---- all of them, in turns
pub laid_none : (ps : List (ℕ × List ℕ)) (xs : List ℕ) → laid_parts ps 0 xs ≡ xs
laid_none [] xs = refl
laid_none ((p, s) ∷ ps) xs = laid_none ps (overlay xs p []) ∙ overlay_nil xs p

pub laid_all : (ps : List (ℕ × List ℕ)) (len n : ℕ) (xs : List ℕ) → PartsFit len n ps → laid_parts ps n xs ≡ all_parts ps xs
laid_all [] len n xs f = refl
laid_all ((p, s) ∷ ps) len n xs f = laid_all ps len n (overlay xs p (take n s)) f.3 ∙ ap (λ (t : List ℕ). all_parts ps (overlay xs p t)) (ap (λ (k : ℕ). take k s) (sym f.0) ∙ take-length s)

pub laid_long : (ps : List (ℕ × List ℕ)) (len n i : ℕ) (xs : List ℕ) → length xs ≡ len → PartsFit len n ps → i ≤ n → length (laid_parts ps i xs) ≡ len
laid_long [] len n i xs l f h = l
laid_long ((p, s) ∷ ps) len n i xs l f h = laid_long ps len n i (overlay xs p (take i s)) (laid_part_long len n i xs p s l f.0 f.1 h) f.3 h

-- a number set where no part lies, before or after
set_past : (ps : List (ℕ × List ℕ)) (len n i : ℕ) (xs : List ℕ) (p v : ℕ) → length xs ≡ len → PartsFit len n ps → i < n → p + n ≤ len → OffParts n p ps
    → set (laid_parts ps i xs) (p + i) v ≡ laid_parts ps i (set xs (p + i) v)
set_past [] len n i xs p v l f h r o = refl
set_past ((q, t) ∷ ps) len n i xs p v l f h r o =
    set_past ps len n i (overlay xs q (take i t)) p v (laid_part_long len n i xs q t l f.0 f.1 (omega arith)) f.3 h r o.1
    ∙ ap (laid_parts ps i) (set_overlay xs q (take i t) (p + i) v (part_room len n i xs q t l f.0 f.1 (omega arith)) (omega arith) (part_off n i q p t f.0 h o.0))

-- a turn
pub laid_next : (ps : List (ℕ × List ℕ)) (len n i : ℕ) (xs : List ℕ) → length xs ≡ len → PartsFit len n ps → i < n → set_parts ps i (laid_parts ps i xs) ≡ laid_parts ps (i + 1) xs
laid_next [] len n i xs l f h = refl
laid_next ((p, s) ∷ ps) len n i xs l f h =
    let k : i < length s = omega arith in
    let room : p + i < length xs = omega arith in
    ap (set_parts ps i) (set_past ps len n i (overlay xs p (take i s)) p (get_or s i 0) (laid_part_long len n i xs p s l f.0 f.1 (omega arith)) f.3 h f.1 f.2 ∙ ap (laid_parts ps i) (set_next xs p s i room k))
    ∙ laid_next ps len n i (overlay xs p (take (i + 1) s)) (laid_part_long len n (i + 1) xs p s l f.0 f.1 (omega arith)) f.3 h

-- a place that no turn has reached: the next number of each part, or of n numbers that no part meets
off_kept : (ps : List (ℕ × List ℕ)) (len n i : ℕ) (xs : List ℕ) (p : ℕ) → length xs ≡ len → PartsFit len n ps → i < n → OffParts n p ps → get_or (laid_parts ps i xs) (p + i) 0 ≡ get_or xs (p + i) 0
off_kept [] len n i xs p l f h o = refl
off_kept ((q, t) ∷ ps) len n i xs p l f h o =
    off_kept ps len n i (overlay xs q (take i t)) p (laid_part_long len n i xs q t l f.0 f.1 (omega arith)) f.3 h o.1
    ∙ overlay_at_apart xs q (take i t) (p + i) (part_room len n i xs q t l f.0 f.1 (omega arith)) (part_off n i q p t f.0 h o.0)

apart_sym : (p q n : ℕ) → Apart p q n → Apart q p n
apart_sym p q n (inl h) = inr h
apart_sym p q n (inr h) = inl h

off_one : (ps : List (ℕ × List ℕ)) (n p q : ℕ) (t : List ℕ) → OffParts n p ps → Memᴰ (q, t) ps → Apart p q n
off_one ((r, u) ∷ ps) n p q t o (Memᴰ.head e) = let k : q ≡ r = ap (λ (x : ℕ × List ℕ). x.0) e in rw k o.0
off_one ((r, u) ∷ ps) n p q t o (Memᴰ.tail m) = off_one ps n p q t o.1 m
off_one [] n p q t o x'' = elim x'' [ ]

pub next_kept : (ps : List (ℕ × List ℕ)) (len n i : ℕ) (xs : List ℕ) (p : ℕ) (s : List ℕ) → length xs ≡ len → PartsFit len n ps → i < n → Memᴰ (p, s) ps → get_or (laid_parts ps i xs) (p + i) 0 ≡ get_or xs (p + i) 0
next_kept ((q, t) ∷ ps) len n i xs p s l f h (Memᴰ.head e) =
    let k : p ≡ q = ap (λ (x : ℕ × List ℕ). x.0) e in
    rw k (off_kept ps len n i (overlay xs q (take i t)) q (laid_part_long len n i xs q t l f.0 f.1 (omega arith)) f.3 h f.2
    ∙ overlay_at_apart xs q (take i t) (q + i) (part_room len n i xs q t l f.0 f.1 (omega arith)) (inr (omega (arith, length-take-le i t (omega arith)))))
next_kept ((q, t) ∷ ps) len n i xs p s l f h (Memᴰ.tail m) =
    next_kept ps len n i (overlay xs q (take i t)) p s (laid_part_long len n i xs q t l f.0 f.1 (omega arith)) f.3 h m
    ∙ overlay_at_apart xs q (take i t) (p + i) (part_room len n i xs q t l f.0 f.1 (omega arith)) (part_off n i q p t f.0 h (apart_sym q p n (off_one ps n q p s f.2 m)))
next_kept [] len n i xs p s l f h x4 = elim x4 [ ]

-- ---- the loop's invariant
pub record PartsLaid (xs : List ℕ) (n : ℕ) (ps : List (ℕ × List ℕ)) (i : ℕ) (ys : List ℕ) : Type 0 where
  pub within : i ≤ n
  pub long : length ys ≡ length xs
  pub so_far : ys ≡ laid_parts ps i xs

pub parts_none : (xs : List ℕ) (n : ℕ) (ps : List (ℕ × List ℕ)) → PartsLaid xs n ps 0 xs
parts_none xs n ps = record { within = omega arith; long = refl; so_far = sym (laid_none ps xs) }

module _ (xs : List ℕ) (n : ℕ) (ps : List (ℕ × List ℕ)) (i : ℕ) (ys : List ℕ) (f : PartsFit (length xs) n ps) (c : PartsLaid xs n ps i ys) where
  pub parts_next : i < n → PartsLaid xs n ps (i + 1) (set_parts ps i ys)
  parts_next h =
      let e : set_parts ps i ys ≡ laid_parts ps (i + 1) xs = ap (set_parts ps i) c.so_far ∙ laid_next ps (length xs) n i xs refl f h in
      record { within = omega arith; long = ap length e ∙ laid_long ps (length xs) n (i + 1) xs refl f (omega arith); so_far = e }

  pub parts_all : n ≤ i → ys ≡ all_parts ps xs
  parts_all h = let e : i ≡ n = omega (arith, c.within) in c.so_far ∙ rw e (laid_all ps (length xs) n xs f)

  -- what a turn adds to a part, in place of laying it
  pub parts_add : (p : ℕ) (s src : List ℕ) → p + n ≤ length xs → length src ≡ n → i < n → Memᴰ (p, s) ps → bit_xor (get_or ys (p + i) 0) (get_or src i 0) ≡ get_or (xor_bytes (take n (drop p xs)) src) i 0
  parts_add p s src r e h m =
      let b = take n (drop p xs) in
      let k : length b ≡ n = part_long xs p n r in
      let read : get_or ys (p + i) 0 ≡ get_or b i 0 = ap (λ (zs : List ℕ). get_or zs (p + i) 0) c.so_far ∙ next_kept ps (length xs) n i xs p s refl f h m ∙ sym (get_or-take n (drop p xs) i 0 h ∙ get_or-drop p xs i 0) in
      ap (λ (x : ℕ). bit_xor x (get_or src i 0)) read ∙ sym (get_d_xor b src i (omega arith) (omega arith))

pub added_row_long : (xs : List ℕ) (p n : ℕ) (src : List ℕ) → p + n ≤ length xs → length src ≡ n → length (xor_bytes (take n (drop p xs)) src) ≡ n
added_row_long xs p n src r e = let k = part_long xs p n r in length_xor (take n (drop p xs)) src (omega arith) ∙ k

-- ---- three units and their row
abbrev pub unit_parts : ℕ → ℕ → ℕ → ℕ → List ℕ → List ℕ → List ℕ → List ℕ → List (ℕ × List ℕ)
unit_parts p q r row a b c s = (p, a) ∷ (q, b) ∷ (r, c) ∷ (row, s) ∷ []

pub row_among : (p q r row : ℕ) (a b c s : List ℕ) → Memᴰ (row, s) (unit_parts p q r row a b c s)
row_among p q r row a b c s = Memᴰ.tail (Memᴰ.tail (Memᴰ.tail (Memᴰ.head refl)))

pub units_fit : (len n : ℕ) (p : Parts) (a b c s : List ℕ) → PartsIn len n p → length a ≡ n → length b ≡ n → length c ≡ n → length s ≡ n
    → PartsFit len n (unit_parts p.first p.second p.third p.row a b c s)
units_fit len n p a b c s (f, g, h, r, fg, fh, fr, gh, gr, hr) la lb lc ls = (la, f, (fg, (fh, (fr, tt))), (lb, g, (gh, (gr, tt)), (lc, h, (hr, tt), (ls, r, tt, tt))))
