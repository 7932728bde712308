-- Prefixes; laws of tests and membership, of lists joined, and of one list laid over a part of another.
use Rattle.std.specs.Prelude.{◌≡◌, refl, ◌⊎◌, Bool, true, false, ℕ, zero, ◌+◌, ◌-◌, ◌≤◌, ◌<◌, min, suc, length, take, replicate, set, get_or, drop}
use Rattle.std.proofs.Common.{sym, ap, ap₂, ◌∙◌, inl, inr, true≢false, not-suc-le-zero, le_of_suc-le-suc, add-one, arith, length-append, length-drop, take-append-drop, length-set, take_at, drop-drop, length-take-le, get_or-append-add, get_or-take, get_or-drop}
use mathlib.Core.List.{List, [], ◌∷◌, Memᴰ, ◌++◌, map, append-nil, append_assoc}
use Rattle.std.proofs.Math.ListN.{get_or-append}
use Rattle.std.proofs.Math.Seq.{drop-append-add, take-append_seam, take-nil, take-length, drop-length, paste, paste-zero, paste-suc}
use Rattle.tables.specs.laws.Basics.{or_cases, or_left, or_right}
use Rattle.tables.specs.meaning.Lists.{any_of, is_nil, concat, overlay}

pub record Prefix {A : Type 0} (xs ys : List A) : Type 0 where
  pub rest : List A
  pub is : xs ++ rest ≡ ys

pub prefix_refl : {A : Type 0} (xs : List A) → Prefix xs xs
prefix_refl xs = record { rest = []; is = append-nil xs }

pub prefix_trans : {A : Type 0} {xs ys zs : List A} → Prefix xs ys → Prefix ys zs → Prefix xs zs
prefix_trans {xs = xs} p q = record { rest = p.rest ++ q.rest; is = sym (append_assoc xs p.rest q.rest) ∙ rw p.is q.is }

pub prefix_take : {A : Type 0} (n : ℕ) (xs : List A) → Prefix (take n xs) xs
prefix_take n xs = record { rest = drop n xs; is = take-append-drop n xs }

pub prefix_append : {A : Type 0} (xs ys : List A) → Prefix xs (xs ++ ys)
prefix_append xs ys = record { rest = ys; is = refl }

pub prefix_nil : {A : Type 0} (xs : List A) → Prefix [] xs
prefix_nil xs = record { rest = xs; is = refl }

pub prefix_length : {A : Type 0} {xs ys : List A} → Prefix xs ys → length xs ≤ length ys
prefix_length {xs = xs} p = omega (arith, simp length-append at (ap length p.is))

pub prefix_is_take : {A : Type 0} (xs ys : List A) → Prefix xs ys → xs ≡ take (length xs) ys
prefix_is_take xs ys p = sym (rw (← p.is) (take-append_seam xs p.rest))

pub prefix_whole : {A : Type 0} (xs ys : List A) → Prefix xs ys → length xs ≡ length ys → xs ≡ ys
prefix_whole xs ys p e = prefix_is_take xs ys p ∙ rw e (take-length ys)

pub prefix_same : {A : Type 0} (xs ys zs : List A) → Prefix xs zs → Prefix ys zs → length xs ≡ length ys → xs ≡ ys
prefix_same xs ys zs p q e =
    let a : take (length xs) zs ≡ xs = rw (← p.is) (take-append_seam xs p.rest) in
    let b : take (length ys) zs ≡ ys = rw (← q.is) (take-append_seam ys q.rest) in
    sym a ∙ ap (λ (n : ℕ). take n zs) e ∙ b

pub prefix_under : {A : Type 0} (xs : List A) {ys zs : List A} → Prefix ys zs → Prefix (xs ++ ys) (xs ++ zs)
prefix_under xs {ys = ys} p = record { rest = p.rest; is = append_assoc xs ys p.rest ∙ ap (λ (r : List _). xs ++ r) p.is }

pub prefix_one : {A : Type 0} (o : A) (os : List A) → Prefix os (o ∷ []) → (os ≡ []) ⊎ (os ≡ o ∷ [])
prefix_one o [] p = inl refl
prefix_one o (q ∷ []) p = inr (let e : q ∷ p.rest ≡ o ∷ [] = p.is in let i : q ≡ o = cc in rw i refl)
prefix_one o (q ∷ (x ∷ os)) p = absurd (let e : length (q ∷ (x ∷ (os ++ p.rest))) ≡ 1 = ap length p.is in omega arith)

pub prefix_of_nil : {A : Type 0} (xs ys : List A) → Prefix xs ys → ys ≡ [] → xs ≡ []
prefix_of_nil [] ys p e = refl
prefix_of_nil (a ∷ xs) ys p e = absurd (let q : length (a ∷ (xs ++ p.rest)) ≡ zero = ap length (p.is ∙ e) in omega arith)

-- ---- the empty list
pub length_zero_nil : {A : Type 0} (xs : List A) → length xs ≡ zero → xs ≡ []
length_zero_nil [] h = refl
length_zero_nil (x ∷ xs) h = absurd (omega arith)

pub any_of_some : {A : Type 0} (p : A → Bool) (xs : List A) → any_of p xs ≡ true → (x : A) × Memᴰ x xs × (p x ≡ true)
any_of_some p [] h = absurd (true≢false (sym h))
any_of_some p (x ∷ xs) h = go (or_cases (p x) (any_of p xs) h) (λ q. any_of_some p xs q)
  where
    go : (p x ≡ true) ⊎ ((p x ≡ false) × (any_of p xs ≡ true)) → (any_of p xs ≡ true → (y : _) × Memᴰ y xs × (p y ≡ true)) → (y : _) × Memᴰ y (x ∷ xs) × (p y ≡ true)
    go (inl q) ih = (x, Memᴰ.head refl, q)
    go (inr q) ih = let (y, m, e) = ih q.1 in (y, Memᴰ.tail m, e)

pub some_any_of : {A : Type 0} (p : A → Bool) (xs : List A) (x : A) → Memᴰ x xs → p x ≡ true → any_of p xs ≡ true
some_any_of p (y ∷ xs) x (Memᴰ.head q) h = or_left (p y) (any_of p xs) (rw (← q) h)
some_any_of p (y ∷ xs) x (Memᴰ.tail m) h = or_right (p y) (any_of p xs) (some_any_of p xs x m h)
some_any_of {A = A} p [] x x4 h = elim x4 [ ]

pub none_any_of : {A : Type 0} (p : A → Bool) (xs : List A) → ((x : A) → Memᴰ x xs → p x ≡ false) → any_of p xs ≡ false
none_any_of p [] h = refl
none_any_of p (x ∷ xs) h = rw (h x (Memᴰ.head refl), none_any_of p xs (λ y m. h y (Memᴰ.tail m))) refl

pub any_of_false : {A : Type 0} (p : A → Bool) (xs : List A) (a : A) → any_of p xs ≡ false → Memᴰ a xs → p a ≡ false
any_of_false p xs a e m = go (p a) refl
  where
    go : (b : Bool) → p a ≡ b → b ≡ false
    go true q = absurd (true≢false (sym (some_any_of p xs a m q) ∙ e))
    go false q = refl

pub is_nil_lem : {A : Type 0} (xs : List A) → is_nil xs ≡ true → xs ≡ []
is_nil_lem [] e = refl
is_nil_lem (x ∷ xs) e = absurd (true≢false (sym e))

-- ---- members
pub mem_nil {ℓ} : {A : Type 0} {B : Type ℓ} (a : A) → Memᴰ a [] → B
mem_nil a m = absurd (true≢false (sym (some_any_of (λ b. true) [] a m refl)))

pub mem_left : {A : Type 0} (xs ys : List A) (a : A) → Memᴰ a xs → Memᴰ a (xs ++ ys)
mem_left (x ∷ xs) ys a (Memᴰ.head q) = Memᴰ.head q
mem_left (x ∷ xs) ys a (Memᴰ.tail m) = Memᴰ.tail (mem_left xs ys a m)
mem_left {A = A} [] ys a x' = elim x' [ ]

pub mem_right : {A : Type 0} (xs ys : List A) (a : A) → Memᴰ a ys → Memᴰ a (xs ++ ys)
mem_right [] ys a m = m
mem_right (x ∷ xs) ys a m = Memᴰ.tail (mem_right xs ys a m)

pub mem_append : {A : Type 0} (xs ys : List A) (a : A) → Memᴰ a (xs ++ ys) → Memᴰ a xs ⊎ Memᴰ a ys
mem_append [] ys a m = inr m
mem_append (x ∷ xs) ys a (Memᴰ.head q) = inl (Memᴰ.head q)
mem_append (x ∷ xs) ys a (Memᴰ.tail m) = go (mem_append xs ys a m)
  where
    go : Memᴰ a xs ⊎ Memᴰ a ys → Memᴰ a (x ∷ xs) ⊎ Memᴰ a ys
    go (inl k) = inl (Memᴰ.tail k)
    go (inr k) = inr k

pub mem_take : {A : Type 0} (n : ℕ) (xs : List A) (a : A) → Memᴰ a (take n xs) → Memᴰ a xs
mem_take (suc n) (x ∷ xs) a (Memᴰ.head q) = Memᴰ.head q
mem_take (suc n) (x ∷ xs) a (Memᴰ.tail m) = Memᴰ.tail (mem_take n xs a m)
mem_take {A = A} zero xs a x' = elim x' [ ]
mem_take {A = A} (suc n) [] a x3 = elim x3 [ ]

pub mem_more : {A : Type 0} (m n : ℕ) (xs : List A) (a : A) → m ≤ n → Memᴰ a (take m xs) → Memᴰ a (take n xs)
mem_more (suc m) zero (x ∷ xs) a h k = absurd (not-suc-le-zero h)
mem_more (suc m) (suc n) (x ∷ xs) a h (Memᴰ.head q) = Memᴰ.head q
mem_more (suc m) (suc n) (x ∷ xs) a h (Memᴰ.tail k) = Memᴰ.tail (mem_more m n xs a (le_of_suc-le-suc h) k)
mem_more {A = A} zero n xs a h k = elim k [ ]
mem_more {A = A} (suc m) zero [] a h k = elim h [ ]
mem_more {A = A} (suc m) (suc n) [] a h k = elim k [ ]

-- ---- map
pub map_append : {A : Type 0} {B : Type 0} (f : A → B) (xs ys : List A) → map f (xs ++ ys) ≡ map f xs ++ map f ys
map_append f [] ys = refl
map_append f (x ∷ xs) ys = ap (λ (r : List _). f x ∷ r) (map_append f xs ys)

pub length_map : {A : Type 0} {B : Type 0} (f : A → B) (xs : List A) → length (map f xs) ≡ length xs
length_map f [] = refl
length_map f (x ∷ xs) = ap suc (length_map f xs)

pub take_map : {A : Type 0} {B : Type 0} (f : A → B) (n : ℕ) (xs : List A) → take n (map f xs) ≡ map f (take n xs)
take_map f zero xs = refl
take_map f (suc n) [] = refl
take_map f (suc n) (x ∷ xs) = ap (λ (r : List _). f x ∷ r) (take_map f n xs)

-- ---- take
pub take_append : {A : Type 0} (n : ℕ) (xs ys : List A) → take n (xs ++ ys) ≡ take n xs ++ take (n - length xs) ys
take_append n [] ys = let e : n - zero ≡ n = omega arith in rw (e, take-nil n) refl
take_append zero (x ∷ xs) ys = let e : zero - suc (length xs) ≡ zero = omega arith in rw e refl
take_append (suc n) (x ∷ xs) ys =
    let e : suc n - suc (length xs) ≡ n - length xs = omega arith in
    rw e (ap (λ (r : List _). x ∷ r) (take_append n xs ys))

pub take_min : {A : Type 0} (m : ℕ) (xs : List A) → take (min m (length xs)) xs ≡ take m xs
take_min zero xs = let e : min zero (length xs) ≡ zero = omega arith in rw e refl
take_min (suc m) [] = take-nil (min (suc m) zero)
take_min (suc m) (x ∷ xs) = let e : min (suc m) (suc (length xs)) ≡ suc (min m (length xs)) = omega arith in ap (λ (k : ℕ). take k (x ∷ xs)) e ∙ ap (λ (r : List _). x ∷ r) (take_min m xs)

pub concat_append : {A : Type 0} (ps qs : List (List A)) → concat (ps ++ qs) ≡ concat ps ++ concat qs
concat_append [] qs = refl
concat_append (p ∷ ps) qs = rw (concat_append ps qs) (sym (append_assoc p (concat ps) (concat qs)))

pub length_overlay : (xs : List ℕ) (at : ℕ) (src : List ℕ) → at + length src ≤ length xs → length (overlay xs at src) ≡ length xs
length_overlay xs at src h = simp (length-append, length-drop) (omega (arith, length-take-le at xs (omega arith)))

pub overlay_inside : (xs : List ℕ) (at : ℕ) (src : List ℕ) (i : ℕ) → at + length src ≤ length xs → i < length src → get_or (overlay xs at src) (at + i) 0 ≡ get_or src i 0
overlay_inside xs at src i h k =
    let l : length (take at xs) ≡ at = length-take-le at xs (omega arith) in
    rw append_assoc (ap (λ (n : ℕ). get_or (take at xs ++ (src ++ drop (at + length src) xs)) (n + i) 0) (sym l)
    ∙ get_or-append-add (take at xs) (src ++ drop (at + length src) xs) i 0 ∙ get_or-append src (drop (at + length src) xs) 0 i k)

pub overlay_below : (xs : List ℕ) (at : ℕ) (src : List ℕ) (i : ℕ) → at + length src ≤ length xs → i < at → get_or (overlay xs at src) i 0 ≡ get_or xs i 0
overlay_below xs at src i h k =
    let l : length (take at xs) ≡ at = length-take-le at xs (omega arith) in
    rw append_assoc (get_or-append (take at xs) (src ++ drop (at + length src) xs) 0 i (omega arith) ∙ get_or-take at xs i 0 k)

pub overlay_above : (xs : List ℕ) (at : ℕ) (src : List ℕ) (i : ℕ) → at + length src ≤ length xs → at + length src ≤ i → get_or (overlay xs at src) i 0 ≡ get_or xs i 0
overlay_above xs at src i h k =
    let l : length (take at xs ++ src) ≡ at + length src = length-append (take at xs) src ∙ omega (arith, length-take-le at xs (omega arith)) in
    let e : i ≡ length (take at xs ++ src) + (i - (at + length src)) = omega arith in
    let f : at + length src + (i - (at + length src)) ≡ i = omega arith in
    ap (λ (n : ℕ). get_or (overlay xs at src) n 0) e ∙ get_or-append-add (take at xs ++ src) (drop (at + length src) xs) (i - (at + length src)) 0
    ∙ get_or-drop (at + length src) xs (i - (at + length src)) 0 ∙ ap (λ (n : ℕ). get_or xs n 0) f

-- a list laid over the whole of another of its length
pub overlay_all : (xs src : List ℕ) → length src ≡ length xs → overlay xs 0 src ≡ src
overlay_all xs src e = let k : 0 + length src ≡ length xs = omega arith in rw (k, drop-length xs) (append-nil src)

-- ---- two lists of one length, compared number by number
pub numbers_same : (xs ys : List ℕ) → length xs ≡ length ys → ((k : ℕ) → k < length xs → get_or xs k 0 ≡ get_or ys k 0) → xs ≡ ys
numbers_same [] [] e h = refl
numbers_same [] (y ∷ ys) e h = absurd (omega arith)
numbers_same (x ∷ xs) [] e h = absurd (omega arith)
numbers_same (x ∷ xs) (y ∷ ys) e h = ap₂ (λ (a : ℕ) (b : List ℕ). a ∷ b) (h zero (omega arith)) (numbers_same xs ys (omega arith) (λ k l. h (suc k) (omega arith)))

-- ---- a loop that copies: after i turns the first i elements of src are laid over xs
pub record Copied (xs : List ℕ) (at : ℕ) (src : List ℕ) (i : ℕ) (ys : List ℕ) : Type 0 where
  pub within : i ≤ length src
  pub long : length ys ≡ length xs
  pub so_far : ys ≡ paste xs at src i

pub copied_none : (xs : List ℕ) (at : ℕ) (src : List ℕ) → Copied xs at src 0 xs
copied_none xs at src = record { within = omega arith; long = refl; so_far = paste-zero xs at src }

pub copied_next : (xs : List ℕ) (at : ℕ) (src : List ℕ) (i : ℕ) (ys : List ℕ) → at + length src ≤ length xs → i < length src → Copied xs at src i ys → Copied xs at src (i + 1) (set ys (at + i) (get_or src i 0))
copied_next xs at src i ys h l c =
    let room : at + i < length xs = omega arith in
    record { within = omega arith; long = simp length-set c.long; so_far = rw (c.so_far, add-one) (paste-suc xs at src i 0 room l) }

pub copied_all : (xs : List ℕ) (at : ℕ) (src : List ℕ) (i : ℕ) (ys : List ℕ) → length src ≤ i → Copied xs at src i ys → ys ≡ overlay xs at src
copied_all xs at src i ys h c = let e : i ≡ length src = omega (arith, c.within) in c.so_far ∙ rw (e, take-length) refl

-- ---- a loop that clears
pub cleared_suc : (i : ℕ) (xs : List ℕ) → i < length xs → set (replicate i 0 ++ drop i xs) i 0 ≡ replicate (suc i) 0 ++ drop (suc i) xs
cleared_suc zero (x ∷ xs) h = refl
cleared_suc zero [] h = absurd (omega arith)
cleared_suc (suc i) [] h = absurd (omega arith)
cleared_suc (suc i) (x ∷ xs) h = ap (λ (r : List ℕ). 0 ∷ r) (cleared_suc i xs (omega arith))

pub cleared_all : (n : ℕ) (xs : List ℕ) → n ≡ length xs → replicate n 0 ++ drop n xs ≡ replicate (length xs) 0
cleared_all n xs e = rw (e, drop-length xs) (append-nil (replicate (length xs) 0))

-- bytes laid right after others are laid with them
pub lay_lay : (xs : List ℕ) (at : ℕ) (a b : List ℕ) → at + length a + length b ≤ length xs → overlay (overlay xs at a) (at + length a) b ≡ overlay xs at (a ++ b)
lay_lay xs at a b h =
    let l : length (take at xs ++ a) ≡ at + length a = length-append (take at xs) a ∙ omega (arith, length-take-le at xs (omega arith)) in
    let p : take (at + length a) (overlay xs at a) ≡ take at xs ++ a = take_at (take at xs ++ a) (drop (at + length a) xs) (at + length a) l in
    let q : drop (at + length a + length b) (overlay xs at a) ≡ drop (at + length a + length b) xs =
    ap (λ (n : ℕ). drop (n + length b) (overlay xs at a)) (sym l) ∙ drop-append-add (take at xs ++ a) (drop (at + length a) xs) (length b) ∙ drop-drop (length b) (at + length a) xs in
    let r : at + length (a ++ b) ≡ at + length a + length b = rw length-append (omega arith) in
    ap₂ (λ (u v : List ℕ). u ++ b ++ v) p q ∙ rw (r, append_assoc (take at xs) a b) refl
