-- Laws of the headers of a log: what the tests on headers say (resets, seals, ends of partial parity); the last label, the last counters and
-- the least seal of a list of headers; and what a log that is appended to says.
use Rattle.std.specs.Prelude.{◌≡◌, refl, ◌≢◌, ◌⊎◌, true, false, Bool, ◌&&◌, ◌||◌, ℕ, zero, ◌+◌, ◌^◌, ◌≤◌, ◌<◌, ◌*◌, min, get_or, eqb, ltb}
use Rattle.std.proofs.Common.{sym, subst, ap₂, ap, ◌∙◌, inl, inr, true≢false, le_trans, le_refl, arith, eq-eqb, ne_eqb, le-ltb, ltb-true, eqb-true, ltb-false}
use Rattle.std.proofs.Math.Decide.{ℕ_discrete}
use mathlib.Core.List.{List, [], ◌∷◌, ◌++◌, Memᴰ}
use Rattle.tables.specs.meaning.Basics.{pick}
use Rattle.tables.specs.laws.Basics.{and_split}
use Rattle.tables.specs.declared.Geometry.{Geometry}
use Rattle.logs.specs.meaning.Entry.{worn_generation, Header, label, counters, zone_reset, encode, partial_parity, seal, closing, fits_log, rows_of}
use Rattle.logs.specs.laws.Entry.{decode_legal}
use Rattle.logs.specs.laws.Walk.{Reads}
use Rattle.logs.specs.meaning.Heads.{last_counters, generation_in, last_lost, is_reset, least_seal, is_seal_at, ends_at, ends_past, labelled, array_in}
use Rattle.logs.specs.laws.Heads.{zone_gen}
use Rattle.tables.specs.meaning.Geometry.{stripe_sectors, zone_sectors, parity_drive_of}
use Rattle.tables.specs.meaning.Lists.{any_of}

pub general_no_rows : (g : Geometry) (d : ℕ) (h : Header) → fits_log g d false h ≡ true → rows_of g h ≡ zero
general_no_rows g d (label x a) f = refl
general_no_rows g d (counters cs) f = refl
general_no_rows g d (zone_reset z n) f = refl
general_no_rows g d (partial_parity z s k n) f = absurd (true≢false (sym f))
general_no_rows g d (seal z p n) f = refl
general_no_rows g d (closing kind gen) f = refl

pub reads_fits : (g : Geometry) (d : ℕ) (par : Bool) (h : Header) → Reads g d par h → fits_log g d par h ≡ true
reads_fits g d par h r = (decode_legal g d par (encode g d h) h r).1

-- the lost drive that labels give
pub last_lost_is : (P : ℕ → Type 0) (hs : List Header) (x0 : ℕ) → P x0 → ((y a : ℕ) → Memᴰ (label y a) hs → P y) → P (last_lost x0 hs)
last_lost_is P [] x0 p h = p
last_lost_is P (label x a ∷ hs) x0 p h = last_lost_is P hs x (h x a (Memᴰ.head refl)) (λ y b m. h y b (Memᴰ.tail m))
last_lost_is P (counters cs ∷ hs) x0 p h = last_lost_is P hs x0 p (λ y b m. h y b (Memᴰ.tail m))
last_lost_is P (zone_reset z n ∷ hs) x0 p h = last_lost_is P hs x0 p (λ y b m. h y b (Memᴰ.tail m))
last_lost_is P (partial_parity z s f n ∷ hs) x0 p h = last_lost_is P hs x0 p (λ y b m. h y b (Memᴰ.tail m))
last_lost_is P (seal z q n ∷ hs) x0 p h = last_lost_is P hs x0 p (λ y b m. h y b (Memᴰ.tail m))
last_lost_is P (closing kind gen ∷ hs) x0 p h = last_lost_is P hs x0 p (λ y b m. h y b (Memᴰ.tail m))

pub reset_is : (z n : ℕ) (h : Header) → is_reset z n h ≡ true → h ≡ zone_reset z n
reset_is z n (label x a) e = absurd (true≢false (sym e))
reset_is z n (counters cs) e = absurd (true≢false (sym e))
reset_is z n (zone_reset y m) e = let (p, q) = and_split (eqb y z) (eqb m n) e in ap₂ zone_reset (eqb-true y z p) (eqb-true m n q)
reset_is z n (partial_parity y s f m) e = absurd (true≢false (sym e))
reset_is z n (seal y p m) e = absurd (true≢false (sym e))
reset_is z n (closing kind gen) e = absurd (true≢false (sym e))

pub seal_is : (z n q : ℕ) (h : Header) → is_seal_at z n q h ≡ true → h ≡ seal z q n
seal_is z n q (label x a) e = absurd (true≢false (sym e))
seal_is z n q (counters cs) e = absurd (true≢false (sym e))
seal_is z n q (zone_reset y m) e = absurd (true≢false (sym e))
seal_is z n q (partial_parity y s f m) e = absurd (true≢false (sym e))
seal_is z n q (seal y p m) e =
    let (a, b) = and_split (eqb y z) (eqb m n && eqb p q) e in
    let (c, d) = and_split (eqb m n) (eqb p q) b in
    let i : y ≡ z = eqb-true y z a in
    let j : m ≡ n = eqb-true m n c in
    let k : p ≡ q = eqb-true p q d in
    rw (i, j, k) refl
seal_is z n q (closing kind gen) e = absurd (true≢false (sym e))

pub ends_at_is : (g : Geometry) (z n q : ℕ) (h : Header) → ends_at g z n q h ≡ true → (i f : ℕ) × (h ≡ partial_parity z i f n) × (i * stripe_sectors g + f ≡ q)
ends_at_is g z n q (label x a) e = absurd (true≢false (sym e))
ends_at_is g z n q (counters cs) e = absurd (true≢false (sym e))
ends_at_is g z n q (zone_reset y m) e = absurd (true≢false (sym e))
ends_at_is g z n q (partial_parity y i f m) e =
    let (a, b) = and_split (eqb y z) (eqb m n && eqb (i * stripe_sectors g + f) q) e in
    let (c, d) = and_split (eqb m n) (eqb (i * stripe_sectors g + f) q) b in
    let p1 : y ≡ z = eqb-true y z a in
    let p2 : m ≡ n = eqb-true m n c in
    (i, f, rw (p1, p2) refl, eqb-true (i * stripe_sectors g + f) q d)
ends_at_is g z n q (seal y p m) e = absurd (true≢false (sym e))
ends_at_is g z n q (closing kind gen) e = absurd (true≢false (sym e))

pub not_past_within : (g : Geometry) (z n q i f : ℕ) → ends_past g z n q (partial_parity z i f n) ≡ false → i * stripe_sectors g + f ≤ q
not_past_within g z n q i f e = let r : ltb q (i * stripe_sectors g + f) ≡ false = rw (eq-eqb z z refl, eq-eqb n n refl) at e in omega (arith, ltb-false q (i * stripe_sectors g + f) r)

pub within_not_past : (g : Geometry) (z n q : ℕ) (h : Header) → ((i f : ℕ) → h ≡ partial_parity z i f n → i * stripe_sectors g + f ≤ q) → ends_past g z n q h ≡ false
within_not_past g z n q (label y c) f = refl
within_not_past g z n q (counters cs) f = refl
within_not_past g z n q (zone_reset y m) f = refl
within_not_past g z n q (partial_parity y i j m) f = go (ℕ_discrete y z) (ℕ_discrete m n)
  where
    go : Dec (y ≡ z) → Dec (m ≡ n) → eqb y z && (eqb m n && ltb q (i * stripe_sectors g + j)) ≡ false
    go (yes a) (yes b) = rw (eq-eqb y z a, eq-eqb m n b) (le-ltb q (i * stripe_sectors g + j) (f i j (rw (a, b) refl)))
    go (yes a) (no b) = rw (eq-eqb y z a, ne_eqb m n b) refl
    go (no a) b = rw (ne_eqb y z a) refl
within_not_past g z n q (seal y p m) f = refl
within_not_past g z n q (closing kind gen) f = refl

pub least_seal_most : (z n q : ℕ) (hs : List Header) → least_seal z n q hs ≤ q
least_seal_most z n q [] = le_refl q
least_seal_most z n q (label x a ∷ hs) = least_seal_most z n q hs
least_seal_most z n q (counters cs ∷ hs) = least_seal_most z n q hs
least_seal_most z n q (zone_reset y m ∷ hs) = least_seal_most z n q hs
least_seal_most z n q (partial_parity y s f m ∷ hs) = least_seal_most z n q hs
least_seal_most z n q (seal y p m ∷ hs) = le_trans (least_seal_most z n (pick (eqb y z && eqb m n) (min q p) q) hs) (go (eqb y z && eqb m n))
  where
    go : (b : Bool) → pick b (min q p) q ≤ q
    go true = omega arith
    go false = le_refl q
least_seal_most z n q (closing kind gen ∷ hs) = least_seal_most z n q hs

pub least_seal_below : (z n q : ℕ) (hs : List Header) (c : ℕ) → Memᴰ (seal z c n) hs → least_seal z n q hs ≤ c
least_seal_below z n q (label x a ∷ hs) c (Memᴰ.head e) = absurd (let k : ◌≡◌ {A = ℕ} 0 1 = cc in omega arith)
least_seal_below z n q (label x a ∷ hs) c (Memᴰ.tail m) = least_seal_below z n q hs c m
least_seal_below z n q (counters cs ∷ hs) c (Memᴰ.head e) = absurd (let k : ◌≡◌ {A = ℕ} 0 1 = cc in omega arith)
least_seal_below z n q (counters cs ∷ hs) c (Memᴰ.tail m) = least_seal_below z n q hs c m
least_seal_below z n q (zone_reset y k ∷ hs) c (Memᴰ.head e) = absurd (let k : ◌≡◌ {A = ℕ} 0 1 = cc in omega arith)
least_seal_below z n q (zone_reset y k ∷ hs) c (Memᴰ.tail m) = least_seal_below z n q hs c m
least_seal_below z n q (partial_parity y s f k ∷ hs) c (Memᴰ.head e) = absurd (let k : ◌≡◌ {A = ℕ} 0 1 = cc in omega arith)
least_seal_below z n q (partial_parity y s f k ∷ hs) c (Memᴰ.tail m) = least_seal_below z n q hs c m
least_seal_below z n q (seal y p k ∷ hs) c (Memᴰ.head e) =
    let a : y ≡ z = cc in
    let b : p ≡ c = cc in
    let d : k ≡ n = cc in
    rw (eq-eqb y z a, eq-eqb k n d) (le_trans (least_seal_most z n (min q p) hs) (omega arith))
least_seal_below z n q (seal y p k ∷ hs) c (Memᴰ.tail m) = least_seal_below z n (pick (eqb y z && eqb k n) (min q p) q) hs c m
least_seal_below z n q (closing kind gen ∷ hs) c (Memᴰ.head e) = absurd (let k : ◌≡◌ {A = ℕ} 0 1 = cc in omega arith)
least_seal_below z n q (closing kind gen ∷ hs) c (Memᴰ.tail m) = least_seal_below z n q hs c m
least_seal_below z n q [] c x' = elim x' [ ]

pub least_seal_least : (z n q m : ℕ) (hs : List Header) → m ≤ q → ((c : ℕ) → Memᴰ (seal z c n) hs → m ≤ c) → m ≤ least_seal z n q hs
least_seal_least z n q m [] h f = h
least_seal_least z n q m (label x a ∷ hs) h f = least_seal_least z n q m hs h (λ c k. f c (Memᴰ.tail k))
least_seal_least z n q m (counters cs ∷ hs) h f = least_seal_least z n q m hs h (λ c k. f c (Memᴰ.tail k))
least_seal_least z n q m (zone_reset y j ∷ hs) h f = least_seal_least z n q m hs h (λ c k. f c (Memᴰ.tail k))
least_seal_least z n q m (partial_parity y s e j ∷ hs) h f = least_seal_least z n q m hs h (λ c k. f c (Memᴰ.tail k))
least_seal_least z n q m (seal y p j ∷ hs) h f = least_seal_least z n (pick (eqb y z && eqb j n) (min q p) q) m hs (go (eqb y z && eqb j n) refl) (λ c k. f c (Memᴰ.tail k))
  where
    go : (b : Bool) → eqb y z && eqb j n ≡ b → m ≤ pick b (min q p) q
    go true e =
        let (a, d) = and_split (eqb y z) (eqb j n) e in
        let s : seal z p n ≡ seal y p j = ap₂ (λ (u w : ℕ). seal u p w) (sym (eqb-true y z a)) (sym (eqb-true j n d)) in
        let t : m ≤ p = f p (Memᴰ.head s) in
        omega arith
    go false e = h
least_seal_least z n q m (closing kind gen ∷ hs) h f = least_seal_least z n q m hs h (λ c k. f c (Memᴰ.tail k))

pub last_counters_append : (c : List ℕ) (xs ys : List Header) → last_counters c (xs ++ ys) ≡ last_counters (last_counters c xs) ys
last_counters_append c [] ys = refl
last_counters_append c (label x a ∷ xs) ys = last_counters_append c xs ys
last_counters_append c (counters cs ∷ xs) ys = last_counters_append cs xs ys
last_counters_append c (zone_reset z n ∷ xs) ys = last_counters_append c xs ys
last_counters_append c (partial_parity z s f n ∷ xs) ys = last_counters_append c xs ys
last_counters_append c (seal z p n ∷ xs) ys = last_counters_append c xs ys
last_counters_append c (closing kind gen ∷ xs) ys = last_counters_append c xs ys

-- they are those before, or some of the new ones
pub data LastOf (c : List ℕ) (ys : List Header) : Type 0 where
  old : last_counters c ys ≡ c → LastOf c ys
  new : (cs : List ℕ) → Memᴰ (counters cs) ys → last_counters c ys ≡ cs → LastOf c ys

pub last_counters_of : (c : List ℕ) (ys : List Header) → LastOf c ys
last_counters_of c [] = old refl
last_counters_of c (label x a ∷ ys) = go (last_counters_of c ys)
  where
    go : LastOf c ys → LastOf c (label x a ∷ ys)
    go (old e) = old e
    go (new cs m e) = new cs (Memᴰ.tail m) e
last_counters_of c (counters cs ∷ ys) = go (last_counters_of cs ys)
  where
    go : LastOf cs ys → LastOf c (counters cs ∷ ys)
    go (old e) = new cs (Memᴰ.head refl) e
    go (new bs m e) = new bs (Memᴰ.tail m) e
last_counters_of c (zone_reset z n ∷ ys) = go (last_counters_of c ys)
  where
    go : LastOf c ys → LastOf c (zone_reset z n ∷ ys)
    go (old e) = old e
    go (new cs m e) = new cs (Memᴰ.tail m) e
last_counters_of c (partial_parity z s f n ∷ ys) = go (last_counters_of c ys)
  where
    go : LastOf c ys → LastOf c (partial_parity z s f n ∷ ys)
    go (old e) = old e
    go (new cs m e) = new cs (Memᴰ.tail m) e
last_counters_of c (seal z p n ∷ ys) = go (last_counters_of c ys)
  where
    go : LastOf c ys → LastOf c (seal z p n ∷ ys)
    go (old e) = old e
    go (new cs m e) = new cs (Memᴰ.tail m) e
last_counters_of c (closing kind gen ∷ ys) = go (last_counters_of c ys)
  where
    go : LastOf c ys → LastOf c (closing kind gen ∷ ys)
    go (old e) = old e
    go (new cs m e) = new cs (Memᴰ.tail m) e

pub generation_append : (P : ℕ → Type 0) (z : ℕ) (xs ys : List Header) → P (generation_in z xs) → ((cs : List ℕ) → Memᴰ (counters cs) ys → P (get_or cs z zero)) → P (generation_in z (xs ++ ys))
generation_append P z xs ys p h = rw (last_counters_append [] xs ys) (go (last_counters_of (last_counters [] xs) ys))
  where
    go : LastOf (last_counters [] xs) ys → P (get_or (last_counters (last_counters [] xs) ys) z zero)
    go (old e) = rw e p
    go (new cs m e) = rw e (h cs m)

pub zone_gen_map : (h : Header) (P Q : ℕ → ℕ → Type 0) → ((y n : ℕ) → P y n → Q y n) → zone_gen h P → zone_gen h Q
zone_gen_map (label a b) P Q f p = tt
zone_gen_map (counters cs) P Q f p = tt
zone_gen_map (zone_reset y n) P Q f p = f y n p
zone_gen_map (partial_parity y s k n) P Q f p = f y n p
zone_gen_map (seal y c n) P Q f p = f y n p
zone_gen_map (closing kind gen) P Q f p = tt

-- what a header of the parity log says fits
pub partial_parity_fits : (g : Geometry) (d z i f n : ℕ) → Reads g d true (partial_parity z i f n) → (zero < f) × (f < stripe_sectors g) × (d ≡ parity_drive_of g z i)
partial_parity_fits g d z i f n r =
    let (a1, a2) = and_split (ltb z g.zones) _ (reads_fits g d true (partial_parity z i f n) r) in
    let (a3, a4) = and_split (ltb (i * stripe_sectors g) (zone_sectors g)) _ a2 in
    let (a5, a6) = and_split (ltb 0 f) _ a4 in
    let (a7, a8) = and_split (ltb f (stripe_sectors g)) _ a6 in
    (ltb-true 0 f a5, ltb-true f (stripe_sectors g) a7, eqb-true d (parity_drive_of g z i) a8)

-- a generation has room in its field
pub generation_small : (n : ℕ) → n ≤ worn_generation → n < 256 ^ 8
unfolding worn_generation
generation_small n h = omega arith

-- a header that speaks of another zone
pub other_not_seal : (z m c : ℕ) (h : Header) → zone_gen h (λ y n. y ≢ z) → h ≡ seal z c m → ⊥
other_not_seal z m c h o e = subst (λ (t : Header). zone_gen t (λ y n. y ≢ z)) e o refl

pub other_not_reset : (z m : ℕ) (h : Header) → zone_gen h (λ y n. y ≢ z) → h ≡ zone_reset z m → ⊥
other_not_reset z m h o e = subst (λ (t : Header). zone_gen t (λ y n. y ≢ z)) e o refl

-- headers that are that reset or counters cs: the last counters are cs, or those before
pub last_counters_either : (cs c : List ℕ) (z n : ℕ) (hs : List Header) → ((h : Header) → Memᴰ h hs → (h ≡ zone_reset z n) ⊎ (h ≡ counters cs)) → (last_counters c hs ≡ c) ⊎ (last_counters c hs ≡ cs)
last_counters_either cs c z n [] k = inl refl
last_counters_either cs c z n (h ∷ hs) k = go (k h (Memᴰ.head refl)) (λ b. last_counters_either cs b z n hs (λ f m. k f (Memᴰ.tail m)))
  where
    go : (h ≡ zone_reset z n) ⊎ (h ≡ counters cs) → ((b : List ℕ) → (last_counters b hs ≡ b) ⊎ (last_counters b hs ≡ cs)) → (last_counters c (h ∷ hs) ≡ c) ⊎ (last_counters c (h ∷ hs) ≡ cs)
    go (inl e) ih = rw e (ih c)
    go (inr e) ih = rw e (two (ih cs))
      where
        two : (last_counters cs hs ≡ cs) ⊎ (last_counters cs hs ≡ cs) → (last_counters cs hs ≡ c) ⊎ (last_counters cs hs ≡ cs)
        two (inl q) = inr q
        two (inr q) = inr q

pub last_counters_kept : (c : List ℕ) (z n : ℕ) (hs : List Header) → ((h : Header) → Memᴰ h hs → h ≡ zone_reset z n) → last_counters c hs ≡ c
last_counters_kept c z n [] k = refl
last_counters_kept c z n (h ∷ hs) k = rw (k h (Memᴰ.head refl)) (last_counters_kept c z n hs (λ f m. k f (Memᴰ.tail m)))

-- ---- appended to
pub lost_of_append : (x : ℕ) (hs ks : List Header) → last_lost x (hs ++ ks) ≡ last_lost (last_lost x hs) ks
lost_of_append x [] ks = refl
lost_of_append x (label y a ∷ hs) ks = lost_of_append y hs ks
lost_of_append x (counters cs ∷ hs) ks = lost_of_append x hs ks
lost_of_append x (zone_reset z n ∷ hs) ks = lost_of_append x hs ks
lost_of_append x (partial_parity z s f n ∷ hs) ks = lost_of_append x hs ks
lost_of_append x (seal z p n ∷ hs) ks = lost_of_append x hs ks
lost_of_append x (closing kind gen ∷ hs) ks = lost_of_append x hs ks

-- the last label is one of before, or one that joined
pub lost_append : (P : ℕ → Type 0) (x : ℕ) (hs ks : List Header) → P (last_lost x hs) → ((y a : ℕ) → Memᴰ (label y a) ks → P y) → P (last_lost x (hs ++ ks))
lost_append P x hs ks p h = rw (lost_of_append x hs ks) (last_lost_is P ks (last_lost x hs) p h)

pub least_of_append : (z n q : ℕ) (hs ks : List Header) → least_seal z n q (hs ++ ks) ≡ least_seal z n (least_seal z n q hs) ks
least_of_append z n q [] ks = refl
least_of_append z n q (label y a ∷ hs) ks = least_of_append z n q hs ks
least_of_append z n q (counters cs ∷ hs) ks = least_of_append z n q hs ks
least_of_append z n q (zone_reset y m ∷ hs) ks = least_of_append z n q hs ks
least_of_append z n q (partial_parity y s f m ∷ hs) ks = least_of_append z n q hs ks
least_of_append z n q (seal y p m ∷ hs) ks = least_of_append z n (pick (eqb y z && eqb m n) (min q p) q) hs ks
least_of_append z n q (closing kind gen ∷ hs) ks = least_of_append z n q hs ks

or_assoc : (a b c : Bool) → a || (b || c) ≡ (a || b) || c
or_assoc true b c = refl
or_assoc false b c = refl

pub any_of_append : (t : Header → Bool) (hs ks : List Header) → any_of t (hs ++ ks) ≡ any_of t hs || any_of t ks
any_of_append t [] ks = refl
any_of_append t (h ∷ hs) ks = ap (λ (b : Bool). t h || b) (any_of_append t hs ks) ∙ or_assoc (t h) (any_of t hs) (any_of t ks)

-- the first label stays the first
pub labelled_of_append : (hs ks : List Header) → labelled hs ≡ true → (labelled (hs ++ ks) ≡ true) × (array_in (hs ++ ks) ≡ array_in hs)
labelled_of_append [] ks e = absurd (true≢false (sym e))
labelled_of_append (label x a ∷ hs) ks e = (refl, refl)
labelled_of_append (counters cs ∷ hs) ks e = absurd (true≢false (sym e))
labelled_of_append (zone_reset z n ∷ hs) ks e = absurd (true≢false (sym e))
labelled_of_append (partial_parity z s f n ∷ hs) ks e = absurd (true≢false (sym e))
labelled_of_append (seal z p n ∷ hs) ks e = absurd (true≢false (sym e))
labelled_of_append (closing kind gen ∷ hs) ks e = absurd (true≢false (sym e))

-- ---- the least seal: no seal of that zone and generation is below it
