-- Laws of what is copied of a general log (copied_general): it holds nothing but what the log held and the counters in force, no closing entry, and each
-- zone's least current seal and current reset; its label and its counters say what those of the log do.
use Rattle.std.specs.Prelude.{◌≡◌, ◌⊎◌, Bool, false, ◌&&◌, ℕ, zero, suc, ◌≤◌, ◌<◌, min, eqb}
use Rattle.std.proofs.Math.Path.{refl}
use Rattle.std.proofs.Common.{sym, ap₂, ◌∙◌, inl, inr, true≢false, not-suc-le-zero, arith, eqb-true}
use Rattle.std.proofs.Math.Bool.{true}
use Rattle.std.proofs.Math.Decide.{ℕ_discrete, dec_lt}
use mathlib.Core.List.{List, [], ◌∷◌, ◌++◌, Memᴰ}
use Rattle.tables.specs.meaning.Basics.{pick}
use Rattle.tables.specs.laws.Basics.{and_split, eqb_same}
use Rattle.tables.specs.meaning.Lists.{any_of}
use Rattle.tables.specs.laws.Lists.{any_of_some, some_any_of, mem_left, mem_right, mem_append, mem_nil}
use Rattle.tables.specs.declared.Geometry.{Geometry}
use Rattle.tables.specs.meaning.Geometry.{zone_sectors}
use Rattle.logs.specs.meaning.Entry.{Header, label, counters, zone_reset, partial_parity, seal, closing}
use Rattle.logs.specs.meaning.Heads.{labelled, array_in, last_lost, last_counters, is_reset, is_seal, least_seal}
use Rattle.logs.specs.meaning.Copies.{last_label, array_for, kept_label, zonewise, kept_seals, kept_resets, copied_general}
use Rattle.logs.specs.laws.Heads.{zone_gen}
use Rattle.logs.specs.laws.HeadLaws.{reset_is, least_seal_below, last_counters_append, last_counters_of, LastOf, old, new}

-- ---- zones ascending
pub zonewise_mem : (b : ℕ → Bool) (h : ℕ → Header) (n : ℕ) (e : Header) → Memᴰ e (zonewise b h n) → (z : ℕ) × (z < n) × (b z ≡ true) × (e ≡ h z)
zonewise_mem b h (suc n) e m = go (mem_append (zonewise b h n) (pick (b n) (h n ∷ []) []) e m) (λ k. zonewise_mem b h n e k)
  where
    one : (c : Bool) → b n ≡ c → Memᴰ e (pick c (h n ∷ []) []) → (z : ℕ) × (z < suc n) × (b z ≡ true) × (e ≡ h z)
    one true q (mathlib.Core.List.Memᴰ.head p) = (n, omega arith, q, p)
    one false q x3 = elim x3 [ ]
    one true q (mathlib.Core.List.Memᴰ.tail x8) = elim x8 [ ]

    go : Memᴰ e (zonewise b h n) ⊎ Memᴰ e (pick (b n) (h n ∷ []) []) → (Memᴰ e (zonewise b h n) → (z : ℕ) × (z < n) × (b z ≡ true) × (e ≡ h z)) → (z : ℕ) × (z < suc n) × (b z ≡ true) × (e ≡ h z)
    go (inl k) ih = let (z, l, p, q) = ih k in (z, omega arith, p, q)
    go (inr k) ih = one (b n) refl k
zonewise_mem b h zero e m = elim m [ ]

pub mem_zonewise : (b : ℕ → Bool) (h : ℕ → Header) (n z : ℕ) → z < n → b z ≡ true → Memᴰ (h z) (zonewise b h n)
mem_zonewise b h zero z l q = absurd (not-suc-le-zero l)
mem_zonewise b h (suc n) z l q = go (ℕ_discrete z n) (λ k. mem_zonewise b h n z k q)
  where
    go : Dec (z ≡ n) → (z < n → Memᴰ (h z) (zonewise b h n)) → Memᴰ (h z) (zonewise b h n ++ pick (b n) (h n ∷ []) [])
    go (yes e) ih = mem_right (zonewise b h n) (pick (b n) (h n ∷ []) []) (h z) (rw (← e, q) (mathlib.Core.List.Memᴰ.head refl))
    go (no e) ih = mem_left (zonewise b h n) (pick (b n) (h n ∷ []) []) (h z) (ih (omega arith))

-- ---- the last label is one of them, and says what the labels say
pub data LastLabel (f : ℕ → ℕ) (acc hs : List Header) : Type 0 where
  no_label : last_label f acc hs ≡ acc → ((x : ℕ) → last_lost x hs ≡ x) → LastLabel f acc hs
  a_label : (y a : ℕ) → last_label f acc hs ≡ label y (f a) ∷ [] → Memᴰ (label y a) hs → ((x : ℕ) → last_lost x hs ≡ y) → LastLabel f acc hs

more_label : (f : ℕ → ℕ) (acc hs : List Header) (h : Header) → last_label f acc (h ∷ hs) ≡ last_label f acc hs → ((x : ℕ) → last_lost x (h ∷ hs) ≡ last_lost x hs) → LastLabel f acc hs → LastLabel f acc (h ∷ hs)
more_label f acc hs h p q (no_label e k) = no_label (p ∙ e) (λ x. q x ∙ k x)
more_label f acc hs h p q (a_label y a e m k) = a_label y a (p ∙ e) (mathlib.Core.List.Memᴰ.tail m) (λ x. q x ∙ k x)

pub last_label_lem : (f : ℕ → ℕ) (acc hs : List Header) → LastLabel f acc hs
last_label_lem f acc [] = no_label refl (λ x. refl)
last_label_lem f acc (label y a ∷ hs) = go (last_label_lem f (label y (f a) ∷ []) hs)
  where
    go : LastLabel f (label y (f a) ∷ []) hs → LastLabel f acc (label y a ∷ hs)
    go (no_label e k) = a_label y a e (mathlib.Core.List.Memᴰ.head refl) (λ x. k y)
    go (a_label u b e m k) = a_label u b e (mathlib.Core.List.Memᴰ.tail m) (λ x. k y)
last_label_lem f acc (counters cs ∷ hs) = more_label f acc hs (counters cs) refl (λ x. refl) (last_label_lem f acc hs)
last_label_lem f acc (zone_reset z n ∷ hs) = more_label f acc hs (zone_reset z n) refl (λ x. refl) (last_label_lem f acc hs)
last_label_lem f acc (partial_parity z s i n ∷ hs) = more_label f acc hs (partial_parity z s i n) refl (λ x. refl) (last_label_lem f acc hs)
last_label_lem f acc (seal z p n ∷ hs) = more_label f acc hs (seal z p n) refl (λ x. refl) (last_label_lem f acc hs)
last_label_lem f acc (closing k n ∷ hs) = more_label f acc hs (closing k n) refl (λ x. refl) (last_label_lem f acc hs)

-- where the log begins with a label of array number a
pub array_for_lem : (hs : List Header) (a : ℕ) → labelled hs ≡ true → array_in hs ≡ a → array_for hs a ≡ a
array_for_lem hs a l e = rw (l, e) refl

-- ---- the least seal is one of them, or the bound
past_seal : (z n p q : ℕ) (h : Header) (hs : List Header) → (p ≡ q) ⊎ Memᴰ (seal z p n) hs → (p ≡ q) ⊎ Memᴰ (seal z p n) (h ∷ hs)
past_seal z n p q h hs (inl e) = inl e
past_seal z n p q h hs (inr m) = inr (mathlib.Core.List.Memᴰ.tail m)

least_seal_in : (z n q : ℕ) (hs : List Header) → (least_seal z n q hs ≡ q) ⊎ Memᴰ (seal z (least_seal z n q hs) n) hs
least_seal_in z n q [] = inl refl
least_seal_in z n q (label x a ∷ hs) = past_seal z n (least_seal z n q hs) q (label x a) hs (least_seal_in z n q hs)
least_seal_in z n q (counters cs ∷ hs) = past_seal z n (least_seal z n q hs) q (counters cs) hs (least_seal_in z n q hs)
least_seal_in z n q (zone_reset y i ∷ hs) = past_seal z n (least_seal z n q hs) q (zone_reset y i) hs (least_seal_in z n q hs)
least_seal_in z n q (partial_parity y s f i ∷ hs) = past_seal z n (least_seal z n q hs) q (partial_parity y s f i) hs (least_seal_in z n q hs)
least_seal_in z n q (closing k i ∷ hs) = past_seal z n (least_seal z n q hs) q (closing k i) hs (least_seal_in z n q hs)
least_seal_in z n q (seal y p i ∷ hs) = go (eqb y z && eqb i n) refl (λ r. least_seal_in z n r hs)
  where
    go : (b : Bool) → eqb y z && eqb i n ≡ b → ((r : ℕ) → (least_seal z n r hs ≡ r) ⊎ Memᴰ (seal z (least_seal z n r hs) n) hs)
        → (least_seal z n (pick b (min q p) q) hs ≡ q) ⊎ Memᴰ (seal z (least_seal z n (pick b (min q p) q) hs) n) (seal y p i ∷ hs)
    go true e ih = which (ih (min q p)) (dec_lt p q)
      where
        which : (least_seal z n (min q p) hs ≡ min q p) ⊎ Memᴰ (seal z (least_seal z n (min q p) hs) n) hs → Dec (p < q) → (least_seal z n (min q p) hs ≡ q) ⊎ Memᴰ (seal z (least_seal z n (min q p) hs) n) (seal y p i ∷ hs)
        which (inr m) c = inr (mathlib.Core.List.Memᴰ.tail m)
        which (inl r) (no c) = inl (r ∙ (let t : min q p ≡ q = omega arith in t))
        which (inl r) (yes c) =
            let t : least_seal z n (min q p) hs ≡ p = r ∙ (let u : min q p ≡ p = omega arith in u) in
            let (a, b) = and_split (eqb y z) (eqb i n) e in
            let s : seal z (least_seal z n (min q p) hs) n ≡ seal y p i = rw (t, eqb-true y z a, eqb-true i n b) refl in
            inr (mathlib.Core.List.Memᴰ.head s)
    go false e ih = past_seal z n (least_seal z n q hs) q (seal y p i) hs (ih q)

pub is_seal_lem : (z n : ℕ) (h : Header) → is_seal z n h ≡ true → (c : ℕ) × (h ≡ seal z c n)
is_seal_lem z n (label x a) e = absurd (true≢false (sym e))
is_seal_lem z n (counters cs) e = absurd (true≢false (sym e))
is_seal_lem z n (zone_reset y m) e = absurd (true≢false (sym e))
is_seal_lem z n (partial_parity y s f m) e = absurd (true≢false (sym e))
is_seal_lem z n (seal y p m) e = let (a, b) = and_split (eqb y z) (eqb m n) e in (p, ap₂ (λ (u w : ℕ). seal u p w) (eqb-true y z a) (eqb-true m n b))
is_seal_lem z n (closing k i) e = absurd (true≢false (sym e))

-- THE LEAST SEAL is one of them, where there is one and none passes the bound
pub least_seal_mem : (z n q : ℕ) (hs : List Header) → ((c : ℕ) → Memᴰ (seal z c n) hs → c ≤ q) → any_of (is_seal z n) hs ≡ true → Memᴰ (seal z (least_seal z n q hs) n) hs
least_seal_mem z n q hs most e =
    let (h, m, i) = any_of_some (is_seal z n) hs e in
    let (c, r) = is_seal_lem z n h i in
    let k : Memᴰ (seal z c n) hs = rw r at m in
    go c k (least_seal_in z n q hs)
  where
    go : (c : ℕ) → Memᴰ (seal z c n) hs → (least_seal z n q hs ≡ q) ⊎ Memᴰ (seal z (least_seal z n q hs) n) hs → Memᴰ (seal z (least_seal z n q hs) n) hs
    go c k (inr m) = m
    go c k (inl t) = let u : least_seal z n q hs ≡ c = omega (arith, least_seal_below z n q hs c k, most c k, t) in rw u k

-- ---- what the copy holds (most: no current seal passes the zone; array: every label carries the array number with which the log begins)
module _ (g : Geometry) (gens : ℕ → ℕ) (cs : List ℕ) (hs : List Header) where
  abbrev tail : List Header
  tail = kept_seals g gens hs ++ kept_resets g gens hs

  abbrev sealed : ℕ → Bool
  sealed z = any_of (is_seal z (gens z)) hs

  abbrev least_of : ℕ → Header
  least_of z = seal z (least_seal z (gens z) (zone_sectors g) hs) (gens z)

  abbrev has_reset : ℕ → Bool
  has_reset z = any_of (is_reset z (gens z)) hs

  abbrev reset_of : ℕ → Header
  reset_of z = zone_reset z (gens z)

  -- behind the counters: seals, then resets
  tail_of : (h : Header) → Memᴰ h tail → ((z : ℕ) × (z < g.zones) × (sealed z ≡ true) × (h ≡ least_of z)) ⊎ ((z : ℕ) × (z < g.zones) × (has_reset z ≡ true) × (h ≡ reset_of z))
  tail_of h m = go (mem_append (kept_seals g gens hs) (kept_resets g gens hs) h m)
    where
      go : Memᴰ h (kept_seals g gens hs) ⊎ Memᴰ h (kept_resets g gens hs) → ((z : ℕ) × (z < g.zones) × (sealed z ≡ true) × (h ≡ least_of z)) ⊎ ((z : ℕ) × (z < g.zones) × (has_reset z ≡ true) × (h ≡ reset_of z))
      go (inl k) = inl (zonewise_mem sealed least_of g.zones h k)
      go (inr k) = inr (zonewise_mem has_reset reset_of g.zones h k)

  -- each least current seal and each current reset is kept
  pub copied_seal : (z c : ℕ) → z < g.zones → Memᴰ (seal z c (gens z)) hs → (b : ℕ) × (b ≤ c) × Memᴰ (seal z b (gens z)) (copied_general g gens cs hs)
  unfolding copied_general
  copied_seal z c l m =
      let t : is_seal z (gens z) (seal z c (gens z)) ≡ true = rw (eqb_same z, eqb_same (gens z)) refl in
      let k = mem_zonewise sealed least_of g.zones z l (some_any_of (is_seal z (gens z)) hs (seal z c (gens z)) m t) in (
        least_seal z (gens z) (zone_sectors g) hs,
        least_seal_below z (gens z) (zone_sectors g) hs c m,
        mem_right (kept_label hs) (counters cs ∷ tail) (least_of z) (mathlib.Core.List.Memᴰ.tail (mem_left (kept_seals g gens hs) (kept_resets g gens hs) (least_of z) k)),
      )

  pub copied_reset : (z : ℕ) → z < g.zones → Memᴰ (zone_reset z (gens z)) hs → Memᴰ (zone_reset z (gens z)) (copied_general g gens cs hs)
  unfolding copied_general
  copied_reset z l m =
      let t : is_reset z (gens z) (zone_reset z (gens z)) ≡ true = rw (eqb_same z, eqb_same (gens z)) refl in
      let k = mem_zonewise has_reset reset_of g.zones z l (some_any_of (is_reset z (gens z)) hs (zone_reset z (gens z)) m t) in
      mem_right (kept_label hs) (counters cs ∷ tail) (reset_of z) (mathlib.Core.List.Memᴰ.tail (mem_right (kept_seals g gens hs) (kept_resets g gens hs) (reset_of z) k))

  no_counters : (bs : List ℕ) → Memᴰ (counters bs) tail → ⊥
  no_counters bs m = go (tail_of (counters bs) m)
    where
      go : ((z : ℕ) × (z < g.zones) × (sealed z ≡ true) × (counters bs ≡ least_of z)) ⊎ ((z : ℕ) × (z < g.zones) × (has_reset z ≡ true) × (counters bs ≡ reset_of z)) → ⊥
      go (inl (z, l, b, e)) = let o : ◌≡◌ {A = ℕ} 0 1 = cc in omega arith
      go (inr (z, l, b, e)) = let o : ◌≡◌ {A = ℕ} 0 1 = cc in omega arith

  -- its counters are those in force
  pub copied_counters : last_counters [] (copied_general g gens cs hs) ≡ cs
  unfolding copied_general
  copied_counters = last_counters_append [] (kept_label hs) (counters cs ∷ tail) ∙ go (last_counters_of cs tail)
    where
      go : LastOf cs tail → last_counters cs tail ≡ cs
      go (old e) = e
      go (new bs m e) = absurd (no_counters bs m)

  -- an entry of the copy: the log's, or the counters; it closes nothing
  pub data Copied (h : Header) : Type 0 where
    kept : Memᴰ h hs → ((k m : ℕ) → h ≡ closing k m → ⊥) → Copied h
    counted : h ≡ counters cs → Copied h

  module _ (most : (z c : ℕ) → Memᴰ (seal z c (gens z)) hs → c ≤ zone_sectors g) (array : (y a : ℕ) → Memᴰ (label y a) hs → array_for hs a ≡ a) where
    tail_kept : (h : Header) → ((z : ℕ) × (z < g.zones) × (sealed z ≡ true) × (h ≡ least_of z)) ⊎ ((z : ℕ) × (z < g.zones) × (has_reset z ≡ true) × (h ≡ reset_of z)) → Copied h
    tail_kept h (inl (z, l, b, e)) = kept (rw e (least_seal_mem z (gens z) (zone_sectors g) hs (most z) b)) (λ k i q. let o : ◌≡◌ {A = ℕ} 0 1 = cc in omega arith)
    tail_kept h (inr (z, l, b, e)) =
        let (k, o, i) = any_of_some (is_reset z (gens z)) hs b in
        let r : Memᴰ (zone_reset z (gens z)) hs = rw (reset_is z (gens z) k i) at o in
        kept (rw e r) (λ k i q. let o : ◌≡◌ {A = ℕ} 0 1 = cc in omega arith)

    label_kept_lem : (h : Header) → Memᴰ h (kept_label hs) → Copied h
    label_kept_lem h m = go (last_label_lem (array_for hs) [] hs) m
      where
        go : LastLabel (array_for hs) [] hs → Memᴰ h (kept_label hs) → Copied h
        go (no_label e f) k = mem_nil h (rw e at k)
        go (a_label y a e o f) k = one (rw (e, array y a o) at k)
          where
            one : Memᴰ h (label y a ∷ []) → Copied h
            one (mathlib.Core.List.Memᴰ.head q) = kept (rw q o) (λ k i r. let o : ◌≡◌ {A = ℕ} 0 1 = cc in omega arith)
            one (mathlib.Core.List.Memᴰ.tail q) = mem_nil h q

    pub copied_of : (h : Header) → Memᴰ h (copied_general g gens cs hs) → Copied h
    unfolding copied_general
    copied_of h m = go (mem_append (kept_label hs) (counters cs ∷ tail) h m)
      where
        next : Memᴰ h (counters cs ∷ tail) → Copied h
        next (mathlib.Core.List.Memᴰ.head e) = counted e
        next (mathlib.Core.List.Memᴰ.tail k) = tail_kept h (tail_of h k)

        go : Memᴰ h (kept_label hs) ⊎ Memᴰ h (counters cs ∷ tail) → Copied h
        go (inl k) = label_kept_lem h k
        go (inr k) = next k

  -- of zones: only what was there
  pub copied_heads : (z : ℕ) (h : Header) → Copied h → zone_gen h (λ y m. y ≡ z → Memᴰ h hs)
  copied_heads z (label x a) c = tt
  copied_heads z (counters bs) c = tt
  copied_heads z (zone_reset y m) (kept k c) = λ e. k
  copied_heads z (zone_reset y m) (counted q) = absurd (let o : ◌≡◌ {A = ℕ} 0 1 = cc in omega arith)
  copied_heads z (partial_parity y s f m) (kept k c) = λ e. k
  copied_heads z (partial_parity y s f m) (counted q) = absurd (let o : ◌≡◌ {A = ℕ} 0 1 = cc in omega arith)
  copied_heads z (seal y p m) (kept k c) = λ e. k
  copied_heads z (seal y p m) (counted q) = absurd (let o : ◌≡◌ {A = ℕ} 0 1 = cc in omega arith)
  copied_heads z (closing k m) c = tt

  -- it closes nothing
  pub copied_open : (h : Header) → Copied h → (k m : ℕ) → h ≡ closing k m → ⊥
  copied_open h (kept i c) k m e = c k m e
  copied_open h (counted q) k m e = let o : ◌≡◌ {A = ℕ} 0 1 = cc in omega arith
