-- What is copied of a parity log (parity_copies): for the zones ascending, where the pointer lies inside a stripe whose parity drive is d, the last whole
-- current entry that ends at the pointer, or the one that is made. Then comes the closing entry. How long the new log is, and that no part of
-- it that lacks the closing entry claims anything.
use Rattle.std.specs.Prelude.{◌≡◌, ◌⊎◌, Bool, false, ◌&&◌, ℕ, zero, suc, ◌+◌, ◌-◌, ◌*◌, ◌≤◌, ◌<◌, min, length}
use Rattle.std.proofs.Math.Path.{refl}
use Rattle.std.proofs.Common.{sym, ap, ap₂, ◌∙◌, inl, inr, true≢false, not-suc-le-zero, arith}
use Rattle.std.proofs.Math.Bool.{true}
use Rattle.std.proofs.Math.Decide.{ℕ_discrete}
use mathlib.Core.List.{List, [], ◌∷◌, ◌++◌, append-nil, map, Memᴰ}
use Rattle.tables.specs.laws.Placement.{stripe_of_sum}
use Rattle.tables.specs.meaning.Basics.{pick}
use Rattle.tables.specs.meaning.Below.{each_below, sum_below}
use Rattle.tables.specs.meaning.Lists.{concat}
use Rattle.tables.specs.laws.Lists.{mem_left, mem_right, mem_append, mem_nil}
use Rattle.tables.specs.declared.Geometry.{Geometry}
use Rattle.tables.specs.meaning.Geometry.{Valid, stripe_sectors}
use Rattle.tables.specs.meaning.Placement.{stripe_of}
use Rattle.logs.specs.meaning.Entry.{Header, partial_parity, closing, Entry, encode, rows_of}
use Rattle.logs.specs.meaning.Heads.{ends_at}
use Rattle.logs.specs.meaning.Walk.{sectors_of}
use Rattle.logs.specs.laws.HeadLaws.{ends_at_is, partial_parity_fits}
use Rattle.logs.specs.laws.Walk.{Reads, Whole, sectors_of_all, sectors_of_append, log_extent, extent_append}
use Rattle.volume.specs.meaning.Content.{inside_stripe, fill_of, entry_header, entry_at}
use Rattle.volume.specs.meaning.Roles.{Roles}
use Rattle.volume.specs.meaning.Emptying.{InForce, last_entry, is_copied, is_at_pointer, made_entry, parity_copies, new_parity, copy_size, new_parity_size}
use Rattle.promise.proofs.invariant.Invariant.{closing_entry}

-- ---- the last that passes
pub data LastEntry (p : Entry → Bool) (acc es : List Entry) : Type 0 where
  none_of : last_entry p acc es ≡ acc → ((e : Entry) → Memᴰ e es → p e ≡ false) → LastEntry p acc es
  one_of : (e : Entry) → last_entry p acc es ≡ e ∷ [] → Memᴰ e es → p e ≡ true → LastEntry p acc es

pub last_entry_lem : (p : Entry → Bool) (acc es : List Entry) → LastEntry p acc es
last_entry_lem p acc [] = none_of refl (λ e m. mem_nil e m)
last_entry_lem p acc (e ∷ es) = go (p e) refl (λ a. last_entry_lem p a es)
  where
    go : (b : Bool) → p e ≡ b → ((a : List Entry) → LastEntry p a es) → LastEntry p acc (e ∷ es)
    go true q ih = here (ih (e ∷ []))
      where
        here : LastEntry p (e ∷ []) es → LastEntry p acc (e ∷ es)
        here (none_of r f) = one_of e (rw q r) (Memᴰ.head refl) q
        here (one_of f r m t) = one_of f (rw q r) (Memᴰ.tail m) t
    go false q ih = there (ih acc)
      where
        there : LastEntry p acc es → LastEntry p acc (e ∷ es)
        there (none_of r f) = none_of (rw q r) all
          where
            all : (h : Entry) → Memᴰ h (e ∷ es) → p h ≡ false
            all h (Memᴰ.head t) = rw t q
            all h (Memᴰ.tail m) = f h m
        there (one_of f r m t) = one_of f (rw q r) (Memᴰ.tail m) t

-- ---- lists below n
each_mem : {A : Type 0} (f : ℕ → List A) (n : ℕ) (a : A) → Memᴰ a (each_below f n) → (z : ℕ) × (z < n) × Memᴰ a (f z)
each_mem f zero a m = mem_nil a m
each_mem f (suc n) a m = go (mem_append (each_below f n) (f n) a m) (λ k. each_mem f n a k)
  where
    go : Memᴰ a (each_below f n) ⊎ Memᴰ a (f n) → (Memᴰ a (each_below f n) → (z : ℕ) × (z < n) × Memᴰ a (f z)) → (z : ℕ) × (z < suc n) × Memᴰ a (f z)
    go (inl k) ih = let (z, l, o) = ih k in (z, omega arith, o)
    go (inr k) ih = (n, omega arith, k)

mem_each : {A : Type 0} (f : ℕ → List A) (n z : ℕ) (a : A) → z < n → Memᴰ a (f z) → Memᴰ a (each_below f n)
mem_each f zero z a l m = absurd (not-suc-le-zero l)
mem_each f (suc n) z a l m = go (ℕ_discrete z n) (λ k. mem_each f n z a k m)
  where
    go : Dec (z ≡ n) → (z < n → Memᴰ a (each_below f n)) → Memᴰ a (each_below f n ++ f n)
    go (yes e) ih = mem_right (each_below f n) (f n) a (rw (← e) m)
    go (no e) ih = mem_left (each_below f n) (f n) a (ih (omega arith))

-- ---- an entry that ends at a pointer has the header of one
pub header_at : (g : Geometry) → Valid g → (d z n p : ℕ) (e : Entry) → Reads g d true e.head → ends_at g z n p e.head ≡ true → e.head ≡ entry_header g z n p
header_at g ok d z n p e r t =
    let (j, f, h, q) = ends_at_is g z n p e.head t in
    let b = partial_parity_fits g d z j f n (rw h at r) in
    let s : stripe_of g.drives g.unit p ≡ j = ap (stripe_of g.drives g.unit) (sym q) ∙ stripe_of_sum g.drives g.unit j f b.1 in
    let i : fill_of g p ≡ f = ap (λ (y : ℕ). p - y * stripe_sectors g) s ∙ minus j f p q in
    h ∙ sym (ap₂ (λ (a c : ℕ). partial_parity z a c n) s i)
  where
    minus : (j f p : ℕ) → j * stripe_sectors g + f ≡ p → p - j * stripe_sectors g ≡ f
    minus j f p e = omega arith

pub made_header : (g : Geometry) (f : InForce) (z : ℕ) → (made_entry g f z).head ≡ entry_header g z (f.generation z) (f.pointer z)
unfolding entry_at
made_header g f z = refl

-- ---- WHAT IS COPIED (es: the log's whole entries)
module _ (g : Geometry) (f : InForce) (d : ℕ) (es : List Entry) where
  -- of zone z: an entry of the log at the pointer, or the one made where there is none
  pub data CopyOf (z : ℕ) (e : Entry) : Type 0 where
    found : Memᴰ e es → is_at_pointer g f z e ≡ true → CopyOf z e
    made : e ≡ made_entry g f z → ((p : Entry) → Memᴰ p es → is_at_pointer g f z p ≡ false) → CopyOf z e

  pub record Copied (e : Entry) : Type 0 where
    pub zone : ℕ
    pub zone_lt : zone < g.zones
    pub copied : is_copied g f d zone ≡ true
    pub of : CopyOf zone e

  abbrev one : ℕ → List Entry
  one z = pick (is_copied g f d z) (last_entry (is_at_pointer g f z) (made_entry g f z ∷ []) es) []

  one_is : (z : ℕ) → is_copied g f d z ≡ true → (e : Entry) × (one z ≡ e ∷ []) × CopyOf z e
  one_is z b = rw b (go (last_entry_lem (is_at_pointer g f z) (made_entry g f z ∷ []) es))
    where
      go : LastEntry (is_at_pointer g f z) (made_entry g f z ∷ []) es → (e : Entry) × (last_entry (is_at_pointer g f z) (made_entry g f z ∷ []) es ≡ e ∷ []) × CopyOf z e
      go (none_of q n) = (made_entry g f z, q, made refl n)
      go (one_of e q m t) = (e, q, found m t)

  one_none : (z : ℕ) → is_copied g f d z ≡ false → one z ≡ []
  one_none z b = rw b refl

  pub copies_are : (e : Entry) → Memᴰ e (parity_copies g f d es) → Copied e
  unfolding parity_copies
  copies_are e m = let (z, hz, o) = each_mem one g.zones e m in go z hz (is_copied g f d z) refl o
    where
      single : (z : ℕ) → z < g.zones → is_copied g f d z ≡ true → (p : Entry) → CopyOf z p → Memᴰ e (p ∷ []) → Copied e
      single z hz b p c (Memᴰ.head q) = record { zone = z; zone_lt = hz; copied = b; of = rw q c }
      single z hz b p c (Memᴰ.tail k) = mem_nil e k

      go : (z : ℕ) → z < g.zones → (b : Bool) → is_copied g f d z ≡ b → Memᴰ e (one z) → Copied e
      go z hz true b o = let (p, q, c) = one_is z b in single z hz b p c (rw q at o)
      go z hz false b o = mem_nil e (rw (one_none z b) at o)

  pub copied_at_lem : (z : ℕ) → z < g.zones → is_copied g f d z ≡ true → (e : Entry) × Memᴰ e (parity_copies g f d es) × CopyOf z e
  unfolding parity_copies
  copied_at_lem z hz b = let (e, q, c) = one_is z b in (e, mem_each one g.zones z e hz (rw q (Memᴰ.head refl)), c)

  -- ---- how long the copies are
  module _ (ok : Valid g) (rd : (e : Entry) → Memᴰ e es → Reads g d true e.head) where
    pub copy_header : (z : ℕ) (e : Entry) → CopyOf z e → e.head ≡ entry_header g z (f.generation z) (f.pointer z)
    copy_header z e (found m t) = header_at g ok d z (f.generation z) (f.pointer z) e (rd e m) t
    copy_header z e (made q n) = ap (λ (p : Entry). p.head) q ∙ made_header g f z

    one_extent : (z : ℕ) → log_extent g d true (one z) ≡ copy_size g f d z
    one_extent z = go (is_copied g f d z) refl
      where
        go : (b : Bool) → is_copied g f d z ≡ b → log_extent g d true (one z) ≡ copy_size g f d z
        go true b =
            let (e, q, c) = one_is z b in
            let h : rows_of g e.head ≡ min (fill_of g (f.pointer z)) g.unit = ap (rows_of g) (copy_header z e c) in
            ap (log_extent g d true) q ∙ rw (b, h) (omega arith)
        go false b = rw b refl

    extent_below : (n : ℕ) → log_extent g d true (each_below one n) ≡ sum_below (copy_size g f d) n
    extent_below zero = refl
    extent_below (suc n) = extent_append g d true (each_below one n) (one n) ∙ ap₂ (λ (a b : ℕ). a + b) (extent_below n) (one_extent n)

    pub copies_extent : log_extent g d true (parity_copies g f d es) ≡ sum_below (copy_size g f d) g.zones
    unfolding parity_copies
    copies_extent = extent_below g.zones

-- ---- THE NEW LOG: the copies and the closing entry, of generation n
abbrev pub new_log : Geometry → InForce → ℕ → List Entry → ℕ → List Entry
new_log g f d es n = parity_copies g f d es ++ (closing_entry 1 n ∷ [])

concat_sectors : (g : Geometry) (d : ℕ) (es : List Entry) → concat (map (sectors_of g d true) es) ≡ sectors_of_all g d true es
concat_sectors g d [] = refl
concat_sectors g d (e ∷ es) = ap (λ (r : List (List ℕ)). sectors_of g d true e ++ r) (concat_sectors g d es)

pub new_log_sectors : (g : Geometry) (f : InForce) (r : Roles) (d : ℕ) (es : List Entry) → new_parity g f r d es ≡ sectors_of_all g d true (new_log g f d es r.parity_claim)
unfolding new_parity
new_log_sectors g f r d es =
    let c = closing_entry 1 r.parity_claim in
    ap (λ (t : List (List ℕ)). t ++ (encode g d (closing 1 r.parity_claim) ∷ [])) (concat_sectors g d (parity_copies g f d es)) ∙ sym (sectors_of_append g d true (parity_copies g f d es) (c ∷ []))

pub new_log_extent : (g : Geometry) → Valid g → (f : InForce) (d : ℕ) (es : List Entry) (n : ℕ) → ((e : Entry) → Memᴰ e es → Reads g d true e.head) → log_extent g d true (new_log g f d es n) ≡ new_parity_size g f d
unfolding new_parity_size
new_log_extent g ok f d es n rd = extent_append g d true (parity_copies g f d es) (closing_entry 1 n ∷ []) ∙ rw (copies_extent g f d es ok rd) (omega arith)
