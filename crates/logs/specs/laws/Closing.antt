-- Closing entries: a header is of one kind of log, so a walk for the other kind stops at it; the first closing entry where all are of one generation.
use Rattle.std.specs.Prelude.{◌≡◌, refl, Bool, true, false, ◌&&◌, not, ℕ, zero, suc, ◌<◌, eqb, ltb}
use Rattle.std.proofs.Common.{sym, true≢false, arith, ne_eqb, eqb-true}
use mathlib.Core.List.{List, [], ◌∷◌, Memᴰ}
use Rattle.tables.specs.meaning.Basics.{pick}
use Rattle.tables.specs.laws.Basics.{and_split}
use Rattle.tables.specs.laws.Lists.{mem_nil}
use Rattle.tables.specs.meaning.LittleEndian.{same_bytes}
use Rattle.tables.specs.declared.Geometry.{Geometry}
use Rattle.logs.specs.meaning.Entry.{Header, label, counters, zone_reset, partial_parity, seal, closing, legal, bad, fault_of, encode, read_fields, decode, fits_log}
use Rattle.logs.specs.meaning.Heads.{first_closing}
use Rattle.logs.specs.laws.Walk.{Reads}
use Rattle.logs.specs.laws.HeadLaws.{reads_fits}

-- ---- a header is of one kind of log
other_kind : (g : Geometry) (d : ℕ) (par : Bool) (kind gen : ℕ) → fits_log g d par (closing kind gen) ≡ true → fits_log g d (not par) (closing kind gen) ≡ false
other_kind g d true kind gen f = let (a, b) = and_split (eqb kind 1) (ltb 0 gen) f in rw (ne_eqb kind 0 (λ e. omega (arith, e, eqb-true kind 1 a))) refl
other_kind g d false kind gen f = let (a, b) = and_split (eqb kind 0) (ltb 0 gen) f in rw (ne_eqb kind 1 (λ e. omega (arith, e, eqb-true kind 0 a))) refl

pub one_kind : (g : Geometry) (d : ℕ) (par : Bool) (h : Header) → fits_log g d par h ≡ true → fits_log g d (not par) h ≡ false
one_kind g d true (label x a) f = absurd (true≢false (sym f))
one_kind g d true (counters cs) f = absurd (true≢false (sym f))
one_kind g d true (zone_reset z n) f = absurd (true≢false (sym f))
one_kind g d true (partial_parity z s k n) f = refl
one_kind g d true (seal z p n) f = absurd (true≢false (sym f))
one_kind g d true (closing kind gen) f = other_kind g d true kind gen f
one_kind g d false (label x a) f = refl
one_kind g d false (counters cs) f = refl
one_kind g d false (zone_reset z n) f = refl
one_kind g d false (partial_parity z s k n) f = absurd (true≢false (sym f))
one_kind g d false (seal z p n) f = refl
one_kind g d false (closing kind gen) f = other_kind g d false kind gen f

fields_of : (g : Geometry) (d : ℕ) (par : Bool) (s : List ℕ) (h : Header) → decode g d par s ≡ legal h → read_fields g s ≡ h
fields_of g d par s h e = go (same_bytes (encode g d (read_fields g s)) s && fits_log g d par (read_fields g s)) e
  where
    go : (b : Bool) → pick b (legal (read_fields g s)) (bad (fault_of s)) ≡ legal h → read_fields g s ≡ h
    go true q = cc
    go false q = absurd (let o : ◌≡◌ {A = ℕ} 0 1 = cc in omega arith)

and_none : (b : Bool) → b && false ≡ false
and_none true = refl
and_none false = refl

pub other_bad : (g : Geometry) (d : ℕ) (par : Bool) (h : Header) → Reads g d par h → decode g d (not par) (encode g d h) ≡ bad (fault_of (encode g d h))
other_bad g d par h r = rw (fields_of g d par (encode g d h) h r, one_kind g d par h (reads_fits g d par h r), and_none (same_bytes (encode g d h) (encode g d h))) refl

-- ---- the first closing entry, where all are of generation c, and there is one unless c is 0
abbrev pub Closes : ℕ → List Header → Type 0
Closes c hs = (k n : ℕ) → Memᴰ (closing k n) hs → n ≡ c

abbrev pub Closed : ℕ → List Header → Type 0
Closed c hs = 0 < c → (k : ℕ) × Memᴰ (closing k c) hs

past_head : (h : Header) (t : List Header) (c : ℕ) → ((k n : ℕ) → h ≡ closing k n → ⊥) → Closed c (h ∷ t) → Closed c t
past_head h t c other some p = let (k, m) = some p in go k m
  where
    go : (k : ℕ) → Memᴰ (closing k c) (h ∷ t) → (k : ℕ) × Memᴰ (closing k c) t
    go k (Memᴰ.head q) = absurd (other k c (sym q))
    go k (Memᴰ.tail m) = (k, m)

none_closed : (c : ℕ) → Closed c [] → 0 ≡ c
none_closed zero f = refl
none_closed (suc n) f = let (k, m) = f (omega arith) in mem_nil (closing k (suc n)) m

pub first_closing_is : (hs : List Header) (c : ℕ) → Closes c hs → Closed c hs → first_closing hs ≡ c
first_closing_is [] c all some = none_closed c some
first_closing_is (label x a ∷ hs) c all some = first_closing_is hs c (λ k n m. all k n (Memᴰ.tail m)) (past_head (label x a) hs c (λ k n e. let o : ◌≡◌ {A = ℕ} 0 1 = cc in omega arith) some)
first_closing_is (counters cs ∷ hs) c all some = first_closing_is hs c (λ k n m. all k n (Memᴰ.tail m)) (past_head (counters cs) hs c (λ k n e. let o : ◌≡◌ {A = ℕ} 0 1 = cc in omega arith) some)
first_closing_is (zone_reset z i ∷ hs) c all some = first_closing_is hs c (λ k n m. all k n (Memᴰ.tail m)) (past_head (zone_reset z i) hs c (λ k n e. let o : ◌≡◌ {A = ℕ} 0 1 = cc in omega arith) some)
first_closing_is (partial_parity z s f i ∷ hs) c all some = first_closing_is hs c (λ k n m. all k n (Memᴰ.tail m)) (past_head (partial_parity z s f i) hs c (λ k n e. let o : ◌≡◌ {A = ℕ} 0 1 = cc in omega arith) some)
first_closing_is (seal z p i ∷ hs) c all some = first_closing_is hs c (λ k n m. all k n (Memᴰ.tail m)) (past_head (seal z p i) hs c (λ k n e. let o : ◌≡◌ {A = ℕ} 0 1 = cc in omega arith) some)
first_closing_is (closing k n ∷ hs) c all some = all k n (Memᴰ.head refl)
