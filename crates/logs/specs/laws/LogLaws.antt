-- Laws of a log as a list of entries, the last perhaps torn: its entries read, have no more rows than they should, and are whole but for
-- the last; what of it is whole, and what a cut leaves whole.
use Rattle.logs.specs.laws.Walk.{Left, Whole, WellFormedLog, cut_entries, Reads, whole_entries, is_whole, sectors_of_all, log_extent, ending_of}
use Rattle.logs.specs.meaning.Walk.{at_pointer}
use Rattle.std.proofs.Common.{length-take, length-append, ◌∙◌, inl, inr, zero-le, arith, eq-eqb, eqb-true, take_all}
use Rattle.std.specs.Prelude.{length, take, ◌≡◌, refl, ◌⊎◌, Bool, true, false, ℕ, ◌+◌, ◌≤◌, ◌<◌, min, suc}
use mathlib.Core.List.{List, [], ◌∷◌, Memᴰ}
use Rattle.tables.specs.declared.Geometry.{Geometry}
use Rattle.logs.specs.meaning.Entry.{Entry, rows_of}
use Rattle.tables.specs.meaning.Basics.{pick}

-- entries of a lawful log have no more rows than they should
pub lawful_most : (g : Geometry) (d : ℕ) (par : Bool) (es : List Entry) (e : Entry) → WellFormedLog g d par es → Memᴰ e es → length e.rows ≤ rows_of g e.head
lawful_most g d par (f ∷ es) e l (Memᴰ.head q) = rw q (go l.1)
  where
    go : Whole g d par f ⊎ ((length f.rows < rows_of g f.head) × (es ≡ [])) → length f.rows ≤ rows_of g f.head
    go (inl x) = omega arith
    go (inr x) = omega (arith, x.0)
lawful_most g d par (f ∷ es) e l (Memᴰ.tail m) = lawful_most g d par es e l.2 m
lawful_most g d par [] e l x'' = elim x'' [ ]

pub lawful_reads : (g : Geometry) (d : ℕ) (es : List Entry) (e : Entry) → WellFormedLog g d true es → Memᴰ e es → Reads g d true e.head
lawful_reads g d (y ∷ es) e lw (Memᴰ.head r) = rw r lw.0
lawful_reads g d (y ∷ es) e lw (Memᴰ.tail m) = lawful_reads g d es e lw.2 m
lawful_reads g d [] e lw x'' = elim x'' [ ]

pub whole_entries_mem : (g : Geometry) (d : ℕ) (es : List Entry) (e : Entry) → Memᴰ e (whole_entries g d true es) → Memᴰ e es × Whole g d true e
whole_entries_mem g d (x ∷ es) e m = go (is_whole g d true x) refl m (λ k. whole_entries_mem g d es e k)
  where
    go : (b : Bool) → is_whole g d true x ≡ b → Memᴰ e (pick b (x ∷ whole_entries g d true es) (whole_entries g d true es)) → (Memᴰ e (whole_entries g d true es) → Memᴰ e es × Whole g d true e) → Memᴰ e (x ∷ es) × Whole g d true e
    go true q (Memᴰ.head p) ih = (Memᴰ.head p, rw p (eqb-true (length x.rows) (rows_of g x.head) q))
    go true q (Memᴰ.tail k) ih = let (a, b) = ih k in (Memᴰ.tail a, b)
    go false q k ih = let (a, b) = ih k in (Memᴰ.tail a, b)
whole_entries_mem g d [] e m = elim m [ ]

pub mem_whole_entries : (g : Geometry) (d : ℕ) (es : List Entry) (e : Entry) → Memᴰ e es → Whole g d true e → Memᴰ e (whole_entries g d true es)
mem_whole_entries g d (x ∷ es) e (Memᴰ.head p) w = rw (eq-eqb (length x.rows) (rows_of g x.head) (rw (← p) w)) (Memᴰ.head p)
mem_whole_entries g d (x ∷ es) e (Memᴰ.tail m) w = go (is_whole g d true x) (mem_whole_entries g d es e m w)
  where
    go : (b : Bool) → Memᴰ e (whole_entries g d true es) → Memᴰ e (pick b (x ∷ whole_entries g d true es) (whole_entries g d true es))
    go true k = Memᴰ.tail k
    go false k = k
mem_whole_entries g d [] e x'' w = elim x'' [ ]

-- a whole entry that a cut leaves is one of the log
pub cut_whole : (g : Geometry) (d : ℕ) (es : List Entry) (n : ℕ) (e : Entry) → WellFormedLog g d true es → Memᴰ e (cut_entries g d true es n) → Whole g d true e → Memᴰ e es
cut_whole g d (x ∷ es) (suc n) e l (Memᴰ.head p) w =
    let q : length (take n x.rows) ≡ rows_of g x.head = rw p at w in
    let m : min n (length x.rows) ≡ rows_of g x.head = rw length-take at q in
    let k : length x.rows ≤ rows_of g x.head = lawful_most g d true (x ∷ es) x l (Memᴰ.head refl) in
    Memᴰ.head (p ∙ (λ i. record { head = x.head; rows = take_all n x.rows (omega arith) i }))
cut_whole g d (x ∷ es) (suc n) e l (Memᴰ.tail m) w = Memᴰ.tail (cut_whole g d es _ e l.2 m w)
cut_whole g d [] n e l x3 w = elim x3 [ ]
cut_whole g d (x ∷ es) Prim.Native.Nat.zero e l x8 w = elim x8 [ ]

pub sectors_of_most : (g : Geometry) (d : ℕ) (es : List Entry) → WellFormedLog g d true es → length (sectors_of_all g d true es) ≤ log_extent g d true es
sectors_of_most g d [] lw = zero-le
sectors_of_most g d (e ∷ es) lw = rw (length-append e.rows (sectors_of_all g d true es)) (go lw.1 (sectors_of_most g d es lw.2))
  where
    go : Whole g d true e ⊎ ((length e.rows < rows_of g e.head) × (es ≡ [])) → length (sectors_of_all g d true es) ≤ log_extent g d true es → suc (length e.rows + length (sectors_of_all g d true es)) ≤ suc (rows_of g e.head) + log_extent g d true es
    go (inl q) ih = omega (arith, ih)
    go (inr q) ih = omega (arith, ih, q.0)

-- a log of whole entries ends well
pub whole_ends : (g : Geometry) (d : ℕ) (es : List Entry) → ((e : Entry) → Memᴰ e es → Whole g d true e) → ending_of g d true es ≡ at_pointer
whole_ends g d [] h = refl
whole_ends g d (e ∷ es) h = rw (eq-eqb (length e.rows) (rows_of g e.head) (h e (Memᴰ.head refl))) (whole_ends g d es (λ f m. h f (Memᴰ.tail m)))

-- what a cut left whole was whole before
pub left_whole : (g : Geometry) (d : ℕ) (par : Bool) (es : List Entry) (e : Entry) (o : Left g d par e es) → WellFormedLog g d par es → Whole g d par e → Whole g d par o.of
left_whole g d par es e o l q =
    let m : length o.of.rows ≤ rows_of g o.of.head = lawful_most g d par es o.of l o.is_set in
    let n : length e.rows ≤ length o.of.rows = rw (o.rows_are, length-take) (omega arith) in
    let r : length e.rows ≡ rows_of g o.of.head = rw (← o.heads) q in
    omega arith
