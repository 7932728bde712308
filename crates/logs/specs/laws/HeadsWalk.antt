-- A general log as a list of headers: the walk of the sectors that they are written as gives them again; and every header that a walk gives reads back.
use Rattle.std.specs.Prelude.{◌≡◌, refl, Bool, false, ℕ, zero, suc, ◌+◌, ◌≤◌, length, get_or}
use Rattle.std.proofs.Common.{sym, ap, ◌∙◌, arith, inl}
use mathlib.Core.List.{List, [], ◌∷◌, map, Memᴰ}
use Rattle.tables.specs.declared.Geometry.{Geometry}
use Rattle.logs.specs.meaning.Entry.{Header, Entry, encode, rows_of}
use Rattle.logs.specs.meaning.Walk.{Walked, at_pointer, walk_log}
use Rattle.logs.specs.laws.Walk.{Reads, Whole, WellFormedLog, log_extent, sectors_of_all}
use Rattle.logs.specs.laws.WalkLaws.{walk_of_entries}
use Rattle.logs.specs.laws.HeadLaws.{general_no_rows, reads_fits}
use Rattle.logs.specs.laws.Legal.{legal_reads_back}
use Rattle.logs.specs.laws.Places.{walk_places}
use Rattle.logs.specs.code.Steps.{Placed}
use Rattle.logs.specs.code.Query.{head_of, heads_of}

abbrev bare_entry : Header → Entry
bare_entry h = record { head = h; rows = [] }

module _ (g : Geometry) (d : ℕ) where
  heads_flat : (hs : List Header) → sectors_of_all g d false (map bare_entry hs) ≡ map (encode g d) hs
  heads_flat [] = refl
  heads_flat (h ∷ hs) = ap (λ (r : List (List ℕ)). encode g d h ∷ r) (heads_flat hs)

  heads_back : (hs : List Header) → map head_of (map bare_entry hs) ≡ hs
  heads_back [] = refl
  heads_back (h ∷ hs) = ap (λ (r : List Header). h ∷ r) (heads_back hs)

  no_rows : (h : Header) → Reads g d false h → zero ≡ rows_of g h
  no_rows h r = sym (general_no_rows g d h (reads_fits g d false h r))

  heads_lawful : (hs : List Header) → ((h : Header) → Memᴰ h hs → Reads g d false h) → WellFormedLog g d false (map bare_entry hs)
  heads_lawful [] r = tt
  heads_lawful (h ∷ hs) r = (r h (Memᴰ.head refl), inl (no_rows h (r h (Memᴰ.head refl))), heads_lawful hs (λ k m. r k (Memᴰ.tail m)))

  heads_whole : (hs : List Header) → ((h : Header) → Memᴰ h hs → Reads g d false h) → (e : Entry) → Memᴰ e (map bare_entry hs) → Whole g d false e
  heads_whole (h ∷ hs) r e (Memᴰ.head q) = rw q (no_rows h (r h (Memᴰ.head refl)))
  heads_whole (h ∷ hs) r e (Memᴰ.tail m) = heads_whole hs (λ k i. r k (Memᴰ.tail i)) e m
  heads_whole [] r e x'' = elim x'' [ ]

  heads_extent : (hs : List Header) → ((h : Header) → Memᴰ h hs → Reads g d false h) → log_extent g d false (map bare_entry hs) ≡ length hs
  heads_extent [] r = refl
  heads_extent (h ∷ hs) r =
      let z : zero ≡ rows_of g h = no_rows h (r h (Memᴰ.head refl)) in
      omega (arith, heads_extent hs (λ k m. r k (Memᴰ.tail m)))

  -- THE WALK OF HEADERS that read back gives them, up to the pointer
  pub walk_of_heads : (hs : List Header) → ((h : Header) → Memᴰ h hs → Reads g d false h) → length hs ≤ g.capacity
      → (heads_of (walk_log g d false (map (encode g d) hs)) ≡ hs) × ((walk_log g d false (map (encode g d) hs)).last ≡ at_pointer)
  walk_of_heads hs r l =
      let w = walk_of_entries g d false (map bare_entry hs) (heads_lawful hs r) (heads_whole hs r) (omega (arith, l, heads_extent hs r)) in
      let s = heads_flat hs in
      (ap (λ (t : List (List ℕ)). heads_of (walk_log g d false t)) (sym s) ∙ ap heads_of w ∙ heads_back hs, ap (λ (t : List (List ℕ)). (walk_log g d false t).last) (sym s) ∙ ap (λ (x : Walked). x.last) w)

-- EVERY HEADER OF A WALK reads back
module _ (g : Geometry) (d : ℕ) (par : Bool) (ss : List (List ℕ)) where
  placed_reads : (es : List Entry) (p : ℕ) (h : Header) → Placed g d par ss p es → Memᴰ h (map head_of es) → Reads g d par h
  placed_reads (e ∷ es) p h l (Memᴰ.head q) = rw q (legal_reads_back g d par (get_or ss p []) e.head l.0.reads)
  placed_reads (e ∷ es) p h l (Memᴰ.tail m) = placed_reads es (p + suc (rows_of g e.head)) h l.1 m
  placed_reads [] p h l x'' = elim x'' [ ]

  pub walked_reads : (h : Header) → Memᴰ h (heads_of (walk_log g d par ss)) → Reads g d par h
  walked_reads h m = placed_reads (walk_log g d par ss).entries zero h (walk_places g d par ss).placed m
