-- The walk by positions, as the code does it, over the sectors of a zone in the lent bytes.
use Rattle.std.specs.Prelude.{◌≡◌, refl, Bool, true, false, ◌&&◌, ℕ, zero, suc, ◌+◌, ◌-◌, ◌*◌, ◌≤◌, ◌<◌, min, List, [], ◌∷◌, ◌++◌, length, get_or, take, drop}
use Rattle.std.proofs.Common.{sym, ap, ap₂, ◌∙◌, true≢false, arith, length-drop, take-append-drop, drop-cons, drop-drop, length-take-le, le-leb}
use Rattle.std.proofs.Math.Seq.{drop-length}
use Rattle.std.proofs.lemmas.Bool.{lt-leb}
use Rattle.tables.specs.declared.Geometry.{Geometry}
use Rattle.tables.specs.meaning.Basics.{pick}
use Rattle.tables.specs.meaning.LittleEndian.{same_bytes}
use Rattle.tables.specs.meaning.Geometry.{physical_zones, total_bytes}
use Rattle.tables.specs.meaning.Tables.{sector_no, cell}
use Rattle.tables.specs.meaning.Below.{tabulate}
use Rattle.logs.specs.declared.Fault.{Fault}
use Rattle.logs.specs.declared.Fault.TheVariants.{RowsPast}
use Rattle.logs.specs.declared.Found.{Found}
use Rattle.logs.specs.declared.Found.TheVariants.{Bad, Label, Counters, Resets, Partial, Seal, Closing}
use Rattle.logs.specs.declared.WalkEnd.{WalkEnd}
use Rattle.logs.specs.declared.WalkEnd.TheVariants.{AtPointer, NoEntry, Torn}
use Rattle.logs.specs.meaning.Entry.{Header, label, counters, zone_reset, partial_parity, seal, closing, Decoded, legal, bad, rows_of, fault_of, read_fields, encode, fits_log, decode}
use Rattle.logs.specs.meaning.Walk.{Walked, with_entry, Ending, at_pointer, no_entry, torn, between, in_entry, decode_at, walk}
use Rattle.logs.specs.laws.Walk.{step_zero, step_suc, walk_rows, walk_torn}
use Rattle.logs.specs.code.Judge.{seen, found}

-- a log's place: the first n sectors of a physical zone of a drive, in the bytes that the host lends
pub record InLog (g : Geometry) (drive zone n : ℕ) (bytes : List ℕ) : Type 0 where
  pub drive_in : drive < g.drives
  pub zone_in_lem : zone < physical_zones g
  pub short : n ≤ g.capacity
  pub long : length bytes ≡ total_bytes g

-- the first n sectors of a zone
abbrev pub log_sectors : Geometry → ℕ → ℕ → List ℕ → ℕ → List (List ℕ)
log_sectors g d z xs n = tabulate (λ i. sector_no g.sector xs (cell g d z * g.capacity + i)) n

-- the end of a walk as the code has it: each case of Ending, with the position
abbrev pub walk_end_at : Ending → ℕ → WalkEnd
walk_end_at at_pointer p = AtPointer p
walk_end_at (no_entry f) p = NoEntry p f
walk_end_at (torn h rs) p = Torn p

abbrev pub walk_end_of : Walked → WalkEnd
walk_end_of w = walk_end_at w.last w.position

-- its position
abbrev pub end_place : WalkEnd → ℕ
end_place (AtPointer p) = p
end_place (NoEntry p f) = p
end_place (Torn p) = p

-- the rows that follow what was found
abbrev pub rows_seen : Geometry → Found → ℕ
rows_seen g Bad = zero
rows_seen g (Label x a) = zero
rows_seen g Counters = zero
rows_seen g (Resets z n) = zero
rows_seen g (Partial z s f n) = min f g.unit
rows_seen g (Seal z p n) = zero
rows_seen g (Closing gen) = zero

-- no legal header
abbrev pub bad_seen : Found → Bool
bad_seen Bad = true
bad_seen (Label x a) = false
bad_seen Counters = false
bad_seen (Resets z n) = false
bad_seen (Partial z s f n) = false
bad_seen (Seal z p n) = false
bad_seen (Closing gen) = false

rows_seen_lem : (g : Geometry) (h : Header) → rows_seen g (seen h) ≡ rows_of g h
rows_seen_lem g (label x a) = refl
rows_seen_lem g (counters cs) = refl
rows_seen_lem g (zone_reset z n) = refl
rows_seen_lem g (partial_parity z s f n) = refl
rows_seen_lem g (seal z p n) = refl
rows_seen_lem g (closing kind gen) = refl

pub not_bad : (h : Header) → bad_seen (seen h) ≡ false
not_bad (label x a) = refl
not_bad (counters cs) = refl
not_bad (zone_reset z n) = refl
not_bad (partial_parity z s f n) = refl
not_bad (seal z p n) = refl
not_bad (closing kind gen) = refl

-- a sector that is no legal header says by its mark and version why
pub decode_fault : (g : Geometry) (d : ℕ) (par : Bool) (s : List ℕ) (f : Fault) → decode g d par s ≡ bad f → f ≡ fault_of s
decode_fault g d par s f e = go (same_bytes (encode g d (read_fields g s)) s && fits_log g d par (read_fields g s)) e
  where
    go : (b : Bool) → pick b (legal (read_fields g s)) (bad (fault_of s)) ≡ bad f → f ≡ fault_of s
    go true q = absurd (let z : ◌≡◌ {A = ℕ} 0 1 = cc in omega arith)
    go false q = cc

module _ (g : Geometry) (d : ℕ) (par : Bool) (ss : List (List ℕ)) where
  -- the walk that is left at p
  abbrev pub left_at : ℕ → Walked
  left_at p = walk g d par p between (drop p ss)

  pub next : (p : ℕ) → p < length ss → drop p ss ≡ get_or ss p [] ∷ drop (suc p) ss
  next p h = drop-cons ss p [] h

  pub at_end : (p : ℕ) → p ≡ length ss → left_at p ≡ record { entries = []; last = at_pointer; position = p }
  at_end p e = let q : drop p ss ≡ [] = rw e (drop-length ss) in rw q refl

  pub at_bad : (p : ℕ) (f : Fault) → p < length ss → decode_at g d par p (get_or ss p []) ≡ bad f → left_at p ≡ record { entries = []; last = no_entry f; position = p }
  at_bad p f h e = rw (next p h, walk) (rw e refl)

  pub at_torn : (p : ℕ) (h : Header) → p < length ss → decode_at g d par p (get_or ss p []) ≡ legal h → length ss < p + 1 + rows_of g h
      → left_at p ≡ record { entries = []; last = torn h (drop (suc p) ss); position = p }
  at_torn p h l e k =
      let r : rows_of g h ≡ suc (rows_of g h - 1) = omega arith in
      let m : length (drop (suc p) ss) ≤ rows_of g h - 1 = rw length-drop (omega arith) in
      ap (walk g d par p between) (next p l) ∙ step_suc g d par p (get_or ss p []) h (rows_of g h - 1) (drop (suc p) ss) e r
      ∙ walk_torn g d par p h (drop (suc p) ss) [] (suc p) (rows_of g h - 1) m

  -- a whole entry: its header stands at p, its rows right after
  pub at_whole : (p : ℕ) (h : Header) → p < length ss → decode_at g d par p (get_or ss p []) ≡ legal h → p + suc (rows_of g h) ≤ length ss
      → left_at p ≡ with_entry (record { head = h; rows = take (rows_of g h) (drop (suc p) ss) }) (left_at (p + suc (rows_of g h)))
  at_whole p h l e k = go (rows_of g h) refl
    where
      here : ℕ → Walked
      here c = with_entry (record { head = h; rows = take c (drop (suc p) ss) }) (left_at (p + suc c))

      go : (c : ℕ) → rows_of g h ≡ c → left_at p ≡ here (rows_of g h)
      go zero q =
          let a : suc p ≡ p + suc zero = omega arith in
          ap (walk g d par p between) (next p l) ∙ step_zero g d par p (get_or ss p []) h (drop (suc p) ss) e q
          ∙ ap (λ (x : ℕ). with_entry (record { head = h; rows = [] }) (left_at x)) a ∙ ap here (sym q)
      go (suc c) q =
          let rs = take (suc c) (drop (suc p) ss) in
          let m : length rs ≡ suc c = length-take-le (suc c) (drop (suc p) ss) (rw length-drop (omega arith)) in
          let sp : drop (suc p) ss ≡ rs ++ drop (suc c) (drop (suc p) ss) = sym (take-append-drop (suc c) (drop (suc p) ss)) in
          let a : suc p + length rs ≡ p + suc (suc c) = omega arith in
          let b : suc p + suc c ≡ p + suc (suc c) = omega arith in
          let w = ap₂ (λ (x : ℕ) (t : List (List ℕ)). walk g d par x between t) a (drop-drop (suc c) (suc p) ss ∙ ap (λ (x : ℕ). drop x ss) b) in
          ap (walk g d par p between) (next p l) ∙ step_suc g d par p (get_or ss p []) h c (drop (suc p) ss) e q
          ∙ ap (walk g d par (suc p) (in_entry p h c [])) sp ∙ walk_rows g d par p h rs (drop (suc c) (drop (suc p) ss)) [] (suc p) c m
          ∙ ap (with_entry (record { head = h; rows = rs })) w ∙ ap here (sym q)

-- ---- the same, by what the code has found at p
module _ (g : Geometry) (d : ℕ) (par : Bool) (ss : List (List ℕ)) (p : ℕ) (f : Found) (l : p < length ss) (e : f ≡ found (decode g d par (get_or ss p []))) where
  pub stops_bad : bad_seen f ≡ true → left_at g d par ss p ≡ record { entries = []; last = no_entry (fault_of (get_or ss p [])); position = p }
  stops_bad b = at_bad g d par ss p (fault_of (get_or ss p [])) l (go (decode g d par (get_or ss p [])) refl)
    where
      go : (r : Decoded) → decode g d par (get_or ss p []) ≡ r → decode_at g d par p (get_or ss p []) ≡ bad (fault_of (get_or ss p []))
      go (bad k) q = rw q (ap bad (decode_fault g d par (get_or ss p []) k q))
      go (legal h) q = absurd (let t : true ≡ false = sym b ∙ ap bad_seen (e ∙ ap found q) ∙ not_bad h in true≢false t)

  pub stops_past : bad_seen f ≡ false → g.capacity < p + 1 + rows_seen g f → left_at g d par ss p ≡ record { entries = []; last = no_entry RowsPast; position = p }
  stops_past c b = at_bad g d par ss p RowsPast l (go (decode g d par (get_or ss p [])) refl)
    where
      go : (r : Decoded) → decode g d par (get_or ss p []) ≡ r → decode_at g d par p (get_or ss p []) ≡ bad RowsPast
      go (bad k) q = absurd (let t : true ≡ false = sym (ap bad_seen (e ∙ ap found q)) ∙ c in true≢false t)
      go (legal h) q =
          let k : rows_seen g f ≡ rows_of g h = ap (rows_seen g) (e ∙ ap found q) ∙ rows_seen_lem g h in
          rw q (rw (lt-leb (p + suc (rows_of g h)) g.capacity (omega arith)) refl)

  -- what a legal one is
  pub record Legal : Type 0 where
    pub head : Header
    pub here : decode g d par (get_or ss p []) ≡ legal head
    pub reads : decode_at g d par p (get_or ss p []) ≡ legal head
    pub rows : rows_seen g f ≡ rows_of g head

  pub legal_here : bad_seen f ≡ false → p + 1 + rows_seen g f ≤ g.capacity → Legal
  legal_here b c = go (decode g d par (get_or ss p [])) refl
    where
      go : (r : Decoded) → decode g d par (get_or ss p []) ≡ r → Legal
      go (bad k) q = absurd (let t : true ≡ false = sym (ap bad_seen (e ∙ ap found q)) ∙ b in true≢false t)
      go (legal h) q =
          let k : rows_seen g f ≡ rows_of g h = ap (rows_seen g) (e ∙ ap found q) ∙ rows_seen_lem g h in
          record { head = h; here = q; reads = rw q (rw (le-leb (p + suc (rows_of g h)) g.capacity (omega arith)) refl); rows = k }

  pub stops_torn : bad_seen f ≡ false → p + 1 + rows_seen g f ≤ g.capacity → length ss < p + 1 + rows_seen g f
      → (h : Header) × (left_at g d par ss p ≡ record { entries = []; last = torn h (drop (suc p) ss); position = p })
  stops_torn b c k =
      let h = legal_here b c in
      (h.head, at_torn g d par ss p h.head l h.reads (omega (arith, h.rows, k)))

  -- a whole one, and the walk goes on past its rows
  pub record WholeHere : Type 0 where
    pub head : Header
    pub reads : decode g d par (get_or ss p []) ≡ legal head
    pub seen_is : f ≡ seen head
    pub rows : rows_seen g f ≡ rows_of g head
    pub on : left_at g d par ss p ≡ with_entry (record { head = head; rows = take (rows_of g head) (drop (suc p) ss) }) (left_at g d par ss (p + suc (rows_of g head)))

  pub takes : bad_seen f ≡ false → p + 1 + rows_seen g f ≤ g.capacity → p + 1 + rows_seen g f ≤ length ss → WholeHere
  takes b c k =
      let h = legal_here b c in
      record { head = h.head; reads = h.here; seen_is = e ∙ ap found h.here; rows = h.rows; on = at_whole g d par ss p h.head l h.reads (omega (arith, h.rows, k)) }

  pub goes_on_lem : bad_seen f ≡ false → p + 1 + rows_seen g f ≤ g.capacity → p + 1 + rows_seen g f ≤ length ss → walk_end_of (left_at g d par ss p) ≡ walk_end_of (left_at g d par ss (p + 1 + rows_seen g f))
  goes_on_lem b c k =
      let t = takes b c k in
      let m : p + suc (rows_of g t.head) ≡ p + 1 + rows_seen g f = omega (arith, t.rows) in
      rw (← m) (ap walk_end_of t.on)
