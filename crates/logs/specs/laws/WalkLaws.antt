-- What a walk makes of a log that grows, or of which only a beginning is left.
use Rattle.std.specs.Prelude.{◌≡◌, refl, Bool, ℕ, zero, suc, ◌+◌, ◌≤◌, length}
use Rattle.std.proofs.Common.{sym, ap, ap₂, ◌∙◌, add-zero, arith, eq-eqb}
use mathlib.Core.List.{List, [], ◌∷◌, ◌++◌, append-nil, Memᴰ}
use Rattle.tables.specs.declared.Geometry.{Geometry}
use Rattle.logs.specs.meaning.Entry.{Header, Entry, Decoded, legal, bad, rows_of}
use Rattle.logs.specs.declared.Fault.{Fault}
use Rattle.logs.specs.meaning.Walk.{Walked, with_entry, at_pointer, no_entry, torn, WalkState, between, in_entry, walk, walk_log, decode_at, sectors_of}
use Rattle.logs.specs.laws.Walk.{sectors_of_all, Reads, Whole, WellFormedLog, log_extent, whole_entries, ending_of, walk_lawful, walk_one, step_zero, step_suc}
use Rattle.logs.specs.laws.Places.{walk_places}

-- entries in front of a walk
abbrev pub with_entries : List Entry → Walked → Walked
with_entries [] w = w
with_entries (e ∷ es) w = with_entry e (with_entries es w)

pub entries_in_front : (es : List Entry) (w : Walked) → (with_entries es w).entries ≡ es ++ w.entries
entries_in_front [] w = refl
entries_in_front (e ∷ es) w = ap (λ (r : List Entry). e ∷ r) (entries_in_front es w)

pub last_in_front : (es : List Entry) (w : Walked) → (with_entries es w).last ≡ w.last
last_in_front [] w = refl
last_in_front (e ∷ es) w = last_in_front es w

pub position_in_front : (es : List Entry) (w : Walked) → (with_entries es w).position ≡ w.position
position_in_front [] w = refl
position_in_front (e ∷ es) w = position_in_front es w

not_pointer : (h : Header) (rs : List (List ℕ)) → torn h rs ≡ at_pointer → ◌≡◌ {A = ℕ} 0 1
not_pointer h rs e = cc

no_pointer : (f : Fault) → no_entry f ≡ at_pointer → ◌≡◌ {A = ℕ} 0 1
no_pointer f e = cc

module _ (g : Geometry) (d : ℕ) (par : Bool) where
  -- THE WALK GOES ON: where a log is whole up to its pointer, the walk of what follows it comes after its entries
  pub walk_goes_on : (ss ts : List (List ℕ)) (x : ℕ) (st : WalkState) → (walk g d par x st ss).last ≡ at_pointer
      → walk g d par x st (ss ++ ts) ≡ with_entries (walk g d par x st ss).entries (walk g d par (x + length ss) between ts)
  walk_goes_on [] ts x between e = ap (λ (y : ℕ). walk g d par y between ts) (sym (add-zero x))
  walk_goes_on [] ts x (in_entry y h k acc) e = absurd (let z = not_pointer h acc e in omega arith)
  walk_goes_on (s ∷ ss) ts x between e = go (decode_at g d par x s) refl (λ y st q. walk_goes_on ss ts y st q)
    where
      next : suc x + length ss ≡ x + suc (length ss)
      next = omega arith

      Goal : Type 0
      Goal = walk g d par x between (s ∷ (ss ++ ts)) ≡ with_entries (walk g d par x between (s ∷ ss)).entries (walk g d par (x + suc (length ss)) between ts)

      Rest : Type 0
      Rest = (y : ℕ) (st : WalkState) → (walk g d par y st ss).last ≡ at_pointer → walk g d par y st (ss ++ ts) ≡ with_entries (walk g d par y st ss).entries (walk g d par (y + length ss) between ts)

      rows : (h : Header) (c : ℕ) → decode_at g d par x s ≡ legal h → rows_of g h ≡ c → Rest → Goal
      rows h zero q r ih =
          let u = step_zero g d par x s h ss q r in
          let v = step_zero g d par x s h (ss ++ ts) q r in
          let w = ih (suc x) between (sym (ap (λ (l : Walked). l.last) u) ∙ e) in
          v ∙ ap (with_entry (record { head = h; rows = [] })) w
          ∙ ap₂ (λ (es : List Entry) (y : ℕ). with_entries es (walk g d par y between ts)) (sym (ap (λ (l : Walked). l.entries) u)) next
      rows h (suc c) q r ih =
          let u = step_suc g d par x s h c ss q r in
          let v = step_suc g d par x s h c (ss ++ ts) q r in
          let w = ih (suc x) (in_entry x h c []) (sym (ap (λ (l : Walked). l.last) u) ∙ e) in
          v ∙ w ∙ ap₂ (λ (es : List Entry) (y : ℕ). with_entries es (walk g d par y between ts)) (sym (ap (λ (l : Walked). l.entries) u)) next

      go : (r : Decoded) → decode_at g d par x s ≡ r → Rest → Goal
      go (bad f) q ih = absurd (let w : walk g d par x between (s ∷ ss) ≡ record { entries = []; last = no_entry f; position = x } = rw (q, walk) refl in let z = no_pointer f (sym (ap (λ (l : Walked). l.last) w) ∙ e) in omega arith)
      go (legal h) q ih = rows h (rows_of g h) q refl ih
  walk_goes_on (s ∷ ss) ts x (in_entry y h zero acc) e =
      let next : suc x + length ss ≡ x + suc (length ss) = omega arith in
      ap (with_entry (record { head = h; rows = acc ++ (s ∷ []) })) (walk_goes_on ss ts (suc x) between e ∙ ap (λ (n : ℕ). with_entries (walk g d par (suc x) between ss).entries (walk g d par n between ts)) next)
  walk_goes_on (s ∷ ss) ts x (in_entry y h (suc k) acc) e =
      let next : suc x + length ss ≡ x + suc (length ss) = omega arith in
      walk_goes_on ss ts (suc x) (in_entry y h k (acc ++ (s ∷ []))) e ∙ ap (λ (n : ℕ). with_entries (walk g d par (suc x) (in_entry y h k (acc ++ (s ∷ []))) ss).entries (walk g d par n between ts)) next

  -- ---- a log that is whole up to its pointer, and is appended to
  module _ (ss : List (List ℕ)) (ends : (walk_log g d par ss).last ≡ at_pointer) where
    -- a whole entry more
    pub walk_of_append : (e : Entry) → Reads g d par e.head → Whole g d par e → length ss + suc (rows_of g e.head) ≤ g.capacity
        → walk_log g d par (ss ++ sectors_of g d par e) ≡ with_entries (walk_log g d par ss).entries (record { entries = e ∷ []; last = at_pointer; position = length ss + suc (rows_of g e.head) })
    walk_of_append e r w h =
        let z : zero + length ss ≡ length ss = omega arith in
        walk_goes_on ss (sectors_of g d par e) zero between ends
        ∙ ap (λ (n : ℕ). with_entries (walk_log g d par ss).entries (walk g d par n between (sectors_of g d par e))) z
        ∙ ap (with_entries (walk_log g d par ss).entries) (ap (λ (t : List (List ℕ)). walk g d par (length ss) between t) (sym (append-nil (sectors_of g d par e))) ∙ walk_one g d par e (length ss) [] r w h)

  -- ---- the walk of a log made by known stores, and of any beginning of it
  abbrev pub AllWhole : List Entry → Type 0
  AllWhole es = (e : Entry) → Memᴰ e es → Whole g d par e

  whole_all : (es : List Entry) → AllWhole es → (whole_entries g d par es ≡ es) × (ending_of g d par es ≡ at_pointer)
  whole_all [] w = (refl, refl)
  whole_all (e ∷ es) w =
      let (a, b) = whole_all es (λ f m. w f (Memᴰ.tail m)) in
      rw (eq-eqb (length e.rows) (rows_of g e.head) (w e (Memᴰ.head refl))) (ap (λ (r : List Entry). e ∷ r) a, b)

  -- its entries, all of them, up to its pointer
  pub walk_of_entries : (es : List Entry) → WellFormedLog g d par es → AllWhole es → log_extent g d par es ≤ g.capacity
      → walk_log g d par (sectors_of_all g d par es) ≡ record { entries = es; last = at_pointer; position = log_extent g d par es }
  walk_of_entries es l w h =
      let (a, b) = walk_lawful g d par es zero l (omega (arith, h)) in
      let (u, v) = whole_all es w in
      let z : zero + log_extent g d par es ≡ log_extent g d par es = omega arith in
      let p = (walk_places g d par (sectors_of_all g d par es)).position_is ∙ ap (λ (r : List Entry). zero + log_extent g d par r) (a ∙ u) ∙ z in
      λ i. record { entries = (a ∙ u) i; last = (b ∙ v) i; position = p i }
