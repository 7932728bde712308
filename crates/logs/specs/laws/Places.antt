-- Where the entries of a walked log stand, and where and why its walk is left.
use Rattle.std.specs.Prelude.{◌≡◌, refl, ◌⊎◌, Bool, true, false, ◌||◌, ℕ, zero, suc, ◌+◌, ◌≤◌, ◌<◌, List, [], ◌∷◌, ◌++◌, map, length, get_or, take, drop}
use Rattle.std.proofs.Common.{ap, ap₂, ◌∙◌, subst, inl, inr, arith, get_or-take, get_or-drop}
use Rattle.std.proofs.Math.Decide.{dec_lt}
use Rattle.tables.specs.meaning.Basics.{pick}
use Rattle.tables.specs.meaning.Lists.{any_of}
use Rattle.tables.specs.declared.Geometry.{Geometry}
use Rattle.logs.specs.meaning.Entry.{Header, Entry, Decoded, legal, bad, rows_of, decode}
use Rattle.logs.specs.meaning.Walk.{Walked, with_entry, Ending, at_pointer, no_entry, torn, decode_at, walk_log}
use Rattle.logs.specs.laws.Walk.{log_extent}
use Rattle.logs.specs.code.WalkCode.{left_at, at_end, at_bad, at_torn, at_whole}
use Rattle.logs.specs.code.Query.{head_of}
use Rattle.logs.specs.code.Steps.{Stands, Placed, decode_in_zone}

-- the place of the last header that passes a test, counted from 1; the first of them stands at sector p
abbrev pub last_place : Geometry → (Header → Bool) → ℕ → ℕ → List Header → ℕ
last_place g t p x [] = x
last_place g t p x (h ∷ hs) = last_place g t (p + suc (rows_of g h)) (pick (t h) (p + 1) x) hs

module _ (g : Geometry) (d : ℕ) (par : Bool) (ss : List (List ℕ)) where
  -- what stands where the walk is left
  abbrev pub EndsAt : Ending → ℕ → Type 0
  EndsAt at_pointer x = x ≡ length ss
  EndsAt (no_entry f) x = (x < length ss) × (decode_at g d par x (get_or ss x []) ≡ bad f)
  EndsAt (torn h rs) x = (x < length ss) × (decode g d par (get_or ss x []) ≡ legal h) × (rs ≡ drop (suc x) ss) × (length ss < x + suc (rows_of g h))

  -- a walk from p: its entries stand one after the other from p on, and it is left right after them
  pub record WellPlaced (p : ℕ) (w : Walked) : Type 0 where
    pub placed : Placed g d par ss p w.entries
    pub left : EndsAt w.last w.position
    pub position_is : w.position ≡ p + log_extent g d par w.entries

  well_placed_step : (p : ℕ) (e : Entry) (w : Walked) → Stands g d par ss p e → WellPlaced (p + suc (rows_of g e.head)) w → WellPlaced p (with_entry e w)
  well_placed_step p e w s r = record { placed = (s, r.placed); left = r.left; position_is = r.position_is ∙ omega arith }

  well_placed_none : (p : ℕ) (l : Ending) → EndsAt l p → WellPlaced p (record { entries = []; last = l; position = p })
  well_placed_none p l e = record { placed = tt; left = e; position_is = omega arith }

  well_placed_from : (k p : ℕ) → p ≤ length ss → length ss ≤ p + k → WellPlaced p (left_at g d par ss p)
  well_placed_from zero p h m = let e : p ≡ length ss = omega arith in rw (at_end g d par ss p e) (well_placed_none p at_pointer e)
  well_placed_from (suc k) p h m = at (dec_lt p (length ss)) (λ q a b. well_placed_from k q a b)
    where
      whole : (hd : Header) → p < length ss → decode_at g d par p (get_or ss p []) ≡ legal hd → Dec (length ss < p + suc (rows_of g hd)) → ((q : ℕ) → q ≤ length ss → length ss ≤ q + k → WellPlaced q (left_at g d par ss q)) → WellPlaced p (left_at g d par ss p)
      whole hd l r (yes s) ih = rw (at_torn g d par ss p hd l r (omega arith)) (well_placed_none p (torn hd (drop (suc p) ss)) (l, decode_in_zone g d par ss p (decode g d par (get_or ss p [])) hd r, refl, s))
      whole hd l r (no s) ih =
          let e : Entry = record { head = hd; rows = take (rows_of g hd) (drop (suc p) ss) } in
          let t : Stands g d par ss p e = record { reads = decode_in_zone g d par ss p (decode g d par (get_or ss p [])) hd r; rows_are = refl; within = omega arith } in
          rw (at_whole g d par ss p hd l r (omega arith)) (well_placed_step p e (left_at g d par ss (p + suc (rows_of g hd))) t (ih (p + suc (rows_of g hd)) (omega arith) (omega arith)))

      here : (r : Decoded) → p < length ss → decode_at g d par p (get_or ss p []) ≡ r → ((q : ℕ) → q ≤ length ss → length ss ≤ q + k → WellPlaced q (left_at g d par ss q)) → WellPlaced p (left_at g d par ss p)
      here (bad f) l r ih = rw (at_bad g d par ss p f l r) (well_placed_none p (no_entry f) (l, r))
      here (legal hd) l r ih = whole hd l r (dec_lt (length ss) (p + suc (rows_of g hd))) ih

      at : Dec (p < length ss) → ((q : ℕ) → q ≤ length ss → length ss ≤ q + k → WellPlaced q (left_at g d par ss q)) → WellPlaced p (left_at g d par ss p)
      at (yes l) ih = here (decode_at g d par p (get_or ss p [])) l refl ih
      at (no n) ih = let e : p ≡ length ss = omega arith in rw (at_end g d par ss p e) (well_placed_none p at_pointer e)

  -- THE PLACES: every entry that a walk gives stands in the log where the extents of those before it say
  pub walk_places : WellPlaced zero (walk_log g d par ss)
  walk_places = well_placed_from (length ss) zero (omega arith) (omega arith)

  entry_stands : (fs : List Entry) (e : Entry) (es : List Entry) (p : ℕ) → Placed g d par ss p (fs ++ (e ∷ es)) → Stands g d par ss (p + log_extent g d par fs) e
  entry_stands [] e es p l = let k : p ≡ p + zero = omega arith in subst (λ (x : ℕ). Stands g d par ss x e) k l.0
  entry_stands (f ∷ fs) e es p l =
      let k : p + suc (rows_of g f.head) + log_extent g d par fs ≡ p + (suc (rows_of g f.head) + log_extent g d par fs) = omega arith in
      subst (λ (x : ℕ). Stands g d par ss x e) k (entry_stands fs e es (p + suc (rows_of g f.head)) l.1)

  -- of one entry: its place is the extent of those before it
  pub entry_place_lem : (fs : List Entry) (e : Entry) (es : List Entry) → (walk_log g d par ss).entries ≡ fs ++ (e ∷ es) → Stands g d par ss (log_extent g d par fs) e
  entry_place_lem fs e es q =
      let k : zero + log_extent g d par fs ≡ log_extent g d par fs = omega arith in
      subst (λ (x : ℕ). Stands g d par ss x e) k (entry_stands fs e es zero (subst (Placed g d par ss zero) q walk_places.placed))

  -- ---- the last entry that passes a test
  pub record LastSuch (t : Header → Bool) (es : List Entry) (q : ℕ) : Type 0 where
    pub entry : Entry
    pub before : List Entry
    pub after : List Entry
    pub split : es ≡ before ++ (entry ∷ after)
    pub passes : t entry.head ≡ true
    pub none_after : any_of t (map head_of after) ≡ false
    pub stands : Stands g d par ss q entry

  pub last_place_lem : (t : Header → Bool) (es : List Entry) (p x : ℕ) → Placed g d par ss p es
      → ((any_of t (map head_of es) ≡ false) × (last_place g t p x (map head_of es) ≡ x)) ⊎ ((q : ℕ) × LastSuch t es q × (last_place g t p x (map head_of es) ≡ q + 1))
  last_place_lem t [] p x l = inl (refl, refl)
  last_place_lem t (e ∷ es) p x l = go (t e.head) refl (last_place_lem t es (p + suc (rows_of g e.head)) (pick (t e.head) (p + 1) x) l.1)
    where
      go : (b : Bool) → t e.head ≡ b
          → ((any_of t (map head_of es) ≡ false) × (last_place g t (p + suc (rows_of g e.head)) (pick (t e.head) (p + 1) x) (map head_of es) ≡ pick (t e.head) (p + 1) x)) ⊎ ((q : ℕ) × LastSuch t es q × (last_place g t (p + suc (rows_of g e.head)) (pick (t e.head) (p + 1) x) (map head_of es) ≡ q + 1))
          → ((any_of t (map head_of (e ∷ es)) ≡ false) × (last_place g t p x (map head_of (e ∷ es)) ≡ x)) ⊎ ((q : ℕ) × LastSuch t (e ∷ es) q × (last_place g t p x (map head_of (e ∷ es)) ≡ q + 1))
      go b k (inr (q, s, m)) = inr (q, record { entry = s.entry; before = e ∷ s.before; after = s.after; split = ap (λ (r : List Entry). e ∷ r) s.split; passes = s.passes; none_after = s.none_after; stands = s.stands }, m)
      go true k (inl (n, m)) = inr (p, record { entry = e; before = []; after = es; split = refl; passes = k; none_after = n; stands = l.0 }, m ∙ ap (λ (b : Bool). pick b (p + 1) x) k)
      go false k (inl (n, m)) = inl (ap₂ (λ (a b : Bool). a || b) k n, m ∙ ap (λ (b : Bool). pick b (p + 1) x) k)

  -- of a whole log: it lies below the written pointer
  pub last_place_most : (t : Header → Bool) → last_place g t zero zero (map head_of (walk_log g d par ss).entries) ≤ length ss
  last_place_most t = go (last_place_lem t (walk_log g d par ss).entries zero zero walk_places.placed)
    where
      go : ((any_of t (map head_of (walk_log g d par ss).entries) ≡ false) × (last_place g t zero zero (map head_of (walk_log g d par ss).entries) ≡ zero)) ⊎ ((q : ℕ) × LastSuch t (walk_log g d par ss).entries q × (last_place g t zero zero (map head_of (walk_log g d par ss).entries) ≡ q + 1))
          → last_place g t zero zero (map head_of (walk_log g d par ss).entries) ≤ length ss
      go (inl (n, m)) = omega (arith, m)
      go (inr (q, s, m)) = omega (arith, m, s.stands.within)

  -- none passes, or the last that does stands at the place
  pub last_none : (t : Header → Bool) → last_place g t zero zero (map head_of (walk_log g d par ss).entries) ≡ zero → any_of t (map head_of (walk_log g d par ss).entries) ≡ false
  last_none t e = go (last_place_lem t (walk_log g d par ss).entries zero zero walk_places.placed)
    where
      go : ((any_of t (map head_of (walk_log g d par ss).entries) ≡ false) × (last_place g t zero zero (map head_of (walk_log g d par ss).entries) ≡ zero)) ⊎ ((q : ℕ) × LastSuch t (walk_log g d par ss).entries q × (last_place g t zero zero (map head_of (walk_log g d par ss).entries) ≡ q + 1))
          → any_of t (map head_of (walk_log g d par ss).entries) ≡ false
      go (inl (n, m)) = n
      go (inr (q, s, m)) = absurd (omega (arith, m, e))

  pub last_there : (t : Header → Bool) (p : ℕ) → last_place g t zero zero (map head_of (walk_log g d par ss).entries) ≡ p + 1 → LastSuch t (walk_log g d par ss).entries p
  last_there t p e = go (last_place_lem t (walk_log g d par ss).entries zero zero walk_places.placed)
    where
      go : ((any_of t (map head_of (walk_log g d par ss).entries) ≡ false) × (last_place g t zero zero (map head_of (walk_log g d par ss).entries) ≡ zero)) ⊎ ((q : ℕ) × LastSuch t (walk_log g d par ss).entries q × (last_place g t zero zero (map head_of (walk_log g d par ss).entries) ≡ q + 1))
          → LastSuch t (walk_log g d par ss).entries p
      go (inl (n, m)) = absurd (omega (arith, m, e))
      go (inr (q, s, m)) = let k : q ≡ p = omega (arith, m, e) in subst (LastSuch t (walk_log g d par ss).entries) k s

  -- row r of the entry that stands at p is the sector r + 1 after it
  pub row_there : (p r : ℕ) (e : Entry) → Stands g d par ss p e → r < rows_of g e.head → get_or e.rows r [] ≡ get_or ss (suc p + r) []
  row_there p r e s h = ap (λ (rs : List (List ℕ)). get_or rs r []) s.rows_are ∙ get_or-take (rows_of g e.head) (drop (suc p) ss) r [] h ∙ get_or-drop (suc p) ss r []
