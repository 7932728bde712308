-- The answers of the folds are what the headers say (Heads).
use Rattle.std.specs.Prelude.{◌≡◌, refl, Result, Ok, Err, ◌⊎◌, ◌≢◌, Bool, true, false, ◌&&◌, ◌||◌, ℕ, zero, suc, ◌+◌, ◌<◌, min, List, [], ◌∷◌, map, ltb, eqb, length, get_or}
use Rattle.std.proofs.Common.{sym, ap, ◌∙◌, inl, inr, arith, ltb-true, eqb-true}
use Rattle.tables.specs.meaning.Basics.{pick}
use Rattle.tables.specs.laws.Basics.{or_cases}
use Rattle.tables.specs.meaning.Lists.{any_of}
use Rattle.tables.specs.declared.Geometry.{Geometry}
use Rattle.logs.specs.code.Folding.{fold_heads, counters_found, reset_found, seal_found, seal_at_found, within_found, lost_found, least_found}
use Rattle.logs.specs.meaning.Entry.{Header, label, counters, zone_reset, partial_parity, seal, closing, Entry, rows_of, decode, fits_log}
use Rattle.logs.specs.laws.Entry.{decode_legal}
use Rattle.logs.specs.meaning.Heads.{last_lost, labelled, array_in, is_reset, is_seal, is_seal_at, least_seal}
use Rattle.logs.specs.laws.Heads.{is_counters, ends_within}
use Rattle.logs.specs.code.Query.{head_of, heads_of, first_seen, label_seen, array_seen, torn_seen}
use Rattle.logs.specs.laws.Places.{last_place, EndsAt, walk_places}
use Rattle.logs.specs.declared.Found.{Found}
use Rattle.logs.specs.declared.Found.TheVariants.{Bad}
use Rattle.logs.specs.declared.WalkEnd.{WalkEnd}
use Rattle.logs.specs.declared.WalkEnd.TheVariants.{Torn}
use Rattle.logs.specs.meaning.Walk.{Walked, walk_log, Ending, at_pointer, no_entry, torn}
use Rattle.logs.specs.code.WalkCode.{walk_end_at, walk_end_of}
use Rattle.logs.specs.code.Judge.{seen, found}
use Rattle.logs.specs.code.Steps.{step_from, step_of, Placed}
use Rattle.tables.specs.meaning.Drives.{no_drive}

-- what is found of a header passes a test as the header does
reset_lem : (z n : ℕ) (h : Header) → reset_found z n (seen h) ≡ is_reset z n h
reset_lem z n (label y a) = refl
reset_lem z n (counters cs) = refl
reset_lem z n (zone_reset y m) = refl
reset_lem z n (partial_parity y s f m) = refl
reset_lem z n (seal y p m) = refl
reset_lem z n (closing kind gen) = refl

seal_lem : (z n : ℕ) (h : Header) → seal_found z n (seen h) ≡ is_seal z n h
seal_lem z n (label y a) = refl
seal_lem z n (counters cs) = refl
seal_lem z n (zone_reset y m) = refl
seal_lem z n (partial_parity y s f m) = refl
seal_lem z n (seal y p m) = refl
seal_lem z n (closing kind gen) = refl

seal_at_lem : (z n q : ℕ) (h : Header) → seal_at_found z n q (seen h) ≡ is_seal_at z n q h
seal_at_lem z n q (label y a) = refl
seal_at_lem z n q (counters cs) = refl
seal_at_lem z n q (zone_reset y m) = refl
seal_at_lem z n q (partial_parity y s f m) = refl
seal_at_lem z n q (seal y p m) = refl
seal_at_lem z n q (closing kind gen) = refl

counters_lem : (h : Header) → counters_found (seen h) ≡ is_counters h
counters_lem (label y a) = refl
counters_lem (counters cs) = refl
counters_lem (zone_reset y m) = refl
counters_lem (partial_parity y s f m) = refl
counters_lem (seal y p m) = refl
counters_lem (closing kind gen) = refl

or_assoc : (a b c : Bool) → (a || b) || c ≡ a || (b || c)
or_assoc true b c = refl
or_assoc false b c = refl

module _ (g : Geometry) where
  within_lem : (z n low high : ℕ) (h : Header) → within_found g z n low high (seen h) ≡ ends_within g z n low high h
  within_lem z n low high (label y a) = refl
  within_lem z n low high (counters cs) = refl
  within_lem z n low high (zone_reset y m) = refl
  within_lem z n low high (partial_parity y s f m) = refl
  within_lem z n low high (seal y p m) = refl
  within_lem z n low high (closing kind gen) = refl

  -- whether one passes, and the place of the last that does
  any_fold : (t : Found → Bool) (u : Header → Bool) → ((h : Header) → t (seen h) ≡ u h) → (p : ℕ) (b : Bool) (hs : List Header) → fold_heads g (λ b p f. b || t f) p b hs ≡ b || any_of u hs
  any_fold t u e p true [] = refl
  any_fold t u e p false [] = refl
  any_fold t u e p b (h ∷ hs) = any_fold t u e (p + suc (rows_of g h)) (b || t (seen h)) hs ∙ or_assoc b (t (seen h)) (any_of u hs) ∙ ap (λ (c : Bool). b || (c || any_of u hs)) (e h)

  place_fold : (t : Found → Bool) (u : Header → Bool) → ((h : Header) → t (seen h) ≡ u h) → (p x : ℕ) (hs : List Header) → fold_heads g (λ x p f. pick (t f) (p + 1) x) p x hs ≡ last_place g u p x hs
  place_fold t u e p x [] = refl
  place_fold t u e p x (h ∷ hs) = place_fold t u e (p + suc (rows_of g h)) (pick (t (seen h)) (p + 1) x) hs ∙ ap (λ (c : Bool). last_place g u (p + suc (rows_of g h)) (pick c (p + 1) x) hs) (e h)

  -- ---- each question
  pub lost_answer : (p x : ℕ) (hs : List Header) → fold_heads g (λ x p f. lost_found x f) p x hs ≡ last_lost x hs
  lost_answer p x [] = refl
  lost_answer p x (label y a ∷ hs) = lost_answer (p + 1) y hs
  lost_answer p x (counters cs ∷ hs) = lost_answer (p + 1) x hs
  lost_answer p x (zone_reset z n ∷ hs) = lost_answer (p + 1) x hs
  lost_answer p x (partial_parity z s f n ∷ hs) = lost_answer (p + suc (min f g.unit)) x hs
  lost_answer p x (seal z q n ∷ hs) = lost_answer (p + 1) x hs
  lost_answer p x (closing kind gen ∷ hs) = lost_answer (p + 1) x hs

  pub counters_answer : (p x : ℕ) (hs : List Header) → fold_heads g (λ x p f. pick (counters_found f) (p + 1) x) p x hs ≡ last_place g is_counters p x hs
  counters_answer = place_fold counters_found is_counters counters_lem

  pub reset_answer : (z n p : ℕ) (x : Bool) (hs : List Header) → fold_heads g (λ b p f. b || reset_found z n f) p x hs ≡ x || any_of (is_reset z n) hs
  reset_answer z n = any_fold (reset_found z n) (is_reset z n) (reset_lem z n)

  pub seal_answer : (z n p : ℕ) (x : Bool) (hs : List Header) → fold_heads g (λ b p f. b || seal_found z n f) p x hs ≡ x || any_of (is_seal z n) hs
  seal_answer z n = any_fold (seal_found z n) (is_seal z n) (seal_lem z n)

  pub seal_at_answer : (z n q p : ℕ) (x : Bool) (hs : List Header) → fold_heads g (λ b p f. b || seal_at_found z n q f) p x hs ≡ x || any_of (is_seal_at z n q) hs
  seal_at_answer z n q = any_fold (seal_at_found z n q) (is_seal_at z n q) (seal_at_lem z n q)

  pub least_answer : (z n p x : ℕ) (hs : List Header) → fold_heads g (λ x p f. least_found z n x f) p x hs ≡ least_seal z n x hs
  least_answer z n p x [] = refl
  least_answer z n p x (label y a ∷ hs) = least_answer z n (p + 1) x hs
  least_answer z n p x (counters cs ∷ hs) = least_answer z n (p + 1) x hs
  least_answer z n p x (zone_reset y m ∷ hs) = least_answer z n (p + 1) x hs
  least_answer z n p x (partial_parity y s f m ∷ hs) = least_answer z n (p + suc (min f g.unit)) x hs
  least_answer z n p x (seal y q m ∷ hs) = least_answer z n (p + 1) (pick (eqb y z && eqb m n) (min x q) x) hs
  least_answer z n p x (closing kind gen ∷ hs) = least_answer z n (p + 1) x hs

  pub partial_answer : (z n low high p x : ℕ) (hs : List Header) → fold_heads g (λ x p f. pick (within_found g z n low high f) (p + 1) x) p x hs ≡ last_place g (ends_within g z n low high) p x hs
  partial_answer z n low high = place_fold (within_found g z n low high) (ends_within g z n low high) (within_lem z n low high)

-- ---- the last label names a drive, or none
abbrev pub NamesDrive : Geometry → ℕ → Type 0
NamesDrive g x = (x < g.drives) ⊎ (x ≡ no_drive)

label_names : (g : Geometry) (d x a : ℕ) → fits_log g d false (label x a) ≡ true → NamesDrive g x
label_names g d x a e = go (or_cases (ltb x g.drives) (eqb x no_drive) e)
  where
    go : (ltb x g.drives ≡ true) ⊎ ((ltb x g.drives ≡ false) × (eqb x no_drive ≡ true)) → NamesDrive g x
    go (inl k) = inl (ltb-true x g.drives k)
    go (inr k) = inr (eqb-true x no_drive k.1)

module _ (g : Geometry) (d : ℕ) (ss : List (List ℕ)) where
  lost_after : (h : Header) (hs : List Header) (x : ℕ) → fits_log g d false h ≡ true → NamesDrive g x → ((y : ℕ) → NamesDrive g y → NamesDrive g (last_lost y hs)) → NamesDrive g (last_lost x (h ∷ hs))
  lost_after (label y a) hs x f n k = k y (label_names g d y a f)
  lost_after (counters cs) hs x f n k = k x n
  lost_after (zone_reset z m) hs x f n k = k x n
  lost_after (partial_parity z s v m) hs x f n k = k x n
  lost_after (seal z q m) hs x f n k = k x n
  lost_after (closing kind gen) hs x f n k = k x n

  lost_placed : (es : List Entry) (p x : ℕ) → Placed g d false ss p es → NamesDrive g x → NamesDrive g (last_lost x (map head_of es))
  lost_placed [] p x l n = n
  lost_placed (e ∷ es) p x l n = lost_after e.head (map head_of es) x (decode_legal g d false (get_or ss p []) e.head l.0.reads).1 n (λ y k. lost_placed es (p + suc (rows_of g e.head)) y l.1 k)

  pub lost_names : NamesDrive g (last_lost no_drive (heads_of (walk_log g d false ss)))
  lost_names = lost_placed (walk_log g d false ss).entries zero no_drive (walk_places g d false ss).placed (inr refl)

-- ---- the first entry
abbrev step_found : Result (Found × ℕ) WalkEnd → Found
step_found (Err w) = Bad
step_found (Ok (f, q)) = f

step_first : (g : Geometry) (p : ℕ) (es : List Entry) (end : WalkEnd) → step_found (step_from g p es end) ≡ first_seen (map head_of es)
step_first g p [] end = refl
step_first g p (e ∷ es) end = refl

pub first_left : (g : Geometry) (w : Walked) (end : WalkEnd) → step_of g zero w ≡ Err end → Bad ≡ first_seen (heads_of w)
first_left g w end e = sym (ap step_found e) ∙ step_first g zero w.entries (walk_end_of w)

pub first_whole : (g : Geometry) (w : Walked) (f : Found) (q : ℕ) → step_of g zero w ≡ Ok (f, q) → f ≡ first_seen (heads_of w)
first_whole g w f q e = sym (ap step_found e) ∙ step_first g zero w.entries (walk_end_of w)

pub labelled_seen : (hs : List Header) → label_seen (first_seen hs) ≡ labelled hs
labelled_seen [] = refl
labelled_seen (label x a ∷ hs) = refl
labelled_seen (counters cs ∷ hs) = refl
labelled_seen (zone_reset z n ∷ hs) = refl
labelled_seen (partial_parity z s f n ∷ hs) = refl
labelled_seen (seal z p n ∷ hs) = refl
labelled_seen (closing kind gen ∷ hs) = refl

pub array_seen_lem : (hs : List Header) → array_seen (first_seen hs) ≡ array_in hs
array_seen_lem [] = refl
array_seen_lem (label x a ∷ hs) = refl
array_seen_lem (counters cs ∷ hs) = refl
array_seen_lem (zone_reset z n ∷ hs) = refl
array_seen_lem (partial_parity z s f n ∷ hs) = refl
array_seen_lem (seal z p n ∷ hs) = refl
array_seen_lem (closing kind gen ∷ hs) = refl

-- ---- the torn entry
pub torn_none : (l : Ending) (x : ℕ) → walk_end_at l x ≢ Torn x → Bad ≡ torn_seen l
torn_none at_pointer x h = refl
torn_none (no_entry f) x h = refl
torn_none (torn hd rs) x h = absurd (h refl)

pub torn_found : (g : Geometry) (d : ℕ) (par : Bool) (ss : List (List ℕ)) (l : Ending) (x p : ℕ) → EndsAt g d par ss l x → walk_end_at l x ≡ Torn p → (p < length ss) × (found (decode g d par (get_or ss p [])) ≡ torn_seen l)
torn_found g d par ss at_pointer x p e h = absurd (let z : ◌≡◌ {A = ℕ} 0 1 = cc in omega arith)
torn_found g d par ss (no_entry f) x p e h = absurd (let z : ◌≡◌ {A = ℕ} 0 1 = cc in omega arith)
torn_found g d par ss (torn hd rs) x p e h = let q : x ≡ p = cc in (rw q at e.0, rw q at (ap found e.1))
