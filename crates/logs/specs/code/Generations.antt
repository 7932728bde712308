-- The generations that the last counters of a log give, read where they stand.
use Rattle.std.specs.Prelude.{◌≡◌, refl, ◌≢◌, ◌⊎◌, Bool, true, false, ◌&&◌, ℕ, zero, suc, ◌+◌, ◌*◌, ◌<◌, List, [], ◌∷◌, ◌++◌, map, length, get_or, take, drop, eqb}
use Rattle.std.proofs.Common.{sym, ap, ◌∙◌, inl, inr, true≢false, arith, drop-drop, eqb-true}
use Rattle.tables.specs.meaning.Basics.{pick}
use Rattle.tables.specs.meaning.Lists.{any_of}
use Rattle.tables.specs.laws.Lists.{map_append}
use Rattle.tables.specs.declared.Geometry.{Geometry}
use Rattle.tables.specs.meaning.LittleEndian.{number_le, numbers_le, read_le, same_bytes}
use Rattle.logs.specs.meaning.Entry.{Header, label, counters, zone_reset, partial_parity, seal, closing, Entry, legal, bad, fault_of, read_fields, kind_of, encode, fits_log, decode}
use Rattle.logs.specs.laws.Entry.{decode_legal}
use Rattle.logs.specs.meaning.Walk.{walk_log}
use Rattle.logs.specs.laws.Heads.{is_counters}
use Rattle.logs.specs.meaning.Heads.{last_counters, generation_in}
use Rattle.logs.specs.code.Query.{heads_of, head_of}
use Rattle.logs.specs.laws.Places.{last_place, LastSuch, last_place_lem, walk_places}

-- ---- a legal counters entry has just the numbers that stand in its sector
fields_of_legal : (g : Geometry) (d : ℕ) (par : Bool) (s : List ℕ) (h : Header) → decode g d par s ≡ legal h → read_fields g s ≡ h
fields_of_legal g d par s h e = go (same_bytes (encode g d (read_fields g s)) s && fits_log g d par (read_fields g s)) e
  where
    go : (b : Bool) → pick b (legal (read_fields g s)) (bad (fault_of s)) ≡ legal h → read_fields g s ≡ h
    go true q = cc
    go false q = absurd (let z : ◌≡◌ {A = ℕ} 0 1 = cc in omega arith)

-- what is no counters entry, whichever of two it is
neither : (b : Bool) (h k : Header) → is_counters h ≡ false → is_counters k ≡ false → is_counters (pick b h k) ≡ false
neither true h k p q = p
neither false h k p q = q

of_kind : (a : Bool) (xs cs : List ℕ) (h : Header) → is_counters h ≡ false → pick a (counters xs) h ≡ counters cs → cs ≡ xs
of_kind true xs cs h p e = cc
of_kind false xs cs h p e = absurd (let z : true ≡ false = sym (ap is_counters e) ∙ p in true≢false z)

counters_fields : (g : Geometry) (s cs : List ℕ) → read_fields g s ≡ counters cs → cs ≡ numbers_le g.zones (drop 32 s)
unfolding read_fields
counters_fields g s cs e =
    of_kind (eqb (kind_of s) 2) (numbers_le g.zones (drop 32 s)) cs _
    (neither (eqb (kind_of s) 3) _ _ refl (neither (eqb (kind_of s) 4) _ _ refl (neither (eqb (kind_of s) 5) _ _ refl (neither (eqb (kind_of s) 6) _ _ refl refl)))) e

number_in : (n z : ℕ) (t : List ℕ) → z < n → get_or (numbers_le n t) z zero ≡ number_le (take 8 (drop (8 * z) t))
number_in zero z t h = absurd (omega arith)
number_in (suc n) zero t h = refl
number_in (suc n) (suc z) t h = let e : 8 + 8 * z ≡ 8 * suc z = omega arith in number_in n z (drop 8 t) (omega arith) ∙ ap (λ (u : List ℕ). number_le (take 8 u)) (drop-drop (8 * z) 8 t ∙ ap (λ (k : ℕ). drop k t) e)

counters_read : (g : Geometry) (d : ℕ) (par : Bool) (s cs : List ℕ) (z : ℕ) → decode g d par s ≡ legal (counters cs) → z < g.zones → read_le 8 s (32 + 8 * z) ≡ get_or cs z zero
counters_read g d par s cs z e h =
    let k = counters_fields g s cs (fields_of_legal g d par s (counters cs) e) in
    sym (ap (λ (xs : List ℕ). get_or xs z zero) k ∙ number_in g.zones z (drop 32 s) h ∙ ap (λ (u : List ℕ). number_le (take 8 u)) (drop-drop (8 * z) 32 s))

-- ---- the last counters, among headers
counters_none : (c0 : List ℕ) (hs : List Header) → any_of is_counters hs ≡ false → last_counters c0 hs ≡ c0
counters_none c0 [] e = refl
counters_none c0 (label x a ∷ hs) e = counters_none c0 hs e
counters_none c0 (counters cs ∷ hs) e = absurd (true≢false e)
counters_none c0 (zone_reset z n ∷ hs) e = counters_none c0 hs e
counters_none c0 (partial_parity z s f n ∷ hs) e = counters_none c0 hs e
counters_none c0 (seal z p n ∷ hs) e = counters_none c0 hs e
counters_none c0 (closing kind gen ∷ hs) e = counters_none c0 hs e

counters_last : (c0 cs : List ℕ) (fs hs : List Header) → any_of is_counters hs ≡ false → last_counters c0 (fs ++ (counters cs ∷ hs)) ≡ cs
counters_last c0 cs [] hs e = counters_none cs hs e
counters_last c0 cs (label x a ∷ fs) hs e = counters_last c0 cs fs hs e
counters_last c0 cs (counters bs ∷ fs) hs e = counters_last bs cs fs hs e
counters_last c0 cs (zone_reset z n ∷ fs) hs e = counters_last c0 cs fs hs e
counters_last c0 cs (partial_parity z s f n ∷ fs) hs e = counters_last c0 cs fs hs e
counters_last c0 cs (seal z p n ∷ fs) hs e = counters_last c0 cs fs hs e
counters_last c0 cs (closing kind gen ∷ fs) hs e = counters_last c0 cs fs hs e

-- a header that is counters, with its numbers
pub counters_of : (h : Header) → is_counters h ≡ true → (cs : List ℕ) × (h ≡ counters cs)
counters_of (label x a) e = absurd (true≢false (sym e))
counters_of (counters cs) e = (cs, refl)
counters_of (zone_reset z n) e = absurd (true≢false (sym e))
counters_of (partial_parity z s f n) e = absurd (true≢false (sym e))
counters_of (seal z p n) e = absurd (true≢false (sym e))
counters_of (closing kind gen) e = absurd (true≢false (sym e))

module _ (g : Geometry) (d : ℕ) (ss : List (List ℕ)) where
  abbrev pub counters_place : ℕ
  counters_place = last_place g is_counters zero zero (heads_of (walk_log g d false ss))

  abbrev Where : Type 0
  Where = ((any_of is_counters (heads_of (walk_log g d false ss)) ≡ false) × (counters_place ≡ zero)) ⊎ ((q : ℕ) × LastSuch g d false ss is_counters (walk_log g d false ss).entries q × (counters_place ≡ q + 1))

  found_place : Where
  found_place = last_place_lem g d false ss is_counters (walk_log g d false ss).entries zero zero (walk_places g d false ss).placed

  -- the last counters are none, or one number for each zone
  pub no_counters : counters_place ≡ zero → last_counters [] (heads_of (walk_log g d false ss)) ≡ []
  no_counters e = go found_place
    where
      go : Where → last_counters [] (heads_of (walk_log g d false ss)) ≡ []
      go (inl (n, m)) = counters_none [] (heads_of (walk_log g d false ss)) n
      go (inr (q, s, m)) = absurd (omega (arith, m, e))

  pub counters_long : counters_place ≢ zero → length (last_counters [] (heads_of (walk_log g d false ss))) ≡ g.zones
  counters_long e = go found_place
    where
      go : Where → length (last_counters [] (heads_of (walk_log g d false ss))) ≡ g.zones
      go (inl (n, m)) = absurd (e m)
      go (inr (q, s, m)) =
          let (cs, c) = counters_of s.entry.head s.passes in
          let r : decode g d false (get_or ss q []) ≡ legal (counters cs) = s.stands.reads ∙ ap legal c in
          let l : last_counters [] (heads_of (walk_log g d false ss)) ≡ cs =
          ap (λ (es : List Entry). last_counters [] (map head_of es)) s.split ∙ ap (last_counters []) (map_append head_of s.before (s.entry ∷ s.after))
          ∙ ap (λ (x : Header). last_counters [] (map head_of s.before ++ (x ∷ map head_of s.after))) c
          ∙ counters_last [] cs (map head_of s.before) (map head_of s.after) s.none_after in
          ap length l ∙ eqb-true (length cs) g.zones (decode_legal g d false (get_or ss q []) (counters cs) r).1

  pub no_generation : (z : ℕ) → counters_place ≡ zero → zero ≡ generation_in z (heads_of (walk_log g d false ss))
  no_generation z e = go found_place
    where
      go : Where → zero ≡ generation_in z (heads_of (walk_log g d false ss))
      go (inl (n, m)) = sym (ap (λ (cs : List ℕ). get_or cs z zero) (counters_none [] (heads_of (walk_log g d false ss)) n))
      go (inr (q, s, m)) = absurd (omega (arith, m, e))

  pub generation_there : (p z : ℕ) → counters_place ≡ p + 1 → z < g.zones → read_le 8 (get_or ss p []) (32 + 8 * z) ≡ generation_in z (heads_of (walk_log g d false ss))
  generation_there p z e h = go found_place
    where
      go : Where → read_le 8 (get_or ss p []) (32 + 8 * z) ≡ generation_in z (heads_of (walk_log g d false ss))
      go (inl (n, m)) = absurd (omega (arith, m, e))
      go (inr (q, s, m)) =
          let k : q ≡ p = omega (arith, m, e) in
          let (cs, c) = counters_of s.entry.head s.passes in
          let r : decode g d false (get_or ss p []) ≡ legal (counters cs) = ap (λ (y : ℕ). decode g d false (get_or ss y [])) (sym k) ∙ s.stands.reads ∙ ap legal c in
          let l : last_counters [] (heads_of (walk_log g d false ss)) ≡ cs =
          ap (λ (es : List Entry). last_counters [] (map head_of es)) s.split ∙ ap (last_counters []) (map_append head_of s.before (s.entry ∷ s.after))
          ∙ ap (λ (x : Header). last_counters [] (map head_of s.before ++ (x ∷ map head_of s.after))) c
          ∙ counters_last [] cs (map head_of s.before) (map head_of s.after) s.none_after in
          counters_read g d false (get_or ss p []) cs z r h ∙ sym (ap (λ (xs : List ℕ). get_or xs z zero) l)
