-- Partial parity entries by where they end: past a pointer, or just there, told from the last one that ends between two numbers.
use Rattle.std.specs.Prelude.{◌≡◌, refl, ◌⊎◌, Bool, true, false, ◌&&◌, ◌||◌, ℕ, zero, suc, ◌+◌, ◌*◌, ◌<◌, List, [], ◌∷◌, ◌++◌, map, get_or, ltb, leb, eqb}
use Rattle.std.proofs.Common.{sym, ap, ap₂, ◌∙◌, inl, inr, arith, le-leb, lt-ltb, le-ltb, eq-eqb, ne_eqb}
use Rattle.std.proofs.Math.Decide.{ℕ_discrete, dec_lt}
use Rattle.std.proofs.lemmas.Bool.{lt-leb}
use Rattle.tables.specs.meaning.Lists.{any_of}
use Rattle.tables.specs.declared.Geometry.{Geometry}
use Rattle.tables.specs.meaning.Geometry.{stripe_sectors}
use Rattle.logs.specs.meaning.Entry.{Header, label, counters, zone_reset, partial_parity, seal, closing, Entry, rows_of, fits_log}
use Rattle.logs.specs.laws.Entry.{decode_legal}
use Rattle.logs.specs.meaning.Walk.{walk_log}
use Rattle.logs.specs.laws.Heads.{ends_within}
use Rattle.logs.specs.meaning.Heads.{ends_at}
use Rattle.logs.specs.code.Judge.{and_false}
use Rattle.logs.specs.code.Query.{head_of, heads_of}
use Rattle.logs.specs.code.Steps.{Placed}
use Rattle.logs.specs.laws.Places.{last_place, walk_places, last_place_lem, LastSuch}

-- ---- one header

between_is : (q e : ℕ) → ltb q e && leb e (suc q) ≡ eqb e (suc q)
between_is q e = go (ℕ_discrete e (suc q)) (dec_lt q e)
  where
    go : Dec (e ≡ suc q) → Dec (q < e) → ltb q e && leb e (suc q) ≡ eqb e (suc q)
    go (yes k) l = rw (eq-eqb e (suc q) k, lt-ltb q e (omega arith), le-leb e (suc q) (omega arith)) refl
    go (no k) (yes l) = rw (ne_eqb e (suc q) k, lt-leb e (suc q) (omega arith)) (and_false (ltb q e))
    go (no k) (no l) = rw (ne_eqb e (suc q) k, le-ltb q e (omega arith)) refl

pub within_is_at : (g : Geometry) (z n q : ℕ) (h : Header) → ends_within g z n q (suc q) h ≡ ends_at g z n (suc q) h
within_is_at g z n q (label x a) = refl
within_is_at g z n q (counters cs) = refl
within_is_at g z n q (zone_reset y m) = refl
within_is_at g z n q (partial_parity y s v m) = ap (λ (b : Bool). eqb y z && (eqb m n && b)) (between_is q (s * stripe_sectors g + v))
within_is_at g z n q (seal y p m) = refl
within_is_at g z n q (closing kind gen) = refl

-- ---- a whole log
any_like : (t u : Header → Bool) (hs : List Header) → ((h : Header) → t h ≡ u h) → any_of t hs ≡ any_of u hs
any_like t u [] e = refl
any_like t u (h ∷ hs) e = ap₂ (λ (a b : Bool). a || b) (e h) (any_like t u hs e)

module _ (g : Geometry) (d : ℕ) (par : Bool) (ss : List (List ℕ)) where
  any_placed : (t u : Header → Bool) (es : List Entry) (p : ℕ) → Placed g d par ss p es → ((h : Header) → fits_log g d par h ≡ true → t h ≡ u h) → any_of t (map head_of es) ≡ any_of u (map head_of es)
  any_placed t u [] p l e = refl
  any_placed t u (x ∷ es) p l e = ap₂ (λ (a b : Bool). a || b) (e x.head (decode_legal g d par (get_or ss p []) x.head l.0.reads).1) (any_placed t u es (p + suc (rows_of g x.head)) l.1 e)

  any_there : (t : Header → Bool) (es : List Entry) (p q : ℕ) → LastSuch g d par ss t es q → any_of t (map head_of es) ≡ true
  any_there t es p q s = ap (λ (r : List Entry). any_of t (map head_of r)) s.split ∙ front s.before
    where
      front : (fs : List Entry) → any_of t (map head_of (fs ++ (s.entry ∷ s.after))) ≡ true
      front [] = rw s.passes refl
      front (f ∷ fs) = ap (λ (b : Bool). t f.head || b) (front fs) ∙ or_true (t f.head)
        where
          or_true : (b : Bool) → b || true ≡ true
          or_true true = refl
          or_true false = refl

  -- a header that passes is there just if the last one has a place
  pub any_by_place : (t : Header → Bool) → any_of t (heads_of (walk_log g d par ss)) ≡ ltb zero (last_place g t zero zero (heads_of (walk_log g d par ss)))
  any_by_place t = go (last_place_lem g d par ss t (walk_log g d par ss).entries zero zero (walk_places g d par ss).placed)
    where
      go : ((any_of t (heads_of (walk_log g d par ss)) ≡ false) × (last_place g t zero zero (heads_of (walk_log g d par ss)) ≡ zero)) ⊎ ((q : ℕ) × LastSuch g d par ss t (walk_log g d par ss).entries q × (last_place g t zero zero (heads_of (walk_log g d par ss)) ≡ q + 1))
          → any_of t (heads_of (walk_log g d par ss)) ≡ ltb zero (last_place g t zero zero (heads_of (walk_log g d par ss)))
      go (inl (n, m)) = n ∙ sym (ap (ltb zero) m)
      go (inr (q, s, m)) = any_there t (walk_log g d par ss).entries zero q s ∙ sym (lt-ltb zero (last_place g t zero zero (heads_of (walk_log g d par ss))) (omega (arith, m)))

  pub at_by_place : (z n q : ℕ) → ltb zero (last_place g (ends_within g z n q (suc q)) zero zero (heads_of (walk_log g d par ss))) ≡ any_of (ends_at g z n (suc q)) (heads_of (walk_log g d par ss))
  at_by_place z n q = sym (any_by_place (ends_within g z n q (suc q))) ∙ any_like (ends_within g z n q (suc q)) (ends_at g z n (suc q)) (heads_of (walk_log g d par ss)) (λ h. within_is_at g z n q h)
