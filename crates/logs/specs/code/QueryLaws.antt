-- What a step of the walk finds has an end that the code can compute. And the first closing entry, where the walk need go no further.
use Rattle.std.specs.Prelude.{◌≡◌, refl, Ok, Err, ◌≢◌, Bool, true, ℕ, ◌*◌, ◌≤◌, ◌<◌, List, [], ◌∷◌, map, length, get_or}
use Rattle.std.proofs.Common.{sym, ap, ◌∙◌, arith}
use Rattle.tables.specs.declared.Geometry.{Geometry}
use Rattle.tables.specs.meaning.Geometry.{stripe_sectors, zone_sectors}
use Rattle.logs.specs.declared.Found.{Found}
use Rattle.logs.specs.declared.Found.TheVariants.{Bad, Label, Counters, Resets, Partial, Seal, Closing}
use Rattle.logs.specs.declared.WalkEnd.{WalkEnd}
use Rattle.logs.specs.meaning.Entry.{Header, label, counters, zone_reset, partial_parity, seal, closing, Entry, fits_log}
use Rattle.logs.specs.laws.Entry.{decode_legal}
use Rattle.logs.specs.meaning.Walk.{Walked}
use Rattle.logs.specs.code.Judge.{seen, partial_small, closing_fits}
use Rattle.logs.specs.code.WalkCode.{left_at}
use Rattle.logs.specs.code.Steps.{step_of, step_left, step_taken}
use Rattle.logs.specs.meaning.Heads.{first_closing}
use Rattle.logs.specs.code.Query.{head_of, heads_of, closing_seen}

-- an end that the code can compute
abbrev pub SmallSeen : Geometry → Found → Type 0
SmallSeen g Bad = Unit {0}
SmallSeen g (Label x a) = Unit {0}
SmallSeen g Counters = Unit {0}
SmallSeen g (Resets z n) = Unit {0}
SmallSeen g (Partial z s f n) = (s * stripe_sectors g < zone_sectors g) × (f < stripe_sectors g)
SmallSeen g (Seal z p n) = Unit {0}
SmallSeen g (Closing gen) = Unit {0}

small_seen : (g : Geometry) (d : ℕ) (par : Bool) (h : Header) → fits_log g d par h ≡ true → SmallSeen g (seen h)
small_seen g d par (label x a) e = tt
small_seen g d par (counters cs) e = tt
small_seen g d par (zone_reset z n) e = tt
small_seen g d par (partial_parity z s f n) e = let k = partial_small g d par z s f n e in (k.1, k.2)
small_seen g d par (seal z p n) e = tt
small_seen g d par (closing kind gen) e = tt

-- what a step finds is one
pub whole_small : (g : Geometry) (d : ℕ) (par : Bool) (ss : List (List ℕ)) (p : ℕ) → p ≤ length ss → (f : Found) (q : ℕ) → step_of g p (left_at g d par ss p) ≡ Ok (f, q) → SmallSeen g f
whole_small g d par ss p h f q e =
    let t = step_taken g d par ss p h f q e in
    rw t.seen_is (small_seen g d par t.entry.head (decode_legal g d par (get_or ss p []) t.entry.head t.stands.reads).1)

-- ---- the first closing entry: the first header is one, or it is among the others
closing_first : (x : Header) (hs : List Header) → closing_seen (seen x) ≢ 0 → first_closing (x ∷ hs) ≡ closing_seen (seen x)
closing_first (label y a) hs n = absurd (n refl)
closing_first (counters cs) hs n = absurd (n refl)
closing_first (zone_reset z m) hs n = absurd (n refl)
closing_first (partial_parity z s f m) hs n = absurd (n refl)
closing_first (seal z p m) hs n = absurd (n refl)
closing_first (closing kind gen) hs n = refl

closing_later : (g : Geometry) (d : ℕ) (par : Bool) (x : Header) (hs : List Header) → fits_log g d par x ≡ true → closing_seen (seen x) ≡ 0 → first_closing (x ∷ hs) ≡ first_closing hs
closing_later g d par (label y a) hs f n = refl
closing_later g d par (counters cs) hs f n = refl
closing_later g d par (zone_reset z m) hs f n = refl
closing_later g d par (partial_parity z s v m) hs f n = refl
closing_later g d par (seal z p m) hs f n = refl
closing_later g d par (closing kind gen) hs f n = absurd (omega (arith, (closing_fits g d par kind gen f).1, n))

module _ (g : Geometry) (d : ℕ) (par : Bool) (ss : List (List ℕ)) (p : ℕ) (h : p ≤ length ss) where
  pub closing_left : (w : WalkEnd) → step_of g p (left_at g d par ss p) ≡ Err w → first_closing (heads_of (left_at g d par ss p)) ≡ 0
  closing_left w e = ap (λ (es : List Entry). first_closing (map head_of es)) (step_left g d par ss p h w e)

  module _ (f : Found) (q : ℕ) (e : step_of g p (left_at g d par ss p) ≡ Ok (f, q)) where
    pub closing_here : closing_seen f ≢ 0 → first_closing (heads_of (left_at g d par ss p)) ≡ closing_seen f
    closing_here n =
        let t = step_taken g d par ss p h f q e in
        ap (λ (l : Walked). first_closing (heads_of l)) t.on ∙ closing_first t.entry.head (heads_of (left_at g d par ss q)) (λ k. n (ap closing_seen t.seen_is ∙ k))
        ∙ sym (ap closing_seen t.seen_is)

    pub closing_on : closing_seen f ≡ 0 → first_closing (heads_of (left_at g d par ss p)) ≡ first_closing (heads_of (left_at g d par ss q))
    closing_on n =
        let t = step_taken g d par ss p h f q e in
        let fits = (decode_legal g d par (get_or ss p []) t.entry.head t.stands.reads).1 in
        ap (λ (l : Walked). first_closing (heads_of l)) t.on ∙ closing_later g d par t.entry.head (heads_of (left_at g d par ss q)) fits (sym (ap closing_seen t.seen_is) ∙ n)
