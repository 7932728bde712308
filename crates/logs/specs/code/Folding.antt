-- A fold over the headers of a log's whole entries with their places, and what the volume asks by it.
use Rattle.std.specs.Prelude.{◌≡◌, Ok, Err, Bool, true, false, ◌&&◌, ℕ, suc, ◌+◌, ◌*◌, ◌≤◌, ◌<◌, min, List, [], ◌∷◌, map, length, ltb, leb, eqb}
use Rattle.std.proofs.Common.{sym, ap, ap₂, ◌∙◌}
use Rattle.tables.specs.declared.Geometry.{Geometry}
use Rattle.tables.specs.meaning.Basics.{pick}
use Rattle.tables.specs.meaning.Geometry.{stripe_sectors}
use Rattle.logs.specs.declared.Found.{Found}
use Rattle.logs.specs.declared.Found.TheVariants.{Bad, Label, Counters, Resets, Partial, Seal, Closing}
use Rattle.logs.specs.declared.WalkEnd.{WalkEnd}
use Rattle.logs.specs.meaning.Entry.{Header, Entry, rows_of}
use Rattle.logs.specs.meaning.Walk.{Walked}
use Rattle.logs.specs.code.WalkCode.{left_at}
use Rattle.logs.specs.code.Steps.{step_of, step_left, step_taken}
use Rattle.logs.specs.code.Query.{head_of, heads_of}
use Rattle.logs.specs.code.Judge.{seen}
use Rattle.logs.specs.code.QueryLaws.{SmallSeen}

-- THE FOLD: over the headers of whole entries, the first of which stands at sector p
abbrev pub fold_heads : {A : Type 0} → Geometry → (A → ℕ → Found → A) → ℕ → A → List Header → A
fold_heads g run p x [] = x
fold_heads g run p x (h ∷ hs) = fold_heads g run (p + suc (rows_of g h)) (run x p (seen h)) hs

-- a step may be called at each sector of a zone with what a legal header says
abbrev pub Callable : {A : Type 0} → Geometry → (A → ℕ → Found → Type 0) → Type 0
Callable {A} g pre = (x : A) (p : ℕ) (f : Found) → p < 65536 → SmallSeen g f → pre x p f

-- and what it gives there is what a function computes
abbrev pub Runs : {A : Type 0} → Geometry → (A → ℕ → Found → A → Type 0) → (A → ℕ → Found → A) → Type 0
Runs {A} g post run = (x : A) (p : ℕ) (f : Found) (y : A) → p < 65536 → SmallSeen g f → post x p f y → y ≡ run x p f

-- ---- the questions: whether what was found is a reset, a seal, counters or a partial parity entry that is asked for
abbrev pub reset_found : ℕ → ℕ → Found → Bool
reset_found z n Bad = false
reset_found z n (Label x a) = false
reset_found z n Counters = false
reset_found z n (Resets y m) = eqb y z && eqb m n
reset_found z n (Partial y s f m) = false
reset_found z n (Seal y p m) = false
reset_found z n (Closing gen) = false

abbrev pub seal_found : ℕ → ℕ → Found → Bool
seal_found z n Bad = false
seal_found z n (Label x a) = false
seal_found z n Counters = false
seal_found z n (Resets y m) = false
seal_found z n (Partial y s f m) = false
seal_found z n (Seal y p m) = eqb y z && eqb m n
seal_found z n (Closing gen) = false

abbrev pub seal_at_found : ℕ → ℕ → ℕ → Found → Bool
seal_at_found z n q Bad = false
seal_at_found z n q (Label x a) = false
seal_at_found z n q Counters = false
seal_at_found z n q (Resets y m) = false
seal_at_found z n q (Partial y s f m) = false
seal_at_found z n q (Seal y p m) = eqb y z && (eqb m n && eqb p q)
seal_at_found z n q (Closing gen) = false

abbrev pub within_found : Geometry → ℕ → ℕ → ℕ → ℕ → Found → Bool
within_found g z n low high Bad = false
within_found g z n low high (Label x a) = false
within_found g z n low high Counters = false
within_found g z n low high (Resets y m) = false
within_found g z n low high (Partial y s f m) = eqb y z && (eqb m n && (ltb low (s * stripe_sectors g + f) && leb (s * stripe_sectors g + f) high))
within_found g z n low high (Seal y p m) = false
within_found g z n low high (Closing gen) = false

abbrev pub counters_found : Found → Bool
counters_found Bad = false
counters_found (Label x a) = false
counters_found Counters = true
counters_found (Resets y m) = false
counters_found (Partial y s f m) = false
counters_found (Seal y p m) = false
counters_found (Closing gen) = false

-- the lost drive that a label names, else x
abbrev pub lost_found : ℕ → Found → ℕ
lost_found x Bad = x
lost_found x (Label lost a) = lost
lost_found x Counters = x
lost_found x (Resets y m) = x
lost_found x (Partial y s f m) = x
lost_found x (Seal y p m) = x
lost_found x (Closing gen) = x

-- the pointer of a seal of zone z and generation n if it is less than x, else x
abbrev pub least_found : ℕ → ℕ → ℕ → Found → ℕ
least_found z n x Bad = x
least_found z n x (Label lost a) = x
least_found z n x Counters = x
least_found z n x (Resets y m) = x
least_found z n x (Partial y s f m) = x
least_found z n x (Seal y p m) = pick (eqb y z && eqb m n) (min x p) x
least_found z n x (Closing gen) = x

-- ---- the fold, step by step of the walk: left where the walk is left, carried on at a whole entry
module _ {A : Type 0} (g : Geometry) (d : ℕ) (par : Bool) (ss : List (List ℕ)) (run : A → ℕ → Found → A) (p : ℕ) (x : A) (h : p ≤ length ss) where
  -- what is left of the fold at p
  abbrev pub fold_at : A
  fold_at = fold_heads g run p x (heads_of (left_at g d par ss p))

  pub fold_left : (w : WalkEnd) → step_of g p (left_at g d par ss p) ≡ Err w → fold_at ≡ x
  fold_left w e = ap (λ (es : List Entry). fold_heads g run p x (map head_of es)) (step_left g d par ss p h w e)

  pub fold_whole : (f : Found) (q : ℕ) → step_of g p (left_at g d par ss p) ≡ Ok (f, q) → fold_at ≡ fold_heads g run q (run x p f) (heads_of (left_at g d par ss q))
  fold_whole f q e =
      let t = step_taken g d par ss p h f q e in
      ap (λ (l : Walked). fold_heads g run p x (heads_of l)) t.on
      ∙ ap₂ (λ (y : ℕ) (k : Found). fold_heads g run y (run x p k) (heads_of (left_at g d par ss q))) (sym t.next_is) (sym t.seen_is)
