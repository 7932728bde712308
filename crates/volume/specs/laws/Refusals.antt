-- Rows of refusals: their order decides, not the size of their numbers. A refusal's row applies and none before it does; an accepted call has none that does.
-- Rows are looked up by number. (What this says of each call: LeastRefusal)
use Rattle.std.specs.Prelude.{◌≡◌, refl, ◌≢◌, Bool, true, false, ◌&&◌, not, ℕ, List, [], ◌∷◌, ◌++◌, eqb}
use Rattle.std.proofs.Common.{sym, ap, ◌∙◌, true≢false, arith, eq-eqb}
use Rattle.tables.specs.laws.Basics.{and_split}
use Rattle.tables.specs.meaning.Basics.{pick}
use Rattle.volume.specs.meaning.Refusals.{Verdict, refuse, accept, first_refusal}

-- the condition under a number; false where there is no such row
abbrev pub condition_of_row : ℕ → List (ℕ × Bool) → Bool
condition_of_row n [] = false
condition_of_row n ((m, b) ∷ rows) = pick (eqb n m) b (condition_of_row n rows)

-- ---- accepted: no row applies
abbrev pub Passes : List (ℕ × Bool) → Type 0
Passes [] = Unit {0}
Passes ((n, b) ∷ rows) = (b ≡ false) × Passes rows

pub passes : (rows : List (ℕ × Bool)) → first_refusal rows ≡ accept → Passes rows
passes [] e = tt
passes ((n, b) ∷ rows) e = go b refl e (λ q. passes rows q)
  where
    go : (c : Bool) → b ≡ c → pick c (refuse n) (first_refusal rows) ≡ accept → (first_refusal rows ≡ accept → Passes rows) → (b ≡ false) × Passes rows
    go true p q ih = absurd (let z : ◌≡◌ {A = ℕ} 0 1 = cc in omega arith)
    go false p q ih = (p, ih q)

pub passed : (rows : List (ℕ × Bool)) → Passes rows → first_refusal rows ≡ accept
passed [] p = refl
passed ((n, b) ∷ rows) p = rw p.0 (passed rows p.1)

pub row_passes : (rows : List (ℕ × Bool)) → Passes rows → (n : ℕ) → condition_of_row n rows ≡ false
row_passes [] p n = refl
row_passes ((m, b) ∷ rows) p n = go (eqb n m) (row_passes rows p.1 n)
  where
    go : (c : Bool) → condition_of_row n rows ≡ false → pick c b (condition_of_row n rows) ≡ false
    go true q = p.0
    go false q = q

-- an accepted call's row of that number does not apply
pub accepted_row : (rows : List (ℕ × Bool)) → first_refusal rows ≡ accept → (n : ℕ) → condition_of_row n rows ≡ false
accepted_row rows e n = row_passes rows (passes rows e) n

-- ---- refused: the rows are some that do not apply, then one of that number that does
pub record FirstRefused (rows : List (ℕ × Bool)) (n : ℕ) : Type 0 where
  pub before : List (ℕ × Bool)
  pub after : List (ℕ × Bool)
  pub rows_are : rows ≡ before ++ ((n, true) ∷ after)
  pub none_before : Passes before

pub refused_first : (rows : List (ℕ × Bool)) (n : ℕ) → first_refusal rows ≡ refuse n → FirstRefused rows n
refused_first [] n e = absurd (let z : ◌≡◌ {A = ℕ} 0 1 = cc in omega arith)
refused_first ((m, b) ∷ rows) n e = go b refl e (λ q. refused_first rows n q)
  where
    go : (c : Bool) → b ≡ c → pick c (refuse m) (first_refusal rows) ≡ refuse n → (first_refusal rows ≡ refuse n → FirstRefused rows n) → FirstRefused ((m, b) ∷ rows) n
    go true p q ih = let k : m ≡ n = cc in record { before = []; after = rows; rows_are = rw (p, k) refl; none_before = tt }
    go false p q ih =
        let f = ih q in
        record { before = (m, b) ∷ f.before; after = f.after; rows_are = ap (λ (r : List (ℕ × Bool)). (m, b) ∷ r) f.rows_are; none_before = (p, f.none_before) }

-- ---- a refusal has a number of its own: 0 is none
abbrev pub Numbered : Verdict → Type 0
Numbered accept = Unit {0}
Numbered (refuse n) = n ≢ 0

abbrev pub nonzero : List (ℕ × Bool) → Bool
nonzero [] = true
nonzero ((n, b) ∷ rows) = not (eqb n 0) && nonzero rows

pub numbered : (rows : List (ℕ × Bool)) → nonzero rows ≡ true → Numbered (first_refusal rows)
numbered [] e = tt
numbered ((n, b) ∷ rows) e = let (p, q) = and_split (not (eqb n 0)) (nonzero rows) e in go b (λ z. true≢false (sym p ∙ ap not (eq-eqb n 0 z))) (numbered rows q)
  where
    go : (c : Bool) → n ≢ 0 → Numbered (first_refusal rows) → Numbered (pick c (refuse n) (first_refusal rows))
    go true h k = h
    go false h k = k

-- ---- the order in which document 01 asks
abbrev pub refusal_order : List ℕ
refusal_order = 1 ∷ 2 ∷ 3 ∷ 4 ∷ 5 ∷ 6 ∷ 7 ∷ 8 ∷ 9 ∷ 10 ∷ 11 ∷ 12 ∷ 13 ∷ 18 ∷ 19 ∷ 14 ∷ 15 ∷ []

-- the numbers stand in that order, each at most once
abbrev pub in_order : List ℕ → List (ℕ × Bool) → Bool
in_order [] [] = true
in_order [] (r ∷ rows) = false
in_order (n ∷ order) [] = true
in_order (n ∷ order) ((m, b) ∷ rows) = pick (eqb n m) (in_order order rows) (in_order order ((m, b) ∷ rows))
