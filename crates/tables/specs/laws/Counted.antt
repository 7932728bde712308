-- Stores under a count: what is made of a list when only the first so many are, one store after the other. A function that stores states
-- `Made`; these are the laws by which such statements are joined.
use Rattle.std.specs.Prelude.{◌≡◌, refl, ◌≢◌, Bool, true, false, ◌&&◌, ℕ, zero, suc, ◌-◌, ◌≤◌, ◌<◌, List, [], ◌∷◌, ◌++◌, length, get_or, ltb}
use Rattle.std.proofs.Common.{sym, ap, ap₂, ◌∙◌, subst, true≢false, arith, length-append, ltb-true, le-ltb, lt-ltb}
use Rattle.std.proofs.Math.Nat.{sub-zero}
use Rattle.std.proofs.Math.Decide.{ℕ_discrete}
use Rattle.tables.specs.declared.Geometry.{Geometry}
use Rattle.tables.specs.meaning.Basics.{pick}
use Rattle.tables.specs.laws.Basics.{and_split}
use Rattle.tables.specs.meaning.Device.{Store, append}
use Rattle.tables.specs.meaning.Lists.{overlay}
use Rattle.tables.specs.meaning.Tables.{Tables, tables_of, cell, byte_at, has_room, sectors_after_append, written_after_append, make_store, run_stores}
use Rattle.tables.specs.laws.Made.{store_if, Made, MadeAppends}

pub run_none : (g : Geometry) (xs : List Store) (t : Tables) → run_stores g 0 xs t ≡ t
run_none g [] t = refl
run_none g (x ∷ xs) t = refl

pub run_one : (g : Geometry) (k : ℕ) (x : Store) (t : Tables) → 0 < k → run_stores g k (x ∷ []) t ≡ make_store g x t
run_one g zero x t h = absurd (omega arith)
run_one g (suc k) x t h = refl

-- one store under a count: made if its drive is present and the budget has one left; an append also needs room
idle : (g : Geometry) (here : Bool) (budget : ℕ) (x : Store) (t : Tables) → here && ltb 1 budget ≡ false → run_stores g (budget - 1) (store_if here x) t ≡ t
idle g false budget x t h = refl
idle g true zero x t h = refl
idle g true (suc zero) x t h = refl
idle g true (suc (suc k)) x t h = absurd (true≢false (sym (lt-ltb 1 (suc (suc k)) (omega arith)) ∙ h))

due : (g : Geometry) (here : Bool) (budget : ℕ) (x : Store) (t : Tables) → here && ltb 1 budget ≡ true → run_stores g (budget - 1) (store_if here x) t ≡ make_store g x t
due g false budget x t h = absurd (true≢false (sym h))
due g true budget x t h = let q : 1 < budget = ltb-true 1 budget h in run_one g (budget - 1) x t (omega arith)

left_is : (here : Bool) (k : ℕ) (x : Store) → k - pick here 1 0 ≡ k - length (store_if here x)
left_is true k x = refl
left_is false k x = refl

pub made_idle : (g : Geometry) (here : Bool) (budget rest : ℕ) (x : Store) (t : Tables) → rest ≡ budget - pick here 1 0 → here && ltb 1 budget ≡ false → Made g budget rest (store_if here x) t t
made_idle g here budget rest x t r h = record { rest_is = r ∙ left_is here budget x; tables_are = sym (idle g here budget x t h) }

pub made_due : (g : Geometry) (here : Bool) (budget rest : ℕ) (x : Store) (t : Tables) → rest ≡ budget - pick here 1 0 → here && ltb 1 budget ≡ true → Made g budget rest (store_if here x) t (make_store g x t)
made_due g here budget rest x t r h = record { rest_is = r ∙ left_is here budget x; tables_are = sym (due g here budget x t h) }

-- an append that is not made, for want of room or for one of the other two reasons
pub append_idle : (g : Geometry) (here : Bool) (budget rest d z : ℕ) (s xs ws : List ℕ) → rest ≡ budget - pick here 1 0 → (here && ltb 1 budget) && has_room g d z ws ≡ false
    → MadeAppends g budget rest (store_if here (append d z s)) xs ws xs ws
append_idle g here budget rest d z s xs ws r h = record { made = λ ds. go ds (here && ltb 1 budget) refl (has_room g d z ws) refl }
  where
    go : (ds : List ℕ) (b : Bool) → here && ltb 1 budget ≡ b → (c : Bool) → has_room g d z ws ≡ c → Made g budget rest (store_if here (append d z s)) (tables_of xs ws ds) (tables_of xs ws ds)
    go ds false e c f = made_idle g here budget rest (append d z s) (tables_of xs ws ds) r e
    go ds true e false f = let m = made_due g here budget rest (append d z s) (tables_of xs ws ds) r e in record { rest_is = m.rest_is; tables_are = rw f at m.tables_are }
    go ds true e true f = absurd (true≢false (rw (e, f) at h))

pub append_due : (g : Geometry) (here : Bool) (budget rest d z : ℕ) (s xs ws : List ℕ) → rest ≡ budget - pick here 1 0 → (here && ltb 1 budget) && has_room g d z ws ≡ true
    → MadeAppends g budget rest (store_if here (append d z s)) xs ws (sectors_after_append g d z s xs ws) (written_after_append g d z ws)
append_due g here budget rest d z s xs ws r h =
    let (a, b) = and_split (here && ltb 1 budget) (has_room g d z ws) h in
    record { made = λ ds. let m = made_due g here budget rest (append d z s) (tables_of xs ws ds) r a in record { rest_is = m.rest_is; tables_are = rw b at m.tables_are } }

-- what it tells that an append is made
pub due_parts : (g : Geometry) (here : Bool) (budget d z : ℕ) (ws : List ℕ) → (here && ltb 1 budget) && has_room g d z ws ≡ true → (here ≡ true) × (get_or ws (cell g d z) 0 < g.capacity)
due_parts g here budget d z ws h =
    let (a, b) = and_split (here && ltb 1 budget) (has_room g d z ws) h in
    ((and_split here (ltb 1 budget) a).0, ltb-true (get_or ws (cell g d z) 0) g.capacity b)

-- an append whose sector is laid in place first: where the zone's written pointer stands, which is then moved past it
pub append_laid : (g : Geometry) (here : Bool) (budget rest d z : ℕ) (s xs ws xs' ws' : List ℕ) → rest ≡ budget - pick here 1 0 → (here && ltb 1 budget) && has_room g d z ws ≡ true
    → xs' ≡ overlay xs (byte_at g d z (get_or ws (cell g d z) 0)) s → ws' ≡ written_after_append g d z ws → MadeAppends g budget rest (store_if here (append d z s)) xs ws xs' ws'
unfolding sectors_after_append
append_laid g here budget rest d z s xs ws xs' ws' r h e f = rw (e, f) (append_due g here budget rest d z s xs ws r h)

-- stores one after the other, under one count
pub made_nil : (g : Geometry) (budget : ℕ) (t : Tables) → Made g budget budget [] t t
made_nil g budget t = record { rest_is = sym (sub-zero budget); tables_are = refl }

pub run_append : (g : Geometry) (k : ℕ) (p q : List Store) (t : Tables) → run_stores g k (p ++ q) t ≡ run_stores g (k - length p) q (run_stores g k p t)
run_append g k [] q t = ap (λ (j : ℕ). run_stores g j q t) (sym (sub-zero k))
run_append g zero (x ∷ p) q t = let e : 0 - length (x ∷ p) ≡ 0 = omega arith in sym (ap (λ (j : ℕ). run_stores g j q t) e ∙ run_none g q t)
run_append g (suc k) (x ∷ p) q t = let e : k - length p ≡ suc k - length (x ∷ p) = omega arith in run_append g k p q (make_store g x t) ∙ ap (λ (j : ℕ). run_stores g j q (run_stores g k p (make_store g x t))) e

pub made_append : (g : Geometry) (budget mid rest : ℕ) (p q : List Store) (t u v : Tables) → Made g budget mid p t u → Made g mid rest q u v → Made g budget rest (p ++ q) t v
made_append g budget mid rest p q t u v a b =
    let e : budget - length p - length q ≡ budget - length (p ++ q) = rw length-append (omega arith) in
    let f : budget - length p - 1 ≡ budget - 1 - length p = omega arith in
    record {
      rest_is = b.rest_is ∙ ap (λ (n : ℕ). n - length q) a.rest_is ∙ e;
      tables_are = b.tables_are ∙ rw (a.rest_is, f, a.tables_are) refl ∙ sym (run_append g (budget - 1) p q t);
    }

-- a budget begun at count + 1 ends at 0 exactly if stores were left
pub budget_unfinished : (count rest n : ℕ) → rest ≡ suc count - n → rest ≡ 0 → ltb count n ≡ true
budget_unfinished count rest n e z = lt-ltb count n (omega arith)

pub budget_finished : (count rest n : ℕ) → rest ≡ suc count - n → rest ≢ 0 → ltb count n ≡ false
budget_finished count rest n e z = le-ltb count n (omega arith)

-- a count that covers a list makes all of it
pub run_covered : (g : Geometry) (k : ℕ) (xs : List Store) (t : Tables) → length xs ≤ k → run_stores g k xs t ≡ run_stores g (length xs) xs t
run_covered g k [] t h = refl
run_covered g zero (x ∷ xs) t h = absurd (omega arith)
run_covered g (suc k) (x ∷ xs) t h = run_covered g k xs (make_store g x t) (omega arith)

-- two lists, all of both
pub run_both : (g : Geometry) (p q : List Store) (t : Tables) → run_stores g (length q) q (run_stores g (length p) p t) ≡ run_stores g (length (p ++ q)) (p ++ q) t
run_both g p q t =
    let e : length (p ++ q) - length p ≡ length q = rw length-append (omega arith) in
    let l : length p ≤ length (p ++ q) = rw length-append (omega arith) in
    sym (run_append g (length (p ++ q)) p q t ∙ ap₂ (λ (j : ℕ) (u : Tables). run_stores g j q u) e (run_covered g (length (p ++ q)) p t l))

-- a spent count stays spent
spent_more : (g : Geometry) (budget : ℕ) (p q : List Store) (t u : Tables) → Made g budget 0 p t u → Made g budget 0 (p ++ q) t u
spent_more g budget p q t u m =
    let l : budget ≤ length p = omega (arith, m.rest_is) in
    let e : budget - 1 - length p ≡ 0 = omega arith in
    record {
      rest_is = rw length-append (omega arith);
      tables_are = m.tables_are ∙ sym (run_append g (budget - 1) p q t ∙ ap (λ (j : ℕ). run_stores g j q (run_stores g (budget - 1) p t)) e ∙ run_none g q (run_stores g (budget - 1) p t));
    }

-- the second stage, e, by the tables that the first has left
pub joined : (g : Geometry) (budget mid rest : ℕ) (p : List Store) (e : Tables → List Store) (t u v : Tables) → Made g budget mid p t u → Made g mid rest (e u) u v → Made g budget rest (p ++ e (run_stores g (length p) p t)) t v
joined g budget mid rest p e t u v a b = go (ℕ_discrete mid 0)
  where
    go : Dec (mid ≡ 0) → Made g budget rest (p ++ e (run_stores g (length p) p t)) t v
    go (yes z) =
        let r : rest ≡ 0 = omega (arith, b.rest_is) in
        let k : mid - 1 ≡ 0 = omega arith in
        let w : v ≡ u = b.tables_are ∙ ap (λ (j : ℕ). run_stores g j (e u) u) k ∙ run_none g (e u) u in
        rw (r, w) (spent_more g budget p (e (run_stores g (length p) p t)) t u (rw z at a))
    go (no n) =
        let l : length p ≤ budget - 1 = omega (arith, a.rest_is, n) in
        let w : u ≡ run_stores g (length p) p t = a.tables_are ∙ run_covered g (budget - 1) p t l in
        made_append g budget mid rest p (e (run_stores g (length p) p t)) t u v a (subst (λ (x : Tables). Made g mid rest (e x) u v) w b)
