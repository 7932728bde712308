-- Rows stored one after the other on a zone of a drive: one more of them, those of a drive that may be absent, and that they are appends to that zone.
use Rattle.std.specs.Prelude.{◌≡◌, refl, Bool, true, false, ℕ, zero, suc, ◌+◌, ◌-◌, ◌≤◌, ◌<◌, List, [], ◌∷◌, ◌++◌, length}
use Rattle.std.proofs.Common.{sym, ap, ◌∙◌, arith}
use Rattle.std.proofs.Math.Nat.{sub-zero}
use Rattle.tables.specs.declared.Geometry.{Geometry}
use Rattle.tables.specs.meaning.Basics.{pick}
use Rattle.tables.specs.meaning.Below.{tabulate_from}
use Rattle.tables.specs.laws.Below.{tabulate_from_add, tabulate_from_cong}
use Rattle.tables.specs.meaning.Geometry.{physical_zones}
use Rattle.tables.specs.meaning.Device.{Store, append}
use Rattle.tables.specs.meaning.Phases.{on_present}
use Rattle.tables.specs.laws.Made.{store_if}
use Rattle.volume.specs.meaning.Calls.{append_all}
use Rattle.volume.specs.rows.KeptBelow.{StoresIn}

pub append_all_append : (d y : ℕ) (xs ys : List (List ℕ)) → append_all d y (xs ++ ys) ≡ append_all d y xs ++ append_all d y ys
append_all_append d y [] ys = refl
append_all_append d y (x ∷ xs) ys = ap (λ (r : List Store). append d y x ∷ r) (append_all_append d y xs ys)

pub present_all : (p : ℕ → Bool) (d y : ℕ) (ss : List (List ℕ)) → on_present p (append_all d y ss) ≡ pick (p d) (append_all d y ss) []
present_all p d y [] = go (p d)
  where
    go : (b : Bool) → ◌≡◌ {A = List Store} [] (pick b [] [])
    go true = refl
    go false = refl
present_all p d y (s ∷ ss) = go (p d) (present_all p d y ss)
  where
    go : (b : Bool) → on_present p (append_all d y ss) ≡ pick b (append_all d y ss) [] → pick b (append d y s ∷ on_present p (append_all d y ss)) (on_present p (append_all d y ss)) ≡ pick b (append d y s ∷ append_all d y ss) []
    go true e = ap (λ (r : List Store). append d y s ∷ r) e
    go false e = e

pub present_one : (p : ℕ → Bool) (d y : ℕ) (s : List ℕ) → on_present p (append d y s ∷ []) ≡ store_if (p d) (append d y s)
present_one p d y s = go (p d)
  where
    go : (b : Bool) → pick b (append d y s ∷ []) [] ≡ store_if b (append d y s)
    go true = refl
    go false = refl

-- the rows F from one on, below m, on zone y of drive d, if it is present
abbrev pub rows_if : Bool → ℕ → ℕ → (ℕ → List ℕ) → ℕ → ℕ → List Store
rows_if b d y F from m = pick b (append_all d y (tabulate_from F from (m - from))) []

pub rows_whole : (b : Bool) (d y : ℕ) (F : ℕ → List ℕ) (m : ℕ) → pick b (append_all d y (tabulate_from F zero m)) [] ≡ rows_if b d y F 0 m
rows_whole b d y F m = ap (λ (n : ℕ). pick b (append_all d y (tabulate_from F zero n)) []) (sym (sub-zero m))

pub rows_none : (b : Bool) (d y : ℕ) (F : ℕ → List ℕ) (from : ℕ) → rows_if b d y F from from ≡ []
rows_none true d y F from = let e : from - from ≡ 0 = omega arith in rw e refl
rows_none false d y F from = refl

pub rows_more : (b : Bool) (d y : ℕ) (F : ℕ → List ℕ) (from r : ℕ) → from ≤ r → rows_if b d y F from (suc r) ≡ rows_if b d y F from r ++ store_if b (append d y (F r))
rows_more false d y F from r h = refl
rows_more true d y F from r h =
    let e : suc r - from ≡ r - from + 1 = omega arith in
    let q : from + (r - from) ≡ r = omega arith in
    ap (λ (n : ℕ). append_all d y (tabulate_from F from n)) e ∙ ap (append_all d y) (tabulate_from_add F from (r - from) 1) ∙ append_all_append d y (tabulate_from F from (r - from)) (tabulate_from F (from + (r - from)) 1)
    ∙ ap (λ (k : ℕ). append_all d y (tabulate_from F from (r - from)) ++ (append d y (F k) ∷ [])) q

-- the same rows
pub rows_cong : (b : Bool) (d y : ℕ) (F G : ℕ → List ℕ) (m : ℕ) → ((r : ℕ) → r < m → F r ≡ G r) → rows_if b d y F 0 m ≡ rows_if b d y G 0 m
rows_cong false d y F G m h = refl
rows_cong true d y F G m h = ap (append_all d y) (tabulate_from_cong F G 0 0 (m - 0) (λ k l. let e : 0 + k ≡ k = omega arith in rw e (h k (omega arith))))

-- one append of a sector, to a zone of which b holds
pub store_if_in : (g : Geometry) (b : ℕ → Bool) (here : Bool) (d y : ℕ) (s : List ℕ) → d < g.drives → y < physical_zones g → b y ≡ true → (here ≡ true → length s ≡ g.sector) → StoresIn g b (store_if here (append d y s))
store_if_in g b true d y s hd hy hb hs = ((hd, hy, hs refl, hb), tt)
store_if_in g b false d y s hd hy hb hs = tt

-- all of them
pub rows_in : (g : Geometry) (b : ℕ → Bool) (here : Bool) (d y : ℕ) (F : ℕ → List ℕ) (from m : ℕ) → d < g.drives → y < physical_zones g → b y ≡ true → (here ≡ true → (r : ℕ) → r < m → length (F r) ≡ g.sector) → StoresIn g b (rows_if here d y F from m)
rows_in g b false d y F from m hd hy hb long = tt
rows_in g b true d y F from m hd hy hb long = go from (m - from) (λ r k h. long refl r (omega arith))
  where
    go : (i n : ℕ) → ((r : ℕ) → i ≤ r → r < i + n → length (F r) ≡ g.sector) → StoresIn g b (append_all d y (tabulate_from F i n))
    go i zero h = tt
    go i (suc n) h = ((hd, hy, h i (omega arith) (omega arith), hb), go (suc i) n (λ r k l. h r (omega arith) (omega arith)))
