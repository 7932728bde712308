-- The pointers of a drive in order: durable ≤ written ≤ C in each of its zones, which is what refusal 3 asks of a named drive. Stores and cuts
-- leave them so.
use Rattle.std.specs.Prelude.{◌≡◌, refl, ◌≢◌, ◌⊎◌, Bool, ◌&&◌, set}
use Rattle.std.proofs.Common.{sym, ◌∙◌, inl, inr, le_refl, arith, get_or-set_same, get_or-set_other}
use Rattle.std.proofs.Math.Bool.{true, false}
use Prim.Native.Nat.{ℕ, zero, suc, ◌+◌, ◌≤◌, ◌<◌, zero-le}
use Rattle.std.proofs.Math.Decide.{ℕ_discrete}
use mathlib.Core.List.{List, [], ◌∷◌}
use Rattle.std.proofs.Math.ListN.{length, get_or}
use borrow.Author.Tests.{ltb-true, le-ltb}
use Rattle.tables.specs.declared.Geometry.{Geometry}
use Rattle.tables.specs.meaning.Basics.{pick}
use Rattle.tables.specs.meaning.Below.{any_below}
use Rattle.tables.specs.laws.Below.{none_any_below}
use Rattle.tables.specs.meaning.Geometry.{physical_zones, cells}
use Rattle.tables.specs.meaning.Device.{Store, append, reset, flush}
use Rattle.tables.specs.meaning.Tables.{has_room, Tables, cell, sectors_after_append, written_after_append, pointers_after_reset, durable_after_flush, make_store, run_stores, TablesCut, TablesLoss, pointer_bad, pointers_bad}
use Rattle.tables.specs.laws.Made.{Placed, AllPlaced, WellSized}
use Rattle.tables.specs.laws.Tables.{cell_in}
use Rattle.tables.specs.laws.TablesRefine.{flush_own, flush_other, store_sized}
use Rattle.tables.specs.laws.TablesFrame.{pointers_good}

pub record InOrder (g : Geometry) (d : ℕ) (ws ds : List ℕ) : Type 0 where
  pub written_most : (z : ℕ) → z < physical_zones g → get_or ws (cell g d z) 0 ≤ g.capacity
  pub durable_most : (z : ℕ) → z < physical_zones g → get_or ds (cell g d z) 0 ≤ get_or ws (cell g d z) 0

-- ---- refusal 3
pub order_passed : (g : Geometry) (named : List Bool) (ws ds : List ℕ) (d : ℕ) → pointers_bad g named ws ds ≡ false → d < g.drives → get_or named d false ≡ true → InOrder g d ws ds
order_passed g named ws ds d h hd here = record { written_most = λ z hz. (pointers_good g named ws ds d z h hd here hz).0; durable_most = λ z hz. (pointers_good g named ws ds d z h hd here hz).1 }

pub order_passes : (g : Geometry) (named : List Bool) (ws ds : List ℕ) → ((d : ℕ) → d < g.drives → get_or named d false ≡ true → InOrder g d ws ds) → pointers_bad g named ws ds ≡ false
unfolding pointers_bad
order_passes g named ws ds h = none_any_below _ g.drives (λ d hd. drive d hd (get_or named d false) refl)
  where
    drive : (d : ℕ) → d < g.drives → (b : Bool) → get_or named d false ≡ b → b && any_below (pointer_bad g ws ds d) (physical_zones g) ≡ false
    drive d hd false e = refl
    drive d hd true e =
        let o = h d hd e in
        none_any_below (pointer_bad g ws ds d) (physical_zones g) (λ z hz. rw (le-ltb g.capacity (get_or ws (cell g d z) 0) (o.written_most z hz), le-ltb (get_or ws (cell g d z) 0) (get_or ds (cell g d z) 0) (o.durable_most z hz)) refl)

-- ---- one store
module _ (g : Geometry) (d : ℕ) (hd : d < g.drives) (t : Tables) (w : WellSized g t) (o : InOrder g d t.written t.durable) where
  -- a table with one number set, at a zone of drive d
  set_at : (xs : List ℕ) (k n z : ℕ) → length xs ≡ cells g → z < physical_zones g → Dec (cell g d z ≡ k)
      → ((cell g d z ≡ k) × (get_or (set xs k n) (cell g d z) 0 ≡ n)) ⊎ (get_or (set xs k n) (cell g d z) 0 ≡ get_or xs (cell g d z) 0)
  set_at xs k n z l hz (yes e) = inl (e, rw (← e) (get_or-set_same xs (cell g d z) n 0 (rw l (cell_in g d z hd hz))))
  set_at xs k n z l hz (no e) = inr (get_or-set_other xs k (cell g d z) n 0 e)

  append_order : (e y : ℕ) (s : List ℕ) (b : Bool) → has_room g e y t.written ≡ b
      → let u : Tables = pick b (record { sectors = sectors_after_append g e y s t.sectors t.written; written = written_after_append g e y t.written; durable = t.durable }) t in InOrder g d u.written u.durable
  unfolding written_after_append
  append_order e y s false q = o
  append_order e y s true q =
      let n = get_or t.written (cell g e y) 0 in
      let room : n < g.capacity = ltb-true n g.capacity q in
      record { written_most = λ z hz. most z hz room (set_at t.written (cell g e y) (n + 1) z w.written_long hz (ℕ_discrete (cell g d z) (cell g e y))); durable_most = λ z hz. grows z hz (set_at t.written (cell g e y) (n + 1) z w.written_long hz (ℕ_discrete (cell g d z) (cell g e y))) }
    where
      most : (z : ℕ) → z < physical_zones g → get_or t.written (cell g e y) 0 < g.capacity
          → ((cell g d z ≡ cell g e y) × (get_or (set t.written (cell g e y) (get_or t.written (cell g e y) 0 + 1)) (cell g d z) 0 ≡ get_or t.written (cell g e y) 0 + 1)) ⊎ (get_or (set t.written (cell g e y) (get_or t.written (cell g e y) 0 + 1)) (cell g d z) 0 ≡ get_or t.written (cell g d z) 0)
          → get_or (set t.written (cell g e y) (get_or t.written (cell g e y) 0 + 1)) (cell g d z) 0 ≤ g.capacity
      most z hz room (inl (k, m)) = rw m (omega arith)
      most z hz room (inr m) = rw m (o.written_most z hz)

      grows : (z : ℕ) → z < physical_zones g
          → ((cell g d z ≡ cell g e y) × (get_or (set t.written (cell g e y) (get_or t.written (cell g e y) 0 + 1)) (cell g d z) 0 ≡ get_or t.written (cell g e y) 0 + 1)) ⊎ (get_or (set t.written (cell g e y) (get_or t.written (cell g e y) 0 + 1)) (cell g d z) 0 ≡ get_or t.written (cell g d z) 0)
          → get_or t.durable (cell g d z) 0 ≤ get_or (set t.written (cell g e y) (get_or t.written (cell g e y) 0 + 1)) (cell g d z) 0
      grows z hz (inl (k, m)) = rw (m, ← k) (omega (arith, o.durable_most z hz))
      grows z hz (inr m) = rw m (o.durable_most z hz)

  reset_order : (e y : ℕ) → InOrder g d (pointers_after_reset g e y t.written) (pointers_after_reset g e y t.durable)
  unfolding pointers_after_reset
  reset_order e y = record { written_most = λ z hz. most z hz (ℕ_discrete (cell g d z) (cell g e y)); durable_most = λ z hz. less z hz (ℕ_discrete (cell g d z) (cell g e y)) }
    where
      zeroed : (xs : List ℕ) (z : ℕ) → length xs ≡ cells g → z < physical_zones g → cell g d z ≡ cell g e y → get_or (set xs (cell g e y) 0) (cell g d z) 0 ≡ 0
      zeroed xs z l hz k = rw (← k) (get_or-set_same xs (cell g d z) 0 0 (rw l (cell_in g d z hd hz)))

      most : (z : ℕ) → z < physical_zones g → Dec (cell g d z ≡ cell g e y) → get_or (set t.written (cell g e y) 0) (cell g d z) 0 ≤ g.capacity
      most z hz (yes k) = rw (zeroed t.written z w.written_long hz k) (omega arith)
      most z hz (no k) = rw (get_or-set_other t.written (cell g e y) (cell g d z) 0 0 k) (o.written_most z hz)

      less : (z : ℕ) → z < physical_zones g → Dec (cell g d z ≡ cell g e y) → get_or (set t.durable (cell g e y) 0) (cell g d z) 0 ≤ get_or (set t.written (cell g e y) 0) (cell g d z) 0
      less z hz (yes k) = rw (zeroed t.durable z w.durable_long hz k) (omega arith)
      less z hz (no k) = rw (get_or-set_other t.written (cell g e y) (cell g d z) 0 0 k, get_or-set_other t.durable (cell g e y) (cell g d z) 0 0 k) (o.durable_most z hz)

  flush_order : (e : ℕ) → e < g.drives → InOrder g d t.written (durable_after_flush g e t.written t.durable)
  flush_order e he = record { written_most = o.written_most; durable_most = λ z hz. less z hz (ℕ_discrete d e) }
    where
      less : (z : ℕ) → z < physical_zones g → Dec (d ≡ e) → get_or (durable_after_flush g e t.written t.durable) (cell g d z) 0 ≤ get_or t.written (cell g d z) 0
      less z hz (yes k) = rw (k, flush_own g t w e he z hz) (omega arith)
      less z hz (no k) = rw (flush_other g t w e he d z hz k) (o.durable_most z hz)

  pub store_order : (x : Store) → Placed g x → InOrder g d (make_store g x t).written (make_store g x t).durable
  store_order (append e y s) p = append_order e y s (has_room g e y t.written) refl
  store_order (reset e y) p = reset_order e y
  store_order (flush e) p = flush_order e p

-- ---- any number of them, and a cut
pub run_order : (g : Geometry) (d k : ℕ) (xs : List Store) (t : Tables) → d < g.drives → WellSized g t → AllPlaced g xs → InOrder g d t.written t.durable → InOrder g d (run_stores g k xs t).written (run_stores g k xs t).durable
run_order g d k [] t hd w p o = o
run_order g d zero (x ∷ xs) t hd w p o = o
run_order g d (suc k) (x ∷ xs) t hd w p o = run_order g d k xs (make_store g x t) hd (store_sized g x t w p.0) p.1 (store_order g d hd t w o x p.0)

pub cut_order : (g : Geometry) (x d : ℕ) (t u : Tables) → TablesCut g x t u → d < g.drives → d ≢ x → InOrder g d t.written t.durable → InOrder g d u.written u.durable
cut_order g x d t u c hd n o = record { written_most = λ z hz. omega (arith, c.most d z hd hz n, o.written_most z hz); durable_most = λ z hz. omega (arith, c.durable_is d z hd hz n) }

pub loss_order : (g : Geometry) (x d : ℕ) (t u : Tables) → TablesLoss g x t u → d < g.drives → d ≢ x → InOrder g d t.written t.durable → InOrder g d u.written u.durable
loss_order g x d t u c hd n o = record {
  written_most = λ z hz. omega (arith, c.written_same d z hd hz n, o.written_most z hz);
  durable_most = λ z hz. omega (arith, c.written_same d z hd hz n, c.durable_same d z hd hz n, o.durable_most z hz);
}

-- there is always a cut: the one that leaves just what is durable
pub cut_to_durable : (g : Geometry) (x : ℕ) (t : Tables) → WellSized g t → ((d : ℕ) → d < g.drives → d ≢ x → InOrder g d t.written t.durable) → TablesCut g x t (record { sectors = t.sectors; written = t.durable; durable = t.durable })
cut_to_durable g x t w o = record {
  kept = record { sectors_long = refl; written_long = w.durable_long ∙ sym w.written_long; durable_long = refl; sectors_same = λ d z n hd hz h ne. refl };
  least = λ d z hd hz n. le_refl (get_or t.durable (cell g d z) 0);
  most = λ d z hd hz n. (o d hd n).durable_most z hz;
  durable_is = λ d z hd hz n. refl;
}

-- and a loss: the one that leaves all as it is
pub loss_none : (g : Geometry) (x : ℕ) (t : Tables) → TablesLoss g x t t
loss_none g x t = record {
  kept = record { sectors_long = refl; written_long = refl; durable_long = refl; sectors_same = λ d z n hd hz h ne. refl };
  written_same = λ d z hd hz n. refl;
  durable_same = λ d z hd hz n. refl;
}

-- ---- no written pointer passes its zone's end, whatever is stored
set_most : (xs : List ℕ) (c x k n : ℕ) → x ≤ n → get_or xs k 0 ≤ n → get_or (set xs c x) k 0 ≤ n
set_most [] c x k n h l = l
set_most (y ∷ xs) zero x zero n h l = h
set_most (y ∷ xs) zero x (suc k) n h l = l
set_most (y ∷ xs) (suc c) x zero n h l = l
set_most (y ∷ xs) (suc c) x (suc k) n h l = set_most xs c x k n h l

store_most : (g : Geometry) (x : Store) (t : Tables) (k : ℕ) → get_or t.written k 0 ≤ g.capacity → get_or (make_store g x t).written k 0 ≤ g.capacity
store_most g (append d z s) t k h = go (has_room g d z t.written) refl
  where
    go : (b : Bool) → has_room g d z t.written ≡ b → get_or (pick b (record { sectors = sectors_after_append g d z s t.sectors t.written; written = written_after_append g d z t.written; durable = t.durable }) t).written k 0 ≤ g.capacity
    go true e = unfold written_after_append in set_most t.written (cell g d z) (get_or t.written (cell g d z) 0 + 1) k g.capacity (omega (arith, ltb-true (get_or t.written (cell g d z) 0) g.capacity e)) h
    go false e = h
store_most g (reset d z) t k h = unfold pointers_after_reset in set_most t.written (cell g d z) 0 k g.capacity zero-le h
store_most g (flush d) t k h = h

pub run_most : (g : Geometry) (n : ℕ) (xs : List Store) (t : Tables) (k : ℕ) → get_or t.written k 0 ≤ g.capacity → get_or (run_stores g n xs t).written k 0 ≤ g.capacity
run_most g n [] t k h = h
run_most g zero (x ∷ xs) t k h = h
run_most g (suc n) (x ∷ xs) t k h = run_most g n xs (make_store g x t) k (store_most g x t k h)
