-- THE PROMISE ON THE TABLES, on drives that cache resets: a cut of the tables, old bytes brought back or not, is one of the device that they stand for; and each call
-- leaves what the rules' call leaves there. So what every event keeps on the device (CachedEvents) it keeps here.
use Rattle.std.specs.Prelude.{◌≡◌, ◌≢◌, ◌⊎◌, length}
use Rattle.std.proofs.Math.Path.{refl}
use Rattle.std.proofs.Common.{sym, ap, ap₂, ◌∙◌, inl, inr, not-suc-le-zero, le_of_suc-le-suc, arith}
use Prim.Native.Nat.{ℕ, zero, suc, ◌+◌, ◌*◌, ◌≤◌, ◌<◌, min, zero-le}
use mathlib.Core.List.{List, [], ◌∷◌, ◌++◌, Memᴰ}
use Rattle.std.proofs.Math.ListN.{get_or, take}
use Rattle.tables.specs.meaning.Below.{tabulate}
use Rattle.tables.specs.laws.Below.{tabulate_cong, length_tabulate, take_tabulate}
use Rattle.tables.specs.meaning.Device.{ZoneView, ZoneCut}
use Rattle.tables.specs.meaning.Cached.{Caching, LeftOf, CachingCut}
use Rattle.tables.specs.meaning.Tables.{Tables, cell, sector_no, zone_at_cell, device_of}
use Rattle.tables.specs.laws.Tables.{In, inside, outside, in_or_out, device_inside, device_outside}
use Rattle.tables.specs.declared.Geometry.{Geometry}
use Rattle.tables.specs.meaning.Geometry.{physical_zones}
use Rattle.volume.specs.meaning.State.{StateView}
use Rattle.volume.specs.meaning.CallContracts.{view_state, lengths_of}
use Rattle.promise.specs.meaning.Ledger.{Ledger}
use Rattle.promise.specs.meaning.Claim.{Mode, ready, stopped, down, System}
use Rattle.promise.specs.meaning.OnTables.{on_tables}
use Rattle.promise.specs.meaning.Caches.{on_caching_device, beneath}
use Rattle.promise.specs.meaning.CachesOnTables.{ZoneKept, ZoneBack, TablesCachingCut, tables_caches, on_caching_tables}
use Rattle.promise.proofs.device.CachedModes.{OkCached, read_cached}
use Rattle.promise.proofs.device.CachedEvents.{OkOn}
use Rattle.promise.proofs.tables.CallRefines.{Agree, agree_zones}
use Rattle.promise.proofs.tables.TablesEvents.{TablesOk}

-- ---- a cut of the tables is one of the device
take_suc : (xs : List (List ℕ)) (n : ℕ) → n < length xs → take (suc n) xs ≡ take n xs ++ (get_or xs n [] ∷ [])
take_suc [] n h = absurd (not-suc-le-zero h)
take_suc (x ∷ xs) zero h = refl
take_suc (x ∷ xs) (suc n) h = ap (λ (t : List (List ℕ)). x ∷ t) (take_suc xs n (le_of_suc-le-suc h))

tabulate_take : (f : ℕ → List ℕ) (xs : List (List ℕ)) (n : ℕ) → n ≤ length xs → ((k : ℕ) → k < n → f k ≡ get_or xs k []) → tabulate f n ≡ take n xs
tabulate_take f xs zero h e = refl
tabulate_take f xs (suc n) h e = ap₂ (λ (t : List (List ℕ)) (s : List ℕ). t ++ (s ∷ [])) (tabulate_take f xs n (omega arith) (λ k l. e k (omega arith))) (e n (omega arith)) ∙ sym (take_suc xs n (omega arith))

module _ (g : Geometry) (x : ℕ) (t u : Tables) (was : ℕ → ℕ → List ZoneView) (c : TablesCachingCut g x t was u) (d z : ℕ) (hd : d < g.drives) (hz : z < physical_zones g) (n : d ≢ x) where
  kept_zone : ZoneKept g t u d z → ZoneCut (zone_at_cell g t (cell g d z)) (zone_at_cell g u (cell g d z))
  unfolding zone_at_cell
  kept_zone k =
      let i = cell g d z in
      let f : ℕ → List ℕ = λ j. sector_no g.sector t.sectors (i * g.capacity + j) in
      let h : ℕ → List ℕ = λ j. sector_no g.sector u.sectors (i * g.capacity + j) in
      let a = min (get_or u.written i 0) g.capacity in
      let b = min (get_or t.written i 0) g.capacity in
      let l : a ≤ b = omega (arith, k.most) in
      let e : tabulate h a ≡ tabulate f a = tabulate_cong h f a (λ j q. k.same j (omega arith)) in
      record { kept = a; least = omega (arith, k.least); most = rw (length_tabulate f b) l; is = rw (e, c.durable_is d z hd hz n, take_tabulate f b a l) refl }

  back_zone : (o : ZoneView) → ZoneBack g o u d z → ZoneCut o (zone_at_cell g u (cell g d z))
  unfolding zone_at_cell
  back_zone o k =
      let i = cell g d z in
      let w = get_or u.written i 0 in
      let h : ℕ → List ℕ = λ j. sector_no g.sector u.sectors (i * g.capacity + j) in
      let m : min w g.capacity ≡ w = omega (arith, k.fits) in
      let e : tabulate h w ≡ take w o.sectors = tabulate_take h o.sectors w k.most (λ j q. k.old j q) in
      record { kept = w; least = k.least; most = k.most; is = rw (c.durable_is d z hd hz n, m, e) refl }

pub caching_cut_refines : (g : Geometry) (x : ℕ) (t : Tables) (was : ℕ → ℕ → List ZoneView) (u : Tables) → TablesCachingCut g x t was u → CachingCut x (record { now = device_of g t; was = was }) (device_of g u)
unfolding CachingCut
caching_cut_refines g x t was u c d z n = go (in_or_out g d z)
  where
    side : (p : d < g.drives) (q : z < physical_zones g) → ZoneKept g t u d z ⊎ ((o : ZoneView) × Memᴰ o (was d z) × ZoneBack g o u d z) → LeftOf (zone_at_cell g t (cell g d z)) (was d z) (zone_at_cell g u (cell g d z))
    side p q (inl k) = inl (kept_zone g x t u was c d z p q n k)
    side p q (inr (o, m, k)) = inr (o, m, back_zone g x t u was c d z p q n o k)

    go : In g d z → LeftOf (device_of g t d z) (was d z) (device_of g u d z)
    go (inside p q i) = rw (device_inside g t d z i, device_inside g u d z i) (side p q (c.zones d z p q n))
    go (outside i) = inl (rw (device_outside g t d z i, device_outside g u d z i) (record { kept = zero; least = zero-le; most = zero-le; is = refl }))

-- ---- what holds, with states that say the same
pub agrees_cached : (g : Geometry) (m : Mode) (x : ℕ) (c : Caching) (a b : StateView) (l : Ledger) → Agree g a b → OkCached g m x c a l → OkCached g m x c b l
agrees_cached g ready x c a b l e r = read_cached g x c a b l (λ h. rw (← e.lost_same_lem) h) (agree_zones g a b e) r
agrees_cached g stopped x c a b l e o = o
agrees_cached g down x c a b l e o = o

-- the system of the rules
abbrev pub view_cached : (g : Geometry) (s : System (on_caching_tables g)) → System (on_caching_device g (lengths_of s.memory.memory))
view_cached g s = record { memory = record { memory = device_of g s.memory.memory; was = s.memory.was }; lost = s.lost; mode = s.mode; state = view_state s.state; ledger = s.ledger }

pub record TablesOkCached (g : Geometry) (s : System (on_caching_tables g)) : Type 0 where
  pub plain : TablesOk g (beneath (on_tables g) (tables_caches g) s)
  pub holds : OkOn g (lengths_of s.memory.memory) (view_cached g s)
