-- Stores that leave alone what was read before them: sectors below the pointers of an earlier moment. Whoever reads while it stores keeps a copy
-- of those pointers. Appends go at or past them, so the sectors below them stay as they were (`made_keeps`), wherever the logs lie for the one and
-- the other (`stored_keeps`).
use Rattle.std.specs.Prelude.{◌≡◌, refl, ◌≢◌, Bool, length, get_or, set}
use Rattle.std.proofs.Common.{sym, ◌∙◌, subst, true≢false, le_refl, le_trans, mul-le-mul_right, suc-mul, arith, get_or-set_same, get_or-set_other, ltb-true}
use Rattle.std.proofs.Math.Path.{ap, fun_ext}
use Rattle.std.proofs.Math.Bool.{true, false}
use Prim.Native.Nat.{ℕ, zero, suc, ◌+◌, ◌-◌, ◌*◌, ◌≤◌, ◌<◌, min}
use Rattle.std.proofs.Math.Decide.{ℕ_discrete}
use mathlib.Core.List.{List, [], ◌∷◌, ◌++◌}
use Rattle.std.proofs.Math.Arith.{digits_lt, digits_div, digits_mod}
use Rattle.tables.specs.declared.Geometry.{Geometry}
use Rattle.tables.specs.meaning.Basics.{pick}
use Rattle.tables.specs.meaning.Below.{each_below}
use Rattle.tables.specs.laws.Below.{tabulate_cong}
use Rattle.tables.specs.meaning.Lists.{overlay}
use Rattle.tables.specs.meaning.Geometry.{physical_zones, cells, total_bytes}
use Rattle.tables.specs.meaning.Device.{ZoneView, Store, append, reset, flush, store_drive}
use Rattle.tables.specs.meaning.Phases.{on_present}
use Rattle.tables.specs.meaning.Tables.{Tables, tables_of, cell, sector_no, has_room, sectors_after_append, written_after_append, pointers_after_reset, make_store, run_stores, zone_at_cell, device_of}
use Rattle.tables.specs.laws.Made.{Made, MadeAppends, WellSized}
use Rattle.tables.specs.laws.Tables.{cell_in, cell_injective, sector_elsewhere, In, inside, outside, in_or_out, device_inside, device_outside}
use Rattle.tables.specs.laws.TablesRefine.{store_sized}
use Rattle.volume.specs.laws.LogPlaces.{with_logs}
use Rattle.volume.specs.rows.SameShape.{SameShape, shape_is, by_shape, shape_cells, shape_bytes}

-- ---- sectors below the pointers ps are the same in both, cell by cell
pub record KeptBelow (g : Geometry) (ps xs ys : List ℕ) : Type 0 where
  pub same : (c n : ℕ) → c < cells g → n < get_or ps c 0 → n < g.capacity → sector_no g.sector ys (c * g.capacity + n) ≡ sector_no g.sector xs (c * g.capacity + n)

pub kept_refl : (g : Geometry) (ps xs : List ℕ) → KeptBelow g ps xs xs
kept_refl g ps xs = record { same = λ c n l h k. refl }

pub kept_trans : (g : Geometry) (ps xs ys zs : List ℕ) → KeptBelow g ps xs ys → KeptBelow g ps ys zs → KeptBelow g ps xs zs
kept_trans g ps xs ys zs a b = record { same = λ c n l h k. b.same c n l h k ∙ a.same c n l h k }

pub kept_device : (g : Geometry) (ps xs ys ds : List ℕ) → KeptBelow g ps xs ys → device_of g (tables_of ys ps ds) ≡ device_of g (tables_of xs ps ds)
kept_device g ps xs ys ds a = fun_ext λ d. fun_ext λ z. go d z (in_or_out g d z)
  where
    zone : (d z : ℕ) → d < g.drives → z < physical_zones g → zone_at_cell g (tables_of ys ps ds) (cell g d z) ≡ zone_at_cell g (tables_of xs ps ds) (cell g d z)
    zone d z hd hz =
        unfold zone_at_cell in
        ap (λ (l : List (List ℕ)). let r : ZoneView = record { sectors = l; durable = min (get_or ds (cell g d z) 0) g.capacity } in r)
        (tabulate_cong (λ n. sector_no g.sector ys (cell g d z * g.capacity + n)) (λ n. sector_no g.sector xs (cell g d z * g.capacity + n)) (min (get_or ps (cell g d z) 0) g.capacity) (λ n h. a.same (cell g d z) n (cell_in g d z hd hz) (omega arith) (omega arith)))

    go : (d z : ℕ) → In g d z → device_of g (tables_of ys ps ds) d z ≡ device_of g (tables_of xs ps ds) d z
    go d z (inside p q i) = device_inside g (tables_of ys ps ds) d z i ∙ zone d z p q ∙ sym (device_inside g (tables_of xs ps ds) d z i)
    go d z (outside i) = device_outside g (tables_of ys ps ds) d z i ∙ sym (device_outside g (tables_of xs ps ds) d z i)

-- ---- stores that leave those sectors alone: appends to physical zones of which b holds, resets of others, flushes. In the zones of b
-- today's pointers are not below ps.
abbrev pub StoreIn : Geometry → (ℕ → Bool) → Store → Type 0
StoreIn g b (append d z s) = (d < g.drives) × (z < physical_zones g) × (length s ≡ g.sector) × (b z ≡ true)
StoreIn g b (reset d z) = (d < g.drives) × (z < physical_zones g) × (b z ≡ false)
StoreIn g b (flush d) = d < g.drives

abbrev pub StoresIn : Geometry → (ℕ → Bool) → List Store → Type 0
StoresIn g b [] = Unit {0}
StoresIn g b (x ∷ xs) = StoreIn g b x × StoresIn g b xs

pub record Behind (g : Geometry) (b : ℕ → Bool) (ps ws : List ℕ) : Type 0 where
  pub least : (d z : ℕ) → d < g.drives → z < physical_zones g → b z ≡ true → get_or ps (cell g d z) 0 ≤ get_or ws (cell g d z) 0

pub stores_in_append : (g : Geometry) (b : ℕ → Bool) (xs ys : List Store) → StoresIn g b xs → StoresIn g b ys → StoresIn g b (xs ++ ys)
stores_in_append g b [] ys p q = q
stores_in_append g b (x ∷ xs) ys p q = (p.0, stores_in_append g b xs ys p.1 q)

pub each_in : (g : Geometry) (b : ℕ → Bool) (f : ℕ → List Store) (n : ℕ) → ((k : ℕ) → k < n → StoresIn g b (f k)) → StoresIn g b (each_below f n)
each_in g b f zero h = tt
each_in g b f (suc n) h = stores_in_append g b (each_below f n) (f n) (each_in g b f n (λ k l. h k (omega arith))) (h n (omega arith))

pub on_present_in : (g : Geometry) (b a : ℕ → Bool) (xs : List Store) → StoresIn g b xs → StoresIn g b (on_present a xs)
on_present_in g b a [] p = tt
on_present_in g b a (x ∷ xs) p = go (a (store_drive x)) (on_present_in g b a xs p.1)
  where
    go : (c : Bool) → StoresIn g b (on_present a xs) → StoresIn g b (pick c (x ∷ on_present a xs) (on_present a xs))
    go true q = (p.0, q)
    go false q = q

pub pick_in : (g : Geometry) (b : ℕ → Bool) (c : Bool) (xs : List Store) → (c ≡ true → StoresIn g b xs) → StoresIn g b (pick c xs [])
pick_in g b true xs h = h refl
pick_in g b false xs h = tt

-- ---- one append
-- a sector laid at a place that is not below the pointers
module _ (g : Geometry) (ps : List ℕ) (c n : ℕ) (hn : n < g.capacity) (past : get_or ps c 0 ≤ n) where
  -- is none of those below them
  pub place_apart : (e m : ℕ) → m < get_or ps e 0 → m < g.capacity → e * g.capacity + m ≢ c * g.capacity + n
  place_apart e m h k q =
      let i : e ≡ c = sym (digits_div e k) ∙ rw q (digits_div c hn) in
      let l : m ≡ n = sym (digits_mod e k) ∙ rw q (digits_mod c hn) in
      let f : get_or ps e 0 ≤ n = rw i past in
      omega arith

  module _ (hc : c < cells g) where
    pub place_fits : (c * g.capacity + n) * g.sector + g.sector ≤ total_bytes g
    place_fits = let below : c * g.capacity + n < cells g * g.capacity = digits_lt hc hn in rw (← suc-mul) (mul-le-mul_right g.sector below)

    pub laid_past : (xs s : List ℕ) → length s ≡ g.sector → length xs ≡ total_bytes g → KeptBelow g ps xs (overlay xs ((c * g.capacity + n) * g.sector) s)
    laid_past xs s hs long = record { same = λ e m l h k. sector_elsewhere g.sector xs (c * g.capacity + n) s hs (rw long place_fits) (e * g.capacity + m) (place_apart e m h k) }

module _ (g : Geometry) (b : ℕ → Bool) (ps : List ℕ) (t : Tables) (w : WellSized g t) (d z : ℕ) (s : List ℕ) (hd : d < g.drives) (hz : z < physical_zones g) (hs : length s ≡ g.sector) (hb : b z ≡ true) (behind : Behind g b ps t.written) where
  laid_keeps : (c : Bool) → has_room g d z t.written ≡ c
      → KeptBelow g ps t.sectors (pick c (record { sectors = sectors_after_append g d z s t.sectors t.written; written = written_after_append g d z t.written; durable = t.durable }) t).sectors
  unfolding sectors_after_append
  laid_keeps true q = laid_past g ps (cell g d z) (get_or t.written (cell g d z) 0) (ltb-true (get_or t.written (cell g d z) 0) g.capacity q) (behind.least d z hd hz hb) (cell_in g d z hd hz) t.sectors s hs w.sectors_long
  laid_keeps false q = kept_refl g ps t.sectors

-- pointers only grow
append_grows : (g : Geometry) (t : Tables) (d z : ℕ) (s : List ℕ) (c : Bool) → length t.written ≡ cells g → d < g.drives → z < physical_zones g → (k : ℕ)
    → get_or t.written k 0 ≤ get_or (pick c (record { sectors = sectors_after_append g d z s t.sectors t.written; written = written_after_append g d z t.written; durable = t.durable }) t).written k 0
unfolding written_after_append
append_grows g t d z s false l hd hz k = le_refl (get_or t.written k 0)
append_grows g t d z s true l hd hz k = go (ℕ_discrete k (cell g d z))
  where
    go : Dec (k ≡ cell g d z) → get_or t.written k 0 ≤ get_or (set t.written (cell g d z) (get_or t.written (cell g d z) 0 + 1)) k 0
    go (yes e) = rw (e, get_or-set_same t.written (cell g d z) (get_or t.written (cell g d z) 0 + 1) 0 (rw l (cell_in g d z hd hz))) (omega arith)
    go (no e) = rw (get_or-set_other t.written (cell g d z) k (get_or t.written (cell g d z) 0 + 1) 0 e) (le_refl (get_or t.written k 0))

-- today's pointers after a reset
reset_behind : (g : Geometry) (b : ℕ → Bool) (ps ws : List ℕ) (d z : ℕ) → z < physical_zones g → b z ≡ false → Behind g b ps ws → Behind g b ps (pointers_after_reset g d z ws)
unfolding pointers_after_reset
reset_behind g b ps ws d z hz hb h = record { least = λ e y he hy k. rw (get_or-set_other ws (cell g d z) (cell g e y) 0 0 (λ q. other y k (cell_injective g d z e y hz hy q).1)) (h.least e y he hy k) }
  where
    other : (y : ℕ) → b y ≡ true → y ≢ z
    other y k q = true≢false (sym k ∙ rw q hb)

-- ---- any number of them
pub record Keeps (g : Geometry) (b : ℕ → Bool) (ps : List ℕ) (t u : Tables) : Type 0 where
  pub sized : WellSized g u
  pub bytes : KeptBelow g ps t.sectors u.sectors
  pub behind : Behind g b ps u.written

behind_grows : (g : Geometry) (b : ℕ → Bool) (ps ws vs : List ℕ) → Behind g b ps ws → ((k : ℕ) → get_or ws k 0 ≤ get_or vs k 0) → Behind g b ps vs
behind_grows g b ps ws vs h k = record { least = λ d z hd hz hb. le_trans (h.least d z hd hz hb) (k (cell g d z)) }

store_keeps : (g : Geometry) (b : ℕ → Bool) (ps : List ℕ) (x : Store) (t : Tables) → StoreIn g b x → WellSized g t → Behind g b ps t.written → Keeps g b ps t (make_store g x t)
store_keeps g b ps (append d z s) t (hd, hz, hs, hb) w h = record {
  sized = store_sized g (append d z s) t w (hd, hz, hs);
  bytes = laid_keeps g b ps t w d z s hd hz hs hb h (has_room g d z t.written) refl;
  behind = behind_grows g b ps t.written (make_store g (append d z s) t).written h (append_grows g t d z s (has_room g d z t.written) w.written_long hd hz);
}
store_keeps g b ps (reset d z) t (hd, hz, hb) w h = record {
  sized = store_sized g (reset d z) t w (hd, hz);
  bytes = kept_refl g ps t.sectors;
  behind = reset_behind g b ps t.written d z hz hb h;
}
store_keeps g b ps (flush d) t hd w h = record { sized = store_sized g (flush d) t w hd; bytes = kept_refl g ps t.sectors; behind = h }

pub run_keeps : (g : Geometry) (b : ℕ → Bool) (ps : List ℕ) (k : ℕ) (xs : List Store) (t : Tables) → StoresIn g b xs → WellSized g t → Behind g b ps t.written → Keeps g b ps t (run_stores g k xs t)
run_keeps g b ps k [] t p w h = record { sized = w; bytes = kept_refl g ps t.sectors; behind = h }
run_keeps g b ps zero (x ∷ xs) t p w h = record { sized = w; bytes = kept_refl g ps t.sectors; behind = h }
run_keeps g b ps (suc k) (x ∷ xs) t p w h =
    let u = make_store g x t in
    let one = store_keeps g b ps x t p.0 w h in
    let rest = run_keeps g b ps k xs u p.1 one.sized one.behind in
    record { sized = rest.sized; bytes = kept_trans g ps t.sectors u.sectors (run_stores g k xs u).sectors one.bytes rest.bytes; behind = rest.behind }

-- as a function that stores states it
pub made_keeps : (g : Geometry) (b : ℕ → Bool) (budget rest : ℕ) (ss : List Store) (ps : List ℕ) (t u : Tables) → StoresIn g b ss → WellSized g t → Behind g b ps t.written → Made g budget rest ss t u → Keeps g b ps t u
made_keeps g b budget rest ss ps t u p w h m = rw m.tables_are (run_keeps g b ps (budget - 1) ss t p w h)

-- ---- the logs of what is read lie where g says, those of what is stored where `to` does
module _ (g to : Geometry) (shape : SameShape g to) where
  -- what is kept is the same by either
  kept_same : (ps xs ys : List ℕ) → KeptBelow to ps xs ys → KeptBelow g ps xs ys
  kept_same ps xs ys k = let m = subst (λ (x : Geometry). KeptBelow x ps xs ys) (shape_is g to shape) k in record { same = m.same }

  pub stores_in_same : (b : ℕ → Bool) (ss : List Store) → StoresIn g b ss → StoresIn to b ss
  stores_in_same b ss p = by_shape g to shape (λ (x : Geometry). StoresIn x b ss) (go ss p)
    where
      one : (x : Store) → StoreIn g b x → StoreIn (with_logs g to.logs) b x
      one (append d z s) p = p
      one (reset d z) p = p
      one (flush d) p = p

      go : (ss : List Store) → StoresIn g b ss → StoresIn (with_logs g to.logs) b ss
      go [] p = tt
      go (x ∷ ss) p = (one x p.0, go ss p.1)

-- what such stores leave
pub record StoredKept (g to : Geometry) (b : ℕ → Bool) (ps xs xs' ws' : List ℕ) : Type 0 where
  pub sectors_long : length xs' ≡ total_bytes g
  pub written_long : length ws' ≡ cells g
  pub behind : Behind to b ps ws'
  pub device : device_of g (tables_of xs' ps []) ≡ device_of g (tables_of xs ps [])

pub made_stored : (g to : Geometry) (b : ℕ → Bool) (budget rest : ℕ) (ss : List Store) (ps : List ℕ) (t u : Tables) → SameShape g to → StoresIn g b ss → WellSized g t → Behind to b ps t.written → Made to budget rest ss t u
    → StoredKept g to b ps t.sectors u.sectors u.written
made_stored g to b budget rest ss ps t u shape p w h m =
    let bytes = shape_bytes g to shape in
    let few = shape_cells g to shape in
    let k = made_keeps to b budget rest ss ps t u (stores_in_same g to shape b ss p) (record { sectors_long = w.sectors_long ∙ sym bytes; written_long = w.written_long ∙ sym few; durable_long = w.durable_long ∙ sym few }) h m in
    record { sectors_long = k.sized.sectors_long ∙ bytes; written_long = k.sized.written_long ∙ few; behind = k.behind; device = kept_device g ps t.sectors u.sectors [] (kept_same g to shape ps t.sectors u.sectors k.bytes) }

pub stored_keeps : (g to : Geometry) (b : ℕ → Bool) (budget rest : ℕ) (ss : List Store) (ps xs ws xs' ws' : List ℕ) → SameShape g to → StoresIn g b ss → length xs ≡ total_bytes g → length ws ≡ cells g → Behind to b ps ws
    → MadeAppends to budget rest ss xs ws xs' ws' → StoredKept g to b ps xs xs' ws'
stored_keeps g to b budget rest ss ps xs ws xs' ws' shape p lx lw h m = made_stored g to b budget rest ss ps (tables_of xs ws ws) (tables_of xs' ws' ws) shape p (record { sectors_long = lx; written_long = lw; durable_long = lw }) h (m.made ws)
