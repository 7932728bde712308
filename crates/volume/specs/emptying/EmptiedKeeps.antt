-- What an emptying leaves, for the next one of the same call: tables as long as they were, and all that is read by `from`. Its stores are appends to the new
-- log, the reset of the old one, and flushes.
use Rattle.std.specs.Prelude.{◌≡◌, ◌≢◌, Bool, ℕ, zero, suc, ◌+◌, ◌-◌, ◌*◌, ◌≤◌, ◌<◌, List, [], ◌∷◌, ◌++◌, length, set, eqb}
use Rattle.std.proofs.Math.Path.{refl, sym}
use Rattle.std.proofs.Common.{ap, ◌∙◌, le_trans, arith, get_or-set_other}
use Rattle.std.proofs.Math.Bool.{true, false}
use Rattle.std.proofs.Math.Nat.{le_refl}
use Rattle.std.proofs.Math.Decide.{ℕ_discrete}
use Rattle.std.proofs.Math.ListN.{get_or}
use Rattle.std.proofs.Math.Seq.{get_or-set_same}
use Rattle.std.proofs.Math.Arith.{digits_div, digits_mod}
use borrow.Author.Tests.{ltb-true, eqb-true}
use Rattle.tables.specs.declared.Geometry.{Geometry}
use Rattle.tables.specs.meaning.Basics.{pick}
use Rattle.tables.specs.meaning.Geometry.{Valid, physical_zones, cells}
use Rattle.tables.specs.meaning.Device.{Store, append, reset, flush, store_drive}
use Rattle.tables.specs.meaning.Phases.{flush_all, on_present}
use Rattle.tables.specs.meaning.Tables.{Tables, tables_of, zone_place, cell, sector_no, has_room, sectors_after_append, written_after_append, pointers_after_reset, make_store, run_stores}
use Rattle.tables.specs.laws.Made.{Made, WellSized}
use Rattle.tables.specs.laws.Basics.{eqb_same}
use Rattle.tables.specs.laws.ZonePlaces.{place_in, place_injective}
use Rattle.tables.specs.laws.Tables.{cell_in, cell_injective, sector_in, sector_elsewhere}
use Rattle.tables.specs.laws.TablesRefine.{store_sized}
use Rattle.logs.specs.meaning.Entry.{spare_zone, kind_of_log, closing, encode}
use Rattle.logs.specs.laws.Legal.{header_long}
use Rattle.volume.specs.declared.emptying.Emptying.{Emptying}
use Rattle.volume.specs.meaning.CallContracts.{is_set}
use Rattle.volume.specs.meaning.Calls.{append_all}
use Rattle.volume.specs.meaning.Emptying.{emptying_stores}
use Rattle.volume.specs.looking.Knowing.{read_device}
use Rattle.volume.specs.rows.KeptBelow.{Behind, kept_device}
use Rattle.volume.specs.emptying.Shape.{SameShape, shape_cells}
use Rattle.volume.specs.emptying.Elsewhere.{SectorsLong, sectors_long_append}
use Rattle.volume.specs.emptying.Moving.{Copying, to_drive, to_sectors, to_written, to_log, cell_moved}
use Rattle.volume.specs.emptying.EmptyingStores.{with_closing, emptied_to}

-- ---- stores of which the appends go to zone y of drive d, and the resets to another zone, x, of that drive
module _ (g : Geometry) (d y x : ℕ) where
  abbrev OnLog : Store → Type 0
  OnLog (append e z s) = (e ≡ d) × (z ≡ y) × (length s ≡ g.sector)
  OnLog (reset e z) = (e ≡ d) × (z ≡ x)
  OnLog (flush e) = e < g.drives

  abbrev AllOnLog : List Store → Type 0
  AllOnLog [] = Unit {0}
  AllOnLog (s ∷ ss) = OnLog s × AllOnLog ss

  all_append : (ss ts : List Store) → AllOnLog ss → AllOnLog ts → AllOnLog (ss ++ ts)
  all_append [] ts p q = q
  all_append (s ∷ ss) ts p q = (p.0, all_append ss ts p.1 q)

  flushes_on : (n : ℕ) → n ≤ g.drives → AllOnLog (flush_all n)
  flushes_on zero h = tt
  flushes_on (suc n) h = all_append (flush_all n) (flush n ∷ []) (flushes_on n (omega arith)) (omega arith, tt)

  present_on : (a : ℕ → Bool) (ss : List Store) → AllOnLog ss → AllOnLog (on_present a ss)
  present_on a [] p = tt
  present_on a (s ∷ ss) p = go (a (store_drive s)) (present_on a ss p.1)
    where
      go : (c : Bool) → AllOnLog (on_present a ss) → AllOnLog (pick c (s ∷ on_present a ss) (on_present a ss))
      go true q = (p.0, q)
      go false q = q

  appends_on : (ss : List (List ℕ)) → SectorsLong g.sector ss → AllOnLog (append_all d y ss)
  appends_on [] l = tt
  appends_on (s ∷ ss) l = ((refl, refl, l.0), appends_on ss l.1)

  -- ---- they leave every sector but those that they append, and move no pointer back but the reset zone's
  pub record Leaves (t u : Tables) : Type 0 where
    pub sized : WellSized g u
    pub same : (c n : ℕ) → n < g.capacity → (c ≡ cell g d y → n < get_or t.written c 0) → sector_no g.sector u.sectors (c * g.capacity + n) ≡ sector_no g.sector t.sectors (c * g.capacity + n)
    pub grows : (c : ℕ) → c ≢ cell g d x → get_or t.written c 0 ≤ get_or u.written c 0

  leaves_trans : (t u v : Tables) → cell g d y ≢ cell g d x → Leaves t u → Leaves u v → Leaves t v
  leaves_trans t u v ne a b = record {
    sized = b.sized;
    same = λ c n hn h. b.same c n hn (λ q. le_trans (h q) (rw q (a.grows (cell g d y) ne))) ∙ a.same c n hn h;
    grows = λ c h. le_trans (a.grows c h) (b.grows c h);
  }

  module _ (hd : d < g.drives) (hy : y < physical_zones g) (hx : x < physical_zones g) where
    laid_same : (s : List ℕ) (t : Tables) → length s ≡ g.sector → WellSized g t → (c n : ℕ) → n < g.capacity → (c ≡ cell g d y → n < get_or t.written c 0) → (b : Bool) → has_room g d y t.written ≡ b
        → sector_no g.sector (pick b (record { sectors = sectors_after_append g d y s t.sectors t.written; written = written_after_append g d y t.written; durable = t.durable }) t).sectors (c * g.capacity + n)
        ≡ sector_no g.sector t.sectors (c * g.capacity + n)
    unfolding sectors_after_append
    laid_same s t hs w c n hn h false e = refl
    laid_same s t hs w c n hn h true e =
        let m = get_or t.written (cell g d y) 0 in
        let hm : m < g.capacity = ltb-true m g.capacity e in
        sector_elsewhere g.sector t.sectors (cell g d y * g.capacity + m) s hs (rw w.sectors_long (sector_in g d y m hd hy hm)) (c * g.capacity + n)
        (λ q. let i : c ≡ cell g d y = sym (digits_div c hn) ∙ rw q (digits_div (cell g d y) hm) in
        let j : n ≡ m = sym (digits_mod c hn) ∙ rw q (digits_mod (cell g d y) hm) in
        let k : n < m = rw i at (h i) in
        omega (arith, j, k))

    pointer_grows : (s : List ℕ) (t : Tables) → WellSized g t → (c : ℕ) (b : Bool)
        → get_or t.written c 0 ≤ get_or (pick b (record { sectors = sectors_after_append g d y s t.sectors t.written; written = written_after_append g d y t.written; durable = t.durable }) t).written c 0
    unfolding written_after_append
    pointer_grows s t w c false = le_refl (get_or t.written c 0)
    pointer_grows s t w c true = go (ℕ_discrete c (cell g d y))
      where
        go : Dec (c ≡ cell g d y) → get_or t.written c 0 ≤ get_or (set t.written (cell g d y) (get_or t.written (cell g d y) 0 + 1)) c 0
        go (yes e) = rw (e, get_or-set_same t.written (cell g d y) (get_or t.written (cell g d y) 0 + 1) 0 (rw w.written_long (cell_in g d y hd hy))) (omega arith)
        go (no e) = rw (get_or-set_other t.written (cell g d y) c (get_or t.written (cell g d y) 0 + 1) 0 e) (le_refl (get_or t.written c 0))

    store_leaves : (s : Store) (t : Tables) → OnLog s → WellSized g t → Leaves t (make_store g s t)
    unfolding pointers_after_reset
    store_leaves (append e z s) t (p, q, l) w = rw (p, q) (record {
      sized = store_sized g (append d y s) t w (hd, hy, l);
      same = λ c n hn h. laid_same s t l w c n hn h (has_room g d y t.written) refl;
      grows = λ c h. pointer_grows s t w c (has_room g d y t.written);
    })
    store_leaves (reset e z) t (p, q) w = rw (p, q) (record {
      sized = store_sized g (reset d x) t w (hd, hx);
      same = λ c n hn h. refl;
      grows = λ c h. rw (get_or-set_other t.written (cell g d x) c 0 0 h) (le_refl (get_or t.written c 0));
    })
    store_leaves (flush e) t h w = record { sized = store_sized g (flush e) t w h; same = λ c n hn k. refl; grows = λ c k. le_refl (get_or t.written c 0) }

    run_leaves : (k : ℕ) (ss : List Store) (t : Tables) → cell g d y ≢ cell g d x → AllOnLog ss → WellSized g t → Leaves t (run_stores g k ss t)
    run_leaves k [] t ne p w = record { sized = w; same = λ c n hn h. refl; grows = λ c h. le_refl (get_or t.written c 0) }
    run_leaves zero (s ∷ ss) t ne p w = record { sized = w; same = λ c n hn h. refl; grows = λ c h. le_refl (get_or t.written c 0) }
    run_leaves (suc k) (s ∷ ss) t ne p w = let one = store_leaves s t p.0 w in leaves_trans t (make_store g s t) (run_stores g k ss (make_store g s t)) ne one (run_leaves k ss (make_store g s t) ne p.1 one.sized)

-- ---- an emptying
module _ (par : Bool) (e : Emptying) (ps xs ws ds : List ℕ) (c : Copying par e ps xs ws) (long : length ds ≡ cells e.from) (ok : Valid e.from) (budget rest : ℕ) (ss : List (List ℕ)) (xs' ws' ds' : List ℕ) (l : SectorsLong e.from.sector ss)
    (made : Made e.to budget rest (emptied_to e par ss) (tables_of xs ws ds) (tables_of xs' ws' ds')) where
  abbrev h : SameShape e.from e.to
  h = c.moves.shape

  other : (b : Bool) → kind_of_log b ≢ spare_zone
  other true q = omega (arith, q)
  other false q = omega (arith, q)

  apart : cell e.to e.drive (kind_of_log par) ≢ cell e.to e.drive spare_zone
  apart q = other par (cell_injective e.to e.drive spare_zone e.drive (kind_of_log par) (omega arith) (to_log par e ps xs ws c) q).1

  stores_on : AllOnLog e.to e.drive (kind_of_log par) spare_zone (emptied_to e par ss)
  unfolding emptying_stores
  stores_on =
      let flushes = on_present (is_set e.here) (flush_all e.from.drives) in
      let f = present_on e.to e.drive (kind_of_log par) spare_zone (is_set e.here) (flush_all e.from.drives) (flushes_on e.to e.drive (kind_of_log par) spare_zone e.from.drives (rw h.drives (le_refl e.from.drives))) in
      let all = append_all e.drive (kind_of_log par) (with_closing e par ss) in
      let header : SectorsLong e.from.sector (encode e.from e.drive (closing (kind_of_log par) e.generation) ∷ []) = (header_long e.from e.drive (closing (kind_of_log par) e.generation) ok tt, tt) in
      let a = appends_on e.to e.drive (kind_of_log par) spare_zone (with_closing e par ss) (rw h.sector (sectors_long_append e.from.sector ss (encode e.from e.drive (closing (kind_of_log par) e.generation) ∷ []) l header)) in
      all_append e.to e.drive (kind_of_log par) spare_zone flushes (all ++ (flushes ++ (reset e.drive spare_zone ∷ []))) f
      (all_append e.to e.drive (kind_of_log par) spare_zone all (flushes ++ (reset e.drive spare_zone ∷ [])) a
      (all_append e.to e.drive (kind_of_log par) spare_zone flushes (reset e.drive spare_zone ∷ []) f ((refl, refl), tt)))

  pub leaves : Leaves e.to e.drive (kind_of_log par) spare_zone (tables_of xs ws ds) (tables_of xs' ws' ds')
  leaves = rw made.tables_are (run_leaves e.to e.drive (kind_of_log par) spare_zone (to_drive par e ps xs ws c) (to_log par e ps xs ws c) (omega arith) (budget - 1) (emptied_to e par ss) (tables_of xs ws ds) apart stores_on
      (record { sectors_long = to_sectors par e ps xs ws c; written_long = to_written par e ps xs ws c; durable_long = long ∙ sym (shape_cells e.from e.to h) }))

  pub emptied_durable : length ds' ≡ cells e.from
  emptied_durable = leaves.sized.durable_long ∙ shape_cells e.from e.to h

  -- where the copied pointers of the spare zones are not past today's, they still are not; and all that is read is the same, that zone too
  module _ (b : Behind e.from (λ y. eqb y spare_zone) ps ws) where
    not_reset : (d : ℕ) → cell e.from d spare_zone ≢ cell e.to e.drive spare_zone
    not_reset d q =
        let z : e.to.zones + 3 ≡ e.from.zones + 3 = ap (λ (n : ℕ). n + 3) h.zones in
        let i : zone_place e.from d spare_zone < e.from.zones + 3 = place_in e.from d spare_zone (omega arith) in
        let j : zone_place e.to e.drive spare_zone < e.from.zones + 3 = rw z at (place_in e.to e.drive spare_zone (omega arith)) in
        let r : d * (e.from.zones + 3) + zone_place e.from d spare_zone ≡ e.drive * (e.from.zones + 3) + zone_place e.to e.drive spare_zone = rw z at q in
        let k : d ≡ e.drive = sym (digits_div d i) ∙ rw r (digits_div e.drive j) in
        let p : zone_place e.from d spare_zone ≡ zone_place e.to e.drive spare_zone = sym (digits_mod d i) ∙ rw r (digits_mod e.drive j) in
        other par (place_injective e.to e.drive (kind_of_log par) spare_zone (c.moves.moved ∙ rw k at p))

    pub emptied_behind : Behind e.from (λ y. eqb y spare_zone) ps ws'
    emptied_behind = record { least = λ d z hd hz q. le_trans (b.least d z hd hz q) (leaves.grows (cell e.from d z) (λ r. not_reset d (rw (eqb-true z spare_zone q) at r))) }

    pub emptied_device : read_device e.from xs' ps ≡ read_device e.from xs ps
    emptied_device = kept_device e.from ps xs xs' [] (record {
      same = λ k n hk hp hn. rw (h.sector, h.capacity) at (leaves.same k n (rw h.capacity hn) (λ q. let i : k ≡ cell e.from e.drive spare_zone = q ∙ cell_moved par e ps xs ws c in
          le_trans hp (rw i (b.least e.drive spare_zone c.moves.drive_in (omega arith) (eqb_same spare_zone)))));
    })
