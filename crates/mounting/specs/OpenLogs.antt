-- The first flush and steps 1 and 2 of a mount as the code makes them (src/rooms.rt, `open_logs`), by what the mount found at its start (`Planned`): what its
-- functions rely on, and that their stores are those of the rules.
use Rattle.std.specs.Prelude.{◌≡◌, refl, ◌≢◌, Bool, true, false, ℕ, ◌+◌, ◌*◌, ◌<◌, List, [], ◌++◌, map, length, get_or}
use Rattle.std.proofs.Common.{sym, ap, ◌∙◌, subst, arith}
use Rattle.tables.specs.declared.Geometry.{Geometry}
use Rattle.tables.specs.meaning.Below.{each_below}
use Rattle.tables.specs.laws.Below.{length_tabulate}
use Rattle.tables.specs.meaning.Lists.{concat}
use Rattle.tables.specs.meaning.Geometry.{Valid, cells}
use Rattle.tables.specs.meaning.Device.{Device, Store, apply_all}
use Rattle.tables.specs.meaning.Phases.{flush_all, on_present}
use Rattle.tables.specs.meaning.Through.{carry}
use Rattle.tables.specs.meaning.Tables.{Tables, tables_of, zone_place, cell, sector_no, device_of}
use Rattle.tables.specs.laws.Made.{Made, MadePointers}
use Rattle.tables.specs.laws.Counted.{made_append}
use Rattle.tables.specs.laws.StoresFit.{fits_append}
use Rattle.logs.specs.meaning.Entry.{general_zone, spare_zone, kind_of_log, Entry}
use Rattle.logs.specs.meaning.Walk.{walk_log}
use Rattle.volume.specs.declared.Look.{Look}
use Rattle.volume.specs.declared.ZoneLook.{ZoneLook}
use Rattle.volume.specs.declared.emptyings.Emptyings.{Emptyings}
use Rattle.volume.specs.declared.roles.LogPlaces.{LogPlaces}
use Rattle.mounting.specs.declared.rooms.Plan.{Plan}
use Rattle.volume.specs.meaning.CallContracts.{is_set, roles_of, seen_in}
use Rattle.volume.specs.meaning.Calls.{flush_stores}
use Rattle.volume.specs.meaning.Rules.{showing, general_heads}
use Rattle.volume.specs.meaning.Roles.{Roles, placed_by, roles_after}
use Rattle.volume.specs.meaning.Emptying.{InForce, by_look, new_general, empty_general}
use Rattle.volume.specs.meaning.Mount.{spare_step, with_flush, phases_of_logs}
use Rattle.volume.specs.laws.LogPlaces.{with_logs, with_roles, logs_of, Proper, roles_proper, roles_after_proper, zone_by_role}
use Rattle.volume.specs.laws.RulesUnread.{heads_alike}
use Rattle.volume.specs.laws.CallsUnread.{spare_step_alike}
use Rattle.volume.specs.laws.EmptyingStored.{by_roles_seen}
use Rattle.volume.specs.laws.EmptyingFits.{roles_firm}
use Rattle.volume.specs.laws.MountLogsFit.{flushes_fit, spares_fit_at}
use Rattle.volume.specs.looking.DriveLogs.{zone_pointer, zone_sectors_lem}
use Rattle.volume.specs.looking.Knowing.{read_device}
use Rattle.volume.specs.looking.HiddenLogs.{places_of, hidden_logs, hidden_all_long}
use Rattle.volume.specs.looking.MovedLogs.{is_emptied, moved_logs, moved_by_roles}
use Rattle.volume.specs.emptying.Carried.{new_place}
use Rattle.volume.specs.emptying.Emptyings.{EmptyingReady, emptied_on, new_general_on}
use Rattle.volume.specs.emptying.RoomMoves.{hidden_least}
use Rattle.mounting.specs.MountRooms.{spare_reset, spare_resets_lem, lost_among, Planned}
use Rattle.mounting.specs.MountStart.{look_of_zone}
use Rattle.volume.specs.checks.Records.{generations_shown, generations_shown_at, zone_look}
use Rattle.mounting.specs.MountTables.{FlushedAfter}
use Rattle.mounting.specs.MountOpening.{emptyings_present}
use Rattle.mounting.specs.MountBefore.{middle_read}
use Rattle.mounting.specs.MountOpened.{spares_made, general_made, opening_joined, opening_stopped}
use Rattle.mounting.specs.MountSpares.{stage, stage_seen}
use Rattle.mounting.specs.MountEmptied.{made_device}
use Rattle.mounting.specs.PlannedPlaces.{general_here, planned_long, places_are, places_valid}

-- a general log's heads are those of its sectors
heads_by : (g : Geometry) (v w : Device) (d : ℕ) → (v d general_zone).sectors ≡ (w d general_zone).sectors → general_heads g v d ≡ general_heads g w d
unfolding general_heads
heads_by g v w d e = ap (λ (ss : List (List ℕ)). map (λ (x : Entry). x.head) (walk_log g d false ss).entries) e

-- emptyings are on present drives
general_present : (g : Geometry) (a : ℕ → Bool) (r : ℕ → Roles) (f : InForce) (e : ℕ → Bool) (w : Device) → ((d : ℕ) → e d ≡ true → a d ≡ true) → on_present a (empty_general g a r f e w) ≡ empty_general g a r f e w
unfolding empty_general
general_present g a r f e w h = emptyings_present g a false r e (λ d. new_general g f (r d) d (general_heads g w d)) h

-- ---- by what was found
module _ (g : Geometry) (ok : Valid g) (p : Plan) (xs ws ds ps : List ℕ) (k : Planned g (tables_of xs ws ds) p ps) where
  abbrev t : Tables
  t = tables_of xs ws ds

  abbrev v : Device
  v = device_of g (tables_of xs ws ds)

  abbrev a : ℕ → Bool
  a = is_set p.here

  abbrev r : ℕ → Roles
  r = roles_of g (tables_of xs ws ds)

  abbrev e : ℕ → Bool
  e = is_emptied p.general.emptied

  abbrev from : Geometry
  from = p.places.geometry

  proper : (d : ℕ) → Proper (roles_of g (tables_of xs ws ds) d)
  proper d = roles_proper g (device_of g (tables_of xs ws ds)) d

  from_is : from ≡ with_roles g r
  from_is = places_are g (tables_of xs ws ds) p ps k

  pub from_valid : Valid p.places.geometry
  from_valid = places_valid g ok (tables_of xs ws ds) p ps k

  pub from_cells : cells p.places.geometry ≡ cells g
  from_cells = ap cells from_is

  hidden_is : (us : List ℕ) → hidden_logs p.places us p.places.geometry.drives ≡ hidden_logs (places_of g r) us g.drives
  hidden_is us = ap (λ (l : LogPlaces). hidden_logs l us l.geometry.drives) k.places

  pub pointers_long : length ps ≡ cells g
  pointers_long = planned_long g (tables_of xs ws ds) p ps k

  -- step 1: the spares' pointers
  spare_pointer : (d : ℕ) → d < g.drives → zone_pointer (with_roles g r) ps d spare_zone ≡ length (seen_in g t d spare_zone).sectors
  spare_pointer d hd =
      let n = zone_pointer (with_roles g r) ps d spare_zone in
      sym (length_tabulate (λ i. sector_no g.sector xs (cell (with_roles g r) d spare_zone * g.capacity + i)) n)
      ∙ ap length (sym (zone_sectors_lem (with_roles g r) xs ps d spare_zone hd (omega arith)))
      ∙ ap length (middle_read g k.first r proper xs ws ds ps k.sized.written_long (k.hidden ∙ hidden_is ws) v refl d spare_zone)
      ∙ ap (λ (u : Device). length (u d spare_zone).sectors) (sym (by_roles_seen g v))

  spares_stored : (n m : ℕ) (es us fs : List ℕ) → MadePointers p.places.geometry n m (on_present (is_set p.here) (each_below (spare_reset p.places.geometry ps) p.places.geometry.drives)) ws es us fs
      → Made g n m (on_present (is_set p.here) (map (carry (placed_by (roles_of g (tables_of xs ws ds)))) (spare_step g (seen_in g (tables_of xs ws ds))))) (tables_of xs ws es) (tables_of xs us fs)
  spares_stored n m es us fs made =
      let done : Made (with_roles g r) n m (on_present a (each_below (spare_reset (with_roles g r) ps) g.drives)) (tables_of xs ws es) (tables_of xs us fs) =
      subst (λ (h : Geometry). Made h n m (on_present a (each_below (spare_reset h ps) h.drives)) (tables_of xs ws es) (tables_of xs us fs)) from_is (made.made xs) in
      spares_made g k.first a r proper n m (seen_in g t) (tables_of xs ws es) (tables_of xs us fs)
      (subst (λ (ss : List Store). Made (with_roles g r) n m (on_present a ss) (tables_of xs ws es) (tables_of xs us fs)) (spare_resets_lem (with_roles g r) ps (seen_in g t) spare_pointer ∙ spare_step_alike g (logs_of r g.drives) (seen_in g t)) done)

  -- WHAT IS THERE after step 1, if all was made
  opened_device : (budget n m : ℕ) (t₁ t₂ : Tables) → Made g budget n (on_present (is_set p.here) (flush_all g.drives)) (tables_of xs ws ds) t₁
      → Made g n m (concat (with_flush g (is_set p.here) (map (carry (placed_by (roles_of g (tables_of xs ws ds)))) (spare_step g (seen_in g (tables_of xs ws ds)))))) t₁ t₂ → m ≢ 0 → device_of g t₂ ≡ stage g (is_set p.here) (device_of g (tables_of xs ws ds))
  opened_device budget n m t₁ t₂ m₁ m₂ h =
      let flushes = on_present a (flush_all g.drives) in
      let spares = concat (with_flush g a (map (carry (placed_by r)) (spare_step g (seen_in g t)))) in
      let fit = fits_append g flushes spares v (flushes_fit g a v) (spares_fit_at g a (seen_in g t) r (roles_firm g v) (apply_all flushes v)) in
      made_device g budget m (flushes ++ spares) t t₂ k.sized fit (made_append g budget n m flushes spares t t₁ t₂ m₁ m₂) h

  -- ---- step 2 (us, fs: the pointers after step 1)
  -- what is emptied, as the code has it
  abbrev pub opened_all : Emptyings
  opened_all = record {
    from = p.places.geometry;
    to = with_logs p.places.geometry (moved_logs p.places.geometry false (is_emptied p.general.emptied) p.places.geometry.drives);
    here = p.here;
    emptied = p.general.emptied;
  }

  to_is : opened_all.to ≡ with_roles g (roles_after false e r)
  to_is = ap (λ (h : Geometry). with_logs h (moved_logs h false (is_emptied p.general.emptied) h.drives)) from_is ∙ moved_by_roles g r proper false e

  moved_place : (d : ℕ) → d < g.drives → e d ≡ true → zone_place opened_all.to d (kind_of_log false) ≡ zone_place from d spare_zone
  moved_place d hd q =
      ap (λ (h : Geometry). zone_place h d (kind_of_log false)) to_is ∙ zone_by_role g (roles_after false e r) (roles_after_proper false e r proper) d hd (kind_of_log false) ∙ new_place g a false r e (λ n. []) d q
      ∙ sym (ap (λ (h : Geometry). zone_place h d spare_zone) from_is ∙ zone_by_role g r proper d hd spare_zone)

  pub opened_ready : (us fs qs : List ℕ) → length us ≡ cells g → length fs ≡ cells g → qs ≡ hidden_logs p.places us p.places.geometry.drives → EmptyingReady false opened_all qs xs us fs
  opened_ready us fs qs lu lf q = record {
    shape = record { drives = refl; sector = refl; unit = refl; zones = refl; capacity = refl };
    moved = λ d hd h. moved_place d (rw (ap (λ (l : Geometry). l.drives) from_is) at hd) h;
    sectors_long = rw from_is k.sized.sectors_long;
    written_long = lu ∙ sym from_cells;
    durable_long = lf ∙ sym from_cells;
    pointers_long = ap length q ∙ hidden_all_long p.places us p.places.geometry.drives ∙ lu ∙ sym from_cells;
    behind = record { least = λ d z hd hz b. rw q (hidden_least p.places us p.places.geometry.drives (cell opened_all.to d z)) };
  }

  -- the general logs are those of the start
  opened_heads : (us fs qs : List ℕ) → length us ≡ cells g → qs ≡ hidden_logs p.places us p.places.geometry.drives → device_of g (tables_of xs us fs) ≡ stage g (is_set p.here) (device_of g (tables_of xs ws ds))
      → (d : ℕ) → general_heads from (read_device from xs qs) d ≡ general_heads g (seen_in g (tables_of xs ws ds)) d
  opened_heads us fs qs lu q there d =
      ap (λ (h : Geometry). general_heads h (read_device h xs qs) d) from_is ∙ heads_alike g (logs_of r g.drives) (read_device (with_roles g r) xs qs) d
      ∙ heads_by g (read_device (with_roles g r) xs qs) (seen_in g t) d
      (middle_read g k.first r proper xs us fs qs lu (q ∙ hidden_is us) (stage g a v) there d general_zone ∙ stage_seen g a v d general_zone (λ i. omega (arith, i)))

  opened_force : (z : ℕ) → z < g.zones → get_or (generations_shown p.look) z 0 ≡ (by_look (showing g a (lost_among g p.here) (seen_in g (tables_of xs ws ds)))).generation z
  opened_force z h =
      let s = showing g a (lost_among g p.here) (seen_in g t) in
      generations_shown_at p.look z (omega (arith, ok.zones_most)) ∙ ap (λ (l : Look). (zone_look l z).generation) k.look ∙ ap (λ (l : ZoneLook). l.generation) (look_of_zone g s z h)

  -- their emptying, and the flush after it
  general_stored : (us fs qs : List ℕ) → length us ≡ cells g → qs ≡ hidden_logs p.places us p.places.geometry.drives → device_of g (tables_of xs us fs) ≡ stage g (is_set p.here) (device_of g (tables_of xs ws ds))
      → (n m : ℕ) (t₃ : Tables) → Made opened_all.to n m (each_below (λ d. emptied_on opened_all false (new_general_on opened_all (generations_shown p.look) xs qs d) d) p.places.geometry.drives) (tables_of xs us fs) t₃
      → Made g n m (on_present (is_set p.here) (empty_general g (is_set p.here) (roles_of g (tables_of xs ws ds)) (by_look (showing g (is_set p.here) (lost_among g p.here) (seen_in g (tables_of xs ws ds)))) (is_emptied p.general.emptied) (seen_in g (tables_of xs ws ds)))) (tables_of xs us fs) t₃
  general_stored us fs qs lu q there n m t₃ made =
      let f = by_look (showing g a (lost_among g p.here) (seen_in g t)) in
      subst (λ (ss : List Store). Made g n m ss (tables_of xs us fs) t₃) (sym (general_present g a r f e (seen_in g t) (general_here g t p ps k)))
      (general_made g k.first a r proper opened_all from_is refl to_is (generations_shown p.look) xs qs f (seen_in g t) (λ d hd h. opened_heads us fs qs lu q there d) opened_force k.general.generations_are n m (tables_of xs us fs) t₃ made)

  -- ---- ONE AFTER THE OTHER
  abbrev pub spares_at : List Store
  spares_at = map (carry (placed_by (roles_of g (tables_of xs ws ds)))) (spare_step g (seen_in g (tables_of xs ws ds)))

  pub first_flushed : (budget n : ℕ) (es : List ℕ) → MadePointers g budget n (flush_stores g (is_set p.here)) ws ds ws es → Made g budget n (on_present (is_set p.here) (flush_all g.drives)) (tables_of xs ws ds) (tables_of xs ws es)
  unfolding flush_stores
  first_flushed budget n es made = made.made xs

  pub spares_flushed : (n m o : ℕ) (es us fs hs : List ℕ) → MadePointers p.places.geometry n m (on_present (is_set p.here) (each_below (spare_reset p.places.geometry ps) p.places.geometry.drives)) ws es us fs
      → FlushedAfter g (is_set p.here) n m o us fs hs → Made g n o (concat (with_flush g (is_set p.here) spares_at)) (tables_of xs ws es) (tables_of xs us hs)
  spares_flushed n m o es us fs hs made flushed = flushed.made xs spares_at (tables_of xs ws es) (spares_stored n m es us fs made)

  -- the budget ends with step 1
  pub logs_stopped : (budget n : ℕ) (t₁ t₂ : Tables) → Made g budget n (on_present (is_set p.here) (flush_all g.drives)) (tables_of xs ws ds) t₁ → Made g n 0 (concat (with_flush g (is_set p.here) spares_at)) t₁ t₂
      → Made g budget 0 (concat (phases_of_logs g (is_set p.here) (lost_among g p.here) (device_of g (tables_of xs ws ds)))) (tables_of xs ws ds) t₂
  logs_stopped budget n t₁ t₂ m₁ m₂ = opening_stopped g a (lost_among g p.here) t e k.general.emptied_are budget n t₁ t₂ m₁ m₂

  pub logs_opened : (budget n m : ℕ) (t₁ : Tables) (us fs qs : List ℕ) → length us ≡ cells g → qs ≡ hidden_logs p.places us p.places.geometry.drives → Made g budget n (on_present (is_set p.here) (flush_all g.drives)) (tables_of xs ws ds) t₁
      → Made g n m (concat (with_flush g (is_set p.here) spares_at)) t₁ (tables_of xs us fs) → m ≢ 0 → (l o : ℕ) (ys vs hs zs : List ℕ)
      → Made opened_all.to m l (each_below (λ d. emptied_on opened_all false (new_general_on opened_all (generations_shown p.look) xs qs d) d) p.places.geometry.drives) (tables_of xs us fs) (tables_of ys vs hs)
      → FlushedAfter g (is_set p.here) m l o vs hs zs → Made g budget o (concat (phases_of_logs g (is_set p.here) (lost_among g p.here) (device_of g (tables_of xs ws ds)))) (tables_of xs ws ds) (tables_of ys vs zs)
  logs_opened budget n m t₁ us fs qs lu q m₁ m₂ h l o ys vs hs zs made flushed =
      let x = lost_among g p.here in
      let general = empty_general g a r (by_look (showing g a (lost_among g p.here) (seen_in g t))) e (seen_in g t) in
      let stored = general_stored us fs qs lu q (opened_device budget n m t₁ (tables_of xs us fs) m₁ m₂ h) m l (tables_of ys vs hs) made in
      opening_joined g a x t e k.general.emptied_are budget n m o t₁ (tables_of xs us fs) (tables_of ys vs zs) m₁ m₂ (flushed.made ys general (tables_of xs us fs) stored)
