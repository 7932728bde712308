-- Step 10 of a mount, by what was planned: where the logs lie before it and after it, that it has what it relies on, and that its stores are those of the rules.
use Rattle.std.specs.Prelude.{◌≡◌, refl, Bool, true, false, ◌&&◌, ◌||◌, ℕ, ◌+◌, ◌*◌, ◌≤◌, ◌<◌, List, [], length, get_or, eqb}
use Rattle.std.proofs.Common.{sym, ap, ◌∙◌, subst, le_trans, le_of_eq, arith, eqb-true}
use Rattle.tables.specs.declared.Geometry.{Geometry}
use Rattle.tables.specs.meaning.Basics.{pick}
use Rattle.tables.specs.meaning.Lists.{concat}
use Rattle.tables.specs.meaning.Geometry.{Valid, cells, stripe_sectors}
use Rattle.tables.specs.meaning.Placement.{stripe_of}
use Rattle.tables.specs.meaning.Device.{Device, ZoneView, Store}
use Rattle.tables.specs.meaning.Through.{through}
use Rattle.tables.specs.meaning.Tables.{Tables, device_of, cell, zone_place}
use Rattle.tables.specs.laws.Made.{Made}
use Rattle.logs.specs.meaning.Entry.{parity_zone, spare_zone}
use Rattle.logs.specs.meaning.Walk.{walk_log}
use Rattle.volume.specs.declared.roles.LogPlaces.{LogPlaces}
use Rattle.mounting.specs.declared.rooms.Plan.{Plan}
use Rattle.volume.specs.meaning.CallContracts.{is_set, roles_of, seen_in}
use Rattle.volume.specs.meaning.Content.{fill_of}
use Rattle.volume.specs.meaning.Rules.{Shown, ZoneShown, showing, parity_entries, known, zone_view, value_at}
use Rattle.volume.specs.meaning.Roles.{Roles, seen_as, says_nothing, zone_of_role, claim_of_kind, placed_by, emptied_roles, roles_after}
use Rattle.volume.specs.meaning.Emptying.{by_look}
use Rattle.volume.specs.meaning.Mount.{phases_of_parity_logs}
use Rattle.volume.specs.laws.LogPlaces.{with_roles, logs_of, Proper, roles_after_proper, zone_by_role, cell_by_role}
use Rattle.volume.specs.laws.RulesUnread.{entries_alike}
use Rattle.volume.specs.looking.Knowing.{read_device}
use Rattle.volume.specs.looking.HiddenLogs.{places_of, hidden_logs, hidden_all_long}
use Rattle.volume.specs.emptying.Carried.{new_place}
use Rattle.volume.specs.emptying.RoomMoves.{hidden_least}
use Rattle.volume.specs.emptying.ParityTurns.{ParitiesReady}
use Rattle.volume.specs.checks.Records.{zone_look, generations_shown, points_shown, generations_shown_long, generations_shown_at, points_shown_long, points_shown_at}
use Rattle.mounting.specs.MountLook.{log_stays}
use Rattle.mounting.specs.MountRooms.{lost_among, places_after, Planned}
use Rattle.mounting.specs.MountBetween.{middle_places, Between}
use Rattle.mounting.specs.MountBefore.{places_after_lem, middle_read}
use Rattle.mounting.specs.MountJoined.{parity_phases_lem, parity_flushed, parity_present}
use Rattle.mounting.specs.MountEnds.{end_places, parity_emptyings, ParityStepMade}
use Rattle.mounting.specs.PlannedPlaces.{HasKinds, kinds_after, parity_here, kinds_here, middle_of, middle_proper, middle_is, middle_geometry_lem}
use Rattle.volume.specs.looking.MovedLogs.{is_emptied, new_generation}

-- a drive that lacks no kind is seen where its roles place its zones
seen_through : (q : Roles) (zs : ℕ → ZoneView) (y : ℕ) → HasKinds q → seen_as q zs y ≡ zs (zone_of_role q y)
seen_through q zs y h = rw (h.0, h.1) (go (eqb y 0) (eqb y 1))
  where
    go : (b c : Bool) → pick (b && false || (c && false)) (says_nothing (zs (zone_of_role q y))) (zs (zone_of_role q y)) ≡ zs (zone_of_role q y)
    go true true = refl
    go true false = refl
    go false true = refl
    go false false = refl

-- WHAT THE CODE READS of it in tables u
pub role_read : (g : Geometry) → g.logs ≡ 0 → (q : ℕ → Roles) → ((d : ℕ) → Proper (q d)) → (u : Tables) → length u.written ≡ cells g → (d y : ℕ) → HasKinds (q d)
    → (read_device (with_roles g q) u.sectors (hidden_logs (places_of g q) u.written g.drives) d y).sectors ≡ (through (placed_by q) (device_of g u) d y).sectors
role_read g first q proper u long d y h =
    middle_read g first q proper u.sectors u.written u.durable (hidden_logs (places_of g q) u.written g.drives) long refl (device_of g u) refl d y
    ∙ ap (λ (z : ZoneView). z.sectors) (seen_through (q d) (device_of g u d) y h)

-- the entries of a parity log hang on its sectors
entries_at : (g : Geometry) (v w : Device) (d : ℕ) → (v d parity_zone).sectors ≡ (w d parity_zone).sectors → parity_entries g v d ≡ parity_entries g w d
unfolding parity_entries
entries_at g v w d e = ap (λ (ss : List (List ℕ)). (walk_log g d true ss).entries) e

-- ---- the logs' places, by what was planned
module _ (g : Geometry) (t : Tables) (p : Plan) (start : List ℕ) (k : Planned g t p start) where
  abbrev a : ℕ → Bool
  a = is_set p.here

  abbrev r : ℕ → Roles
  r = roles_of g t

  -- the roles once general logs are emptied, and once parity logs are
  abbrev middle : ℕ → Roles
  middle = middle_of g t p start k

  abbrev pub end_of : ℕ → Roles
  end_of = roles_after true (is_emptied p.parity.emptied) (middle_of g t p start k)

  proper : (d : ℕ) → Proper (middle d)
  proper = middle_proper g t p start k

  pub end_proper : (d : ℕ) → Proper (end_of d)
  end_proper = roles_after_proper true (is_emptied p.parity.emptied) middle proper

  emptied_in_lem : (d : ℕ) → is_emptied p.parity.emptied d ≡ true → is_set p.here d ≡ true
  emptied_in_lem = parity_here g t p start k

  middle_kinds : (d : ℕ) → is_set p.here d ≡ true → HasKinds (middle d)
  middle_kinds d h = kinds_after false (is_emptied p.general.emptied d) (r d) (kinds_here g t p start k d h)

  pub end_kinds : (d : ℕ) → is_set p.here d ≡ true → HasKinds (end_of d)
  end_kinds d h = kinds_after true (is_emptied p.parity.emptied d) (middle d) (middle_kinds d h)

  -- AS THE CODE HAS THEM
  pub end_is : end_places p ≡ places_of g end_of
  end_is = ap (λ (x : LogPlaces). places_after x true p.parity.emptied) (middle_is g t p start k) ∙ places_after_lem g middle proper true p.parity.emptied (λ d q. middle_kinds d (emptied_in_lem d q))

  from_is : (middle_places p).geometry ≡ with_roles g middle
  from_is = middle_geometry_lem g t p start k

  pub to_is : (end_places p).geometry ≡ with_roles g end_of
  to_is = ap (λ (x : LogPlaces). x.geometry) end_is

  drives_are : (middle_places p).geometry.drives ≡ g.drives
  drives_are = ap (λ (h : Geometry). h.drives) from_is

  zones_are : (middle_places p).geometry.zones ≡ g.zones
  zones_are = ap (λ (h : Geometry). h.zones) from_is

  -- a new parity log lies where the spare lay
  moved_place : (d : ℕ) → d < g.drives → is_emptied p.parity.emptied d ≡ true → zone_place (end_places p).geometry d parity_zone ≡ zone_place (middle_places p).geometry d spare_zone
  moved_place d hd q =
      ap (λ (h : Geometry). zone_place h d parity_zone) to_is ∙ zone_by_role g end_of end_proper d hd parity_zone ∙ new_place g a true middle (is_emptied p.parity.emptied) (λ n. []) d q
      ∙ sym (ap (λ (h : Geometry). zone_place h d spare_zone) from_is ∙ zone_by_role g middle proper d hd spare_zone)

  -- the others where they were
  log_cell : (d : ℕ) → d < g.drives → cell (end_places p).geometry d parity_zone ≡ cell (middle_places p).geometry d (pick (is_emptied p.parity.emptied d) spare_zone parity_zone)
  log_cell d hd =
      ap (λ (h : Geometry). cell h d parity_zone) to_is ∙ cell_by_role g k.first end_of end_proper d parity_zone hd ∙ ap (cell g d) (go (is_emptied p.parity.emptied d))
      ∙ sym (ap (λ (h : Geometry). cell h d (pick (is_emptied p.parity.emptied d) spare_zone parity_zone)) from_is ∙ cell_by_role g k.first middle proper d (pick (is_emptied p.parity.emptied d) spare_zone parity_zone) hd)
    where
      go : (b : Bool) → zone_of_role (pick b (emptied_roles true (middle d)) (middle d)) parity_zone ≡ zone_of_role (middle d) (pick b spare_zone parity_zone)
      go true = refl
      go false = refl

  -- ---- tables u that the mount has come to after step 9
  module _ (ok : Valid g) (ps : List ℕ) (u : Tables) (b : Between g t p ps u) where
    abbrev h1 : Geometry
    h1 = (middle_places p).geometry

    -- the pointers of the moment
    abbrev pub starts_of : List ℕ
    starts_of = hidden_logs (middle_places p) u.written (middle_places p).geometry.drives

    log_behind : (d y : ℕ) → d < h1.drives → y < 3 → get_or ps (cell h1 d y) 0 ≤ get_or u.written (cell h1 d y) 0
    log_behind d y hd hy = b.restoring.logging.behind.least d y hd (omega arith) (log_stays p.look y hy)

    small : (z : ℕ) → z < h1.zones → z < 16
    small z h = omega (arith, h, zones_are, ok.zones_most)

    logs_least : (d y : ℕ) → d < h1.drives → eqb y parity_zone ≡ true → get_or ps (cell (end_places p).geometry d y) 0 ≤ get_or u.written (cell (end_places p).geometry d y) 0
    logs_least d y hd q = rw (eqb-true y parity_zone q, log_cell d (rw drives_are at hd)) (log_behind d (pick (is_emptied p.parity.emptied d) spare_zone parity_zone) hd (go (is_emptied p.parity.emptied d)))
      where
        go : (c : Bool) → pick c spare_zone parity_zone < 3
        go true = omega arith
        go false = omega arith

    stripe_known : (z : ℕ) → z < h1.zones → (i : ℕ) → i < fill_of h1 (get_or (points_shown p.look) z 0)
        → known h1.drives h1.unit z (zone_view h1 a (read_device h1 u.sectors ps) z (get_or (generations_shown p.look) z 0)) (stripe_of h1.drives h1.unit (get_or (points_shown p.look) z 0) * stripe_sectors h1 + i) ≡ true
    stripe_known z hz i hi =
        let n = (zone_look p.look z).pointer in
        let below : i < fill_of h1 n = rw (points_shown_at p.look z (small z hz)) at hi in
        rw (generations_shown_at p.look z (small z hz), points_shown_at p.look z (small z hz)) ((b.restoring.known_below z hz).all_known (stripe_of h1.drives h1.unit n * stripe_sectors h1 + i) (omega arith))

    -- WHAT STEP 10 RELIES ON
    pub parities_ready : ParitiesReady (parity_emptyings p) (generations_shown p.look) (points_shown p.look) ps starts_of u.sectors u.written u.durable
    parities_ready =
        let l = b.restoring.logging in
        record {
          ready = record {
            shape = record { drives = refl; sector = refl; unit = refl; zones = refl; capacity = refl };
            moved = λ d hd q. moved_place d (rw drives_are at hd) q;
            sectors_long = l.sectors_long;
            written_long = l.written_long;
            durable_long = b.restoring.durable_long;
            pointers_long = hidden_all_long (middle_places p) u.written h1.drives ∙ l.written_long;
            behind = record { least = λ d y hd hy q. hidden_least (middle_places p) u.written h1.drives (cell (end_places p).geometry d y) };
          };
          pointers_long = l.pointers_long;
          behind = record { least = λ d y hd hy q. rw (eqb-true y spare_zone q) (log_behind d spare_zone hd (omega arith)) };
          starts_behind = record { least = λ d y hd hy q. hidden_least (middle_places p) u.written h1.drives (cell h1 d y) };
          logs_behind = record { least = λ d y hd hy q. logs_least d y hd q };
          in_zones = λ d y hd q hy. le_trans (b.in_zones d y (rw drives_are at hd) q (omega (arith, hy, zones_are))) (le_of_eq (sym (ap (λ (h : Geometry). h.capacity) from_is)));
          generations_long = omega (arith, zones_are, ok.zones_most, generations_shown_long p.look);
          pointers_within = record { long = omega (arith, zones_are, ok.zones_most, points_shown_long p.look); most = λ z hz. rw (points_shown_at p.look z (small z hz)) (l.within.pointer_most z hz) };
          known_if_made = λ d z hd q hz. record { stripe_known = λ c n i hi. stripe_known z hz i hi };
        }

    -- ---- its stores
    abbrev shown : Shown
    shown = showing g a (lost_among g p.here) (seen_in g t)

    entries : (d : ℕ) → is_emptied p.parity.emptied d ≡ true → parity_entries h1 (read_device h1 u.sectors starts_of) d ≡ parity_entries g (through (placed_by middle) (device_of g u)) d
    entries d q =
        let v = read_device (with_roles g middle) u.sectors (hidden_logs (places_of g middle) u.written g.drives) in
        let w = through (placed_by middle) (device_of g u) in
        let long : length u.written ≡ cells g = b.restoring.logging.written_long ∙ ap cells from_is in
        subst (λ (x : LogPlaces). parity_entries x.geometry (read_device x.geometry u.sectors (hidden_logs x u.written x.geometry.drives)) d ≡ parity_entries g (through (placed_by middle) (device_of g u)) d) (sym (middle_is g t p start k))
        (entries_alike g (logs_of middle g.drives) v d ∙ entries_at g v w d (role_read g k.first middle proper u long d parity_zone (middle_kinds d (emptied_in_lem d q))))

    force : (z : ℕ) → z < g.zones → (get_or (generations_shown p.look) z 0 ≡ (shown.zone z).generation) × (get_or (points_shown p.look) z 0 ≡ (shown.zone z).pointer)
        × (value_at h1 a (read_device h1 u.sectors ps) z (get_or (generations_shown p.look) z 0) ≡ (shown.zone z).value)
    force z hz =
        let low : z < 16 = omega (arith, hz, ok.zones_most) in
        let s = b.shown z hz in
        let n = generations_shown_at p.look z low in
        (n ∙ ap (λ (x : ZoneShown). x.generation) s, points_shown_at p.look z low ∙ ap (λ (x : ZoneShown). x.pointer) s, ap (value_at h1 a (read_device h1 u.sectors ps) z) n ∙ ap (λ (x : ZoneShown). x.value) s)

    claims : (d : ℕ) → is_emptied p.parity.emptied d ≡ true → new_generation p.parity.emptied d ≡ claim_of_kind true (middle d)
    claims d q = k.parity.generations_are d q ∙ go (is_emptied p.general.emptied d)
      where
        go : (c : Bool) → (r d).parity_claim ≡ (pick c (emptied_roles false (r d)) (r d)).parity_claim
        go true = refl
        go false = refl

    -- STEP 10 IS MADE
    pub parity_step_made : (mid rest : ℕ) (v : Tables) → ParityStepMade (parity_emptyings p) p.look ps starts_of mid rest u v → Made g mid rest (concat (phases_of_parity_logs g (is_set p.here) (lost_among g p.here) (device_of g t) (device_of g u))) u v
    parity_step_made mid rest v s =
        let all = parity_emptyings p in
        let gs = generations_shown p.look in
        let qs = points_shown p.look in
        let w = through (placed_by middle) (device_of g u) in
        let on = parity_present g k.first a middle proper all from_is refl to_is gs qs u.sectors ps starts_of (by_look shown) w (λ d hd q. entries d q) force claims emptied_in_lem in
        subst (λ (l : List (List Store)). Made g mid rest (concat l) u v) (sym (parity_phases_lem g a (lost_among g p.here) t (is_emptied p.general.emptied) (is_emptied p.parity.emptied) k.general.emptied_are k.parity.emptied_are (device_of g u)))
        (parity_flushed g k.first a middle proper all from_is refl to_is gs qs u.sectors ps starts_of (by_look shown) w (λ d hd q. entries d q) force claims mid rest u v (s.made on))
