-- A mount between its step 2 and step 9 (src/mount.rt, `restore_before`): with the logs opened, where they lie by then (`middle_places`), what the code
-- reads there is what it found at the start, with general logs emptied; so its plan's look serves steps 3 to 9. (p: the plan; t: the tables that the mount met;
-- u: those with the logs opened; budget, mid: what was there of the budget before and after that.)
use Rattle.std.specs.Prelude.{◌≡◌, refl, ◌≢◌, Bool, true, false, ℕ, ◌-◌, ◌≤◌, ◌<◌, List, length, get_or}
use Rattle.std.proofs.Common.{sym, ap, ap₂, ◌∙◌, subst, arith}
use Rattle.tables.specs.declared.Geometry.{Geometry}
use Rattle.tables.specs.meaning.Lists.{concat}
use Rattle.tables.specs.meaning.Geometry.{Valid, physical_zones, cells}
use Rattle.tables.specs.meaning.Device.{Device}
use Rattle.tables.specs.meaning.Tables.{Tables, device_of, cell}
use Rattle.tables.specs.laws.ZonePlaces.{place_in}
use Rattle.tables.specs.laws.Made.{Made}
use Rattle.tables.specs.laws.PointerOrder.{run_most}
use Rattle.mounting.specs.declared.Basis.{Basis}
use Rattle.volume.specs.declared.Look.{Look}
use Rattle.volume.specs.declared.roles.LogPlaces.{LogPlaces}
use Rattle.mounting.specs.declared.rooms.Plan.{Plan}
use Rattle.volume.specs.meaning.CallContracts.{is_set, roles_of, seen_in}
use Rattle.volume.specs.meaning.Rules.{Shown, showing}
use Rattle.volume.specs.meaning.Roles.{Roles, zone_of_role, roles_after}
use Rattle.volume.specs.meaning.Emptying.{by_look}
use Rattle.volume.specs.meaning.Mount.{counters_differ, phases_of_logs}
use Rattle.volume.specs.laws.LogPlaces.{with_logs, with_roles, logs_of, Proper, valid_with_logs, zone_by_role, cell_by_role}
use Rattle.volume.specs.laws.EmptyingStored.{seen_by}
use Rattle.volume.specs.looking.Knowing.{read_device}
use Rattle.volume.specs.looking.HiddenLogs.{places_of, hidden_logs, hidden_all_long}
use Rattle.volume.specs.looking.Looking.{looks_from, look_of, Lookable}
use Rattle.volume.specs.emptying.RoomMoves.{hidden_least}
use Rattle.mounting.specs.MountValues.{shown_at, shown_in, Restoring}
use Rattle.mounting.specs.MountSteps.{step_list, StepsMade, Restored}
use Rattle.mounting.specs.MountStart.{shown_here, shown_at_lem, restoring_from}
use Rattle.mounting.specs.MountRooms.{lost_among, Planned}
use Rattle.mounting.specs.MountOpened.{made_spent}
use Rattle.mounting.specs.MountEmptied.{logs_sized, logs_emptied}
use Rattle.mounting.specs.MountBefore.{middle_stores, before_joined, middle_read}
use Rattle.mounting.specs.MountMiddle.{middle_look, middle_shown, middle_steps, middle_made}
use Rattle.mounting.specs.MountBetween.{middle_places, middle_geometry, Before}
use Rattle.mounting.specs.PlannedPlaces as places
use Rattle.mounting.specs.PlannedPlaces.{middle_proper, middle_is, middle_geometry_lem}
use Rattle.volume.specs.looking.MovedLogs.{is_emptied}

-- a look's numbers do not speak of where logs lie
look_alike : (g : Geometry) (n : ℕ) (s : Shown) → look_of (with_logs g n) s ≡ look_of g s
unfolding looks_from
look_alike g n s = refl

module _ (g : Geometry) (ok : Valid g) (t : Tables) (p : Plan) (qs : List ℕ) (k : Planned g t p qs) where
  abbrev a : ℕ → Bool
  a = is_set p.here

  abbrev x : ℕ
  x = lost_among g p.here

  abbrev e : ℕ → Bool
  e = is_emptied p.general.emptied

  -- the roles after step 2
  abbrev r1 : ℕ → Roles
  r1 = roles_after false (is_emptied p.general.emptied) (roles_of g t)

  proper : (d : ℕ) → Proper (r1 d)
  proper = middle_proper g t p qs k

  geometry_is : middle_geometry p ≡ with_roles g r1
  geometry_is = middle_geometry_lem g t p qs k

  -- as many pointers as written ones
  pub planned_long : length qs ≡ cells g
  planned_long = places.planned_long g t p qs k

  -- THE BUDGET ENDS with the logs
  pub before_stopped : (budget : ℕ) (ps : List ℕ) (u : Tables) → Made g budget 0 (concat (phases_of_logs g (is_set p.here) (lost_among g p.here) (device_of g t))) t u → Before g t p budget 0 ps u
  before_stopped budget ps u m = record {
    made = before_joined g a x t e k.general.emptied_are budget 0 0 u u m (made_spent g (middle_stores g a x t e k.general.emptied_are) u);
    between = λ n. absurd (n refl);
  }

  -- ---- THE LOGS ARE OPENED (ps: the written pointers of then, without those of logs that lack)
  module _ (budget mid : ℕ) (u : Tables) (m : Made g budget mid (concat (phases_of_logs g (is_set p.here) (lost_among g p.here) (device_of g t))) t u) (some : mid ≢ 0)
      (ps : List ℕ) (hidden : ps ≡ hidden_logs (middle_places p) u.written (middle_places p).geometry.drives) where
    abbrev h : Geometry
    h = with_roles g r1

    valid_h : Valid (with_roles g r1)
    valid_h = valid_with_logs g (logs_of r1 g.drives) ok

    abbrev w1 : Device
    w1 = seen_by r1 (device_of g u)

    hidden_h : ps ≡ hidden_logs (places_of g r1) u.written g.drives
    hidden_h = hidden ∙ ap (λ (q : LogPlaces). hidden_logs q u.written q.geometry.drives) (middle_is g t p qs k)

    long : length u.written ≡ cells g
    long = (logs_sized g ok t p qs k budget mid u m).written_long

    read_is : (d y : ℕ) → (read_device (with_roles g r1) u.sectors ps d y).sectors ≡ (seen_by r1 (device_of g u) d y).sectors
    read_is d y = middle_read g k.first r1 proper u.sectors u.written u.durable ps long hidden_h (device_of g u) refl d y

    -- ---- pointers
    behind_h : (d y : ℕ) → d < g.drives → y < physical_zones g → get_or ps (cell (with_roles g r1) d y) 0 ≤ get_or u.written (cell (with_roles g r1) d y) 0
    behind_h d y hd hy = subst (λ (us : List ℕ). get_or us (cell h d y) 0 ≤ get_or u.written (cell h d y) 0) (sym hidden_h) (hidden_least (places_of g r1) u.written g.drives (cell h d y))

    written_most : (d y : ℕ) → d < g.drives → is_set p.here d ≡ true → y < physical_zones g → get_or u.written (cell g d y) 0 ≤ g.capacity
    written_most d y hd q hy = rw m.tables_are (run_most g (budget - 1) (concat (phases_of_logs g a x (device_of g t))) t (cell g d y) (k.in_zones d y hd q hy))

    pointers_most : (d y : ℕ) → d < g.drives → is_set p.here d ≡ true → y < physical_zones g → get_or ps (cell (with_roles g r1) d y) 0 ≤ g.capacity
    pointers_most d y hd q hy =
        let in_h : zone_of_role (r1 d) y < physical_zones g = rw (zone_by_role g r1 proper d hd y) at (place_in (with_roles g r1) d y hy) in
        let c : get_or u.written (cell h d y) 0 ≡ get_or u.written (cell g d (zone_of_role (r1 d) y)) 0 = ap (λ (n : ℕ). get_or u.written n 0) (cell_by_role g k.first r1 proper d y hd) in
        omega (arith, behind_h d y hd hy, c, written_most d (zone_of_role (r1 d) y) hd q in_h)

    lookable_h : Lookable (with_roles g r1) p.here u.sectors ps
    lookable_h = record {
      sectors_long = (logs_sized g ok t p qs k budget mid u m).sectors_long;
      written_long = ap length hidden_h ∙ hidden_all_long (places_of g r1) u.written g.drives ∙ long;
      pointers = pointers_most;
    }

    -- ---- the look
    abbrev found : Look
    found = middle_look g (logs_of r1 g.drives) valid_h p.here u.sectors ps w1 read_is

    shown_then : shown_here (with_roles g r1) valid_h p.here u.sectors ps ≡ showing g (is_set p.here) (lost_among g p.here) (seen_in g t)
    shown_then = middle_shown g (logs_of r1 g.drives) valid_h p.here u.sectors ps w1 read_is (by_look (showing g a x (seen_in g t))) (roles_of g t) e (seen_in g t) (logs_emptied g ok t p qs k budget mid u m some)

    look_then : p.look ≡ found
    look_then = k.look ∙ sym (look_alike g (logs_of r1 g.drives) (showing g a x (seen_in g t))) ∙ ap (look_of h) (sym shown_then)

    -- WHAT STEPS 3 TO 9 RELY ON
    pub middle_restoring : Restoring (middle_geometry p) p.here p.look ps u
    middle_restoring =
        let sized = logs_sized g ok t p qs k budget mid u m in
        let r : Restoring h p.here found ps u = restoring_from h valid_h p.here u.sectors ps u.written u.durable lookable_h long sized.durable_long (record { least = λ d z hd hz b. behind_h d z hd hz }) in
        subst (λ (l : Look). Restoring (middle_geometry p) p.here l ps u) (sym look_then) (subst (λ (c : Geometry). Restoring c p.here found ps u) (sym geometry_is) r)

    -- THE STEPS ARE MADE (v: the tables after them)
    module _ (rest : ℕ) (v : Tables) (made : Restored (record { geometry = middle_geometry p; here = p.here; look = p.look; differ = p.differ }) ps mid rest u v) where
      abbrev differ : Bool
      differ = counters_differ g (is_set p.here) (seen_in g t)

      basis_is : ◌≡◌ {A = Basis} (record { geometry = middle_geometry p; here = p.here; look = p.look; differ = p.differ }) (record { geometry = with_roles g r1; here = p.here; look = found; differ = differ })
      basis_is =
          ap₂ (λ (c : Geometry) (l : Look). let b : Basis = record { geometry = c; here = p.here; look = l; differ = p.differ } in b) geometry_is look_then
          ∙ ap (λ (i : Bool). let b : Basis = record { geometry = with_roles g r1; here = p.here; look = found; differ = i } in b) k.differ

      steps_then : StepsMade (with_roles g r1) p.here ps mid rest (step_list (with_roles g r1) p.here found differ) u v
      steps_then = (subst (λ (b : Basis). Restored b ps mid rest u v) basis_is made).steps

      steps_made : Made g mid rest (middle_stores g a x t e k.general.emptied_are) u v
      steps_made =
          let f = by_look (showing g a x (seen_in g t)) in
          let are = middle_steps g (logs_of r1 g.drives) valid_h p.here u.sectors ps w1 read_is f (roles_of g t) e (seen_in g t) (logs_emptied g ok t p qs k budget mid u m some) in
          middle_made g k.first r1 proper p.here ps mid rest (step_list h p.here found differ) x (showing g a x (seen_in g t)) (seen_in g t) u v are steps_then

      shown_after : (z : ℕ) → z < g.zones → (shown_at (middle_geometry p) p.here p.look v.sectors ps).zone z ≡ (showing g (is_set p.here) (lost_among g p.here) (seen_in g t)).zone z
      shown_after z hz =
          ap (λ (d : Device). (shown_in (middle_geometry p) p.here p.look d).zone z) made.steps.same_device
          ∙ ap₂ (λ (c : Geometry) (l : Look). (shown_at c p.here l u.sectors ps).zone z) geometry_is look_then
          ∙ shown_at_lem h valid_h p.here u.sectors ps z hz ∙ ap (λ (s : Shown). s.zone z) shown_then

      pub before_made : Before g t p budget rest ps v
      before_made = record {
        made = before_joined g a x t e k.general.emptied_are budget mid rest u v m steps_made;
        between = λ n. record {
          restoring = made.restoring;
          shown = shown_after;
          in_zones = λ d y hd q hy. subst (λ (c : Geometry). get_or ps (cell c d y) 0 ≤ g.capacity) (sym geometry_is) (pointers_most d y hd q hy);
        };
      }
