-- Step 11 of a mount, after step 10: what it relies on, and that its stores are those of the rules; and with both the whole mount.
use Rattle.std.specs.Prelude.{◌≡◌, refl, Bool, false, ◌&&◌, ℕ, zero, suc, ◌<◌, List, [], ◌∷◌, length, eqb}
use Rattle.std.proofs.Common.{sym, ap, ◌∙◌, subst, arith}
use Rattle.std.proofs.Math.Path.{fun_ext}
use Rattle.std.proofs.Math.Bool.{true, not}
use Rattle.tables.specs.declared.Geometry.{Geometry}
use Rattle.tables.specs.meaning.Basics.{pick}
use Rattle.tables.specs.meaning.Below.{each_below}
use Rattle.tables.specs.meaning.Lists.{any_of, concat, is_nil}
use Rattle.tables.specs.meaning.Geometry.{Valid, cells}
use Rattle.tables.specs.meaning.Device.{Device, Store}
use Rattle.tables.specs.meaning.Phases.{flush_all, on_present}
use Rattle.tables.specs.meaning.Through.{through}
use Rattle.tables.specs.meaning.Tables.{Tables, device_of, cell}
use Rattle.tables.specs.laws.Made.{Made}
use Rattle.logs.specs.meaning.Entry.{parity_zone, Entry}
use Rattle.logs.specs.meaning.Heads.{ends_at}
use Rattle.logs.specs.meaning.Walk.{sectors_of}
use Rattle.volume.specs.declared.Look.{Look}
use Rattle.volume.specs.declared.roles.LogPlaces.{LogPlaces}
use Rattle.mounting.specs.declared.rooms.Plan.{Plan}
use Rattle.mounting.specs.declared.plan.Course.{Course}
use Rattle.mounting.specs.declared.Basis.{Basis}
use Rattle.volume.specs.meaning.Content.{inside_stripe, parity_drive_at, entry_at}
use Rattle.volume.specs.meaning.Calls.{append_all}
use Rattle.volume.specs.meaning.CallContracts.{is_set, seen_in, stores_before, stores_to_parity_logs, mount_stores_on}
use Rattle.volume.specs.meaning.Rules.{Shown, showing, parity_entries}
use Rattle.volume.specs.meaning.Roles.{placed_by}
use Rattle.volume.specs.meaning.Mount.{with_flush, entry_step, phases_of_entries}
use Rattle.volume.specs.laws.LogPlaces.{with_logs, with_roles, logs_of, OnDrives}
use Rattle.volume.specs.laws.RulesUnread.{entries_alike}
use Rattle.volume.specs.laws.CallsUnread.{entry_step_alike}
use Rattle.volume.specs.laws.MountDepends.{entry_depends}
use Rattle.volume.specs.laws.CarriedSteps.{concat_carried}
use Rattle.volume.specs.looking.Knowing.{read_device}
use Rattle.volume.specs.looking.HiddenLogs.{hidden_logs, hidden_all_long}
use Rattle.volume.specs.emptying.Carried.{on_drives_append, made_by_roles}
use Rattle.volume.specs.emptying.RoomMoves.{hidden_least}
use Rattle.volume.specs.emptying.ParityTurns.{ParitiesReady}
use Rattle.volume.specs.checks.Records.{generations_shown, points_shown}
use Rattle.mounting.specs.MountLook.{shown_with}
use Rattle.mounting.specs.MountValues.{shown_at, shown_in}
use Rattle.mounting.specs.MountRestoring.{below_kept}
use Rattle.mounting.specs.MountLastEntries.{Entering, entry_due, entry_stores_below}
use Rattle.mounting.specs.RestoreAgrees.{entries_told}
use Rattle.mounting.specs.MountRooms.{lost_among, Planned}
use Rattle.mounting.specs.MountBetween.{middle_places, Between, Before}
use Rattle.mounting.specs.MountOpened.{made_spent}
use Rattle.mounting.specs.MountJoined.{with_flush_on, entry_phases_lem, parity_joined, mount_joined}
use Rattle.mounting.specs.MountEnds.{end_places, parity_emptyings, course_of, ParityStepMade, EndsReady, EndsMade}
use Rattle.mounting.specs.PlannedPlaces.{middle_of, middle_geometry_lem, middle_valid, middle_cells}
use Rattle.mounting.specs.ParityLogsMade.{role_read, end_of, end_proper, end_kinds, end_is, to_is, starts_of, parities_ready, parity_step_made}
use Rattle.volume.specs.looking.MovedLogs.{is_emptied}

-- ---- the step's stores are on the drives of the geometry
module _ (g : Geometry) where
  each_on : (f : ℕ → List Store) (n : ℕ) → ((k : ℕ) → k < n → OnDrives g (f k)) → OnDrives g (each_below f n)
  each_on f zero h = tt
  each_on f (suc n) h = on_drives_append g (each_below f n) (f n) (each_on f n (λ k l. h k (omega arith))) (h n (omega arith))

  appends_on : (d y : ℕ) (ss : List (List ℕ)) → d < g.drives → OnDrives g (append_all d y ss)
  appends_on d y [] h = tt
  appends_on d y (s ∷ ss) h = (h, appends_on d y ss h)

  pick_on : (b : Bool) (xs : List Store) → OnDrives g xs → OnDrives g (pick b xs [])
  pick_on true xs h = h
  pick_on false xs h = tt

  entries_on_lem : (s : Shown) (u : Device) → OnDrives g (entry_step g s u)
  unfolding entry_step
  entries_on_lem s u = each_on _ g.drives (λ d hd. each_on _ g.zones (λ z hz.
      let rows = sectors_of g d true (entry_at g z (s.zone z).generation (s.zone z).value (s.zone z).pointer) in
      pick_on (inside_stripe g (s.zone z).pointer && (eqb d (parity_drive_at g z (s.zone z).pointer) && not (any_of (λ (e : Entry). ends_at g z (s.zone z).generation (s.zone z).pointer e.head) (parity_entries g u d))))
      (append_all d parity_zone rows) (appends_on d parity_zone rows hd)))

-- ---- as the code makes them they are the step of the rules (v: the device as read where the logs lie by then)
entries_by : (g : Geometry) (l m : ℕ) (k : Look) (value : ℕ → ℕ → List ℕ) (v : Device)
    → entry_stores_below (with_logs g l) k (shown_with k value) (parity_entries (with_logs g m) v) g.drives ≡ entry_step g (shown_with k value) v
unfolding entry_step entry_due
entries_by g l m k value v =
    ap (λ (es : ℕ → List Entry). entry_stores_below (with_logs g l) k (shown_with k value) es g.drives) (fun_ext λ d. entries_alike g m v d ∙ sym (entries_alike g l v d))
    ∙ entry_step_alike g l (shown_with k value) v

-- what the code's step has made by the basis b, with the logs at the places e after step 10
abbrev EntriesBy : Basis → List ℕ → ℕ → ℕ → Tables → Tables → LogPlaces → Type 0
EntriesBy b ps budget rest t u e =
    let shown = shown_at b.geometry b.here b.look t.sectors ps in
    let entries = parity_entries e.geometry (read_device e.geometry t.sectors (hidden_logs e t.written e.geometry.drives)) in
    Made e.geometry budget rest (concat (with_flush b.geometry (is_set b.here) (entry_stores_below b.geometry b.look shown entries b.geometry.drives))) t u

module _ (g : Geometry) (t : Tables) (p : Plan) (start : List ℕ) (k : Planned g t p start) (ok : Valid g) (ps : List ℕ) (u : Tables) (b : Between g t p ps u)
    (ss : List ℕ) (mid rest : ℕ) (v : Tables) (s : ParityStepMade (parity_emptyings p) p.look ps ss mid rest u v) where
  abbrev a : ℕ → Bool
  a = is_set p.here

  abbrev h1 : Geometry
  h1 = (middle_places p).geometry

  abbrev h2 : Geometry
  h2 = (end_places p).geometry

  -- the pointers of the moment
  abbrev end_starts : List ℕ
  end_starts = hidden_logs (end_places p) v.written (end_places p).geometry.drives

  -- WHAT STEP 11 RELIES ON
  entering_after : Entering (middle_places p).geometry (end_places p).geometry p.here p.look ps end_starts v.sectors v.written
  entering_after = record {
    appends = record {
      shape = record { drives_same = refl; sector_same = refl; unit_same = refl; zones_same = refl; capacity_same = refl };
      sectors_long = s.sized.sectors_long;
      written_long = s.sized.written_long;
      within = b.restoring.logging.within;
      behind = s.logs_behind;
      known_below = λ z l. below_kept h1 p.here p.look ps u.sectors v.sectors z s.sized.sectors_long s.device (b.restoring.known_below z l);
    };
    starts_long = hidden_all_long (end_places p) v.written h2.drives ∙ s.sized.written_long;
    starts_behind = record { least = λ d y hd hy q. hidden_least (end_places p) v.written h2.drives (cell h2 d y) };
  }

  -- ---- its stores
  abbrev shown : Shown
  shown = showing g a (lost_among g p.here) (seen_in g t)

  -- the look with its values, as they are read by then
  abbrev look : Shown
  look = shown_at h1 p.here p.look v.sectors ps

  look_is : (z : ℕ) → z < g.zones → look.zone z ≡ shown.zone z
  look_is z hz = ap (λ (w : Device). (shown_in h1 p.here p.look w).zone z) s.device ∙ b.shown z hz

  -- the device by the roles of the moment, as the code reads it and as the rules do
  abbrev read : Device
  read = read_device h2 v.sectors end_starts

  abbrev last : Device
  last = through (placed_by (end_of g t p start k)) (device_of g v)

  same_on : (d : ℕ) → a d ≡ true → (y : ℕ) → (read d y).sectors ≡ (last d y).sectors
  same_on d h y =
      let q = end_of g t p start k in
      let long : length v.written ≡ cells g = s.sized.written_long ∙ ap cells (middle_geometry_lem g t p start k) in
      subst (λ (x : LogPlaces). (read_device x.geometry v.sectors (hidden_logs x v.written x.geometry.drives) d y).sectors ≡ (last d y).sectors) (sym (end_is g t p start k))
      (role_read g k.first q (end_proper g t p start k) v long d y (end_kinds g t p start k d h))

  abbrev code_stores : Geometry → Geometry → List Store
  code_stores h to = entry_stores_below h p.look look (parity_entries to read) h.drives

  stores_are : on_present a (code_stores h1 h2) ≡ on_present a (entry_step g shown last)
  stores_are =
      let m = middle_of g t p start k in
      let q = end_of g t p start k in
      ap (λ (h : Geometry). on_present a (code_stores h h2)) (middle_geometry_lem g t p start k) ∙ ap (λ (h : Geometry). on_present a (code_stores (with_roles g m) h)) (to_is g t p start k)
      ∙ ap (on_present a) (entries_by g (logs_of m g.drives) (logs_of q g.drives) p.look (λ z. (look.zone z).value) read ∙ entries_told g look shown look_is read)
      ∙ entry_depends g a read last same_on shown

  -- STEP 11 IS MADE
  entries_made : (end : ℕ) (w : Tables) → EntriesBy (course_of p).basis ps rest end v w (end_places p)
      → Made g rest end (concat (phases_of_entries g (is_set p.here) (lost_among g p.here) (device_of g t) (device_of g v))) v w
  entries_made end w m =
      let q = end_of g t p start k in
      let step = entry_step g shown last in
      let flushed : ℕ → List Store → List (List Store) = λ n l. l ∷ pick (is_nil l) [] (on_present a (flush_all n)) ∷ [] in
      let same : with_flush h1 a (code_stores h1 h2) ≡ with_flush g a step = ap (λ (h : Geometry). flushed h.drives (on_present a (code_stores h1 h2))) (middle_geometry_lem g t p start k) ∙ ap (flushed g.drives) stores_are in
      let one : Made (with_roles g q) rest end (concat (with_flush g a step)) v w = subst (λ (h : Geometry). Made h rest end (concat (with_flush g a step)) v w) (to_is g t p start k) (subst (λ (l : List (List Store)). Made h2 rest end (concat l) v w) same m) in
      let phases = entry_phases_lem g a (lost_among g p.here) t (is_emptied p.general.emptied) (is_emptied p.parity.emptied) k.general.emptied_are k.parity.emptied_are (device_of g v) in
      subst (λ (l : List Store). Made g rest end l v w) (sym (ap concat phases ∙ concat_carried (placed_by q) (with_flush g a step)))
      (made_by_roles g k.first q (end_proper g t p start k) rest end (concat (with_flush g a step)) v w (with_flush_on g a step (entries_on_lem g shown last)) one)

-- ---- THE WHOLE MOUNT
module _ (g : Geometry) (t : Tables) (p : Plan) (start : List ℕ) (k : Planned g t p start) (ok : Valid g) (ps : List ℕ) (u : Tables) (b : Between g t p ps u) (budget mid : ℕ) (before : Before g t p budget mid ps u) where
  abbrev x : ℕ
  x = lost_among g p.here

  -- up to step 10
  up_to : (rest : ℕ) (v : Tables) → ParityStepMade (parity_emptyings p) p.look ps (starts_of g t p start k ok ps u b) mid rest u v → Made g budget rest (stores_to_parity_logs g (is_set p.here) x t) t v
  up_to rest v s = parity_joined g (is_set p.here) x t budget mid rest u v before.made (parity_step_made g t p start k ok ps u b mid rest v s)

  -- where the budget ends there
  whole_stopped : (v : Tables) → ParityStepMade (parity_emptyings p) p.look ps (starts_of g t p start k ok ps u b) mid 0 u v → Made g budget 0 (mount_stores_on g (is_set p.here) (lost_among g p.here) t) t v
  whole_stopped v s = mount_joined g (is_set p.here) x t budget 0 0 v v (up_to 0 v s) (made_spent g _ v)

  whole_made : (rest end : ℕ) (v w : Tables) → ParityStepMade (parity_emptyings p) p.look ps (starts_of g t p start k ok ps u b) mid rest u v
      → Made g rest end (concat (phases_of_entries g (is_set p.here) (lost_among g p.here) (device_of g t) (device_of g v))) v w → Made g budget end (mount_stores_on g (is_set p.here) (lost_among g p.here) t) t w
  whole_made rest end v w s m = mount_joined g (is_set p.here) x t budget rest end v w (up_to rest v s) m

-- where the budget ends before step 10
pub before_stopped : (g : Geometry) (a : ℕ → Bool) (x : ℕ) (t : Tables) (budget : ℕ) (u : Tables) → Made g budget 0 (stores_before g a x t) t u → Made g budget 0 (mount_stores_on g a x t) t u
before_stopped g a x t budget u m = mount_joined g a x t budget 0 0 u u (parity_joined g a x t budget 0 0 u u m (made_spent g _ u)) (made_spent g _ u)

-- ---- AS THE CODE HAS IT: what it goes by (q), pointers ss of the moment before step 10
module _ (p : Plan) (q : Course) (e : q ≡ course_of p) (ws ss : List ℕ) (h : ss ≡ hidden_logs q.middle ws q.middle.geometry.drives) where
  starts_of_lem : ss ≡ hidden_logs (middle_places p) ws (middle_places p).geometry.drives
  starts_of_lem = h ∙ ap (λ (x : Course). hidden_logs x.middle ws x.middle.geometry.drives) e

  -- what holds by the plan holds by the code, and the other way round
  to_code : (P : Course → List ℕ → Type 0) → P (course_of p) (hidden_logs (middle_places p) ws (middle_places p).geometry.drives) → P q ss
  to_code P x = subst (λ (y : Course). P y ss) (sym e) (subst (P (course_of p)) (sym starts_of_lem) x)

  from_code : (P : Course → List ℕ → Type 0) → P q ss → P (course_of p) (hidden_logs (middle_places p) ws (middle_places p).geometry.drives)
  from_code P x = subst (P (course_of p)) starts_of_lem (subst (λ (y : Course). P y ss) e x)

module _ (g : Geometry) (ok : Valid g) (p : Plan) (ps : List ℕ) (u : Tables) (r : EndsReady g p ps u) where
  valid_middle : Valid (middle_places p).geometry
  valid_middle = middle_valid g ok r.met p r.start r.planned

  cells_are : cells (middle_places p).geometry ≡ cells g
  cells_are = middle_cells g ok r.met p r.start r.planned

  module _ (q : Course) (e : q ≡ course_of p) where
    -- what the copy of the written pointers relies on (zs: its scratch)
    pub hiding_at : (zs : List ℕ) → length zs ≡ cells g → Valid q.middle.geometry × ((length u.written ≡ cells q.middle.geometry) × (length zs ≡ cells q.middle.geometry))
    hiding_at zs l =
        subst (λ (x : Course). Valid x.middle.geometry × ((length u.written ≡ cells x.middle.geometry) × (length zs ≡ cells x.middle.geometry))) (sym e) (valid_middle, (r.between.restoring.logging.written_long, l ∙ sym cells_are))

    module _ (ss : List ℕ) (h : ss ≡ hidden_logs q.middle u.written q.middle.geometry.drives) where
      abbrev asked : Course → List ℕ → Type 0
      asked x zs = Valid x.parity.from × ParitiesReady x.parity (generations_shown p.look) (points_shown p.look) ps zs u.sectors u.written u.durable

      -- STEP 10
      pub ready_at : asked q ss
      ready_at = to_code p q e u.written ss h asked (valid_middle, parities_ready g r.met p r.start r.planned ok ps u r.between)

      module _ (mid rest : ℕ) (v : Tables) (s : ParityStepMade q.parity p.look ps ss mid rest u v) where
        step_at : ParityStepMade (parity_emptyings p) p.look ps (hidden_logs (middle_places p) u.written (middle_places p).geometry.drives) mid rest u v
        step_at = from_code p q e u.written ss h (λ x zs. ParityStepMade x.parity p.look ps zs mid rest u v) s

        -- where the budget ends with it
        pub ends_stopped : rest ≡ 0 → EndsMade g p ps mid 0 u v
        ends_stopped z = record { whole = λ t start budget k before b. whole_stopped g t p start k ok ps u b budget mid before v (subst (λ (n : ℕ). ParityStepMade (parity_emptyings p) p.look ps (starts_of g t p start k ok ps u b) mid n u v) z step_at) }

        -- STEP 11 (zs: its scratch)
        abbrev entering : Course → List ℕ → Type 0
        entering x zs = Valid x.basis.geometry × (Entering x.basis.geometry x.end.geometry x.basis.here x.basis.look ps (hidden_logs x.end v.written x.end.geometry.drives) v.sectors v.written
            × ((length v.durable ≡ cells x.basis.geometry) × (length zs ≡ cells x.basis.geometry)))

        pub entering_at : (zs : List ℕ) → length zs ≡ cells g → entering q zs
        entering_at zs l =
            subst (λ (x : Course). entering x zs) (sym e) (valid_middle, (entering_after g r.met p r.start r.planned ok ps u r.between _ mid rest v step_at, (step_at.sized.durable_long, l ∙ sym cells_are)))

        abbrev entered : Course → ℕ → Tables → Type 0
        entered x end w = EntriesBy x.basis ps rest end v w x.end

        pub ends_made : (end : ℕ) (w : Tables) → entered q end w → EndsMade g p ps mid end u w
        ends_made end w n =
            let n' = subst (λ (x : Course). entered x end w) e n in
            record { whole = λ t start budget k before b. whole_made g t p start k ok ps u b budget mid before rest end v w step_at (entries_made g t p start k ok ps u b _ mid rest v step_at end w n') }
