-- A look by what its survey found (src/looking.rt): the geometry h that places the logs, the drives present, the pointers ps. By them its refusals, and
-- what it shows, are those of the device by its roles. A mount begins so too.
use Rattle.std.specs.Prelude.{◌≡◌, refl, Bool, true, ◌||◌, List, [], ◌∷◌, length, get_or, ltb}
use Rattle.std.proofs.Math.Path.{sym, ap₂, fun_ext}
use Rattle.std.proofs.Common.{ap, subst, ◌∙◌, arith, eq-eqb}
use Rattle.std.proofs.Math.Bool.{not}
use Prim.Native.Nat.{ℕ, ◌≤◌, ◌<◌}
use Rattle.tables.specs.declared.Geometry.{Geometry}
use Rattle.tables.specs.meaning.Below.{count_below}
use Rattle.tables.specs.meaning.Drives.{find_below}
use Rattle.tables.specs.meaning.Geometry.{physical_zones}
use Rattle.tables.specs.meaning.Device.{Device}
use Rattle.tables.specs.meaning.Tables.{tables_of, device_of, cell, zone_place}
use Rattle.tables.specs.laws.TablesFrame.{pointers_good}
use Rattle.volume.specs.meaning.RefusalNumbers.{number_of}
use Rattle.volume.specs.declared.State.{State}
use Rattle.volume.specs.declared.Outcome.{Outcome}
use Rattle.volume.specs.declared.Answer.TheVariants.{Finished}
use Rattle.volume.specs.declared.looking.Survey.{Survey}
use Rattle.volume.specs.meaning.Rules.{is_present, lost_drive}
use Rattle.volume.specs.meaning.Refusals.{first_refusal, two_lost, kind_lacks, bad_labels, bad_logs, first_bad_place}
use Rattle.volume.specs.meaning.Answers.{present_in, lost_drive_in}
use Rattle.volume.specs.meaning.Roles.{Roles, zone_of_role, placed_by}
use Rattle.volume.specs.meaning.CallContracts.{is_set, verdict_number, roles_of, seen_in, look_verdict, look_on, bad_place_on, state_held}
use Rattle.volume.specs.laws.LogPlaces.{with_logs}
use Rattle.volume.specs.laws.RulesUnread.{is_present_alike, lost_drive_alike}
use Rattle.volume.specs.laws.CallsUnread.{two_lost_alike, bad_labels_alike, bad_logs_alike, bad_place_alike}
use Rattle.volume.specs.laws.BadPlaces.{first_bad_depends}
use Rattle.volume.specs.looking.DrivesLost.{two_lost_is, lost_drive_is}
use Rattle.volume.specs.looking.HiddenLogs.{roles_durable}
use Rattle.volume.specs.looking.Knowing.{read_device}
use Rattle.volume.specs.looking.SeenByRoles.{Seen, kind_lacks_on, seen_place, seen_geometry, seen_sized, seen_read, seen_good, seen_lacks}
use Rattle.volume.specs.looking.Looking.{shape_number, shaped, log_number, present_read, lost_drive_read, two_lost_read, labels_read, logs_read, bad_place_read, look_late, present_named, present_below, Lookable}
use Rattle.volume.specs.looking.ShownState.{HereBelow, state_seen, seen_state}
use Rattle.volume.specs.meaning.Mount.{shown_state}

pub record Surveyed (g : Geometry) (named : List Bool) (xs ws : List ℕ) (v : Survey) (ps : List ℕ) : Type 0 where
  pub seen : Seen g xs ws v.places ps
  pub present : is_set v.here ≡ is_present v.places.geometry (is_set named) (read_device v.places.geometry xs ps)
  pub refused : number_of v.refusal ≡ log_number v.places v.here (read_device v.places.geometry xs ps)
  pub bad_is : v.bad ≡ first_bad_place v.places.geometry (is_set v.here) (zone_place v.places.geometry) (read_device v.places.geometry xs ps)

-- rows 4 to 6 by what each asks
abbrev rows_by : Bool → Bool → Bool → Bool → ℕ
rows_by two kind labels logs = verdict_number (first_refusal ((4, two) ∷ (5, kind || labels) ∷ (6, logs) ∷ []))

module _ (g : Geometry) (named : List Bool) (xs ws : List ℕ) (v : Survey) (ps : List ℕ) (s : Surveyed g named xs ws v ps) (ds : List ℕ) where
  -- ---- the rules, by the survey (h: the geometry; u: the tables by it)
  abbrev h : Geometry
  h = v.places.geometry

  abbrev u : Device
  u = read_device v.places.geometry xs ps

  -- the device by its roles
  abbrev w : Device
  w = seen_in g (tables_of xs ws ds)

  pub survey_present : is_set v.here ≡ present_in g (is_set named) (device_of g (tables_of xs ws ds))
  survey_present = s.present ∙ sym (seen_read g xs ws v.places ps s.seen (λ (k : Geometry) (x : Device). is_present k (is_set named) x) (λ n x. is_present_alike g n (is_set named) x) ds (present_read h xs ps ds (is_set named)))

  pub survey_lost : find_below (λ d. not (is_set v.here d)) h.drives ≡ lost_drive_in g (is_set named) (device_of g (tables_of xs ws ds))
  survey_lost =
      lost_drive_is h named v.here u s.present
      ∙ sym (seen_read g xs ws v.places ps s.seen (λ (k : Geometry) (x : Device). lost_drive k (is_set named) x) (λ n x. lost_drive_alike g n (is_set named) x) ds (lost_drive_read h xs ps ds (is_set named)))

  pub survey_below : HereBelow h v.here
  survey_below d p = present_below h (is_set named) u d (ap (λ (q : ℕ → Bool). q d) (sym s.present) ∙ p)

  -- what a rule of the present drives says
  by_present : {A : Type 0} (rule : Geometry → (ℕ → Bool) → Device → A) → ((n : ℕ) (x : Device) → rule (with_logs g n) (is_set v.here) x ≡ rule g (is_set v.here) x)
      → rule h (is_set v.here) (device_of h (tables_of xs ps ds)) ≡ rule h (is_set v.here) u
      → rule h (is_set v.here) u ≡ rule g (is_present g (is_set named) w) w
  by_present rule alike durable =
      sym (seen_read g xs ws v.places ps s.seen (λ (k : Geometry) (x : Device). rule k (is_set v.here) x) alike ds durable)
      ∙ ap (λ (q : ℕ → Bool). rule g q w) survey_present

  two_is : ltb 1 (count_below (λ d. not (is_set v.here d)) h.drives) ≡ two_lost g (is_set named) w
  two_is =
      two_lost_is h named v.here u s.present
      ∙ sym (seen_read g xs ws v.places ps s.seen (λ (k : Geometry) (x : Device). two_lost k (is_set named) x) (λ n x. two_lost_alike g n (is_set named) x) ds (two_lost_read h xs ps ds (is_set named)))

  kind_is : kind_lacks_on v.places v.here ≡ kind_lacks g (is_present g (is_set named) w) (roles_of g (tables_of xs ws ds))
  kind_is =
      seen_lacks g xs ws v.places ps s.seen v.here
      ∙ ap₂ (λ (q : ℕ → Bool) (r : ℕ → Roles). kind_lacks g q r) survey_present (sym (roles_durable g xs ws ds))

  labels_are : bad_labels h (is_set v.here) u ≡ bad_labels g (is_present g (is_set named) w) w
  labels_are = by_present bad_labels (λ n x. bad_labels_alike g n (is_set v.here) x) (labels_read h xs ps ds (is_set v.here))

  logs_are : bad_logs h (is_set v.here) u ≡ bad_logs g (is_present g (is_set named) w) w
  logs_are = by_present bad_logs (λ n x. bad_logs_alike g n (is_set v.here) x) (logs_read h xs ps ds (is_set v.here))

  -- ---- THE REFUSAL is the look's, in tables of the right shape
  pub survey_refusal : shape_number g named (length xs) ws ds ≡ 0 → number_of v.refusal ≡ verdict_number (look_verdict g named (tables_of xs ws ds))
  unfolding log_number
  survey_refusal e = s.refused ∙ (λ i. rows_by (two_is i) (kind_is i) (labels_are i) (logs_are i)) ∙ sym (look_late g named xs ws ds e)

  -- and where a log is bad, its place
  placed_is : (d : ℕ) → d < g.drives → zone_place h d ≡ placed_by (roles_of g (tables_of xs ws ds)) d
  placed_is d hd = fun_ext λ y. seen_place g xs ws v.places ps s.seen d y hd ∙ ap (λ (r : ℕ → Roles). zone_of_role (r d) y) (sym (roles_durable g xs ws ds))

  pub survey_bad : v.bad ≡ bad_place_on g named (tables_of xs ws ds)
  survey_bad =
      s.bad_is
      ∙ by_present (λ (k : Geometry) (q : ℕ → Bool) (x : Device). first_bad_place k q (zone_place h) x) (λ n x. bad_place_alike g n (is_set v.here) (zone_place h) x) (bad_place_read h xs ps ds (is_set v.here) (zone_place h))
      ∙ first_bad_depends g (is_present g (is_set named) w) w w (λ d p y. refl) (zone_place h) (placed_by (roles_of g (tables_of xs ws ds))) (λ d hd p. placed_is d hd)

  -- what the deed needs
  pub survey_lookable : shape_number g named (length xs) ws ds ≡ 0 → Lookable h v.here xs ps
  survey_lookable e =
      let (ok, a, b, c) = shaped g named (length xs) ws ds e in
      let good : (d y : ℕ) → d < g.drives → is_set v.here d ≡ true → y < physical_zones g → get_or ws (cell g d y) 0 ≤ g.capacity =
      λ d y hd p hy. (pointers_good g named ws ds d y c hd (present_named h (is_set named) u d (ap (λ (q : ℕ → Bool). q d) (sym s.present) ∙ p)) hy).0 in
      let same = seen_geometry g xs ws v.places ps s.seen in
      let drives_are : h.drives ≡ g.drives = ap (λ (k : Geometry). k.drives) same in
      let zones_are : h.zones ≡ g.zones = ap (λ (k : Geometry). k.zones) same in
      let capacity_is : h.capacity ≡ g.capacity = ap (λ (k : Geometry). k.capacity) same in
      record {
        sectors_long = (seen_sized g xs ws v.places ps s.seen).sectors_long;
        written_long = (seen_sized g xs ws v.places ps s.seen).written_long;
        pointers = λ d y hd p hy. subst (λ (n : ℕ). get_or ps (cell h d y) 0 ≤ n) (sym capacity_is) (seen_good g xs ws v.places ps s.seen v.here good d y (omega (arith, hd, drives_are)) p (omega (arith, hy, zones_are)));
      }

  -- ---- THE OUTCOME (q: the state that the drives show)
  pub survey_finished : (old : State) → shape_number g named (length xs) ws ds ≡ 0 → number_of v.refusal ≡ 0 → (q : State) → q ≡ state_seen v.places v.here xs ps
      → ◌≡◌ {A = Outcome} (record { answer = Finished; state = q }) (look_on g named old (tables_of xs ws ds))
  unfolding look_on
  survey_finished old shape passed q e =
      let x = device_of g (tables_of xs ws ds) in
      let same : find_below (λ d. not (is_set v.here d)) g.drives ≡ find_below (λ d. not (is_set v.here d)) h.drives = sym (ap (λ (k : Geometry). find_below (λ d. not (is_set v.here d)) k.drives) (seen_geometry g xs ws v.places ps s.seen)) in
      let shown : q ≡ state_held g.zones (shown_state g (present_in g (is_set named) x) (lost_drive_in g (is_set named) x) x) =
      e ∙ seen_state g xs ws v.places ps s.seen ds v.here survey_below ∙ ap₂ (λ (a : ℕ → Bool) (y : ℕ). state_held g.zones (shown_state g a y x)) survey_present (same ∙ survey_lost) in
      rw (eq-eqb (verdict_number (look_verdict g named (tables_of xs ws ds))) 0 (sym (survey_refusal shape) ∙ passed)) (ap (λ (y : State). record { answer = Finished; state = y }) shown)
