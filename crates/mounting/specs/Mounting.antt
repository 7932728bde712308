-- A mount on the tables: its refusals; what a mount that none of them stopped leaves; the state that it hands on.
use Rattle.std.specs.Prelude.{◌≡◌, refl, ◌≢◌, Bool, true, false, ◌||◌, not, List, [], ◌∷◌, eqb}
use Rattle.std.proofs.Math.Path.{sym, ap, ap₂}
use Rattle.std.proofs.Common.{subst, ◌∙◌, arith}
use Prim.Native.Nat.{ℕ, suc, ◌-◌, ◌≤◌, ◌<◌}
use Rattle.std.proofs.Math.Decide.{ℕ_discrete}
use Rattle.std.proofs.Math.ListN.{length}
use borrow.Author.Tests.{eq-eqb, ne_eqb}
use Rattle.tables.specs.declared.Geometry.{Geometry}
use Rattle.tables.specs.meaning.Basics.{pick}
use Rattle.tables.specs.meaning.Device.{Store}
use Rattle.tables.specs.meaning.Geometry.{Valid}
use Rattle.tables.specs.meaning.GeometryTest.{is_valid}
use Rattle.tables.specs.meaning.Tables.{Tables, tables_of, cell, device_of, run_stores}
use Rattle.tables.specs.laws.Made.{Made}
use Rattle.tables.specs.laws.Counted.{run_covered}
use Rattle.tables.specs.laws.PointerOrder.{run_most}
use Rattle.volume.specs.meaning.RefusalNumbers.{number_of}
use Rattle.volume.specs.declared.State.{State}
use Rattle.volume.specs.declared.Outcome.{Outcome}
use Rattle.volume.specs.declared.Answer.{Answer}
use Rattle.volume.specs.declared.Answer.TheVariants.{Finished, Unfinished, Refused}
use Rattle.volume.specs.declared.BadPlace.{BadPlace}
use Rattle.volume.specs.declared.looking.Survey.{Survey}
use Rattle.mounting.specs.declared.rooms.Plan.{Plan}
use Rattle.volume.specs.declared.roles.LogPlaces.{LogPlaces}
use Rattle.volume.specs.meaning.Rules.{showing}
use Rattle.volume.specs.meaning.Emptying.{by_look}
use Rattle.volume.specs.meaning.Refusals.{first_refusal, mount_rows, look_rows, tables_fit, two_lost, kind_lacks, bad_labels, bad_logs, mount_full}
use Rattle.volume.specs.meaning.Answers.{present_in, lost_drive_in, refused_at}
use Rattle.volume.specs.meaning.CallContracts.{is_set, verdict_number, lengths_of, bad_in, Result, storing_on, roles_of, seen_in, look_verdict, mount_verdict, mount_stores_on, mount_shown_on, telling_at, mount_on, bad_place_on, state_held}
use Rattle.volume.specs.laws.BadPlaces.{refused_plain, told_plain}
use Rattle.volume.specs.laws.CallContracts.{storing_unfinished, storing_finished}
use Rattle.volume.specs.looking.Looking.{Lookable, lookable_zone, shape_number, shape_most, look_shape}
use Rattle.volume.specs.looking.SeenByRoles.{Seen, seen_geometry, seen_readable}
use Rattle.volume.specs.looking.ShownState.{HereBelow, state_seen, seen_state}
use Rattle.volume.specs.looking.Surveying.{Surveyed, survey_present, survey_lost, survey_refusal, survey_bad}
use Rattle.volume.specs.meaning.Mount.{shown_state}
use Rattle.mounting.specs.MountRooms.{lost_among, Planned}
use Rattle.mounting.specs.MountPlan.{Planning}

-- ---- the refusal: a look's, or 14
after_six : (a b c d e f h : Bool) → verdict_number (first_refusal ((1, a) ∷ (2, b) ∷ (3, c) ∷ (4, d) ∷ (5, e) ∷ (6, f) ∷ (14, h) ∷ []))
    ≡ pick (eqb (verdict_number (first_refusal ((1, a) ∷ (2, b) ∷ (3, c) ∷ (4, d) ∷ (5, e) ∷ (6, f) ∷ []))) 0) (pick h 14 0) (verdict_number (first_refusal ((1, a) ∷ (2, b) ∷ (3, c) ∷ (4, d) ∷ (5, e) ∷ (6, f) ∷ [])))
after_six true b c d e f h = refl
after_six false true c d e f h = refl
after_six false false true d e f h = refl
after_six false false false true e f h = refl
after_six false false false false true f h = refl
after_six false false false false false true h = refl
after_six false false false false false false true = refl
after_six false false false false false false false = refl

-- row 14 (a: the drives that are here; x: the one that is not)
abbrev full_on : Geometry → (ℕ → Bool) → ℕ → Tables → Bool
full_on g a x t = mount_full g a (roles_of g t) (by_look (showing g a x (seen_in g t))) (seen_in g t)

module _ (g : Geometry) (named : List Bool) (t : Tables) where
  mount_number : verdict_number (mount_verdict g named t)
      ≡ pick (eqb (verdict_number (look_verdict g named t)) 0) (pick (full_on g (present_in g (is_set named) (device_of g t)) (lost_drive_in g (is_set named) (device_of g t)) t) 14 0) (verdict_number (look_verdict g named t))
  unfolding mount_verdict look_verdict mount_rows look_rows
  mount_number =
      let w = seen_in g t in
      let p = present_in g (is_set named) (device_of g t) in
      after_six (not (is_valid g)) (not (tables_fit g (lengths_of t))) (bad_in g named t) (two_lost g (is_set named) w) (kind_lacks g p (roles_of g t) || bad_labels g p w) (bad_logs g p w)
      (full_on g p (lost_drive_in g (is_set named) (device_of g t)) t)

  refused_by_look : (n : ℕ) → n ≡ verdict_number (look_verdict g named t) → n ≢ 0 → n ≡ verdict_number (mount_verdict g named t)
  refused_by_look n e h = sym (mount_number ∙ rw (← e, ne_eqb n 0 h) refl)

  by_room : verdict_number (look_verdict g named t) ≡ 0 → (a : ℕ → Bool) (x : ℕ) → a ≡ present_in g (is_set named) (device_of g t) → x ≡ lost_drive_in g (is_set named) (device_of g t)
      → verdict_number (mount_verdict g named t) ≡ pick (full_on g a x t) 14 0
  by_room z a x here lost =
      mount_number ∙ rw (eq-eqb (verdict_number (look_verdict g named t)) 0 z) refl
      ∙ ap₂ (λ (p : ℕ → Bool) (y : ℕ). pick (full_on g p y t) 14 0) (sym here) (sym lost)

-- ---- a mount that no refusal stopped
abbrev pub mounted_on : Geometry → (ℕ → Bool) → ℕ → State → ℕ → Tables → Result
mounted_on g a x old count t = storing_on g 0 (mount_stores_on g a x t) (mount_shown_on g a x t) old count t

-- the state that the drives that are here show in the tables, whatever is durable of them
pub record ShownNow (g : Geometry) (here : List Bool) (xs ws : List ℕ) (s : State) : Type 0 where
  pub shown : (ds : List ℕ) → s ≡ state_held g.zones (shown_state g (is_set here) (lost_among g here) (device_of g (tables_of xs ws ds)))

module _ (g : Geometry) (a : ℕ → Bool) (x : ℕ) (old : State) (count : ℕ) (t : Tables) (rest : ℕ) (u : Tables) (m : Made g (suc count) rest (mount_stores_on g a x t) t u) where
  pub mounted_unfinished : rest ≡ 0 → (◌≡◌ {A = Outcome} (record { answer = Unfinished; state = old }) (mounted_on g a x old count t).outcome) × (u ≡ (mounted_on g a x old count t).tables)
  mounted_unfinished z = let (p, q) = storing_unfinished g 0 (mount_stores_on g a x t) (mount_shown_on g a x t) old count t rest u refl m z in (sym p, sym q)

  shown_after : rest ≢ 0 → mount_shown_on g a x t ≡ state_held g.zones (shown_state g a x (device_of g u))
  unfolding mount_shown_on
  shown_after h =
      let ss = mount_stores_on g a x t in
      let l : length (mount_stores_on g a x t) ≤ suc count - 1 = omega (arith, m.rest_is, h) in
      let q : run_stores g (length ss) ss t ≡ u = sym (m.tables_are ∙ run_covered g (suc count - 1) ss t l) in
      ap (λ (v : Tables). state_held g.zones (shown_state g a x (device_of g v))) q

  pub mounted_finished : rest ≢ 0 → (s : State) → s ≡ state_held g.zones (shown_state g a x (device_of g u))
      → (◌≡◌ {A = Outcome} (record { answer = Finished; state = s }) (mounted_on g a x old count t).outcome) × (u ≡ (mounted_on g a x old count t).tables)
  mounted_finished h s es =
      let (p, q) = storing_finished g 0 (mount_stores_on g a x t) (mount_shown_on g a x t) old count t rest u refl m h in
      (ap (λ (y : State). record { answer = Finished; state = y }) (es ∙ sym (shown_after h)) ∙ sym p, sym q)

-- how it ends, by what is left of the budget
pub record MountEnded (g : Geometry) (here : List Bool) (old : State) (rest : ℕ) (xs ws : List ℕ) (r : Outcome) : Type 0 where
  pub unfinished : rest ≡ 0 → r ≡ record { answer = Unfinished; state = old }
  pub finished : rest ≢ 0 → (ds : List ℕ) → r ≡ record { answer = Finished; state = state_held g.zones (shown_state g (is_set here) (lost_among g here) (device_of g (tables_of xs ws ds))) }

pub mounted_ended : (g : Geometry) (here : List Bool) (old : State) (count : ℕ) (t : Tables) (rest : ℕ) (u : Tables) (r : Outcome) → Made g (suc count) rest (mount_stores_on g (is_set here) (lost_among g here) t) t u → MountEnded g here old rest u.sectors u.written r
    → (r ≡ (mounted_on g (is_set here) (lost_among g here) old count t).outcome) × (u ≡ (mounted_on g (is_set here) (lost_among g here) old count t).tables)
mounted_ended g here old count t rest u r m e = go (ℕ_discrete rest 0)
  where
    go : Dec (rest ≡ 0) → (r ≡ (mounted_on g (is_set here) (lost_among g here) old count t).outcome) × (u ≡ (mounted_on g (is_set here) (lost_among g here) old count t).tables)
    go (yes z) = let (p, q) = mounted_unfinished g (is_set here) (lost_among g here) old count t rest u m z in (e.unfinished z ∙ p, q)
    go (no h) = let (p, q) = mounted_finished g (is_set here) (lost_among g here) old count t rest u m h _ refl in (e.finished h u.durable ∙ p, q)

-- the tables that its stores leave can be looked at
pub lookable_after : (g : Geometry) (p : Plan) (ps : List ℕ) (budget rest : ℕ) (ss : List Store) (t : Tables) (xs ws ds : List ℕ) → Planned g t p ps → length xs ≡ length t.sectors → length ws ≡ length t.written
    → Made g budget rest ss t (tables_of xs ws ds) → Lookable g p.here xs ws
lookable_after g p ps budget rest ss t xs ws ds k a b m = record {
  sectors_long = a ∙ k.sized.sectors_long;
  written_long = b ∙ k.sized.written_long;
  pointers = λ d y hd h hy. rw (ap (λ (u : Tables). u.written) m.tables_are) (run_most g (budget - 1) ss t (cell g d y) (k.in_zones d y hd h hy));
}

-- ---- what they show, their logs found anew
module _ (g : Geometry) (xs ws : List ℕ) (p : LogPlaces) (ps : List ℕ) (s : Seen g xs ws p ps) (here : List Bool) where
  pub seen_lookable : Valid g → Lookable g here xs ws → Lookable p.geometry here xs ps
  seen_lookable ok k =
      let r = seen_readable g xs ws p ps s here 0 (lookable_zone g here xs ws 0 k ok.zones_least) in
      record { sectors_long = r.sectors_long; written_long = r.written_long; pointers = r.pointers }

  pub seen_below : HereBelow g here → HereBelow p.geometry here
  seen_below k d e = subst (λ (h : Geometry). d < h.drives) (sym (seen_geometry g xs ws p ps s)) (k d e)

  pub seen_shown : HereBelow g here → (q : State) → q ≡ state_seen p here xs ps → ShownNow g here xs ws q
  seen_shown k q e = record { shown = λ ds. e ∙ seen_state g xs ws p ps s ds here (seen_below k) }

-- ---- THE CALL
module _ (g : Geometry) (named : List Bool) (old : State) (count : ℕ) (t : Tables) where
  mount_refused : (n : ℕ) → n ≡ verdict_number (mount_verdict g named t) → n ≢ 0
      → (◌≡◌ {A = Outcome} (record { answer = refused_at (bad_place_on g named t) n; state = old }) (mount_on g named old count t).outcome) × (t ≡ (mount_on g named old count t).tables)
  unfolding mount_on
  mount_refused n e h = rw (← e, ne_eqb n 0 h) (refl, refl)

  -- refusals 1 to 3
  pub refused_shape : (n : ℕ) → n ≡ shape_number g named (length t.sectors) t.written t.durable → n ≢ 0
      → (◌≡◌ {A = Outcome} (record { answer = Refused n; state = old }) (mount_on g named old count t).outcome) × (t ≡ (mount_on g named old count t).tables)
  refused_shape n e h =
      let (p, q) = mount_refused n (refused_by_look g named t n (e ∙ look_shape g named t.sectors t.written t.durable (λ z. h (e ∙ z))) h) h in
      let six : n ≢ 6 = λ z. omega (arith, z, e, shape_most g named (length t.sectors) t.written t.durable) in
      (ap (λ (a : Answer). record { answer = a; state = old }) (refused_plain (bad_place_on g named t) n six) ∙ p, q)

  module _ (v : Survey) (ps : List ℕ) (shape : shape_number g named (length t.sectors) t.written t.durable ≡ 0) (found : Surveyed g named t.sectors t.written v ps) where
    looked : number_of v.refusal ≡ verdict_number (look_verdict g named t)
    looked = survey_refusal g named t.sectors t.written v ps found t.durable shape

    -- 4 to 6
    pub refused_logs : number_of v.refusal ≢ 0 → (◌≡◌ {A = Outcome} (record { answer = refused_at v.bad (number_of v.refusal); state = old }) (mount_on g named old count t).outcome) × (t ≡ (mount_on g named old count t).tables)
    refused_logs h =
        let (p, q) = mount_refused (number_of v.refusal) (refused_by_look g named t (number_of v.refusal) looked h) h in
        let e = survey_bad g named t.sectors t.written v ps found t.durable in
        (ap (λ (b : BadPlace). record { answer = refused_at b (number_of v.refusal); state = old }) e ∙ p, q)

    module _ (none : number_of v.refusal ≡ 0) (p : Plan) (k : Planning g t v p ps) where
      here_is : is_set p.here ≡ present_in g (is_set named) (device_of g t)
      here_is = ap is_set k.here_is ∙ survey_present g named t.sectors t.written v ps found t.durable

      lost_is : lost_among g p.here ≡ lost_drive_in g (is_set named) (device_of g t)
      lost_is =
          ap (lost_among g) k.here_is ∙ sym (ap (λ (q : Geometry). lost_among q v.here) (seen_geometry g t.sectors t.written v.places ps found.seen))
          ∙ survey_lost g named t.sectors t.written v ps found t.durable

      number_is : verdict_number (mount_verdict g named t) ≡ pick (p.general.full || p.parity.full) 14 0
      number_is = by_room g named t (sym looked ∙ none) (is_set p.here) (lost_among g p.here) here_is lost_is ∙ ap (λ (b : Bool). pick b 14 0) (sym k.full_is)

      -- 14
      pub refused_full : p.general.full || p.parity.full ≡ true → (◌≡◌ {A = Outcome} (record { answer = Refused 14; state = old }) (mount_on g named old count t).outcome) × (t ≡ (mount_on g named old count t).tables)
      refused_full e = mount_refused 14 (sym (number_is ∙ ap (λ (b : Bool). pick b 14 0) e)) (λ z. omega (arith, z))

      -- none
      pub mount_goes_on : p.general.full || p.parity.full ≡ false → mounted_on g (is_set p.here) (lost_among g p.here) old count t ≡ mount_on g named old count t
      unfolding mount_on
      mount_goes_on e =
          ap₂ (λ (q : ℕ → Bool) (y : ℕ). mounted_on g q y old count t) here_is lost_is
          ∙ sym (told_plain g (bad_place_on g named t) 0 (mount_stores_on g (present_in g (is_set named) (device_of g t)) (lost_drive_in g (is_set named) (device_of g t)) t) (mount_shown_on g (present_in g (is_set named) (device_of g t)) (lost_drive_in g (is_set named) (device_of g t)) t) old count t (λ z. omega (arith, z)))
          ∙ sym (ap (λ (n : ℕ). telling_at (bad_place_on g named t) (storing_on g n (mount_stores_on g (present_in g (is_set named) (device_of g t)) (lost_drive_in g (is_set named) (device_of g t)) t) (mount_shown_on g (present_in g (is_set named) (device_of g t)) (lost_drive_in g (is_set named) (device_of g t)) t) old count t))
          (number_is ∙ ap (λ (b : Bool). pick b 14 0) e))
