-- Steps 3 to 9 of a mount, by the look that it took before step 2. The code reads the drives after step 2, by the geometry that places the logs then (h: g with
-- other logs); there the drives show the same, and each step is what it would have been before.
use Rattle.std.specs.Prelude.{◌≡◌, ◌&&◌, ◌||◌, eqb}
use Rattle.std.proofs.Math.Path.{refl}
use Rattle.std.proofs.Common.{sym, ap, ap₂, ◌∙◌, subst, le_refl, arith}
use Rattle.std.proofs.Math.Bool.{Bool, true, false, not}
use Prim.Native.Nat.{ℕ, zero, suc, ◌-◌, ◌≤◌, ◌<◌}
use mathlib.Core.List.{List, [], ◌∷◌, ◌++◌}
use Rattle.std.proofs.Math.ListN.{length}
use Rattle.std.proofs.Math.Dec.{ltb}
use Rattle.tables.specs.declared.Geometry.{Geometry}
use Rattle.tables.specs.meaning.Basics.{pick}
use Rattle.tables.specs.meaning.Below.{each_below, any_below, tabulate_from}
use Rattle.tables.specs.meaning.Lists.{concat, is_nil, any_of}
use Rattle.tables.specs.meaning.Drives.{find_below, no_drive}
use Rattle.tables.specs.meaning.Placement.{needed}
use Rattle.tables.specs.meaning.Geometry.{Valid, data_zone}
use Rattle.tables.specs.meaning.Device.{Device, Store, reset, store_drive}
use Rattle.tables.specs.meaning.Phases.{flush_all, on_present}
use Rattle.tables.specs.meaning.Tables.{Tables}
use Rattle.tables.specs.laws.Lists.{concat_append}
use Rattle.tables.specs.laws.Made.{Made}
use Rattle.logs.specs.meaning.Entry.{parity_zone, Header, label, counters, zone_reset, seal}
use Rattle.logs.specs.meaning.Heads.{last_lost, is_seal_at}
use Rattle.volume.specs.declared.Look.{Look}
use Rattle.volume.specs.meaning.CallContracts.{is_set}
use Rattle.volume.specs.meaning.Calls.{append_all, append_general, generations_from, logs_reset}
use Rattle.volume.specs.meaning.Rules.{Shown, showing, general_heads, parity_ending}
use Rattle.volume.specs.meaning.Content.{content_at}
use Rattle.volume.specs.meaning.State.{is_empty, is_sealed}
use Rattle.volume.specs.meaning.Roles.{Roles, placed_by}
use Rattle.volume.specs.meaning.Emptying.{InForce}
use Rattle.volume.specs.meaning.Mount.{with_flush, with_flushes, label_step, reset_entry_step, zone_reset_step, counter_step, counters_differ, seal_step, torn_row_step, fill_step, steps_before_entries, carry_phases, needs_reset, next_generation, missing_rows}
use Rattle.volume.specs.laws.LogPlaces.{with_logs, with_roles, logs_of, Proper, OnDrives}
use Rattle.volume.specs.laws.RulesUnread.{showing_alike}
use Rattle.volume.specs.laws.CallsUnread.{label_step_alike, reset_entry_step_alike, zone_reset_step_alike, counter_step_alike, seal_step_alike, torn_row_step_alike, fill_step_alike, with_flushes_alike}
use Rattle.volume.specs.laws.EmptiedLogs.{Emptied}
use Rattle.volume.specs.laws.EmptiedLooks.{look_same}
use Rattle.volume.specs.laws.EmptiedSteps.{label_step_same, seal_step_same, torn_step_same, fill_step_same}
use Rattle.volume.specs.looking.Knowing.{read_device}
use Rattle.volume.specs.looking.Looking.{look_of}
use Rattle.volume.specs.emptying.Carried.{on_drives_append, on_drives_present, on_drives_flushes, made_by_roles}
use Rattle.mounting.specs.LookAgrees.{labels_told, reset_entries_told, zone_resets_told, counters_told, seals_told, labels_same, seals_same}
use Rattle.mounting.specs.MountValues.{shown_at}
use Rattle.mounting.specs.MountStart.{shown_here, look_tells, shown_at_lem}
use Rattle.mounting.specs.RestoreAgrees.{fill_told, torn_told, torn_same, fill_same, shown_same}
use Rattle.mounting.specs.MountSteps.{steps_on, step_list, StepsMade}
use Rattle.mounting.specs.MountOpening.{carried_phases}

module _ (g : Geometry) (n : ℕ) (ok : Valid (with_logs g n)) (here : List Bool) (xs ps : List ℕ) (w1 : Device) (same : (d z : ℕ) → (read_device (with_logs g n) xs ps d z).sectors ≡ (w1 d z).sectors) where
  abbrev h : Geometry
  h = with_logs g n

  abbrev v : Device
  v = read_device (with_logs g n) xs ps

  -- what the code's look shows
  abbrev shown : Shown
  shown = shown_here (with_logs g n) ok here xs ps

  abbrev pub middle_look : Look
  middle_look = look_of (with_logs g n) (shown_here (with_logs g n) ok here xs ps)

  told : (z : ℕ) → z < g.zones → (shown_at h here middle_look xs ps).zone z ≡ shown.zone z
  told z hz = shown_at_lem h ok here xs ps z hz

  steps_by_lem : (differ : Bool) → steps_on (step_list h here middle_look differ) v
      ≡ label_step g shown.lost shown w1 ∷ reset_entry_step g shown ∷ zone_reset_step g shown ∷ counter_step g shown differ ∷ seal_step g shown w1 ∷ torn_row_step g shown w1 ∷ fill_step g shown w1 ∷ []
  steps_by_lem differ =
      let k = middle_look in
      let s = shown in
      let t = look_tells h shown in
      rw (
        labels_told h k s t k.lost v,
        label_step_alike g n k.lost s v,
        labels_same g v w1 same k.lost s,
        reset_entries_told h k s t,
        reset_entry_step_alike g n s,
        zone_resets_told h k s t,
        zone_reset_step_alike g n s,
        counters_told h k s t differ,
        counter_step_alike g n s differ,
        seals_told h k s t v,
        seal_step_alike g n s v,
        seals_same g v w1 same s,
        torn_told h (shown_at h here k xs ps) s told v,
        torn_row_step_alike g n s v,
        torn_same g v w1 same s,
        fill_told h (shown_at h here k xs ps) s told v,
        fill_step_alike g n s v,
        fill_same g v w1 same s,
      ) refl

  -- ---- w1 is w with general logs emptied
  module _ (f : InForce) (r : ℕ → Roles) (e : ℕ → Bool) (w : Device) (k : Emptied g (is_set here) f r e w w1) where
    abbrev lost : ℕ
    lost = find_below (λ (d : ℕ). not (is_set here d)) g.drives

    -- THE LOOK after step 2 is that before it
    pub middle_shown : shown ≡ showing g (is_set here) lost w
    middle_shown = showing_alike g n (is_set here) lost v ∙ shown_same g v w1 same (is_set here) lost ∙ look_same g (is_set here) f r e w w1 k lost

    shown_lost : shown.lost ≡ lost
    unfolding showing
    shown_lost = refl

    -- THE STEPS are those of the rules
    pub middle_steps : steps_on (step_list h here middle_look (counters_differ g (is_set here) w)) v ≡ steps_before_entries g (is_set here) lost (showing g (is_set here) lost w) w
    middle_steps =
        let a = is_set here in
        let s = showing g (is_set here) lost w in
        let c = counters_differ g (is_set here) w in
        steps_by_lem c
        ∙ ap₂ (λ (y : ℕ) (q : Shown). label_step g y q w1 ∷ reset_entry_step g q ∷ zone_reset_step g q ∷ counter_step g q c ∷ seal_step g q w1 ∷ torn_row_step g q w1 ∷ fill_step g q w1 ∷ []) shown_lost middle_shown
        ∙ rw (label_step_same g a f r e w w1 k lost s, seal_step_same g a f r e w w1 k lost, torn_step_same g a f r e w w1 k s, fill_step_same g a f r e w w1 k s) refl

-- ---- every store of these steps is on a drive of the geometry
abbrev OnDrive : ℕ → List Store → Type 0
OnDrive d [] = Unit {0}
OnDrive d (x ∷ xs) = (store_drive x ≡ d) × OnDrive d xs

on_drive_append : (d : ℕ) (xs ys : List Store) → OnDrive d xs → OnDrive d ys → OnDrive d (xs ++ ys)
on_drive_append d [] ys p q = q
on_drive_append d (x ∷ xs) ys p q = (p.0, on_drive_append d xs ys p.1 q)

on_drive_appends : (d y : ℕ) (ss : List (List ℕ)) → OnDrive d (append_all d y ss)
on_drive_appends d y [] = tt
on_drive_appends d y (s ∷ ss) = (refl, on_drive_appends d y ss)

on_drive_pick : (d : ℕ) (b : Bool) (xs : List Store) → OnDrive d xs → OnDrive d (pick b xs [])
on_drive_pick d true xs p = p
on_drive_pick d false xs p = tt

on_drive_each : (d : ℕ) (f : ℕ → List Store) → ((z : ℕ) → OnDrive d (f z)) → (n : ℕ) → OnDrive d (each_below f n)
on_drive_each d f p zero = tt
on_drive_each d f p (suc n) = on_drive_append d (each_below f n) (f n) (on_drive_each d f p n) (p n)

module _ (g : Geometry) where
  drive_in : (d : ℕ) (xs : List Store) → d < g.drives → OnDrive d xs → OnDrives g xs
  drive_in d [] h p = tt
  drive_in d (x ∷ xs) h p = (rw p.0 h, drive_in d xs h p.1)

  drives_in : (f : ℕ → List Store) → ((d : ℕ) → OnDrive d (f d)) → (n : ℕ) → n ≤ g.drives → OnDrives g (each_below f n)
  drives_in f p zero h = tt
  drives_in f p (suc n) h = on_drives_append g (each_below f n) (f n) (drives_in f p n (omega arith)) (drive_in n (f n) h (p n))

  abbrev EachOn : List (List Store) → Type 0
  EachOn [] = Unit {0}
  EachOn (xs ∷ steps) = OnDrives g xs × EachOn steps

  with_flushes_on : (a : ℕ → Bool) (steps : List (List Store)) → EachOn steps → OnDrives g (concat (with_flushes g a steps))
  with_flushes_on a [] p = tt
  with_flushes_on a (xs ∷ steps) p =
      let last = pick (is_nil (on_present a xs)) [] (on_present a (flush_all g.drives)) in
      rw (concat_append (with_flush g a xs) (with_flushes g a steps))
      (on_drives_append g (concat (with_flush g a xs)) (concat (with_flushes g a steps))
      (on_drives_append g (on_present a xs) (last ++ []) (on_drives_present g a xs p.0) (on_drives_append g last [] (go (is_nil (on_present a xs))) tt)) (with_flushes_on a steps p.1))
    where
      go : (b : Bool) → OnDrives g (pick b [] (on_present a (flush_all g.drives)))
      go true = tt
      go false = on_drives_present g a (flush_all g.drives) (on_drives_flushes g g.drives (le_refl g.drives))

  steps_on_lem : (a : ℕ → Bool) (x : ℕ) (k : Shown) (w : Device) → EachOn (steps_before_entries g a x k w)
  unfolding label_step reset_entry_step zone_reset_step counter_step seal_step torn_row_step fill_step
  steps_on_lem a x k w =
      let all : (f : ℕ → List Store) → ((d : ℕ) → OnDrive d (f d)) → OnDrives g (each_below f g.drives) = λ f p. drives_in f p g.drives (le_refl g.drives) in
      let one : (h : ℕ → ℕ → Header) (b : ℕ → ℕ → Bool) (d : ℕ) → OnDrive d (each_below (λ z. pick (b d z) (append_general g (h d z) d) []) g.zones) = λ h b d. on_drive_each d (λ z. pick (b d z) (append_general g (h d z) d) []) (λ z. on_drive_pick d (b d z) (append_general g (h d z) d) (refl, tt)) g.zones in
      let cs = generations_from (next_generation k) zero g.zones in
      let c : ℕ → Bool = λ d. ltb x g.drives && not (eqb (last_lost no_drive (general_heads g w d)) x) in
      let m : ℕ → ℕ → Bool = λ d z. is_sealed (k.zone z).condition && not (any_of (is_seal_at z (k.zone z).generation (k.zone z).pointer) (general_heads g w d)) in
      let part : ℕ → ℕ → List (List ℕ) = λ d z. tabulate_from (content_at g.drives g.unit z (k.zone z).value d) (length (w d (data_zone z)).sectors) (needed g.drives g.unit z (k.zone z).pointer d - length (w d (data_zone z)).sectors) in (
        all (λ d. pick (c d) (append_general g (label x k.array) d) []) (λ d. on_drive_pick d (c d) (append_general g (label x k.array) d) (refl, tt)),
        (
          all (λ d. each_below (λ z. pick ((k.zone z).by_reset && logs_reset g z d) (append_general g (zone_reset z (k.zone z).generation) d) []) g.zones) (one (λ d z. zone_reset z (k.zone z).generation) (λ d z. (k.zone z).by_reset && logs_reset g z d)),
          (
            all (λ d. each_below (λ z. pick (needs_reset (k.zone z)) (reset d (data_zone z) ∷ []) []) g.zones) (λ d. on_drive_each d (λ z. pick (needs_reset (k.zone z)) (reset d (data_zone z) ∷ []) []) (λ z. on_drive_pick d (needs_reset (k.zone z)) (reset d (data_zone z) ∷ []) (refl, tt)) g.zones),
            (
              picked (any_below (λ z. is_empty (k.zone z).condition) g.zones || counters_differ g a w) (each_below (λ d. append_general g (counters cs) d) g.drives) (all (λ d. append_general g (counters cs) d) (λ d. (refl, tt))),
              (
                all (λ d. each_below (λ z. pick (m d z) (append_general g (seal z (k.zone z).pointer (k.zone z).generation) d) []) g.zones) (one (λ d z. seal z (k.zone z).pointer (k.zone z).generation) m),
                (
                  all (λ d. append_all d parity_zone (missing_rows g k (parity_ending g w d))) (λ d. on_drive_appends d parity_zone (missing_rows g k (parity_ending g w d))),
                  (all (λ d. each_below (λ z. append_all d (data_zone z) (part d z)) g.zones) (λ d. on_drive_each d (λ z. append_all d (data_zone z) (part d z)) (λ z. on_drive_appends d (data_zone z) (part d z)) g.zones), tt),
                ),
              ),
            ),
          ),
        ),
      )
    where
      picked : (b : Bool) (xs : List Store) → OnDrives g xs → OnDrives g (pick b xs [])
      picked true xs p = p
      picked false xs p = tt

-- ---- MADE, they are the carried phases of the rules (t, u: the tables before and after; r1: the roles after step 2)
pub middle_made : (g : Geometry) → g.logs ≡ 0 → (r1 : ℕ → Roles) → ((d : ℕ) → Proper (r1 d)) → (here : List Bool) (ps : List ℕ) (budget rest : ℕ) (list : List (Device → List Store)) (x : ℕ) (s : Shown) (w : Device) (t u : Tables)
    → steps_on list (read_device (with_roles g r1) t.sectors ps) ≡ steps_before_entries g (is_set here) x s w → StepsMade (with_roles g r1) here ps budget rest list t u
    → Made g budget rest (concat (carry_phases (placed_by r1) (with_flushes g (is_set here) (steps_before_entries g (is_set here) x s w)))) t u
middle_made g first r1 proper here ps budget rest list x s w t u e m =
    let a = is_set here in
    let steps = steps_before_entries g (is_set here) x s w in
    let one : Made (with_roles g r1) budget rest (concat (with_flushes g a steps)) t u =
    subst (λ (l : List (List Store)). Made (with_roles g r1) budget rest (concat l) t u) (ap (with_flushes (with_roles g r1) a) e ∙ with_flushes_alike g (logs_of r1 g.drives) a steps) m.made in
    subst (λ (l : List Store). Made g budget rest l t u) (sym (carried_phases (placed_by r1) (with_flushes g a steps)))
    (made_by_roles g first r1 proper budget rest (concat (with_flushes g a steps)) t u (with_flushes_on g a steps (steps_on_lem g a x s w)) one)
