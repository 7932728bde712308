-- "An absent drive's memory is neither read nor changed": look and mount, on any input. (The other calls: AbsentDrives.)
use Rattle.std.specs.Prelude.{◌≡◌, Bool, eqb}
use Rattle.std.proofs.Math.Path.{refl, ap, ap₂, fun_ext}
use Rattle.std.proofs.Common.{sym, ◌∙◌, arith, ne_eqb, eqb-true}
use Rattle.std.proofs.Math.Bool.{true}
use Prim.Native.Nat.{ℕ, ◌-◌, ◌/◌, ◌≤◌}
use Rattle.std.proofs.Math.Decide.{ℕ_discrete}
use mathlib.Core.List.{List, ◌++◌, map}
use Rattle.std.proofs.Math.ListN.{length}
use Rattle.tables.specs.declared.Geometry.{Geometry}
use Rattle.tables.specs.meaning.Basics.{pick}
use Rattle.tables.specs.meaning.Lists.{concat}
use Rattle.tables.specs.laws.Lists.{concat_append}
use Rattle.tables.specs.meaning.Drives.{no_drive}
use Rattle.tables.specs.meaning.Device.{ZoneView, Device, Store, apply_all}
use Rattle.tables.specs.meaning.Through.{through, carry}
use Rattle.tables.specs.meaning.Phases.{on_present, flush_all}
use Rattle.tables.specs.meaning.Tables.{Tables, device_of, run_stores}
use Rattle.tables.specs.laws.StoresFit.{AllOn, on_present_on, on_append, fits_all_placed}
use Rattle.tables.specs.laws.NamedDrives.{AgreeOn, device_agrees, pointers_agree, run_agrees}
use Rattle.logs.specs.meaning.Entry.{parity_zone}
use Rattle.volume.specs.declared.State.{State}
use Rattle.volume.specs.declared.Outcome.{Outcome}
use Rattle.volume.specs.declared.Answer.TheVariants.{Finished}
use Rattle.volume.specs.declared.BadPlace.{BadPlace}
use Rattle.volume.specs.meaning.State.{hosts, StateView, with_shares}
use Rattle.volume.specs.meaning.Rules.{Shown, showing, is_present, lost_drive}
use Rattle.volume.specs.meaning.Refusals.{first_bad_place, accept, kind_lacks, bad_labels, bad_logs, mount_full, look_rows, mount_rows}
use Rattle.volume.specs.meaning.Roles.{Roles, claim_of_kind, placed_by, zone_of_role}
use Rattle.volume.specs.meaning.Emptying.{by_look, unused_in, empty_general, empty_parity}
use Rattle.volume.specs.meaning.Hosts.{half_past, shares_by, shares_in}
use Rattle.volume.specs.meaning.Answers.{present_in, lost_drive_in, refused_at, told_at}
use Rattle.volume.specs.meaning.Mount.{spare_step, entry_step, with_flush, with_flushes, steps_before_entries, carry_phases, mount_view, mount_look, start_roles, emptied_general, emptied_parity, middle_roles, end_roles, phases_of_logs, phases_before_entries, phases_of_parity_logs, phases_of_entries, after_fill, mount_stores, mount_state, shown_state}
use Rattle.volume.specs.meaning.CallContracts.{is_set, roles_of, seen_in, verdict_number, look_verdict, look_on, mount_verdict, mount_stores_on, mount_shown_on, bad_place_on, mount_on, state_held}
use Rattle.volume.specs.laws.PassedRows.{look_passed, look_number_accepts, mount_passed, mount_number_accepts}
use Rattle.volume.specs.laws.BadPlaces.{first_bad_depends}
use Rattle.volume.specs.laws.Depends.{SameOn, pick_same}
use Rattle.volume.specs.laws.RefusalsDepend.{present_depends, lost_drive_depends, two_lost_depends, labels_depend, logs_depend, kinds_depend, by_look_depends, mount_full_depends}
use Rattle.volume.specs.laws.RolesDepend.{roles_depend, by_roles_depend}
use Rattle.volume.specs.laws.MountDepends.{showing_depends}
use Rattle.volume.specs.laws.MountStoresDepend.{mount_stores_depend}
use Rattle.volume.specs.laws.CarriedSteps.{concat_carried}
use Rattle.volume.specs.laws.MountPlaced.{on_step, on_steps, present_is_named}
use Rattle.volume.specs.laws.MountStoresFit.{mount_stores_are, mount_stores_fit, mount_tables_fit}
use Rattle.volume.specs.laws.AbsentDrives.{LeavesAbsent, OnNamed, on_fewer, carry_on, storing_same, storing_kept, devices_same}

-- ---- what named drives show, by their roles
module _ (g : Geometry) (named : List Bool) (few : g.drives ≤ 8) (present : ℕ → Bool) (inside : (d : ℕ) → present d ≡ true → is_set named d ≡ true) (t u : Tables) (same : AgreeOn g (is_set named) t u) where
  -- there is no drive of that number
  past_same : (y : ℕ) → (device_of g t no_drive y).sectors ≡ (device_of g u no_drive y).sectors
  past_same y = ap (λ (z : ZoneView). z.sectors) (device_agrees g (is_set named) t u same no_drive (λ l. absurd (omega arith)) y)

  drives_agree : SameOn present (device_of g t) (device_of g u)
  drives_agree = devices_same g named t u same present inside

  showing_same : (x : ℕ) → showing g present x (seen_in g t) ≡ showing g present x (seen_in g u)
  showing_same = showing_depends g present (seen_in g t) (seen_in g u) (by_roles_depend g present (device_of g t) (device_of g u) drives_agree)
      (λ y. by_roles_depend g (λ d. eqb d no_drive) (device_of g t) (device_of g u) (λ d p z. rw (eqb-true d no_drive p) (past_same z)) no_drive refl y)

  shares_same : (i : ℕ) → shares_in g present (device_of g t) i ≡ shares_in g present (device_of g u) i
  unfolding shares_by unused_in
  shares_same i = pick_same (present (i / hosts)) (half_past g (unused_in g true (roles_of g t) (seen_in g t) (i / hosts))) (half_past g (unused_in g true (roles_of g u) (seen_in g u) (i / hosts))) 0 (λ p.
      ap₂ (λ (r : Roles) (ss : List (List ℕ)). half_past g (pick (eqb (claim_of_kind true r) 0) 0 (g.capacity - length ss)))
      (roles_depend g present (device_of g t) (device_of g u) drives_agree (i / hosts) p) (by_roles_depend g present (device_of g t) (device_of g u) drives_agree (i / hosts) p parity_zone))

  -- so their state
  state_shown_same : (x : ℕ) → shown_state g present x (device_of g t) ≡ shown_state g present x (device_of g u)
  state_shown_same x = ap₂ (λ (f : ℕ → ℕ) (k : Shown). with_shares f (mount_state k)) (fun_ext shares_same) (showing_same x)

  pub mount_stores_same : (x : ℕ) → mount_stores g present x (device_of g t) ≡ mount_stores g present x (device_of g u)
  mount_stores_same x = mount_stores_depend g present x (device_of g t) (device_of g u) drives_agree past_same

-- ---- the stores of an accepted mount are on named drives
pub mount_on_lem : (g : Geometry) (present : ℕ → Bool) (x : ℕ) (v : Device) → AllOn present (mount_stores g present x v)
unfolding mount_stores phases_before_entries phases_of_logs phases_of_parity_logs phases_of_entries
mount_on_lem g present x v =
    let R = start_roles g present x v in
    let M = middle_roles g present x v in
    let E = end_roles g present x v in
    let k = mount_look g present x v in
    let flushes = on_present present (flush_all g.drives) in
    let spares = with_flush g present (map (carry (placed_by R)) (spare_step g (mount_view g present x v))) in
    let general = with_flush g present (empty_general g present R (by_look k) (emptied_general g present x v) (mount_view g present x v)) in
    let steps = with_flushes g present (steps_before_entries g present x k (mount_view g present x v)) in
    let a = after_fill g present x v in
    let p = concat (phases_of_parity_logs g present x v a) in
    let last = with_flush g present (entry_step g k (through (placed_by E) (apply_all p a))) in
    let logs : AllOn present (flushes ++ concat (spares ++ general)) = on_append present flushes (concat (spares ++ general)) (on_present_on present (flush_all g.drives))
    (rw (concat_append spares general) (on_append present (concat spares) (concat general) (on_step g present (map (carry (placed_by R)) (spare_step g (mount_view g present x v)))) (on_step g present (empty_general g present R (by_look k) (emptied_general g present x v) (mount_view g present x v))))) in
    let own : AllOn present (concat (carry_phases (placed_by M) steps)) = rw (concat_carried (placed_by M) steps) (carry_on present (placed_by M) (concat steps) (on_steps g present (steps_before_entries g present x k (mount_view g present x v)))) in
    let end : AllOn present (concat (carry_phases (placed_by E) last)) = rw (concat_carried (placed_by E) last) (carry_on present (placed_by E) (concat last) (on_step g present (entry_step g k (through (placed_by E) (apply_all p a))))) in
    on_append present (concat (phases_before_entries g present x v)) (p ++ concat (carry_phases (placed_by E) last))
    (rw (concat_append (phases_of_logs g present x v) (carry_phases (placed_by M) steps)) (on_append present (concat (phases_of_logs g present x v)) (concat (carry_phases (placed_by M) steps)) logs own))
    (on_append present p (concat (carry_phases (placed_by E) last)) (on_step g present (empty_parity g present M (by_look k) (emptied_parity g present x v) (through (placed_by M) a))) end)

stores_on : (g : Geometry) (named : List Bool) (t : Tables) → mount_verdict g named t ≡ accept → OnNamed g named (mount_stores_on g (present_in g (is_set named) (device_of g t)) (lost_drive_in g (is_set named) (device_of g t)) t) t
stores_on g named t e =
    let present = present_in g (is_set named) (device_of g t) in
    let lost = lost_drive_in g (is_set named) (device_of g t) in
    let stores = mount_stores_on g present lost t in
    let sized = (mount_passed g named t e).tables.sized in
    record {
      sized = sized;
      placed = fits_all_placed g stores (device_of g t) (mount_tables_fit g named t e);
      named_only = on_fewer present (is_set named) stores (λ d h. (present_is_named g (is_set named) (seen_in g t) d h).1) (rw (mount_stores_are g present lost t sized (mount_stores_fit g named t e)) (mount_on_lem g present lost (device_of g t)));
    }

-- ==== two inputs that agree
module _ (g : Geometry) (named : List Bool) (t u : Tables) (same : AgreeOn g (is_set named) t u) where
  abbrev v : Device
  v = seen_in g t

  abbrev w : Device
  w = seen_in g u

  abbrev found : Device → ℕ → Bool
  found x = is_present g (is_set named) x

  all_same : SameOn (is_set named) v w
  all_same = by_roles_depend g (is_set named) (device_of g t) (device_of g u) (devices_same g named t u same (is_set named) (λ d p. p))

  found_named : (x : Device) (d : ℕ) → found x d ≡ true → is_set named d ≡ true
  found_named x d h = (present_is_named g (is_set named) x d h).1

  drives_same : SameOn (found v) v w
  drives_same d p = all_same d (found_named v d p)

  roles_same : (d : ℕ) → found v d ≡ true → roles_of g t d ≡ roles_of g u d
  roles_same d p = roles_depend g (is_set named) (device_of g t) (device_of g u) (devices_same g named t u same (is_set named) (λ d p. p)) d (found_named v d p)

  found_same : found v ≡ found w
  found_same = present_depends g (is_set named) v w all_same

  lost_same_lem : lost_drive g (is_set named) v ≡ lost_drive g (is_set named) w
  lost_same_lem = lost_drive_depends g (is_set named) v w all_same

  -- ---- the refusals
  labels_same : bad_labels g (found v) v ≡ bad_labels g (found w) w
  labels_same = labels_depend g (found v) v w drives_same ∙ ap (λ (f : ℕ → Bool). bad_labels g f w) found_same

  logs_same : bad_logs g (found v) v ≡ bad_logs g (found w) w
  logs_same = logs_depend g (found v) v w drives_same ∙ ap (λ (f : ℕ → Bool). bad_logs g f w) found_same

  kinds_same : kind_lacks g (found v) (roles_of g t) ≡ kind_lacks g (found w) (roles_of g u)
  kinds_same = kinds_depend g (found v) v w drives_same (roles_of g t) (roles_of g u) roles_same ∙ ap (λ (f : ℕ → Bool). kind_lacks g f (roles_of g u)) found_same

  bad_same : bad_place_on g named t ≡ bad_place_on g named u
  bad_same =
      first_bad_depends g (found v) v w drives_same (placed_by (roles_of g t)) (placed_by (roles_of g u)) (λ d h p. ap zone_of_role (roles_same d p))
      ∙ ap (λ (f : ℕ → Bool). first_bad_place g f (placed_by (roles_of g u)) w) found_same

  abbrev full_for : (ℕ → Bool) → ℕ → Bool
  full_for f x = mount_full g f (roles_of g u) (by_look (showing g f x w)) w

  full_same : mount_full g (found v) (roles_of g t) (by_look (showing g (found v) (lost_drive g (is_set named) v) v)) v ≡ mount_full g (found w) (roles_of g u) (by_look (showing g (found w) (lost_drive g (is_set named) w) w)) w
  full_same =
      let x = lost_drive g (is_set named) v in
      mount_full_depends g (found v) v w drives_same (roles_of g t) (roles_of g u) roles_same (by_look (showing g (found v) x v)) (by_look (showing g (found v) x w)) (by_look_depends g (found v) v w drives_same x)
      ∙ ap₂ (λ (f : ℕ → Bool) (x : ℕ). full_for f x) found_same lost_same_lem

  look_verdict_same : look_verdict g named t ≡ look_verdict g named u
  unfolding look_verdict look_rows
  look_verdict_same = rw (same.sectors_long, same.written_long, same.durable_long, pointers_agree g named t u same, two_lost_depends g (is_set named) v w all_same, kinds_same, labels_same, logs_same) refl

  mount_verdict_same : mount_verdict g named t ≡ mount_verdict g named u
  unfolding mount_verdict mount_rows
  mount_verdict_same = rw (same.sectors_long, same.written_long, same.durable_long, pointers_agree g named t u same, two_lost_depends g (is_set named) v w all_same, kinds_same, labels_same, logs_same, full_same) refl

  -- ==== LOOK, which changes no memory
  shown_same : g.drives ≤ 8 → shown_state g (found v) (lost_drive g (is_set named) v) (device_of g t) ≡ shown_state g (found w) (lost_drive g (is_set named) w) (device_of g u)
  shown_same few = state_shown_same g named few (found v) (found_named v) t u same (lost_drive g (is_set named) v) ∙ ap₂ (λ (f : ℕ → Bool) (x : ℕ). shown_state g f x (device_of g u)) found_same lost_same_lem

  pub look_absent : (old : State) → look_on g named old t ≡ look_on g named old u
  unfolding look_on
  look_absent old = rw (← look_verdict_same) (go (ℕ_discrete (verdict_number (look_verdict g named t)) 0))
    where
      number : ℕ
      number = verdict_number (look_verdict g named t)

      outcome : StateView → BadPlace → Outcome
      outcome k b = pick (eqb number 0) (record { answer = Finished; state = state_held g.zones k }) (record { answer = refused_at b number; state = old })

      go : Dec (number ≡ 0) → outcome (shown_state g (found v) (lost_drive g (is_set named) v) (device_of g t)) (bad_place_on g named t) ≡ outcome (shown_state g (found w) (lost_drive g (is_set named) w) (device_of g u)) (bad_place_on g named u)
      go (yes e) = ap₂ outcome (shown_same (look_passed g named t (look_number_accepts g named t e)).valid.drives_most) bad_same
      go (no e) = rw (ne_eqb number 0 e) (ap (λ (b : BadPlace). record { answer = refused_at b number; state = old }) bad_same)

  -- ==== MOUNT, of inputs that are accepted
  module _ (e : mount_verdict g named t ≡ accept) where
    abbrev lost : ℕ
    lost = lost_drive g (is_set named) v

    abbrev few : g.drives ≤ 8
    few = (mount_passed g named t e).tables.valid.drives_most

    abbrev on : OnNamed g named (mount_stores_on g (found v) lost t) t
    on = stores_on g named t e

    stores_same : mount_stores_on g (found v) lost t ≡ mount_stores_on g (found w) (lost_drive g (is_set named) w) u
    stores_same =
        let accepted = sym mount_verdict_same ∙ e in
        mount_stores_are g (found v) lost t on.sized (mount_stores_fit g named t e) ∙ mount_stores_same g named few (found v) (found_named v) t u same lost
        ∙ ap₂ (λ (f : ℕ → Bool) (x : ℕ). mount_stores g f x (device_of g u)) found_same lost_same_lem
        ∙ sym (mount_stores_are g (found w) (lost_drive g (is_set named) w) u (mount_passed g named u accepted).tables.sized (mount_stores_fit g named u accepted))

    state_same : mount_shown_on g (found v) lost t ≡ mount_shown_on g (found w) (lost_drive g (is_set named) w) u
    unfolding mount_shown_on
    state_same =
        let ss = mount_stores_on g (found v) lost t in
        let after = run_agrees g (is_set named) (length ss) ss t u on.sized on.placed on.named_only same in
        ap (state_held g.zones) (
        state_shown_same g named few (found v) (found_named v) (run_stores g (length ss) ss t) (run_stores g (length ss) ss u) after lost
        ∙ ap (λ (rs : List Store). shown_state g (found v) lost (device_of g (run_stores g (length rs) rs u))) stores_same
        ∙ ap₂ (λ (f : ℕ → Bool) (x : ℕ). shown_state g f x (device_of g (run_stores g (length (mount_stores_on g (found w) (lost_drive g (is_set named) w) u)) (mount_stores_on g (found w) (lost_drive g (is_set named) w) u) u))) found_same lost_same_lem
        )

pub mount_absent : (g : Geometry) (named : List Bool) (old : State) (count : ℕ) → LeavesAbsent g named (mount_on g named old count)
unfolding mount_on
mount_absent g named old count =
    let number : Tables → ℕ = λ t. verdict_number (mount_verdict g named t) in
    let stores : Tables → List Store = λ t. mount_stores_on g (present_in g (is_set named) (device_of g t)) (lost_drive_in g (is_set named) (device_of g t)) t in
    let new : Tables → State = λ t. mount_shown_on g (present_in g (is_set named) (device_of g t)) (lost_drive_in g (is_set named) (device_of g t)) t in
    record {
      not_read = λ t u same.
          let (p, q) = storing_same g named old count t u same (number t) (number u) (ap verdict_number (mount_verdict_same g named t u same)) (stores t) (stores u) (λ e. stores_same g named t u same (mount_number_accepts g named t e)) (new t) (new u) (λ e. state_same g named t u same (mount_number_accepts g named t e))
          (λ e. stores_on g named t (mount_number_accepts g named t e)) in
          (ap₂ telling (bad_same g named t u same) p, q);
      not_changed = λ t. storing_kept g named old count t (number t) (stores t) (new t) (λ e. stores_on g named t (mount_number_accepts g named t e));
    }
  where
    telling : BadPlace → Outcome → Outcome
    telling b o = record { answer = told_at b o.answer; state = o.state }
