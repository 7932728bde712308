-- After step 2 of a mount, by what it found at its start (`Planned`): the device with the general logs that lacked room emptied; and that the tables stand for
-- the device after stores that have all been made.
use Rattle.std.specs.Prelude.{◌≡◌, ◌≢◌, Bool, ◌&&◌, ◌||◌, ℕ, ◌-◌, ◌≤◌, ◌<◌, length}
use Rattle.std.proofs.Math.Path.{refl, sym, ap}
use Rattle.std.proofs.Common.{◌∙◌, subst, arith}
use Rattle.std.proofs.Math.Bool.{true, false}
use mathlib.Core.List.{List, ◌++◌, append_assoc}
use Rattle.std.proofs.Math.Seq.{take-length}
use Rattle.tables.specs.declared.Geometry.{Geometry}
use Rattle.tables.specs.meaning.Geometry.{Valid}
use Rattle.tables.specs.laws.Below.{none_any_below}
use Rattle.tables.specs.meaning.Lists.{concat}
use Rattle.tables.specs.laws.Lists.{concat_append}
use Rattle.tables.specs.meaning.Device.{Device, Store, apply_all}
use Rattle.tables.specs.laws.Device.{apply_all_append}
use Rattle.tables.specs.meaning.Tables.{Tables, device_of}
use Rattle.tables.specs.laws.Made.{Made, WellSized, FitsAll}
use Rattle.tables.specs.laws.Counted.{run_covered}
use Rattle.tables.specs.laws.TablesRefine.{run_refines, run_sized}
use Rattle.tables.specs.laws.StoresFit.{fits_front, fits_all_placed}
use Rattle.logs.specs.meaning.Entry.{worn_generation, general_zone}
use Rattle.mounting.specs.declared.rooms.Plan.{Plan}
use Rattle.volume.specs.meaning.CallContracts.{is_set, roles_of, seen_in}
use Rattle.volume.specs.meaning.Rules.{showing, general_heads}
use Rattle.volume.specs.meaning.Roles.{Roles, placed_by, roles_after}
use Rattle.volume.specs.meaning.Emptying.{InForce, by_look, reserve, mount_general_limit, emptied_for, stays_full, new_general, new_general_size, new_parity_size, empty_general}
use Rattle.volume.specs.meaning.Refusals.{mount_full}
use Rattle.volume.specs.meaning.Mount.{with_flush, with_flushes, steps_before_entries, carry_phases, after_opening, mount_view, mount_look, start_roles, middle_roles, phases_of_logs, phases_before_entries, mount_stores}
use Rattle.volume.specs.laws.LogPlaces.{roles_proper}
use Rattle.volume.specs.laws.Depends.{SameOn}
use Rattle.volume.specs.laws.RolesDepend.{roles_depend, by_roles_depend}
use Rattle.volume.specs.laws.RefusalsDepend.{by_look_depends, mount_full_depends}
use Rattle.volume.specs.laws.CallStoresFit.{zone_short}
use Rattle.volume.specs.laws.SectorLengths.{tables_long}
use Rattle.volume.specs.laws.MountStoresFit.{mount_fits}
use Rattle.volume.specs.laws.LookRows.{label_there}
use Rattle.volume.specs.laws.EmptiedLogs.{Emptied, not_full, look_in_force}
use Rattle.volume.specs.laws.EmptyingStored.{seen_by, emptied_by_stores}
use Rattle.mounting.specs.MountRooms.{lost_among, Planned}
use Rattle.mounting.specs.MountSpares.{stage, stage_blank, stage_seen, proper_apart, flush_part_lem}
use Rattle.mounting.specs.MountOpening.{seen_alike, emptyings_present}
use Rattle.mounting.specs.MountOpened.{opening_flush, opening_spares, opening_general, opening_stores}
use Rattle.volume.specs.laws.OpeningFlush.{opening_sectors}
use Rattle.mounting.specs.PlannedPlaces.{general_here}
use Rattle.volume.specs.looking.MovedLogs.{is_emptied}

-- ---- all made, the tables stand for the device after all of them
pub made_device : (g : Geometry) (budget rest : ℕ) (ss : List Store) (t u : Tables) → WellSized g t → FitsAll g ss (device_of g t) → Made g budget rest ss t u → rest ≢ 0 → device_of g u ≡ apply_all ss (device_of g t)
made_device g budget rest ss t u w f m n =
    let l : length ss ≤ budget - 1 = omega (arith, m.rest_is, n) in
    ap (device_of g) (m.tables_are ∙ run_covered g (budget - 1) ss t l) ∙ run_refines g (length ss) ss t w f ∙ ap (λ (xs : List Store). apply_all xs (device_of g t)) (take-length ss)

-- ---- THE GENERAL LOGS ARE EMPTIED
module _ (g : Geometry) (ok : Valid g) (t : Tables) (p : Plan) (ps : List ℕ) (k : Planned g t p ps) where
  emptied_in_lem : (d : ℕ) → is_emptied p.general.emptied d ≡ true → d < g.drives
  emptied_in_lem d e = k.here_in d (general_here g t p ps k d e)

  stage_emptied : Emptied g (is_set p.here) (by_look (showing g (is_set p.here) (lost_among g p.here) (seen_in g t))) (roles_of g t) (is_emptied p.general.emptied) (seen_in g t)
      (seen_by (roles_after false (is_emptied p.general.emptied) (roles_of g t))
      (apply_all (empty_general g (is_set p.here) (roles_of g t) (by_look (showing g (is_set p.here) (lost_among g p.here) (seen_in g t))) (is_emptied p.general.emptied) (seen_in g t)) (stage g (is_set p.here) (device_of g t))))
  stage_emptied =
      let a = is_set p.here in
      let r = roles_of g t in
      let w = seen_in g t in
      let f = by_look (showing g (is_set p.here) (lost_among g p.here) (seen_in g t)) in
      let e = is_emptied p.general.emptied in
      let here = general_here g t p ps k in
      let size : ℕ → ℕ = λ d. new_general_size g f (general_heads g w d) in
      let full : (d : ℕ) → is_emptied p.general.emptied d ≡ true → (new_general_size g f (general_heads g w d) ≤ g.capacity) × (1 ≤ (r d).general_claim) × ((r d).general_claim ≤ worn_generation) = λ d q. not_full g false r (mount_general_limit g) (size d) d (omega arith) (k.general.roomy d q) in
      emptied_by_stores g a r f e w (stage g (is_set p.here) (device_of g t)) emptied_in_lem (λ d q. proper_apart (r d) (roles_proper g (device_of g t) d)) (λ d q. stage_blank g a (device_of g t) d (emptied_in_lem d q) (here d q))
      (λ d y h. stage_seen g a (device_of g t) d y h) ok here (λ z h. look_in_force g a (lost_among g p.here) w z)
      (λ d q. label_there g a w k.labelled d (emptied_in_lem d q) (here d q)) (λ d q. ((full d q).1, (full d q).2)) (λ d q. (full d q).0)

-- what the emptied general logs say hangs on sectors alone
emptied_alike : (g : Geometry) (a : ℕ → Bool) (f : InForce) (r : ℕ → Roles) (e : ℕ → Bool) (w w1 w2 : Device) → ((d y : ℕ) → (w2 d y).sectors ≡ (w1 d y).sectors) → Emptied g a f r e w w1 → Emptied g a f r e w w2
emptied_alike g a f r e w w1 w2 same k = record {
  valid = k.valid;
  there = k.there;
  in_force_lem = k.in_force_lem;
  begins = k.begins;
  claims = k.claims;
  room = k.room;
  copied = λ d q. same d general_zone ∙ k.copied d q;
  kept = λ d q. same d general_zone ∙ k.kept d q;
  elsewhere = λ d y m n. same d y ∙ k.elsewhere d y m n;
}

-- ---- THE STORES OF A MOUNT FIT, where it was planned
module _ (g : Geometry) (ok : Valid g) (t : Tables) (p : Plan) (ps : List ℕ) (k : Planned g t p ps) where
  abbrev a : ℕ → Bool
  a = is_set p.here

  abbrev x : ℕ
  x = lost_among g p.here

  abbrev f : InForce
  f = by_look (showing g (is_set p.here) (lost_among g p.here) (seen_in g t))

  -- refusal 14 was not given
  planned_room : mount_full g a (roles_of g t) f (seen_in g t) ≡ false
  unfolding mount_full
  planned_room = none_any_below _ g.drives (λ d h. neither d)
    where
      one : (b c : Bool) → (b ≡ true → c ≡ false) → b && c ≡ false
      one true c h = h refl
      one false c h = refl

      both : (b c : Bool) → b ≡ false → c ≡ false → b || c ≡ false
      both b c h i = rw (h, i) refl

      neither : (d : ℕ) → emptied_for g a false (roles_of g t) (seen_in g t) (mount_general_limit g) d && stays_full g false (roles_of g t) (mount_general_limit g) (new_general_size g f (general_heads g (seen_in g t) d)) d
          || (emptied_for g a true (roles_of g t) (seen_in g t) (reserve g) d && stays_full g true (roles_of g t) (reserve g) (new_parity_size g f d) d) ≡ false
      neither d = both _ _
          (one _ _ (λ e. k.general.roomy d (ap (λ (b : ℕ → Bool). b d) k.general.emptied_are ∙ e)))
          (one _ _ (λ e. k.parity.roomy d (ap (λ (b : ℕ → Bool). b d) k.parity.emptied_are ∙ e)))

  -- asked after the first flush
  opened_room : mount_full g a (start_roles g a x (device_of g t)) (by_look (mount_look g a x (device_of g t))) (mount_view g a x (device_of g t)) ≡ false
  unfolding mount_look
  opened_room =
      let v = device_of g t in
      let u = after_opening g a v in
      let same : SameOn a v u = λ d h y. sym (opening_sectors g a v d y) in
      let seen_same = by_roles_depend g a v u same in
      sym (mount_full_depends g a (seen_in g t) (mount_view g a x v) seen_same (roles_of g t) (start_roles g a x v) (roles_depend g a v u same) _ _ (by_look_depends g a (seen_in g t) (mount_view g a x v) seen_same x)) ∙ planned_room

  planned_fits : FitsAll g (mount_stores g a x (device_of g t)) (device_of g t)
  planned_fits = mount_fits g ok a x (device_of g t) (tables_long g t k.sized) k.here_in (λ d y h hy. zone_short g t d y (k.here_in d h) hy) opened_room

  logs_fit : FitsAll g (concat (phases_of_logs g a x (device_of g t))) (device_of g t)
  unfolding mount_stores phases_before_entries
  logs_fit =
      let v = device_of g t in
      let ph = phases_of_logs g a x v in
      let more = carry_phases (placed_by (middle_roles g a x v)) (with_flushes g a (steps_before_entries g a x (mount_look g a x v) (mount_view g a x v))) in
      fits_front g (concat ph) (concat more) v (subst (λ (ss : List Store). FitsAll g ss v) (concat_append ph more) (fits_front g (concat (ph ++ more)) _ v planned_fits))

  -- ---- AFTER THE FIRST FLUSH AND STEPS 1 AND 2, all made
  module _ (budget rest : ℕ) (u : Tables) (m : Made g budget rest (concat (phases_of_logs g (is_set p.here) (lost_among g p.here) (device_of g t))) t u) where
    pub logs_sized : WellSized g u
    logs_sized = rw m.tables_are (run_sized g (budget - 1) (concat (phases_of_logs g a x (device_of g t))) t k.sized (fits_all_placed g (concat (phases_of_logs g a x (device_of g t))) (device_of g t) logs_fit))

    -- the device, but for what the last flush made durable
    logs_made : rest ≢ 0 → (d y : ℕ) → (device_of g u d y).sectors ≡ (apply_all (empty_general g a (roles_of g t) f (is_emptied p.general.emptied) (seen_in g t)) (stage g a (device_of g t)) d y).sectors
    unfolding empty_general
    logs_made n d y =
        let v = device_of g t in
        let e = is_emptied p.general.emptied in
        let q = k.general.emptied_are in
        let r = roles_of g t in
        let w = seen_in g t in
        let s0 = opening_flush g a x t e q in
        let s1 = concat (with_flush g a (opening_spares g a x t e q)) in
        let s2 = concat (with_flush g a (opening_general g a x t e q)) in
        let all : device_of g u ≡ apply_all s2 (stage g a v) =
        made_device g budget rest (concat (phases_of_logs g a x v)) t u k.sized logs_fit m n
        ∙ ap (λ (ss : List Store). apply_all ss v) (opening_stores g a x t e q ∙ sym (append_assoc s0 s1 s2)) ∙ apply_all_append (s0 ++ s1) s2 v in
        ap (λ (h : Device). (h d y).sectors) all ∙ flush_part_lem g a (opening_general g a x t e q) (stage g a v) d y
        ∙ ap (λ (ss : List Store). (apply_all ss (stage g a v) d y).sectors) (emptyings_present g a false r e (λ d. new_general g f (r d) d (general_heads g w d)) (λ d i. general_here g t p ps k d i))

    -- by the roles of then: the device that the mount met with general logs emptied
    pub logs_emptied : rest ≢ 0 → Emptied g a f (roles_of g t) (is_emptied p.general.emptied) (seen_in g t) (seen_by (roles_after false (is_emptied p.general.emptied) (roles_of g t)) (device_of g u))
    logs_emptied n =
        let r1 = roles_after false (is_emptied p.general.emptied) (roles_of g t) in
        let v1 = apply_all (empty_general g a (roles_of g t) f (is_emptied p.general.emptied) (seen_in g t)) (stage g a (device_of g t)) in
        emptied_alike g a f (roles_of g t) (is_emptied p.general.emptied) (seen_in g t) (seen_by r1 v1) (seen_by r1 (device_of g u)) (λ d y. seen_alike (r1 d) (device_of g u d) (v1 d) (λ z. logs_made n d z) y) (stage_emptied g ok t p ps k)
