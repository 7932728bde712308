-- What a mount stores depends on the sectors of the present drives alone: of two devices that agree there, the stores are the same, emptyings included.
use Rattle.std.specs.Prelude.{◌≡◌, refl, Bool, true, false, ◌&&◌, length, eqb, ltb}
use Rattle.std.proofs.Math.Path.{sym, ap, ap₂}
use Rattle.std.proofs.Common.{subst, ◌∙◌, eqb-true}
use Prim.Native.Nat.{ℕ}
use mathlib.Core.List.{List, [], ◌∷◌, ◌++◌, map}
use Rattle.tables.specs.declared.Geometry.{Geometry}
use Rattle.tables.specs.meaning.Basics.{pick}
use Rattle.tables.specs.meaning.Lists.{concat, is_nil}
use Rattle.tables.specs.laws.Lists.{concat_append}
use Rattle.tables.specs.meaning.Drives.{no_drive}
use Rattle.tables.specs.meaning.Device.{Device, Store, append, reset, flush, appended, blank_zone, flushed, apply, apply_all}
use Rattle.tables.specs.meaning.Phases.{on_present, flush_all}
use Rattle.tables.specs.meaning.Through.{through, carry}
use Rattle.tables.specs.laws.Through.{carry_on_present}
use Rattle.tables.specs.laws.StoresFit.{on_present_on}
use Rattle.logs.specs.meaning.Entry.{spare_zone}
use Rattle.volume.specs.meaning.Rules.{Shown}
use Rattle.volume.specs.meaning.Roles.{Roles, zone_of_role, placed_by}
use Rattle.volume.specs.meaning.Emptying.{by_look, spare_written, reserve, mount_general_limit, empty_general}
use Rattle.volume.specs.meaning.Mount.{spare_step, entry_step, with_flush, with_flushes, steps_before_entries, carry_phases, after_opening, mount_view, mount_look, start_roles, emptied_general, emptied_parity, middle_roles, end_roles, phases_of_logs, phases_before_entries, phases_of_parity_logs, phases_of_entries, after_fill, after_parity_logs, mount_stores}
use Rattle.volume.specs.laws.OpeningFlush.{opening_sectors}
use Rattle.volume.specs.laws.Depends.{SameOn}
use Rattle.volume.specs.laws.RolesDepend.{roles_depend, by_roles_depend}
use Rattle.volume.specs.laws.RefusalsDepend.{emptied_depends}
use Rattle.volume.specs.laws.LogRoom.{emptied_here}
use Rattle.volume.specs.laws.EmptyingDepends.{carry_same, after_depends, empty_general_depends, empty_parity_depends}
use Rattle.volume.specs.laws.MountDepends.{present_each, of_pick, AllOf, entry_depends, steps_depend, showing_depends, opening_same}
use Rattle.volume.specs.laws.MountPlaced.{on_step, on_steps}
use Rattle.volume.specs.laws.CarriedSteps.{concat_carried}

-- ---- stores keep what two devices agree on
apply_same : (present : ℕ → Bool) (x : Store) (v w : Device) → SameOn present v w → SameOn present (apply x v) (apply x w)
apply_same present (append e z s) v w same d p y = go (eqb d e) refl (eqb y z) refl
  where
    go : (b : Bool) → eqb d e ≡ b → (c : Bool) → eqb y z ≡ c → (pick (b && c) (appended s (v e z)) (v d y)).sectors ≡ (pick (b && c) (appended s (w e z)) (w d y)).sectors
    go true q true r = ap (λ (ss : List (List ℕ)). ss ++ (s ∷ [])) (same e (subst (λ (i : ℕ). present i ≡ true) (eqb-true d e q) p) z)
    go true q false r = same d p y
    go false q c r = same d p y
apply_same present (reset e z) v w same d p y = go (eqb d e && eqb y z)
  where
    go : (b : Bool) → (pick b blank_zone (v d y)).sectors ≡ (pick b blank_zone (w d y)).sectors
    go true = refl
    go false = same d p y
apply_same present (flush e) v w same d p y = go (eqb d e)
  where
    go : (b : Bool) → (pick b (flushed (v d y)) (v d y)).sectors ≡ (pick b (flushed (w d y)) (w d y)).sectors
    go true = same d p y
    go false = same d p y

pub applied_same : (present : ℕ → Bool) (xs : List Store) (v w : Device) → SameOn present v w → SameOn present (apply_all xs v) (apply_all xs w)
applied_same present [] v w same = same
applied_same present (x ∷ xs) v w same = applied_same present xs (apply x v) (apply x w) (apply_same present x v w same)

step_same : (g : Geometry) (present : ℕ → Bool) (xs ys : List Store) → on_present present xs ≡ on_present present ys → with_flush g present xs ≡ with_flush g present ys
step_same g present xs ys e = ap (λ (r : List Store). r ∷ pick (is_nil r) [] (on_present present (flush_all g.drives)) ∷ []) e

-- ---- past: what the devices have where there is no drive
module _ (g : Geometry) (present : ℕ → Bool) (x : ℕ) (v w : Device) (same : SameOn present v w) (past : (y : ℕ) → (v no_drive y).sectors ≡ (w no_drive y).sectors) where
  opened_same : SameOn present (after_opening g present v) (after_opening g present w)
  opened_same = opening_same g present present v w same

  abbrev R : Device → ℕ → Roles
  R u = start_roles g present x u

  abbrev W : Device → Device
  W u = mount_view g present x u

  abbrev M : Device → ℕ → Roles
  M u = middle_roles g present x u

  abbrev E : Device → ℕ → Roles
  E u = end_roles g present x u

  seen_same : SameOn present (W v) (W w)
  seen_same = by_roles_depend g present (after_opening g present v) (after_opening g present w) opened_same

  roles_same : (d : ℕ) → present d ≡ true → R v d ≡ R w d
  roles_same = roles_depend g present (after_opening g present v) (after_opening g present w) opened_same

  seen_past : (y : ℕ) → (W v no_drive y).sectors ≡ (W w no_drive y).sectors
  seen_past y = by_roles_depend g (λ d. eqb d no_drive) (after_opening g present v) (after_opening g present w) there no_drive refl y
    where
      there : SameOn (λ d. eqb d no_drive) (after_opening g present v) (after_opening g present w)
      there d p z = rw (eqb-true d no_drive p) (opening_sectors g present v no_drive z ∙ past z ∙ sym (opening_sectors g present w no_drive z))

  look_same : mount_look g present x v ≡ mount_look g present x w
  unfolding mount_look
  look_same = showing_depends g present (W v) (W w) seen_same seen_past x

  force_same : by_look (mount_look g present x v) ≡ by_look (mount_look g present x w)
  force_same = ap (λ (k : Shown). by_look k) look_same

  -- step 1
  spares_same : on_present present (map (carry (placed_by (R v))) (spare_step g (W v))) ≡ on_present present (map (carry (placed_by (R w))) (spare_step g (W w)))
  unfolding spare_step
  spares_same =
      sym (carry_on_present (placed_by (R v)) present (spare_step g (W v)))
      ∙ carry_same present (placed_by (R v)) (placed_by (R w)) (on_present present (spare_step g (W v))) (λ d p. ap (λ (r : Roles). zone_of_role r) (roles_same d p)) (on_present_on present (spare_step g (W v)))
      ∙ ap (λ (xs : List Store). map (carry (placed_by (R w))) xs)
      (present_each present (one (W v)) (one (W w)) g.drives (λ d. own (W v) d) (λ d. own (W w) d) (λ d p. ap (λ (ss : List (List ℕ)). pick (ltb 0 (length ss)) (reset d spare_zone ∷ []) []) (seen_same d p spare_zone)))
      ∙ carry_on_present (placed_by (R w)) present (spare_step g (W w))
    where
      one : Device → ℕ → List Store
      one u d = pick (spare_written u d) (reset d spare_zone ∷ []) []

      own : (u : Device) (d : ℕ) → AllOf d (one u d)
      own u d = of_pick d (spare_written u d) (reset d spare_zone ∷ []) (refl, tt)

  -- step 2
  which_general : (d : ℕ) → emptied_general g present x v d ≡ emptied_general g present x w d
  which_general = emptied_depends g present (W v) (W w) seen_same (R v) (R w) roles_same false (mount_general_limit g)

  there_general : (d : ℕ) → emptied_general g present x v d ≡ true → present d ≡ true
  there_general = emptied_here g present (R v) (W v) false (mount_general_limit g)

  generals_same : empty_general g present (R v) (by_look (mount_look g present x v)) (emptied_general g present x v) (W v) ≡ empty_general g present (R w) (by_look (mount_look g present x w)) (emptied_general g present x w) (W w)
  generals_same = empty_general_depends g present (R v) (R w) roles_same (emptied_general g present x v) (emptied_general g present x w) which_general there_general (W v) (W w) seen_same (by_look (mount_look g present x v)) (by_look (mount_look g present x w)) force_same

  middle_same : (d : ℕ) → present d ≡ true → M v d ≡ M w d
  middle_same = after_depends g present (R v) (R w) roles_same (emptied_general g present x v) (emptied_general g present x w) which_general there_general false

  -- steps 3 to 9
  abbrev steps_of : Device → List Store
  steps_of u = concat (with_flushes g present (steps_before_entries g present x (mount_look g present x u) (W u)))

  steps_same : steps_of v ≡ steps_of w
  steps_same =
      ap concat (steps_depend g present (W v) (W w) seen_same (mount_look g present x v) x)
      ∙ ap (λ (k : Shown). concat (with_flushes g present (steps_before_entries g present x k (W w)))) look_same

  before_same : concat (phases_before_entries g present x v) ≡ concat (phases_before_entries g present x w)
  unfolding phases_before_entries phases_of_logs
  before_same =
      concat_append (phases_of_logs g present x v) (carry_phases (placed_by (M v)) (with_flushes g present (steps_before_entries g present x (mount_look g present x v) (W v))))
      ∙ ap₂ (λ (a b : List Store). a ++ b) logs_part steps_part
      ∙ sym (concat_append (phases_of_logs g present x w) (carry_phases (placed_by (M w)) (with_flushes g present (steps_before_entries g present x (mount_look g present x w) (W w)))))
    where
      logs_part : concat (phases_of_logs g present x v) ≡ concat (phases_of_logs g present x w)
      logs_part = ap₂ (λ (a b : List (List Store)). on_present present (flush_all g.drives) ++ concat (a ++ b))
          (step_same g present (map (carry (placed_by (R v))) (spare_step g (W v))) (map (carry (placed_by (R w))) (spare_step g (W w))) spares_same) (ap (with_flush g present) generals_same)

      steps_part : concat (carry_phases (placed_by (M v)) (with_flushes g present (steps_before_entries g present x (mount_look g present x v) (W v)))) ≡ concat (carry_phases (placed_by (M w)) (with_flushes g present (steps_before_entries g present x (mount_look g present x w) (W w))))
      steps_part =
          concat_carried (placed_by (M v)) (with_flushes g present (steps_before_entries g present x (mount_look g present x v) (W v)))
          ∙ carry_same present (placed_by (M v)) (placed_by (M w)) (steps_of v) (λ d p. ap (λ (r : Roles). zone_of_role r) (middle_same d p)) (on_steps g present (steps_before_entries g present x (mount_look g present x v) (W v)))
          ∙ ap (λ (xs : List Store). map (carry (placed_by (M w))) xs) steps_same
          ∙ sym (concat_carried (placed_by (M w)) (with_flushes g present (steps_before_entries g present x (mount_look g present x w) (W w))))

  fill_same : SameOn present (after_fill g present x v) (after_fill g present x w)
  fill_same d p y = ap (λ (xs : List Store). (apply_all xs v d y).sectors) before_same ∙ applied_same present (concat (phases_before_entries g present x w)) v w same d p y

  -- seen by roles that agree
  through_same : (r s : ℕ → Roles) (a b : Device) → ((d : ℕ) → present d ≡ true → r d ≡ s d) → SameOn present a b → SameOn present (through (placed_by r) a) (through (placed_by s) b)
  through_same r s a b alike agree d p y = agree d p (zone_of_role (r d) y) ∙ ap (λ (t : Roles). (b d (zone_of_role t y)).sectors) (alike d p)

  -- step 10
  which_parity : (d : ℕ) → emptied_parity g present x v d ≡ emptied_parity g present x w d
  which_parity = emptied_depends g present (W v) (W w) seen_same (R v) (R w) roles_same true (reserve g)

  there_parity : (d : ℕ) → emptied_parity g present x v d ≡ true → present d ≡ true
  there_parity = emptied_here g present (R v) (W v) true (reserve g)

  parities_same : concat (phases_of_parity_logs g present x v (after_fill g present x v)) ≡ concat (phases_of_parity_logs g present x w (after_fill g present x w))
  unfolding phases_of_parity_logs
  parities_same = ap (λ (xs : List Store). concat (with_flush g present xs)) (
      empty_parity_depends g present (M v) (M w) middle_same (emptied_parity g present x v) (emptied_parity g present x w) which_parity there_parity (through (placed_by (M v)) (after_fill g present x v)) (through (placed_by (M w)) (after_fill g present x w))
      (through_same (M v) (M w) (after_fill g present x v) (after_fill g present x w) middle_same fill_same) (by_look (mount_look g present x v)) (by_look (mount_look g present x w)) force_same)

  moved_same : SameOn present (after_parity_logs g present x v) (after_parity_logs g present x w)
  moved_same d p y =
      ap (λ (xs : List Store). (apply_all xs (after_fill g present x v) d y).sectors) parities_same
      ∙ applied_same present (concat (phases_of_parity_logs g present x w (after_fill g present x w))) (after_fill g present x v) (after_fill g present x w) fill_same d p y

  end_same : (d : ℕ) → present d ≡ true → E v d ≡ E w d
  end_same = after_depends g present (M v) (M w) middle_same (emptied_parity g present x v) (emptied_parity g present x w) which_parity there_parity true

  -- step 11
  entries_same : concat (phases_of_entries g present x v (after_parity_logs g present x v)) ≡ concat (phases_of_entries g present x w (after_parity_logs g present x w))
  unfolding phases_of_entries
  entries_same =
      let a = through (placed_by (E v)) (after_parity_logs g present x v) in
      let b = through (placed_by (E w)) (after_parity_logs g present x w) in
      let agree = through_same (E v) (E w) (after_parity_logs g present x v) (after_parity_logs g present x w) end_same moved_same in
      let k = mount_look g present x v in
      let l = mount_look g present x w in
      concat_carried (placed_by (E v)) (with_flush g present (entry_step g k a))
      ∙ carry_same present (placed_by (E v)) (placed_by (E w)) (concat (with_flush g present (entry_step g k a))) (λ d p. ap (λ (r : Roles). zone_of_role r) (end_same d p)) (on_step g present (entry_step g k a))
      ∙ ap (λ (ps : List (List Store)). map (carry (placed_by (E w))) (concat ps)) (step_same g present (entry_step g k a) (entry_step g k b) (entry_depends g present a b agree k) ∙ ap (λ (s : Shown). with_flush g present (entry_step g s b)) look_same)
      ∙ sym (concat_carried (placed_by (E w)) (with_flush g present (entry_step g l b)))

  -- THE STORES ARE THE SAME
  pub mount_stores_depend : mount_stores g present x v ≡ mount_stores g present x w
  unfolding mount_stores
  mount_stores_depend = ap₂ (λ (a b : List Store). a ++ b) before_same (ap₂ (λ (a b : List Store). a ++ b) parities_same entries_same)
