-- A mount up to its step 9: the phases of the logs, then steps 3 to 9 carried to where the logs lie by then; and where that is, as the code has it.
use Rattle.std.specs.Prelude.{◌≡◌, refl, Bool, true, length, replicate, eqb, Option}
use Rattle.std.proofs.Common.{sym, ap, ◌∙◌, subst, arith, ne_eqb}
use Rattle.std.proofs.Math.Path.{ap₂}
use Rattle.std.proofs.Math.Bool.{false}
use Prim.Native.Nat.{ℕ, zero, suc, ◌-◌}
use mathlib.Core.List.{List, [], ◌∷◌, ◌++◌}
use Rattle.tables.specs.declared.Geometry.{Geometry}
use Rattle.tables.specs.meaning.Basics.{pick}
use Rattle.tables.specs.meaning.Below.{tabulate}
use Rattle.tables.specs.meaning.Lists.{concat}
use Rattle.tables.specs.laws.Lists.{concat_append}
use Rattle.tables.specs.meaning.Geometry.{cells, max_drives}
use Rattle.tables.specs.meaning.Device.{Device, Store}
use Rattle.tables.specs.meaning.Tables.{Tables, tables_of, device_of}
use Rattle.tables.specs.laws.Made.{Made}
use Rattle.tables.specs.laws.Counted.{made_append}
use Rattle.volume.specs.declared.roles.LogPlaces.{LogPlaces}
use Rattle.volume.specs.meaning.CallContracts.{roles_of, seen_in, stores_before}
use Rattle.volume.specs.meaning.Rules.{Shown, showing}
use Rattle.volume.specs.meaning.Roles.{Roles, roles, by_roles, seen_as, placed_by, emptied_roles, roles_after}
use Rattle.volume.specs.meaning.Emptying.{mount_general_limit, emptied_for}
use Rattle.volume.specs.meaning.Mount.{with_flushes, steps_before_entries, carry_phases, phases_of_logs, phases_before_entries, after_opening, mount_look}
use Rattle.volume.specs.laws.LogPlaces.{with_roles, Proper}
use Rattle.volume.specs.laws.EmptyingStored.{seen_by}
use Rattle.volume.specs.looking.Knowing.{read_device}
use Rattle.volume.specs.looking.KnowingLaws.{sectors_alike}
use Rattle.volume.specs.looking.HiddenLogs.{places_of, hidden_logs, hidden_by}
use Rattle.volume.specs.looking.MovedLogs.{is_emptied, moved_by_roles}
use Rattle.mounting.specs.LookAgrees.{labels_same, differ_same, seals_same}
use Rattle.mounting.specs.RestoreAgrees.{torn_same, fill_same}
use Rattle.mounting.specs.MountRooms.{places_after}
use Rattle.mounting.specs.MountOpening.{opened_roles, opened_view, opened_look, opened_lacks}

-- ---- the stores, by the device that the mount meets
module _ (g : Geometry) (a : ℕ → Bool) (x : ℕ) (t : Tables) (e : ℕ → Bool) (q : e ≡ emptied_for g a false (roles_of g t) (seen_in g t) (mount_general_limit g)) where
  abbrev pub middle_stores : List Store
  middle_stores = concat (carry_phases (placed_by (roles_after false e (roles_of g t))) (with_flushes g a (steps_before_entries g a x (showing g a x (seen_in g t)) (seen_in g t))))

  steps_are : steps_before_entries g a x (mount_look g a x (device_of g t)) (by_roles g (after_opening g a (device_of g t))) ≡ steps_before_entries g a x (showing g a x (seen_in g t)) (seen_in g t)
  steps_are =
      let w' = by_roles g (after_opening g a (device_of g t)) in
      let w = seen_in g t in
      let s = showing g a x (seen_in g t) in
      let same = opened_view g a (device_of g t) in
      ap (λ (k : Shown). steps_before_entries g a x k (by_roles g (after_opening g a (device_of g t)))) (opened_look g a (device_of g t) x)
      ∙ rw (labels_same g w' w same x s, differ_same g w' w same a, seals_same g w' w same s, torn_same g w' w same s, fill_same g w' w same s) refl

  roles_are : roles_after false (emptied_for g a false (roles g (after_opening g a (device_of g t))) (by_roles g (after_opening g a (device_of g t))) (mount_general_limit g)) (roles g (after_opening g a (device_of g t))) ≡ roles_after false e (roles_of g t)
  roles_are = ap₂ (λ (b : ℕ → Bool) (r : ℕ → Roles). roles_after false b r) (opened_lacks g a (device_of g t) false (mount_general_limit g) ∙ sym q) (opened_roles g a (device_of g t))

  before_stores : stores_before g a x t ≡ concat (phases_of_logs g a x (device_of g t)) ++ middle_stores
  unfolding stores_before phases_before_entries
  before_stores =
      let ph = phases_of_logs g a x (device_of g t) in
      let steps' = steps_before_entries g a x (mount_look g a x (device_of g t)) (by_roles g (after_opening g a (device_of g t))) in
      let r' = roles_after false (emptied_for g a false (roles g (after_opening g a (device_of g t))) (by_roles g (after_opening g a (device_of g t))) (mount_general_limit g)) (roles g (after_opening g a (device_of g t))) in
      concat_append ph (carry_phases (placed_by r') (with_flushes g a steps'))
      ∙ ap₂ (λ (r : ℕ → Roles) (l : List (List Store)). concat ph ++ concat (carry_phases (placed_by r) (with_flushes g a l))) roles_are steps_are

  -- UP TO STEP 9: the logs, then the steps
  pub before_joined : (budget mid rest : ℕ) (u v : Tables) → Made g budget mid (concat (phases_of_logs g a x (device_of g t))) t u → Made g mid rest middle_stores u v → Made g budget rest (stores_before g a x t) t v
  before_joined budget mid rest u v m k =
      subst (λ (ss : List Store). Made g budget rest ss t v) (sym before_stores) (made_append g budget mid rest (concat (phases_of_logs g a x (device_of g t))) middle_stores t u v m k)

-- ---- where the logs lie after emptyings, as the code has it: no drive of these lacks a kind
module _ (g : Geometry) (r : ℕ → Roles) (proper : (d : ℕ) → Proper (r d)) (par : Bool) (emptied : List (Option ℕ)) (kinds : (d : ℕ) → is_emptied emptied d ≡ true → (eqb (r d).general_claim 0 ≡ false) × (eqb (r d).parity_claim 0 ≡ false)) where
  tabulate_alike : (f h : ℕ → Bool) → ((d : ℕ) → f d ≡ h d) → (n : ℕ) → tabulate f n ≡ tabulate h n
  tabulate_alike f h e zero = refl
  tabulate_alike f h e (suc n) = ap₂ (λ (l : List Bool) (b : Bool). l ++ (b ∷ [])) (tabulate_alike f h e n) (e n)

  claims_are : (d : ℕ) → (eqb (r d).general_claim 0 ≡ eqb (roles_after par (is_emptied emptied) r d).general_claim 0) × (eqb (r d).parity_claim 0 ≡ eqb (roles_after par (is_emptied emptied) r d).parity_claim 0)
  claims_are d = go (is_emptied emptied d) refl par
    where
      go : (b : Bool) → is_emptied emptied d ≡ b → (c : Bool) → (eqb (r d).general_claim 0 ≡ eqb (pick b (emptied_roles c (r d)) (r d)).general_claim 0) × (eqb (r d).parity_claim 0 ≡ eqb (pick b (emptied_roles c (r d)) (r d)).parity_claim 0)
      go true h true = (refl, (kinds d h).1 ∙ sym (ne_eqb (suc (r d).parity_claim) 0 (λ i. omega (arith, i))))
      go true h false = ((kinds d h).0 ∙ sym (ne_eqb (suc (r d).general_claim) 0 (λ i. omega (arith, i))), refl)
      go false h c = (refl, refl)

  pub places_after_lem : places_after (places_of g r) par emptied ≡ places_of g (roles_after par (is_emptied emptied) r)
  places_after_lem =
      let r' = roles_after par (is_emptied emptied) r in
      let one : tabulate (λ d. eqb (r d).general_claim 0) g.drives ≡ tabulate (λ d. eqb (r' d).general_claim 0) g.drives = tabulate_alike _ _ (λ d. (claims_are d).0) g.drives in
      let two : tabulate (λ d. eqb (r d).parity_claim 0) g.drives ≡ tabulate (λ d. eqb (r' d).parity_claim 0) g.drives = tabulate_alike _ _ (λ d. (claims_are d).1) g.drives in
      let build : Geometry → List Bool → List Bool → LogPlaces = λ h x y. record { geometry = h; no_general = x ++ replicate (max_drives - g.drives) false; no_parity = y ++ replicate (max_drives - g.drives) false } in
      ap₂ (λ (h : Geometry) (x : List Bool). build h x (tabulate (λ d. eqb (r d).parity_claim 0) g.drives)) (moved_by_roles g r proper par (is_emptied emptied)) one
      ∙ ap (build (with_roles g r') (tabulate (λ d. eqb (r' d).general_claim 0) g.drives)) two

-- ---- WHAT THE CODE READS then: the device by the roles of that moment (v: what the tables stand for)
pub middle_read : (g : Geometry) → g.logs ≡ 0 → (r : ℕ → Roles) → ((d : ℕ) → Proper (r d)) → (xs ws ds ps : List ℕ) → length ws ≡ cells g → ps ≡ hidden_logs (places_of g r) ws g.drives → (v : Device) → device_of g (tables_of xs ws ds) ≡ v
    → (d y : ℕ) → (read_device (with_roles g r) xs ps d y).sectors ≡ (seen_by r v d y).sectors
middle_read g first r proper xs ws ds ps long e v q d y =
    sym (sectors_alike (with_roles g r) xs ps ds d y)
    ∙ ap (λ (l : List ℕ). (device_of (with_roles g r) (tables_of xs l ds) d y).sectors) e ∙ ap (λ (u : Device). (u d y).sectors) (hidden_by g first r proper xs ws ds long)
    ∙ ap (λ (u : Device). (seen_as (r d) (u d) y).sectors) q
