-- A MOUNT SHOWS WHAT A LOOK SHOWS AFTER ITS LAST STORE (document 01): on any input, where a mount finishes, a look on the tables that it leaves, with the
-- same drives named, finishes and leaves the very state that the mount handed back (`mount_shows_the_look`). A mount states its state by the drives that were
-- present, and the drive that was lost, before its stores. So rule 1 must say the same of the tables that it leaves: its labels name the lost drive, and
-- stand on present drives alone. And the look must not be refused: every log that the mount
-- appended to or made anew is found again by the drives' roles, and is whole up to its pointer (RolesAfterMount).
use Rattle.std.specs.Prelude.{◌≡◌, ◌⊎◌, Bool, ◌&&◌, length, eqb}
use Rattle.std.proofs.Math.Path.{refl, ap, ap₂, fun_ext}
use Rattle.std.proofs.Common.{sym, ◌∙◌, subst, inl, inr, true≢false, arith, ltb-true, ltb-false, eqb-true, eq-eqb}
use Rattle.std.proofs.Math.Bool.{true, false, not}
use Prim.Native.Nat.{ℕ, ◌≤◌, ◌<◌}
use mathlib.Core.List.{List}
use Rattle.std.proofs.Math.Seq.{take-length}
use Rattle.std.proofs.Math.Dec.{ltb}
use Rattle.tables.specs.declared.Geometry.{Geometry}
use Rattle.tables.specs.meaning.Basics.{pick}
use Rattle.tables.specs.laws.Below.{count_below_cong}
use Rattle.tables.specs.meaning.Drives.{no_drive}
use Rattle.tables.specs.laws.Drives.{find_below_is, find_below_cong}
use Rattle.tables.specs.meaning.Geometry.{Valid, physical_zones}
use Rattle.tables.specs.meaning.Device.{Device, ZoneView, Store, apply_all}
use Rattle.tables.specs.meaning.Tables.{Tables, device_of, run_stores, lengths_fit, pointers_bad}
use Rattle.tables.specs.laws.Made.{AllPlaced}
use Rattle.tables.specs.laws.StoresFit.{fits_all_placed}
use Rattle.tables.specs.laws.TablesRefine.{run_refines, run_sized}
use Rattle.tables.specs.laws.TablesFrame.{sized_lengths}
use Rattle.tables.specs.laws.PointerOrder.{order_passed, order_passes, run_order}
use Rattle.tables.specs.laws.Counted.{run_covered}
use Rattle.logs.specs.meaning.Entry.{general_zone}
use Rattle.logs.specs.meaning.Walk.{walk_log}
use Rattle.logs.specs.meaning.Heads.{labelled, array_in, last_lost}
use Rattle.logs.specs.code.Query.{heads_of}
use Rattle.volume.specs.declared.State.{State}
use Rattle.volume.specs.declared.Outcome.{Outcome}
use Rattle.volume.specs.declared.Answer.TheVariants.{Finished, Unfinished, Refused}
use Rattle.volume.specs.meaning.Rules.{general_heads, is_lost, is_present, lost_drive}
use Rattle.volume.specs.meaning.Roles.{roles, by_roles, drive_by_roles, lacks_kind}
use Rattle.volume.specs.meaning.Refusals.{accept, two_lost, kind_lacks, bad_labels, bad_logs, look_rows}
use Rattle.volume.specs.meaning.Mount.{after_opening, mount_view, start_roles, mount_stores, shown_state}
use Rattle.volume.specs.meaning.Answers.{refused_at, present_in, lost_drive_in}
use Rattle.volume.specs.meaning.CallContracts.{bad_place_on, is_set, lengths_of, bad_in, roles_of, seen_in, answer_number, verdict_number, look_verdict, look_on, mount_verdict, mount_stores_on, mount_shown_on, mount_on, state_held}
use Rattle.volume.specs.laws.OpeningFlush.{opening_sectors}
use Rattle.volume.specs.laws.BadPlaces.{told_finished}
use Rattle.volume.specs.laws.Refusals.{passed}
use Rattle.volume.specs.laws.PassedRows.{MountPassed, mount_passed, mount_number_accepts}
use Rattle.volume.specs.laws.CallStoresFit.{zone_short}
use Rattle.volume.specs.laws.SectorLengths.{LongDevice, tables_long}
use Rattle.volume.specs.laws.Depends.{SameOn}
use Rattle.volume.specs.laws.RolesDepend.{roles_depend, by_roles_depend}
use Rattle.volume.specs.laws.RefusalsDepend.{labels_depend, logs_depend, kinds_depend}
use Rattle.volume.specs.laws.MountPlaced.{present_is_named}
use Rattle.volume.specs.laws.MountStoresFit.{mount_stores_are, not_full_here, mount_stores_fit, mount_tables_fit}
use Rattle.volume.specs.laws.MountAbsentDrives.{mount_on_lem}
use Rattle.volume.specs.laws.LookRows.{same_if, Said, lost_said, said_lost, lost_is_lost, lost_unique, LooksAccepted, looks_accepted, kinds_pass, label_there, array_same, labels_pass, logs_pass}
use Rattle.volume.specs.laws.SectorsStored.{absent_after}
use Rattle.volume.specs.laws.RolesAfterMount.{LogsLeft, v11, mount_leaves, kinds_left, logs_left}

-- ==== an accepted mount, and the tables that all its stores leave
module _ (g : Geometry) (named : List Bool) (t : Tables) (e : mount_verdict g named t ≡ accept) where
  -- the devices before and after, by the drives' roles
  abbrev v : Device
  v = seen_in g t

  abbrev present : ℕ → Bool
  present = present_in g (is_set named) (device_of g t)

  abbrev x : ℕ
  x = lost_drive_in g (is_set named) (device_of g t)

  abbrev stores : List Store
  stores = mount_stores_on g present x t

  abbrev left : Tables
  left = run_stores g (length stores) stores t

  abbrev w : Device
  w = seen_in g left

  accepted : MountPassed g named t
  accepted = mount_passed g named t e

  looks : LooksAccepted g named t
  looks = looks_accepted g named t e

  ok : Valid g
  ok = accepted.tables.valid

  below : (d : ℕ) → present d ≡ true → d < g.drives
  below d p = (present_is_named g (is_set named) v d p).0

  longs : LongDevice g.sector (device_of g t)
  longs = tables_long g t accepted.tables.sized

  short : (d y : ℕ) → present d ≡ true → y < physical_zones g → length (device_of g t d y).sectors ≤ g.capacity
  short d y p hy = zone_short g t d y (below d p) hy

  placed : AllPlaced g stores
  placed = fits_all_placed g stores (device_of g t) (mount_tables_fit g named t e)

  device_left : device_of g left ≡ apply_all (mount_stores g present x (device_of g t)) (device_of g t)
  device_left =
      run_refines g (length stores) stores t accepted.tables.sized (mount_tables_fit g named t e)
      ∙ ap (λ (xs : List Store). apply_all xs (device_of g t)) (take-length stores ∙ mount_stores_are g present x t accepted.tables.sized (mount_stores_fit g named t e))

  -- a drive that is not present is left alone
  absent_left : (d : ℕ) → present d ≡ false → w d ≡ v d
  absent_left d p = ap (drive_by_roles g d) (fun_ext λ y. ap (λ (u : Device). u d y) device_left ∙ absent_after present (mount_stores g present x (device_of g t)) (device_of g t) d y (mount_on_lem g present x (device_of g t)) p)

  lost_or_none : (x < g.drives) ⊎ (x ≡ no_drive)
  lost_or_none = go (find_below_is (is_lost g (is_set named) v) g.drives)
    where
      go : ((x ≡ no_drive) × ((k : ℕ) → k < g.drives → is_lost g (is_set named) v k ≡ false)) ⊎ ((x < g.drives) × (is_lost g (is_set named) v x ≡ true)) → (x < g.drives) ⊎ (x ≡ no_drive)
      go (inl (q, n)) = inr q
      go (inr (l, q)) = inl l

  -- ---- the first flush changes no sector
  abbrev opened : Device
  opened = mount_view g present x (device_of g t)

  opens : (a : ℕ → Bool) → SameOn a v opened
  opens a = by_roles_depend g a (device_of g t) (after_opening g present (device_of g t)) (λ d p y. sym (opening_sectors g present (device_of g t) d y))

  opened_heads : (d : ℕ) → general_heads g opened d ≡ general_heads g v d
  unfolding general_heads
  opened_heads d = ap (λ (ss : List (List ℕ)). heads_of (walk_log g d false ss)) (sym (opens (λ i. true) d refl general_zone))

  kinds_opened : kind_lacks g present (start_roles g present x (device_of g t)) ≡ false
  kinds_opened =
      sym (kinds_depend g present v opened (opens present) (roles_of g t) (start_roles g present x (device_of g t)) (roles_depend g present (device_of g t) (after_opening g present (device_of g t)) (λ d p y. sym (opening_sectors g present (device_of g t) d y)))) ∙ looks.kinds

  labels_opened : bad_labels g present opened ≡ false
  labels_opened = sym (labels_depend g present v opened (opens present)) ∙ looks.labels

  logs_opened : bad_logs g present opened ≡ false
  logs_opened = sym (logs_depend g present v opened (opens present)) ∙ looks.logs

  -- ---- the logs afterwards
  left_is : device_of g left ≡ v11 g ok present x (device_of g t) longs below short (not_full_here g named t e) lost_or_none kinds_opened labels_opened logs_opened
  left_is = device_left ∙ mount_leaves g ok present x (device_of g t) longs below short (not_full_here g named t e) lost_or_none kinds_opened labels_opened logs_opened

  logs : LogsLeft g present x opened w
  logs = subst (λ (u : Device). LogsLeft g present x opened (by_roles g u)) (sym left_is)
      (logs_left g ok present x (device_of g t) longs below short (not_full_here g named t e) lost_or_none kinds_opened labels_opened logs_opened)

  kinds : (d : ℕ) → present d ≡ true → lacks_kind (roles_of g left d) ≡ false
  kinds = subst (λ (u : Device). (d : ℕ) → present d ≡ true → lacks_kind (roles g u d) ≡ false) (sym left_is)
      (kinds_left g ok present x (device_of g t) longs below short (not_full_here g named t e) lost_or_none kinds_opened labels_opened logs_opened)

  -- ---- rule 1 says the same
  labelled_left : (d : ℕ) → present d ≡ true → (labelled (general_heads g w d) ≡ true) × (array_in (general_heads g w d) ≡ array_in (general_heads g v d))
  labelled_left d p = let (a, b) = logs.labels_stay d p in (a, b ∙ ap array_in (opened_heads d))

  label_left : (d : ℕ) → present d ≡ true → (last_lost no_drive (general_heads g w d) ≡ last_lost no_drive (general_heads g v d)) ⊎ (last_lost no_drive (general_heads g w d) ≡ x)
  label_left d p = rw (opened_heads d) at (logs.last_names d p)

  absent_heads : (d : ℕ) → present d ≡ false → general_heads g w d ≡ general_heads g v d
  unfolding general_heads
  absent_heads d p = ap (λ (zs : ℕ → ZoneView). heads_of (walk_log g d false (zs general_zone).sectors)) (absent_left d p)

  said_before : (d : ℕ) → d < g.drives → Said g (is_set named) w d → is_lost g (is_set named) v d ≡ true
  said_before d hd s = go (present s.by) refl
    where
      go : (b : Bool) → present s.by ≡ b → is_lost g (is_set named) v d ≡ true
      go false p = said_lost g (is_set named) v d (inr (record { by = s.by; by_below = s.by_below; by_named = s.by_named; by_labelled = rw (absent_heads s.by p) at s.by_labelled; names = rw (absent_heads s.by p) at s.names }))
      go true p = label (label_left s.by p)
        where
          label : (last_lost no_drive (general_heads g w s.by) ≡ last_lost no_drive (general_heads g v s.by)) ⊎ (last_lost no_drive (general_heads g w s.by) ≡ x) → is_lost g (is_set named) v d ≡ true
          label (inl q) = said_lost g (is_set named) v d (inr (record { by = s.by; by_below = s.by_below; by_named = s.by_named; by_labelled = label_there g present v looks.labels s.by s.by_below p; names = sym q ∙ s.names }))
          label (inr q) = let d_is : d ≡ x = sym s.names ∙ q in subst (λ (i : ℕ). is_lost g (is_set named) v i ≡ true) (sym d_is) (lost_is_lost g ok (is_set named) v looks.one_lost (subst (λ (i : ℕ). i < g.drives) d_is hd))

  said_after : (d : ℕ) → d < g.drives → is_lost g (is_set named) v d ≡ true → Said g (is_set named) v d → is_lost g (is_set named) w d ≡ true
  said_after d hd h s = go (present s.by) refl
    where
      go : (b : Bool) → present s.by ≡ b → is_lost g (is_set named) w d ≡ true
      go false p = said_lost g (is_set named) w d (inr (record { by = s.by; by_below = s.by_below; by_named = s.by_named; by_labelled = rw (absent_heads s.by p) s.by_labelled; names = rw (absent_heads s.by p) s.names }))
      go true p = said_lost g (is_set named) w d (inr (record { by = s.by; by_below = s.by_below; by_named = s.by_named; by_labelled = (labelled_left s.by p).0; names = label (label_left s.by p) }))
        where
          label : (last_lost no_drive (general_heads g w s.by) ≡ last_lost no_drive (general_heads g v s.by)) ⊎ (last_lost no_drive (general_heads g w s.by) ≡ x) → last_lost no_drive (general_heads g w s.by) ≡ d
          label (inl q) = q ∙ s.names
          label (inr q) = q ∙ sym (lost_unique g ok (is_set named) v looks.one_lost d hd h)

  lost_left : (d : ℕ) → d < g.drives → is_lost g (is_set named) w d ≡ is_lost g (is_set named) v d
  lost_left d hd = same_if (is_lost g (is_set named) w d) (is_lost g (is_set named) v d) (λ h. back (lost_said g (is_set named) w d h)) (λ h. on h (lost_said g (is_set named) v d h))
    where
      back : (is_set named d ≡ false) ⊎ Said g (is_set named) w d → is_lost g (is_set named) v d ≡ true
      back (inl q) = said_lost g (is_set named) v d (inl q)
      back (inr s) = said_before d hd s

      on : is_lost g (is_set named) v d ≡ true → (is_set named d ≡ false) ⊎ Said g (is_set named) v d → is_lost g (is_set named) w d ≡ true
      on h (inl q) = said_lost g (is_set named) w d (inl q)
      on h (inr s) = said_after d hd h s

  -- THE DRIVES PRESENT, AND THE LOST ONE, ARE THOSE THAT THE MOUNT FOUND
  pub present_left : is_present g (is_set named) w ≡ present
  unfolding is_present
  present_left = fun_ext λ d. go d (ltb d g.drives) refl
    where
      go : (d : ℕ) (b : Bool) → ltb d g.drives ≡ b → b && not (is_lost g (is_set named) w d) ≡ b && not (is_lost g (is_set named) v d)
      go d false q = refl
      go d true q = ap not (lost_left d (ltb-true d g.drives q))

  pub lost_drive_left : lost_drive g (is_set named) w ≡ x
  lost_drive_left = find_below_cong (is_lost g (is_set named) w) (is_lost g (is_set named) v) g.drives lost_left

  -- ---- a look is not refused
  lengths_left : lengths_fit g (length left.sectors) (length left.written) (length left.durable) ≡ true
  lengths_left = sized_lengths g left (run_sized g (length stores) stores t accepted.tables.sized placed)

  pointers_left : pointers_bad g named left.written left.durable ≡ false
  pointers_left = order_passes g named left.written left.durable (λ d hd n. run_order g d (length stores) stores t hd accepted.tables.sized placed (order_passed g named t.written t.durable d accepted.tables.pointers hd n))

  one_lost_left : two_lost g (is_set named) w ≡ false
  unfolding two_lost
  one_lost_left = ap (ltb 1) (count_below_cong (is_lost g (is_set named) w) (is_lost g (is_set named) v) g.drives lost_left) ∙ looks.one_lost

  labels_left : bad_labels g (is_present g (is_set named) w) w ≡ false
  labels_left = rw present_left (labels_pass g present w (λ d hd p. (labelled_left d p).0) (λ d i hd hi p q. (labelled_left d p).1 ∙ array_same g present v looks.labels d i hd hi p q ∙ sym (labelled_left i q).1))

  kinds_there_left : kind_lacks g (is_present g (is_set named) w) (roles_of g left) ≡ false
  kinds_there_left = rw present_left (kinds_pass g present (roles_of g left) kinds)

  logs_end_left : bad_logs g (is_present g (is_set named) w) w ≡ false
  logs_end_left = rw present_left (logs_pass g present w (λ d hd p. (logs.general_ends d p, logs.parity_ends d p)))

  pub look_accepts : look_verdict g named left ≡ accept
  unfolding look_verdict look_rows
  look_accepts = passed (look_rows g (lengths_of left) (bad_in g named left) (is_set named) (roles_of g left) w) (looks.geometry, (ap not lengths_left, (pointers_left, (one_lost_left, (rw (kinds_there_left, labels_left) refl, (logs_end_left, tt))))))

  -- and shows what the mount handed back
  look_left : (old : State) → look_on g named old left ≡ record { answer = Finished; state = mount_shown_on g present x t }
  unfolding look_on mount_shown_on
  look_left old =
      ap (λ (n : ℕ). pick (eqb n 0) (record { answer = Finished; state = state_held g.zones (shown_state g (is_present g (is_set named) w) (lost_drive g (is_set named) w) (device_of g left)) }) (record { answer = refused_at (bad_place_on g named left) n; state = old })) (ap verdict_number look_accepts)
      ∙ ap₂ (λ (a : ℕ → Bool) (y : ℕ). record { answer = Finished; state = state_held g.zones (shown_state g a y (device_of g left)) }) present_left lost_drive_left

-- ==== the law
pub mount_shows_the_look : (g : Geometry) (named : List Bool) (old old' : State) (count : ℕ) (t : Tables) → (mount_on g named old count t).outcome.answer ≡ Finished
    → look_on g named old' (mount_on g named old count t).tables ≡ record { answer = Finished; state = (mount_on g named old count t).outcome.state }
unfolding mount_on
mount_shows_the_look g named old old' count t f = go (eqb n 0) refl (ltb count (length ss)) refl (told_finished (bad_place_on g named t) (outcome (eqb n 0) (ltb count (length ss))).answer f)
  where
    a : ℕ → Bool
    a = present_in g (is_set named) (device_of g t)

    y : ℕ
    y = lost_drive_in g (is_set named) (device_of g t)

    n : ℕ
    n = verdict_number (mount_verdict g named t)

    ss : List Store
    ss = mount_stores_on g a y t

    outcome : Bool → Bool → Outcome
    outcome b c = pick b (pick c (record { answer = Unfinished; state = old }) (record { answer = Finished; state = mount_shown_on g a y t })) (record { answer = Refused n; state = old })

    go : (b : Bool) → eqb n 0 ≡ b → (c : Bool) → ltb count (length ss) ≡ c → (outcome b c).answer ≡ Finished → look_on g named old' (pick b (run_stores g count ss t) t) ≡ record { answer = Finished; state = (outcome b c).state }
    go true p true q f = absurd (let z : ◌≡◌ {A = ℕ} 255 0 = ap answer_number f in omega arith)
    go true p false q f =
        ap (look_on g named old') (run_covered g count ss t (ltb-false count (length ss) q)) ∙ look_left g named t (mount_number_accepts g named t (eqb-true n 0 p)) old'
    go false p c q f = absurd (let z : n ≡ 0 = ap answer_number f in true≢false (sym (eq-eqb n 0 z) ∙ p))
