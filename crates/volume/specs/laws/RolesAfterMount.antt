-- The drives' logs after an accepted mount, on any input: of each present drive the general log is what it was, or its copies, and then what the steps appended;
-- its parity log is whole up to its pointer; its spare is blank. So its roles are those that the mount's emptyings made (`roles_left`).
use Rattle.std.specs.Prelude.{◌≡◌, ◌≢◌, ◌⊎◌, Bool, ℕ, ◌+◌, ◌≤◌, ◌<◌, length, eqb}
use Rattle.std.proofs.Math.Path.{refl, sym, ap, ap₂}
use Rattle.std.proofs.Common.{subst, ◌∙◌, inl, inr, arith, length-append}
use Rattle.std.proofs.Math.Bool.{true, false}
use Rattle.std.proofs.Math.Decide.{ℕ_discrete}
use mathlib.Core.List.{List, [], ◌∷◌, ◌++◌, map, append-nil, append_assoc, Memᴰ}
use Rattle.std.proofs.Math.Seq.{take-length}
use borrow.Author.Tests.{eqb-true, eqb-false, ne_eqb}
use Rattle.tables.specs.declared.Geometry.{Geometry}
use Rattle.tables.specs.meaning.Basics.{pick}
use Rattle.tables.specs.laws.Basics.{and_split, or_none, not_both}
use Rattle.tables.specs.meaning.Drives.{no_drive}
use Rattle.tables.specs.meaning.Lists.{concat}
use Rattle.tables.specs.meaning.Geometry.{Valid, physical_zones}
use Rattle.tables.specs.meaning.Device.{ZoneView, Device, Store, apply_all}
use Rattle.tables.specs.laws.Device.{apply_all_append}
use Rattle.tables.specs.meaning.Through.{through, carry}
use Rattle.tables.specs.laws.Through.{through_apply_all}
use Rattle.logs.specs.meaning.Entry.{general_zone, parity_zone, spare_zone, worn_generation, label, Entry}
use Rattle.logs.specs.meaning.Walk.{Ending, at_pointer, walk_log}
use Rattle.logs.specs.meaning.Heads.{labelled, array_in, last_lost}
use Rattle.logs.specs.laws.Walk.{Reads, Whole}
use Rattle.logs.specs.laws.HeadLaws.{last_lost_is, lost_of_append, labelled_of_append}
use Rattle.logs.specs.laws.HeadsWalk.{walked_reads}
use Rattle.logs.specs.code.Judge.{and_false}
use Rattle.logs.specs.code.Query.{heads_of}
use Rattle.volume.specs.meaning.Content.{inside_stripe, parity_drive_at}
use Rattle.volume.specs.meaning.Rules.{Shown, general_heads, general_ending, generation_of, parity_entries, parity_ending}
use Rattle.volume.specs.meaning.Roles.{zone_claim, strength, Roles, roles, by_roles, drive_by_roles, seen_as, lacks_kind, zone_of_role, placed_by, emptied_roles}
use Rattle.volume.specs.meaning.Emptying.{by_look, is_copied, made_entry, mount_general_limit}
use Rattle.volume.specs.meaning.Refusals.{kind_lacks, bad_labels, bad_logs, mount_full}
use Rattle.volume.specs.meaning.Mount.{entry_step, missing_rows, with_flush, carry_phases, mount_view, mount_look, start_roles, emptied_general, emptied_parity, middle_roles, end_roles, phases_before_entries, phases_of_parity_logs, phases_of_entries, after_fill, mount_stores}
use Rattle.volume.specs.laws.LookRows.{kinds_there, entry_ends, label_there, logs_end}
use Rattle.volume.specs.laws.SpareZone.{still, entries_keep_off}
use Rattle.volume.specs.laws.SectorsStored.{sectors_to, log_after, keep_step, keep_steps, sectors_step, sectors_steps}
use Rattle.volume.specs.laws.SectorLengths.{LongDevice, walked_rows}
use Rattle.volume.specs.laws.Firm.{proper_apart, role_one_to_one}
use Rattle.volume.specs.laws.LogClaims.{log_strength}
use Rattle.volume.specs.laws.LogStrengths.{grown_strength, closed_strength, roles_are}
use Rattle.volume.specs.laws.LogRoom.{emptied_here, log_by_roles, data_by_roles, mount_empties_general, mount_empties_parity}
use Rattle.volume.specs.laws.GrowingLogs.{Grown, general_grows, general_whole, no_entries, Lacks, parity_grows}
use Rattle.volume.specs.laws.GrowingClaims.{general_claim_grows, parity_claim_grows}
use Rattle.volume.specs.laws.NewLogClaims.{emptied_claim, new_parity_ends, new_parity_claims}
use Rattle.volume.specs.laws.EmptiedLogs.{Emptied, look_in_force}
use Rattle.volume.specs.laws.EmptiedSays.{lost_alike, labelled_alike, array_alike}
use Rattle.volume.specs.laws.EmptiedLooks.{logs_kept}
use Rattle.volume.specs.laws.EmptyingStored.{emptyings_there, emptyings_else, emptyings_old}
use Rattle.volume.specs.laws.EmptyingFits.{fits_short}
use Rattle.volume.specs.laws.CarriedSteps.{concat_carried}
use Rattle.volume.specs.laws.MountHeadersRead.{entry_reads, entry_whole}
use Rattle.volume.specs.laws.MountLogSectors.{NamesLost, names_plain, entries_keep, steps_keep, general_joins, torn_rows_join, missing_lack, entries_join_parity}
use Rattle.volume.specs.laws.MountLogsFit.{opened, proper, cleared, spare_cleared, else_cleared, NG, emptied, emptied_is, seen, parity_kept, data_kept, steps}
use Rattle.volume.specs.laws.MountStoresFit.{own, filled, view, firm, view_is, filled_long, spare_of, filled_short, NP, blank, new_parity_fits, moved, moved_is, last, end_firm, moved_short, entries, entries_fit, fill_is, moved_at}

mem_head : (es : List Entry) (e : Entry) → Memᴰ e es → Memᴰ e.head (map (λ (e : Entry). e.head) es)
mem_head (f ∷ es) e (Memᴰ.head q) = Memᴰ.head (ap (λ (e : Entry). e.head) q)
mem_head (f ∷ es) e (Memᴰ.tail m) = Memᴰ.tail (mem_head es e m)
mem_head [] e x' = elim x' [ ]

none_there : (ss : List (List ℕ)) → length ss ≡ 0 → ss ≡ []
none_there [] e = refl
none_there (s ∷ ss) e = absurd (omega (arith, e))

-- THE LOGS of the present drives, by the roles before (w) and after (u): whole up to their pointers, with the labels that they began with, and the last one
-- naming whom it named, or x
pub record LogsLeft (g : Geometry) (present : ℕ → Bool) (x : ℕ) (w u : Device) : Type 0 where
  pub general_ends : (d : ℕ) → present d ≡ true → general_ending g u d ≡ at_pointer
  pub parity_ends : (d : ℕ) → present d ≡ true → parity_ending g u d ≡ at_pointer
  pub labels_stay : (d : ℕ) → present d ≡ true → (labelled (general_heads g u d) ≡ true) × (array_in (general_heads g u d) ≡ array_in (general_heads g w d))
  pub last_names : (d : ℕ) → present d ≡ true → (last_lost no_drive (general_heads g u d) ≡ last_lost no_drive (general_heads g w d)) ⊎ (last_lost no_drive (general_heads g u d) ≡ x)

-- ---- the mount of v, of which rows 4 to 6 and 14 ask nothing more
module _ (g : Geometry) (ok : Valid g) (present : ℕ → Bool) (x : ℕ) (v : Device) (longs : LongDevice g.sector v) (below : (d : ℕ) → present d ≡ true → d < g.drives)
    (short : (d y : ℕ) → present d ≡ true → y < physical_zones g → length (v d y).sectors ≤ g.capacity)
    (full : mount_full g present (start_roles g present x v) (by_look (mount_look g present x v)) (mount_view g present x v) ≡ false)
    (lost : (x < g.drives) ⊎ (x ≡ no_drive)) (kinds : kind_lacks g present (start_roles g present x v) ≡ false)
    (labels : bad_labels g present (mount_view g present x v) ≡ false) (logs : bad_logs g present (mount_view g present x v) ≡ false) where
  abbrev R : ℕ → Roles
  R = start_roles g present x v

  abbrev W : Device
  W = mount_view g present x v

  abbrev K : Shown
  K = mount_look g present x v

  abbrev EG : ℕ → Bool
  EG = emptied_general g present x v

  abbrev EP : ℕ → Bool
  EP = emptied_parity g present x v

  abbrev M : ℕ → Roles
  M = middle_roles g present x v

  abbrev E : ℕ → Roles
  E = end_roles g present x v

  -- the devices of the mount: after the first flush, step 1, step 2, steps 3 to 9, step 10, step 11; and by the roles in force
  abbrev v0 : Device
  v0 = opened g ok present x v longs below short full

  abbrev v1 : Device
  v1 = cleared g ok present x v longs below short full

  abbrev v2 : Device
  v2 = emptied g ok present x v longs below short full

  abbrev u2 : Device
  u2 = seen g ok present x v longs below short full

  abbrev v9 : Device
  v9 = filled g ok present x v longs below short full

  abbrev u9 : Device
  u9 = view g ok present x v longs below short full

  abbrev v10 : Device
  v10 = moved g ok present x v longs below short full

  abbrev u10 : Device
  u10 = last g ok present x v longs below short full

  abbrev steps9 : List (List Store)
  steps9 = steps g ok present x v longs below short full

  abbrev stores11 : List Store
  stores11 = entries g ok present x v longs below short full

  abbrev pub v11 : Device
  v11 = apply_all (map (carry (placed_by E)) stores11) v10

  abbrev pub u11 : Device
  u11 = through (placed_by E) v11

  -- the mount's stores leave v11
  entries_at : (u : Device) → u ≡ v10 → apply_all (concat (phases_of_entries g present x v u)) u ≡ v11
  unfolding phases_of_entries
  entries_at u e =
      ap (λ (w : Device). apply_all (concat (carry_phases (placed_by E) (with_flush g present (entry_step g K (through (placed_by E) w))))) w) e
      ∙ ap (λ (xs : List Store). apply_all xs v10) (concat_carried (placed_by E) (with_flush g present (entry_step g K u10)))

  pub mount_leaves : apply_all (mount_stores g present x v) v ≡ v11
  unfolding mount_stores
  mount_leaves =
      let b = concat (phases_before_entries g present x v) in
      let a = after_fill g present x v in
      let p = concat (phases_of_parity_logs g present x v a) in
      let q = concat (phases_of_entries g present x v (apply_all p a)) in
      apply_all_append b (p ++ q) v ∙ apply_all_append p q a ∙ entries_at (apply_all p a) (moved_at g ok present x v longs below short full a (fill_is g ok present x v longs below short full))

  -- ---- the roles at the start
  claims : (d : ℕ) → present d ≡ true → (1 ≤ (R d).general_claim) × (1 ≤ (R d).parity_claim)
  claims d p =
      let (m, n) = or_none (eqb (R d).general_claim 0) (eqb (R d).parity_claim 0) (kinds_there g present R kinds d (below d p) p) in
      let a = eqb-false (R d).general_claim 0 m in
      let b = eqb-false (R d).parity_claim 0 n in
      (omega (arith, a), omega (arith, b))

  general_home : (d : ℕ) → present d ≡ true → (W d general_zone).sectors ≡ (v0 d (R d).general).sectors
  general_home d p = ap (λ (z : ZoneView). z.sectors) (log_by_roles g v0 d false (claims d p).0)

  parity_home : (d : ℕ) → present d ≡ true → (W d parity_zone).sectors ≡ (v0 d (R d).parity).sectors
  parity_home d p = ap (λ (z : ZoneView). z.sectors) (log_by_roles g v0 d true (claims d p).1)

  -- ---- after step 2: general logs were emptied (an absent drive as it was)
  there : (d : ℕ) → EG d ≡ true → (present d ≡ true) × (d < g.drives)
  there d e = let p = emptied_here g present R W false (mount_general_limit g) d e in (p, below d p)

  abbrev pub w1 : Device
  w1 d y = pick (present d) (u2 d y) (W d y)

  here : (d y : ℕ) → present d ≡ true → (w1 d y).sectors ≡ (u2 d y).sectors
  here d y p = ap (λ (b : Bool). (pick b (u2 d y) (W d y)).sectors) p

  copied_general_lem : (d : ℕ) → EG d ≡ true → (u2 d general_zone).sectors ≡ NG g ok present x v longs below short full d
  copied_general_lem d e =
      let (p, hd) = there d e in
      ap (λ (b : Bool). (v2 d (pick b (emptied_roles false (R d)) (R d)).general).sectors) e ∙ emptied_is g ok present x v longs below short full d (R d).spare
      ∙ emptyings_there g present false R EG (NG g ok present x v longs below short full) v1 d hd e (proper_apart (R d) (proper g ok present x v longs below short full d)).1
      ∙ ap (λ (t : List (List ℕ)). t ++ NG g ok present x v longs below short full d) (spare_cleared g ok present x v longs below short full d p)

  kept_general : (d : ℕ) → present d ≡ true → EG d ≡ false → (u2 d general_zone).sectors ≡ (W d general_zone).sectors
  kept_general d p e =
      ap (λ (b : Bool). (v2 d (pick b (emptied_roles false (R d)) (R d)).general).sectors) e ∙ emptied_is g ok present x v longs below short full d (R d).general
      ∙ emptyings_else g present false R EG (NG g ok present x v longs below short full) v1 d (R d).general (λ q. not_both (EG d) q e)
      ∙ else_cleared g ok present x v longs below short full d general_zone p (λ q. omega (arith, q)) ∙ sym (general_home d p)

  kept_else : (d y : ℕ) → present d ≡ true → y ≢ general_zone → y ≢ spare_zone → (u2 d y).sectors ≡ (W d y).sectors
  kept_else d y p a b = go (ℕ_discrete y parity_zone)
    where
      go : Dec (y ≡ parity_zone) → (u2 d y).sectors ≡ (W d y).sectors
      go (yes e) = subst (λ (i : ℕ). (u2 d i).sectors ≡ (W d i).sectors) (sym e) (parity_kept g ok present x v longs below short full d p ∙ sym (parity_home d p))
      go (no e) =
          let l : 3 ≤ y = omega (arith, a, b, e) in
          data_kept g ok present x v longs below short full d y p l ∙ sym (ap (λ (z : ZoneView). z.sectors) (data_by_roles g v0 d y l))

  look_generation : (z : ℕ) → (by_look K).generation z ≡ generation_of g present W z
  unfolding mount_look
  look_generation z = look_in_force g present x W z

  pub emptied_logs : Emptied g present (by_look K) R EG W w1
  emptied_logs = record {
    valid = ok;
    there = there;
    in_force_lem = λ z l. look_generation z;
    begins = λ d e. label_there g present W labels d (there d e).1 (there d e).0;
    claims = λ d e. let c = mount_empties_general g present R (by_look K) W full d (there d e).1 e in (c.general_there, c.raised);
    room = λ d e. let c = mount_empties_general g present R (by_look K) W full d (there d e).1 e in omega (arith, c.fits);
    copied = λ d e. here d general_zone (there d e).0 ∙ copied_general_lem d e;
    kept = λ d e. kept d e (present d) refl;
    elsewhere = λ d y a b. elsewhere d y a b (present d) refl;
  }
    where
      kept : (d : ℕ) → EG d ≡ false → (b : Bool) → present d ≡ b → (pick b (u2 d general_zone) (W d general_zone)).sectors ≡ (W d general_zone).sectors
      kept d e true p = kept_general d p e
      kept d e false p = refl

      elsewhere : (d y : ℕ) → y ≢ general_zone → y ≢ spare_zone → (b : Bool) → present d ≡ b → (pick b (u2 d y) (W d y)).sectors ≡ (W d y).sectors
      elsewhere d y a b true p = kept_else d y p a b
      elsewhere d y a b false p = refl

  -- ---- the logs after step 9, and after step 11
  filled_log : (d y : ℕ) → y ≤ parity_zone → present d ≡ true → (u9 d y).sectors ≡ (u2 d y).sectors ++ sectors_to d y (concat steps9)
  filled_log d y h p =
      ap (λ (u : Device). (u d y).sectors) (view_is g ok present x v longs below short full)
      ∙ log_after (own g ok present x v longs below short full) u2 d y h (keep_steps g present steps9 (steps_keep g K present x W))
      ∙ ap (λ (ss : List (List ℕ)). (u2 d y).sectors ++ ss) (sectors_steps g present d y p steps9)

  seen_last : u11 ≡ apply_all stores11 u10
  seen_last = through_apply_all (placed_by E) stores11 v10 (λ d. role_one_to_one (E d) (end_firm g ok present x v longs below short full d))

  last_log : (d y : ℕ) → y ≤ parity_zone → present d ≡ true → (u11 d y).sectors ≡ (u10 d y).sectors ++ sectors_to d y (entry_step g K u10)
  last_log d y h p =
      ap (λ (u : Device). (u d y).sectors) seen_last ∙ log_after stores11 u10 d y h (keep_step g present (entry_step g K u10) (entries_keep g K u10))
      ∙ ap (λ (ss : List (List ℕ)). (u10 d y).sectors ++ ss) (sectors_step g present d y p (entry_step g K u10))

  last_short : (d y : ℕ) → present d ≡ true → y < physical_zones g → length (u11 d y).sectors ≤ g.capacity
  last_short d y p hy = fits_short g (map (carry (placed_by E)) stores11) v10 d (zone_of_role (E d) y) (entries_fit g ok present x v longs below short full) (moved_short g ok present x v longs below short full d y p hy)

  -- ---- general logs
  general_same : (d : ℕ) → ((E d).general ≡ (M d).general) × ((E d).general_claim ≡ (M d).general_claim)
  general_same d = go (EP d)
    where
      go : (b : Bool) → ((pick b (emptied_roles true (M d)) (M d)).general ≡ (M d).general) × ((pick b (emptied_roles true (M d)) (M d)).general_claim ≡ (M d).general_claim)
      go true = (refl, refl)
      go false = (refl, refl)

  general_stays : (d : ℕ) → (u10 d general_zone).sectors ≡ (u9 d general_zone).sectors
  general_stays d =
      let (a, b, c, l) = proper_apart (M d) (firm g ok present x v longs below short full d) in
      ap (λ (y : ℕ). (v10 d y).sectors) (general_same d).0 ∙ moved_is g ok present x v longs below short full d (M d).general
      ∙ emptyings_else g present true M EP (NP g ok present x v longs below short full) v9 d (M d).general (λ e. (a, b))

  abbrev pub joins : ℕ → List (List ℕ)
  joins d = sectors_to d general_zone (concat steps9) ++ sectors_to d general_zone (entry_step g K u10)

  pub general_left : (d : ℕ) → present d ≡ true → (u11 d general_zone).sectors ≡ (w1 d general_zone).sectors ++ joins d
  general_left d p =
      let a = sectors_to d general_zone (concat steps9) in
      let b = sectors_to d general_zone (entry_step g K u10) in
      last_log d general_zone (omega arith) p ∙ ap (λ (ss : List (List ℕ)). ss ++ b) (general_stays d ∙ filled_log d general_zone (omega arith) p ∙ ap (λ (ss : List (List ℕ)). ss ++ a) (sym (here d general_zone p)))
      ∙ append_assoc (w1 d general_zone).sectors a b

  general_ends : (d : ℕ) → present d ≡ true → (walk_log g d false (w1 d general_zone).sectors).last ≡ at_pointer
  unfolding general_ending
  general_ends d p =
      let calm = logs_kept g present (by_look K) R EG W w1 emptied_logs logs in
      general_whole g d (w1 d general_zone).sectors (entry_ends (walk_log g d false (w1 d general_zone).sectors).last (logs_end g present w1 calm d (below d p) p).0)

  pub grown : (d : ℕ) → present d ≡ true → Grown g d (NamesLost x) (w1 d general_zone).sectors (joins d)
  grown d p =
      let long = ap (λ (ss : List (List ℕ)). length ss) (general_left d p) ∙ length-append (w1 d general_zone).sectors (joins d) in
      general_grows g d (NamesLost x) (joins d) (w1 d general_zone).sectors (general_ends d p) (general_joins g ok present x v d lost u10) (omega (arith, long, last_short d general_zone p (omega arith)))

  -- ---- their strength
  middle_strength : (d : ℕ) → present d ≡ true → strength g d false (M d).general (w1 d general_zone).sectors ≡ (M d).general_claim
  middle_strength d p = go (EG d) refl
    where
      go : (b : Bool) → EG d ≡ b → strength g d false (pick b (emptied_roles false (R d)) (R d)).general (w1 d general_zone).sectors ≡ (pick b (emptied_roles false (R d)) (R d)).general_claim
      go true e = closed_strength g d false (R d).spare (w1 d general_zone).sectors (R d).general_claim (emptied_claim g present (by_look K) R EG W w1 emptied_logs d e) (claims d p).0
      go false e =
          let n = (claims d p).0 in
          ap (strength g d false (R d).general) (here d general_zone p ∙ kept_general d p e ∙ general_home d p) ∙ log_strength g d (λ y. (v0 d y).sectors) false (λ q. omega (arith, n, q))

  middle_claims : (d : ℕ) → present d ≡ true → (1 ≤ (M d).general_claim) × ((M d).parity ≡ (R d).parity) × ((M d).parity_claim ≡ (R d).parity_claim)
  middle_claims d p = go (EG d)
    where
      go : (b : Bool) → (1 ≤ (pick b (emptied_roles false (R d)) (R d)).general_claim) × ((pick b (emptied_roles false (R d)) (R d)).parity ≡ (R d).parity) × ((pick b (emptied_roles false (R d)) (R d)).parity_claim ≡ (R d).parity_claim)
      go true = (omega arith, refl, refl)
      go false = ((claims d p).0, refl, refl)

  general_strength : (d : ℕ) → present d ≡ true → strength g d false (E d).general (v11 d (E d).general).sectors ≡ (E d).general_claim
  general_strength d p =
      let base = (w1 d general_zone).sectors in
      let k = grown d p in
      let n : strength g d false (M d).general base ≢ 0 = λ q. omega (arith, q, middle_strength d p, (middle_claims d p).0) in
      ap₂ (λ (y : ℕ) (ss : List (List ℕ)). strength g d false y ss) (general_same d).0 (general_left d p)
      ∙ grown_strength g d false (M d).general base (base ++ joins d) n (general_claim_grows g d (NamesLost x) base (joins d) k (names_plain x)) k.ends
      ∙ middle_strength d p ∙ sym (general_same d).1

  -- ---- parity logs: after step 9 whole up to their pointer
  abbrev missing : ℕ → List (List ℕ)
  missing d = missing_rows g K (walk_log g d true (W d parity_zone).sectors).last

  lacks : (d : ℕ) → present d ≡ true → Lacks g d (walk_log g d true (W d parity_zone).sectors).last (length (missing d))
  unfolding parity_ending
  lacks d p = missing_lack g K d (W d parity_zone).sectors (entry_ends (walk_log g d true (W d parity_zone).sectors).last (logs_end g present W logs d (below d p) p).1)

  filled_parity : (d : ℕ) → present d ≡ true → (u9 d parity_zone).sectors ≡ (W d parity_zone).sectors ++ (missing d ++ [])
  unfolding parity_ending
  filled_parity d p =
      filled_log d parity_zone (omega arith) p
      ∙ ap₂ (λ (a b : List (List ℕ)). a ++ b) (kept_else d parity_zone p (λ q. omega (arith, q)) (λ q. omega (arith, q))) (torn_rows_join g K W d present x (below d p) ∙ sym (append-nil (missing d)))

  filled_room : (d : ℕ) → present d ≡ true → length (W d parity_zone).sectors + length (missing d ++ []) ≤ g.capacity
  filled_room d p =
      let long = ap (λ (ss : List (List ℕ)). length ss) (filled_parity d p) ∙ length-append (W d parity_zone).sectors (missing d ++ []) in
      omega (arith, long, filled_short g ok present x v longs below short full d (M d).parity p (omega (arith, (firm g ok present x v longs below short full d).parity_lt)))

  filled_ends : (d : ℕ) → present d ≡ true → (walk_log g d true (u9 d parity_zone).sectors).last ≡ at_pointer
  filled_ends d p =
      ap (λ (ss : List (List ℕ)). (walk_log g d true ss).last) (filled_parity d p)
      ∙ parity_grows g d (W d parity_zone).sectors (missing d) [] (lacks d p) (no_entries g d) (filled_room d p)

  filled_strength : (d : ℕ) → present d ≡ true → strength g d true (M d).parity (u9 d parity_zone).sectors ≡ (M d).parity_claim
  filled_strength d p =
      let ss = (W d parity_zone).sectors in
      let n = (claims d p).1 in
      let home : strength g d true (R d).parity ss ≡ (R d).parity_claim = ap (strength g d true (R d).parity) (parity_home d p) ∙ log_strength g d (λ y. (v0 d y).sectors) true (λ q. omega (arith, n, q)) in
      let c : zone_claim g d true (u9 d parity_zone).sectors ≡ zone_claim g d true ss = ap (zone_claim g d true) (filled_parity d p) ∙ parity_claim_grows g d ss (missing d) [] (lacks d p) (no_entries g d) (filled_room d p) in
      ap (λ (y : ℕ). strength g d true y (u9 d parity_zone).sectors) (middle_claims d p).1
      ∙ grown_strength g d true (R d).parity ss (u9 d parity_zone).sectors (λ q. omega (arith, q, home, n)) c (filled_ends d p) ∙ home ∙ sym (middle_claims d p).2

  -- ---- after step 10: a new log is whole too
  stand : (d : ℕ) (e : Entry) → Memᴰ e (parity_entries g u9 d) → Reads g d true e.head × Whole g d true e
  unfolding parity_entries
  stand d e m =
      let ss = (u9 d parity_zone).sectors in
      (walked_reads g d true ss e.head (mem_head (walk_log g d true ss).entries e m), (walked_rows g d true ss e m (filled_long g ok present x v longs below short full d (M d).parity)).0)

  made : (d z : ℕ) → z < g.zones → is_copied g (by_look K) d z ≡ true → Reads g d true (made_entry g (by_look K) z).head × Whole g d true (made_entry g (by_look K) z)
  made d z hz c =
      let q = (K.zone z).pointer in
      let (i, j) = and_split (inside_stripe g q) (eqb d (parity_drive_at g z q)) c in
      (entry_reads g ok present x v d z hz i (eqb-true d (parity_drive_at g z q) j), entry_whole g ok present x v d z)

  parity_claimed : (d : ℕ) → present d ≡ true → 1 ≤ (M d).parity_claim
  parity_claimed d p = omega (arith, (middle_claims d p).2, (claims d p).1)

  abbrev WholeIn : ℕ → Roles → Type 0
  WholeIn d r = ((walk_log g d true (v10 d r.parity).sectors).last ≡ at_pointer) × (strength g d true r.parity (v10 d r.parity).sectors ≡ r.parity_claim) × (1 ≤ r.parity_claim)

  whole_kept : (d : ℕ) → present d ≡ true → EP d ≡ false → WholeIn d (M d)
  whole_kept d p e =
      let same : (v10 d (M d).parity).sectors ≡ (u9 d parity_zone).sectors = moved_is g ok present x v longs below short full d (M d).parity
      ∙ emptyings_else g present true M EP (NP g ok present x v longs below short full) v9 d (M d).parity (λ q. not_both (EP d) q e) in
      (ap (λ (ss : List (List ℕ)). (walk_log g d true ss).last) same ∙ filled_ends d p, ap (strength g d true (M d).parity) same ∙ filled_strength d p, parity_claimed d p)

  whole_new : (d : ℕ) → present d ≡ true → EP d ≡ true → WholeIn d (emptied_roles true (M d))
  whole_new d p e =
      let f = by_look K in
      let es = parity_entries g u9 d in
      let n = NP g ok present x v longs below short full in
      let c = mount_empties_parity g present R f W ok.unit_least full d (below d p) e in
      let low = parity_claimed d p in
      let high : (M d).parity_claim ≤ worn_generation = omega (arith, (middle_claims d p).2, c.raised) in
      let room : length (n d) ≤ g.capacity = omega (arith, new_parity_fits g ok present x v longs below short full d e) in
      let same : (v10 d (M d).spare).sectors ≡ n d = moved_is g ok present x v longs below short full d (M d).spare
      ∙ emptyings_there g present true M EP n v9 d (below d p) e (proper_apart (M d) (firm g ok present x v longs below short full d)).2
      ∙ ap (λ (t : List (List ℕ)). t ++ n d) (none_there (v9 d (M d).spare).sectors (blank g ok present x v longs below short full d e)) in (
        ap (λ (ss : List (List ℕ)). (walk_log g d true ss).last) same ∙ new_parity_ends g ok f d es (stand d) (made d) (M d) low high room,
        ap (strength g d true (M d).spare) same ∙ closed_strength g d true (M d).spare (n d) (M d).parity_claim (new_parity_claims g ok f d es (stand d) (made d) (M d) low high room) low,
        omega arith,
      )

  whole_parity : (d : ℕ) → present d ≡ true → WholeIn d (E d)
  whole_parity d p = go (EP d) refl
    where
      go : (b : Bool) → EP d ≡ b → WholeIn d (pick b (emptied_roles true (M d)) (M d))
      go true e = whole_new d p e
      go false e = whole_kept d p e

  -- and after step 11
  abbrev added : ℕ → List (List ℕ)
  added d = sectors_to d parity_zone (entry_step g K u10)

  parity_left : (d : ℕ) → present d ≡ true → (u11 d parity_zone).sectors ≡ (u10 d parity_zone).sectors ++ ([] ++ added d)
  parity_left d p = last_log d parity_zone (omega arith) p

  parity_room : (d : ℕ) → present d ≡ true → length (u10 d parity_zone).sectors + length ([] ++ added d) ≤ g.capacity
  parity_room d p =
      let long = ap (λ (ss : List (List ℕ)). length ss) (parity_left d p) ∙ length-append (u10 d parity_zone).sectors ([] ++ added d) in
      omega (arith, long, last_short d parity_zone p (omega arith))

  none_lacks : (d : ℕ) → present d ≡ true → Lacks g d (walk_log g d true (u10 d parity_zone).sectors).last 0
  none_lacks d p = subst (λ (l : Ending). Lacks g d l 0) (sym (whole_parity d p).0) refl

  parity_whole : (d : ℕ) → present d ≡ true → (walk_log g d true (u11 d parity_zone).sectors).last ≡ at_pointer
  parity_whole d p =
      ap (λ (ss : List (List ℕ)). (walk_log g d true ss).last) (parity_left d p)
      ∙ parity_grows g d (u10 d parity_zone).sectors [] (added d) (none_lacks d p) (entries_join_parity g ok present x v u10 d) (parity_room d p)

  parity_strength : (d : ℕ) → present d ≡ true → strength g d true (E d).parity (v11 d (E d).parity).sectors ≡ (E d).parity_claim
  parity_strength d p =
      let ss = (u10 d parity_zone).sectors in
      let (ends, strong, n) = whole_parity d p in
      let c : zone_claim g d true (u11 d parity_zone).sectors ≡ zone_claim g d true ss = ap (zone_claim g d true) (parity_left d p) ∙ parity_claim_grows g d ss [] (added d) (none_lacks d p) (entries_join_parity g ok present x v u10 d) (parity_room d p) in
      grown_strength g d true (E d).parity ss (u11 d parity_zone).sectors (λ q. omega (arith, q, strong, n)) c (parity_whole d p) ∙ strong

  -- ---- spares
  spare_left : (d : ℕ) → present d ≡ true → (v11 d (E d).spare).sectors ≡ []
  spare_left d p =
      ap (λ (u : Device). (u d spare_zone).sectors) seen_last ∙ ap (λ (xs : List Store). (apply_all xs u10 d spare_zone).sectors) (sym (take-length stores11))
      ∙ still (length stores11) stores11 u10 d (entries_keep_off g present K u10) ∙ go (EP d) refl
    where
      go : (b : Bool) → EP d ≡ b → (v10 d (pick b (emptied_roles true (M d)) (M d)).spare).sectors ≡ []
      go true e = moved_is g ok present x v longs below short full d (M d).parity ∙ emptyings_old g present true M EP (NP g ok present x v longs below short full) v9 d (below d p) e
      go false e =
          moved_is g ok present x v longs below short full d (M d).spare ∙ emptyings_else g present true M EP (NP g ok present x v longs below short full) v9 d (M d).spare (λ q. not_both (EP d) q e)
          ∙ none_there (v9 d (M d).spare).sectors (spare_of g ok present x v longs below short full d p)

  -- THE ROLES AFTERWARDS
  claims_left : (d : ℕ) → present d ≡ true → ((E d).general_claim ≢ 0) × ((E d).parity_claim ≢ 0)
  claims_left d p = ((λ q. omega (arith, q, (general_same d).1, (middle_claims d p).0)), (λ q. omega (arith, q, (whole_parity d p).2)))

  pub roles_left : (d : ℕ) → present d ≡ true → roles g v11 d ≡ E d
  roles_left d p =
      roles_are g v11 d (E d) (end_firm g ok present x v longs below short full d) (claims_left d p).0 (claims_left d p).1 (general_strength d p) (parity_strength d p) (spare_left d p)

  -- no kind lacks, and each log is seen
  pub kinds_left : (d : ℕ) → present d ≡ true → lacks_kind (roles g v11 d) ≡ false
  kinds_left d p = ap lacks_kind (roles_left d p) ∙ rw (ne_eqb (E d).general_claim 0 (claims_left d p).0, ne_eqb (E d).parity_claim 0 (claims_left d p).1) refl

  pub seen_left : (d y : ℕ) → present d ≡ true → by_roles g v11 d y ≡ u11 d y
  unfolding drive_by_roles
  seen_left d y p =
      ap (λ (q : Roles). seen_as q (v11 d) y) (roles_left d p)
      ∙ rw (ne_eqb (E d).general_claim 0 (claims_left d p).0, ne_eqb (E d).parity_claim 0 (claims_left d p).1, and_false (eqb y 0), and_false (eqb y 1)) refl

  heads_left : (d : ℕ) (p : present d ≡ true) → general_heads g (by_roles g v11) d ≡ general_heads g w1 d ++ (grown d p).more
  unfolding general_heads
  heads_left d p = ap (λ (z : ZoneView). heads_of (walk_log g d false z.sectors)) (seen_left d general_zone p) ∙ ap (λ (ss : List (List ℕ)). heads_of (walk_log g d false ss)) (general_left d p) ∙ (grown d p).heads_are

  pub logs_left : LogsLeft g present x W (by_roles g v11)
  unfolding general_ending parity_ending
  logs_left = record {
    general_ends = λ d p. ap (λ (z : ZoneView). (walk_log g d false z.sectors).last) (seen_left d general_zone p) ∙ ap (λ (ss : List (List ℕ)). (walk_log g d false ss).last) (general_left d p) ∙ (grown d p).ends;
    parity_ends = λ d p. ap (λ (z : ZoneView). (walk_log g d true z.sectors).last) (seen_left d parity_zone p) ∙ parity_whole d p;
    labels_stay = stay;
    last_names = names;
  }
    where
      stay : (d : ℕ) → present d ≡ true → (labelled (general_heads g (by_roles g v11) d) ≡ true) × (array_in (general_heads g (by_roles g v11) d) ≡ array_in (general_heads g W d))
      stay d p =
          let same = labelled_alike g present (by_look K) R EG W w1 emptied_logs d in
          let (a, b) = labelled_of_append (general_heads g w1 d) (grown d p).more (same ∙ label_there g present W labels d (below d p) p) in
          (ap labelled (heads_left d p) ∙ a, ap array_in (heads_left d p) ∙ b ∙ array_alike g present (by_look K) R EG W w1 emptied_logs d)

      names : (d : ℕ) → present d ≡ true → (last_lost no_drive (general_heads g (by_roles g v11) d) ≡ last_lost no_drive (general_heads g W d)) ⊎ (last_lost no_drive (general_heads g (by_roles g v11) d) ≡ x)
      names d p =
          let before = last_lost no_drive (general_heads g W d) in
          rw (heads_left d p, lost_of_append no_drive (general_heads g w1 d) (grown d p).more, lost_alike g present (by_look K) R EG W w1 emptied_logs d no_drive)
          (last_lost_is (λ (y : ℕ). (y ≡ before) ⊎ (y ≡ x)) (grown d p).more before (inl refl) (λ y a m. inr ((grown d p).each (label y a) m)))
