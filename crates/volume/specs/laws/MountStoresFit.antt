-- NO STORE OF A MOUNT VANISHES: on any input, the stores of an accepted mount have their place, and each append finds room in its zone when its turn comes.
-- Refusal 14 leaves room in the logs, as they are or emptied, for all that a mount may append there; a zone gets no more than its pointer needs.
use Rattle.std.specs.Prelude.{◌≡◌, Bool, true, false, ◌&&◌, ℕ, zero, suc, ◌+◌, ◌*◌, ◌≤◌, ◌<◌, length, get_or, eqb}
use Rattle.std.proofs.Math.Path.{sym, ap, ap₂, subst}
use Rattle.std.proofs.Common.{◌∙◌, arith, eq-eqb, ne_eqb}
use Rattle.std.proofs.Math.Decide.{ℕ_discrete}
use mathlib.Core.List.{List, [], ◌∷◌, ◌++◌, map, append_assoc}
use Rattle.std.proofs.Math.Seq.{take-length}
use Rattle.tables.specs.declared.Geometry.{Geometry}
use Rattle.tables.specs.meaning.Basics.{pick}
use Rattle.tables.specs.meaning.Lists.{concat}
use Rattle.tables.specs.laws.Lists.{concat_append}
use Rattle.tables.specs.meaning.Geometry.{Valid, physical_zones}
use Rattle.tables.specs.meaning.Device.{ZoneView, Device, Store, append, reset, flush, appended, blank_zone, flushed, apply, apply_all}
use Rattle.tables.specs.laws.Device.{apply_all_append}
use Rattle.tables.specs.meaning.Phases.{on_present, flush_all}
use Rattle.tables.specs.meaning.Through.{through, carry}
use Rattle.tables.specs.laws.Through.{through_apply_all}
use Rattle.tables.specs.meaning.Tables.{Tables, device_of}
use Rattle.tables.specs.laws.Made.{WellSized, Placed, AllPlaced, FitsAll}
use Rattle.tables.specs.laws.TablesRefine.{run_refines}
use Rattle.tables.specs.laws.StoresFit.{fits_append, fits_front, fits_all_placed}
use Rattle.tables.specs.laws.AppendCounts.{NoneVanishes, none_vanishes, appends_to, fits_by_count}
use Rattle.logs.specs.meaning.Entry.{parity_zone, spare_zone}
use Rattle.volume.specs.meaning.Rules.{Shown, parity_entries}
use Rattle.volume.specs.meaning.Roles.{Roles, zone_of_role, placed_by}
use Rattle.volume.specs.meaning.Emptying.{by_look, new_parity, reserve, emptyings, empty_general, empty_parity}
use Rattle.volume.specs.meaning.Refusals.{accept, mount_full}
use Rattle.volume.specs.meaning.Mount.{spare_step, entry_step, with_flush, with_flushes, carry_phases, after_opening, mount_view, mount_look, start_roles, emptied_parity, middle_roles, end_roles, phases_of_logs, phases_before_entries, phases_of_parity_logs, phases_of_entries, after_fill, mount_stores}
use Rattle.volume.specs.meaning.Answers.{present_in, lost_drive_in}
use Rattle.volume.specs.meaning.CallContracts.{is_set, roles_of, seen_in, mount_verdict, stores_before, after_stores, parity_log_stores, stores_to_parity_logs, mount_stores_on}
use Rattle.volume.specs.laws.OpeningFlush.{opening_sectors}
use Rattle.volume.specs.laws.PassedRows.{MountPassed, mount_passed}
use Rattle.volume.specs.laws.CallStoresFit.{zone_short}
use Rattle.volume.specs.laws.PlacedStores.{AllLong}
use Rattle.volume.specs.laws.Depends.{SameOn}
use Rattle.volume.specs.laws.RolesDepend.{roles_depend, by_roles_depend}
use Rattle.volume.specs.laws.RefusalsDepend.{by_look_depends, mount_full_depends}
use Rattle.volume.specs.laws.SpareZone.{still, steps_keep_off}
use Rattle.volume.specs.laws.MountAppends.{step_appends, entry_appends}
use Rattle.volume.specs.laws.Firm.{Proper, role_one_to_one}
use Rattle.volume.specs.laws.LogRoom.{has_room_lem, emptied_here, log_by_roles, mount_empties_parity}
use Rattle.volume.specs.laws.EmptyingFits.{after_firm, role_below, fits_carried, fits_short, emptyings_on, emptyings_fit, after_room}
use Rattle.volume.specs.laws.SectorLengths.{Long, LongDevice, tables_long}
use Rattle.volume.specs.laws.CopyLengths.{MadeOfSectors, new_parity_length, new_parity_long}
use Rattle.volume.specs.laws.MountPlaced.{entries_placed, placed_step, on_step, present_is_named}
use Rattle.volume.specs.laws.CarriedSteps.{concat_carried, present_all, stores_grow}
use Rattle.volume.specs.laws.MountLogsFit.{opened, opened_long, proper_middle, spares, cleared, spares_fit_here, generals, generals_fit_here, emptied, seen, parity_kept, spare_blank, short3, steps, values, step_stores, steps_fit_here, parity_grows_by, flushes_fit, step_fits, step_sectors}

-- ---- stores that fit leave sectors of B bytes
one_long : (g : Geometry) (x : Store) (v : Device) → Placed g x → LongDevice g.sector v → LongDevice g.sector (apply x v)
one_long g (append e z s) v p longs d y = go (eqb d e) (eqb y z)
  where
    last : (ss : List (List ℕ)) → Long g.sector ss → Long g.sector (ss ++ (s ∷ []))
    last [] h zero l = p.2
    last [] h (suc i) l = absurd (omega (arith, l))
    last (t ∷ ss) h zero l = h zero (omega arith)
    last (t ∷ ss) h (suc i) l = last ss (λ j k. h (suc j) (omega (arith, k))) i (omega (arith, l))

    go : (b c : Bool) → Long g.sector (pick (b && c) (appended s (v e z)) (v d y)).sectors
    go true true = last (v e z).sectors (longs e z)
    go true false = longs d y
    go false c = longs d y
one_long g (reset e z) v p longs d y = go (eqb d e) (eqb y z)
  where
    none : (i : ℕ) → i < 0 → length (get_or {A = List ℕ} [] i []) ≡ g.sector
    none i l = absurd (omega (arith, l))

    go : (b c : Bool) → Long g.sector (pick (b && c) blank_zone (v d y)).sectors
    go true true = none
    go true false = longs d y
    go false c = longs d y
one_long g (flush e) v p longs d y = go (eqb d e)
  where
    go : (b : Bool) → Long g.sector (pick b (flushed (v d y)) (v d y)).sectors
    go true = longs d y
    go false = longs d y

pub placed_long : (g : Geometry) (xs : List Store) (v : Device) → AllPlaced g xs → LongDevice g.sector v → LongDevice g.sector (apply_all xs v)
placed_long g [] v p longs = longs
placed_long g (x ∷ xs) v p longs = placed_long g xs (apply x v) p.1 (one_long g x v p.0 longs)

-- ---- the mount of v (refusal 14 asked of its look)
module _ (g : Geometry) (ok : Valid g) (present : ℕ → Bool) (x : ℕ) (v : Device) (longs : LongDevice g.sector v) (below : (d : ℕ) → present d ≡ true → d < g.drives)
    (short : (d y : ℕ) → present d ≡ true → y < physical_zones g → length (v d y).sectors ≤ g.capacity)
    (full : mount_full g present (start_roles g present x v) (by_look (mount_look g present x v)) (mount_view g present x v) ≡ false) where
  abbrev R : ℕ → Roles
  R = start_roles g present x v

  abbrev W : Device
  W = mount_view g present x v

  abbrev K : Shown
  K = mount_look g present x v

  abbrev pub M : ℕ → Roles
  M = middle_roles g present x v

  abbrev pub EP : ℕ → Bool
  EP = emptied_parity g present x v

  abbrev E : ℕ → Roles
  E = end_roles g present x v

  abbrev pub before : Device
  before = emptied g ok present x v longs below short full

  abbrev pub own : List Store
  own = step_stores g ok present x v longs below short full

  abbrev pub carried : List Store
  carried = map (carry (placed_by M)) own

  abbrev pub filled : Device
  filled = apply_all carried before

  abbrev pub view : Device
  view = through (placed_by M) filled

  pub firm : (d : ℕ) → Proper (M d)
  firm = proper_middle g ok present x v longs below short full

  pub view_is : view ≡ apply_all own (seen g ok present x v longs below short full)
  view_is = through_apply_all (placed_by M) own before (λ d. role_one_to_one (M d) (firm d))

  carried_fit : FitsAll g carried before
  carried_fit = steps_fit_here g ok present x v longs below short full

  pub filled_long : LongDevice g.sector filled
  filled_long =
      let s1 = spares g ok present x v longs below short full in
      let v1 = opened g ok present x v longs below short full in
      let s2 = concat (with_flush g present (generals g ok present x v longs below short full)) in
      let v2 = cleared g ok present x v longs below short full in
      placed_long g carried before (fits_all_placed g carried before carried_fit)
      (placed_long g s2 v2 (fits_all_placed g s2 v2 (generals_fit_here g ok present x v longs below short full))
      (placed_long g s1 v1 (fits_all_placed g s1 v1 (spares_fit_here g ok present x v longs below short full)) (opened_long g ok present x v longs below short full)))

  pub spare_of : (d : ℕ) → present d ≡ true → length (filled d (M d).spare).sectors ≡ 0
  spare_of d p =
      let u = seen g ok present x v longs below short full in
      ap (λ (w : Device). length (w d spare_zone).sectors) view_is ∙ ap (λ (ys : List Store). length (apply_all ys u d spare_zone).sectors) (sym (take-length own))
      ∙ ap (λ (ss : List (List ℕ)). length ss) (still (length own) own u d (steps_keep_off g present x K W) ∙ spare_blank g ok present x v longs below short full d p)

  parity_most : (d : ℕ) → present d ≡ true → length (filled d (M d).parity).sectors ≤ length (opened g ok present x v longs below short full d (R d).parity).sectors + g.unit
  parity_most d p =
      let u = seen g ok present x v longs below short full in
      let e = ap (λ (w : Device). length (w d parity_zone).sectors) view_is in
      let k = ap (λ (ss : List (List ℕ)). length ss) (parity_kept g ok present x v longs below short full d p) in
      omega (arith, e, k, stores_grow own u d parity_zone, parity_grows_by g ok present x v longs below short full d)

  pub filled_short : (d y : ℕ) → present d ≡ true → y < physical_zones g → length (filled d y).sectors ≤ g.capacity
  filled_short d y p hy = fits_short g carried before d y carried_fit (short3 g ok present x v longs below short full d y p hy)

  -- ---- step 10
  abbrev pub NP : ℕ → List (List ℕ)
  NP d = new_parity g (by_look K) (M d) d (parity_entries g view d)

  abbrev pub parities : List Store
  parities = emptyings g present true M EP NP

  abbrev pub limit : ℕ
  limit = g.zones * (1 + g.unit)

  there : (d : ℕ) → EP d ≡ true → (present d ≡ true) × (d < g.drives)
  there d e = let p = emptied_here g present R W true (reserve g) d e in (p, below d p)

  made : (d : ℕ) → MadeOfSectors g ok (by_look K) view d (filled_long d (M d).parity)
  made d z hz copied none a low high = values g ok present x v longs below short full z a high

  long : (d : ℕ) → EP d ≡ true → AllLong g.sector (NP d)
  long d e = new_parity_long g ok (by_look K) view d (filled_long d (M d).parity) (M d) (made d)

  pub blank : (d : ℕ) → EP d ≡ true → length (filled d (M d).spare).sectors ≡ 0
  blank d e = spare_of d (there d e).0

  pub new_parity_fits : (d : ℕ) → EP d ≡ true → length (NP d) + limit ≤ g.capacity
  new_parity_fits d e = omega (arith, (mount_empties_parity g present R (by_look K) W ok.unit_least full d (there d e).1 e).fits, new_parity_length g ok (by_look K) view d (filled_long d (M d).parity) (M d))

  pub parities_all : on_present present parities ≡ parities
  parities_all = present_all present parities (emptyings_on g present true M EP NP (λ d e. (there d e).0))

  parities_fit : FitsAll g (concat (with_flush g present parities)) filled
  parities_fit = step_fits g present parities filled (rw parities_all (emptyings_fit g present true M EP NP limit filled firm there long blank new_parity_fits filled_short))

  abbrev pub moved : Device
  moved = apply_all (concat (with_flush g present parities)) filled

  pub moved_is : (d y : ℕ) → (moved d y).sectors ≡ (apply_all parities filled d y).sectors
  moved_is d y = step_sectors g present parities filled d y ∙ ap (λ (xs : List Store). (apply_all xs filled d y).sectors) parities_all

  -- ---- step 11
  abbrev pub last : Device
  last = through (placed_by E) moved

  pub end_firm : (d : ℕ) → Proper (E d)
  end_firm d = after_firm true EP M d (firm d)

  pub moved_short : (d y : ℕ) → present d ≡ true → y < physical_zones g → length (last d y).sectors ≤ g.capacity
  moved_short d y p hy = fits_short g (concat (with_flush g present parities)) filled d (zone_of_role (E d) y) parities_fit (filled_short d (zone_of_role (E d) y) p (role_below (E d) y (physical_zones g) (end_firm d) (omega arith) hy))

  parity_room : (d : ℕ) → present d ≡ true → length (last d parity_zone).sectors + limit ≤ g.capacity
  parity_room d p =
      let r = after_room g present true M EP NP limit filled firm there long blank new_parity_fits filled_short d kept in
      let e = ap (λ (ss : List (List ℕ)). length ss) (moved_is d (E d).parity) in
      omega (arith, r, e)
    where
      kept : EP d ≡ false → length (filled d (M d).parity).sectors + limit ≤ g.capacity
      kept e =
          let (claimed, room) = has_room_lem g present true R W (reserve g) d (omega (arith, ok.unit_least)) p e in
          let a = ap (λ (z : ZoneView). length z.sectors) (log_by_roles g (opened g ok present x v longs below short full) d true claimed) in
          omega (arith, room, a, parity_most d p)

  entries_room : (d y : ℕ) → present d ≡ true → y < physical_zones g → length (last d y).sectors + appends_to d y (entry_step g K last) ≤ g.capacity
  entries_room d y p hy = go (ℕ_discrete y parity_zone) (entry_appends g K d y last)
    where
      go : Dec (y ≡ parity_zone) → appends_to d y (entry_step g K last) ≤ g.zones * pick (eqb y parity_zone) (1 + g.unit) 0 → length (last d y).sectors + appends_to d y (entry_step g K last) ≤ g.capacity
      go (yes i) m =
          let n : appends_to d y (entry_step g K last) ≤ g.zones * (1 + g.unit) = rw (eq-eqb y parity_zone i) at m in
          let l : length (last d y).sectors ≡ length (last d parity_zone).sectors = ap (λ (z : ℕ). length (last d z).sectors) i in
          omega (arith, n, l, parity_room d p)
      go (no i) m = let n : appends_to d y (entry_step g K last) ≤ g.zones * 0 = rw (ne_eqb y parity_zone i) at m in omega (arith, n, moved_short d y p hy)

  abbrev pub entries : List Store
  entries = concat (with_flush g present (entry_step g K last))

  pub entries_fit : FitsAll g (map (carry (placed_by E)) entries) moved
  entries_fit = fits_carried g (placed_by E) entries moved (λ d. role_one_to_one (E d) (end_firm d)) (λ d y h. role_below (E d) y (physical_zones g) (end_firm d) (omega arith) h)
      (fits_by_count g present entries last (placed_step g present (entry_step g K last) (entries_placed g ok K (values g ok present x v longs below short full) last)) (on_step g present (entry_step g K last))
      (λ d y p hy. omega (arith, step_appends g present d y (entry_step g K last), entries_room d y p hy)))

  -- ---- all of them
  abbrev pub s0 : List Store
  s0 = on_present present (flush_all g.drives)

  abbrev pub s1 : List Store
  s1 = spares g ok present x v longs below short full

  abbrev pub s2 : List Store
  s2 = concat (with_flush g present (generals g ok present x v longs below short full))

  pub before_is : concat (phases_before_entries g present x v) ≡ (s0 ++ (s1 ++ s2)) ++ carried
  unfolding phases_before_entries phases_of_logs empty_general
  before_is =
      concat_append (phases_of_logs g present x v) (carry_phases (placed_by M) (with_flushes g present (steps g ok present x v longs below short full)))
      ∙ ap₂ (λ (a b : List Store). a ++ b) (ap (λ (a : List Store). s0 ++ a) (concat_append (with_flush g present (map (carry (placed_by R)) (spare_step g W))) (with_flush g present (generals g ok present x v longs below short full))))
      (concat_carried (placed_by M) (with_flushes g present (steps g ok present x v longs below short full)))

  pub fill_is : after_fill g present x v ≡ filled
  unfolding after_opening
  fill_is =
      ap (λ (xs : List Store). apply_all xs v) before_is ∙ apply_all_append (s0 ++ (s1 ++ s2)) carried v
      ∙ ap (apply_all carried) (apply_all_append s0 (s1 ++ s2) v ∙ apply_all_append s1 s2 (apply_all s0 v))

  before_fit : FitsAll g (concat (phases_before_entries g present x v)) v
  unfolding after_opening
  before_fit = rw before_is (fits_append g (s0 ++ (s1 ++ s2)) carried v (fits_append g s0 (s1 ++ s2) v (flushes_fit g present v) (fits_append g s1 s2 (apply_all s0 v) (spares_fit_here g ok present x v longs below short full) (generals_fit_here g ok present x v longs below short full)))
      (rw (apply_all_append s0 (s1 ++ s2) v, apply_all_append s1 s2 (apply_all s0 v)) carried_fit))

  parities_fit_at : (u : Device) → u ≡ filled → FitsAll g (concat (phases_of_parity_logs g present x v u)) u
  unfolding phases_of_parity_logs empty_parity
  parities_fit_at u e = subst (λ (w : Device). FitsAll g (concat (with_flush g present (empty_parity g present M (by_look K) EP (through (placed_by M) w)))) w) (sym e) parities_fit

  pub moved_at : (u : Device) → u ≡ filled → apply_all (concat (phases_of_parity_logs g present x v u)) u ≡ moved
  unfolding phases_of_parity_logs empty_parity
  moved_at u e = ap (λ (w : Device). apply_all (concat (with_flush g present (empty_parity g present M (by_look K) EP (through (placed_by M) w)))) w) e

  entries_fit_at : (u : Device) → u ≡ moved → FitsAll g (concat (phases_of_entries g present x v u)) u
  unfolding phases_of_entries
  entries_fit_at u e = subst (λ (w : Device). FitsAll g (concat (carry_phases (placed_by E) (with_flush g present (entry_step g K (through (placed_by E) w))))) w) (sym e) (rw (concat_carried (placed_by E) (with_flush g present (entry_step g K last))) entries_fit)

  pub mount_fits : FitsAll g (mount_stores g present x v) v
  unfolding mount_stores
  mount_fits =
      let b = concat (phases_before_entries g present x v) in
      let a = after_fill g present x v in
      let p = concat (phases_of_parity_logs g present x v a) in
      fits_append g b (p ++ concat (phases_of_entries g present x v (apply_all p a))) v before_fit
      (fits_append g p (concat (phases_of_entries g present x v (apply_all p a))) a (parities_fit_at a fill_is) (entries_fit_at (apply_all p a) (moved_at a fill_is)))

-- ---- where the stores of a mount fit, those by the tables are those by the device
pub mount_stores_are : (g : Geometry) (present : ℕ → Bool) (x : ℕ) (t : Tables) → WellSized g t → FitsAll g (mount_stores g present x (device_of g t)) (device_of g t) → mount_stores_on g present x t ≡ mount_stores g present x (device_of g t)
unfolding mount_stores mount_stores_on stores_to_parity_logs parity_log_stores stores_before
mount_stores_are g present x t sized fit =
    let v = device_of g t in
    let b = concat (phases_before_entries g present x v) in
    let a = after_fill g present x v in
    let p = concat (phases_of_parity_logs g present x v a) in
    let q = concat (phases_of_entries g present x v (apply_all p a)) in
    let first : device_of g (after_stores g b t) ≡ a = run_refines g (length b) b t sized (fits_front g b (p ++ q) v fit) ∙ ap (λ (r : List Store). apply_all r v) (take-length b) in
    let front : FitsAll g (b ++ p) v = fits_front g (b ++ p) q v (rw (append_assoc b p q) fit) in
    let second : device_of g (after_stores g (b ++ p) t) ≡ apply_all p a = run_refines g (length (b ++ p)) (b ++ p) t sized front ∙ ap (λ (r : List Store). apply_all r v) (take-length (b ++ p)) ∙ apply_all_append b p v in
    let logs : b ++ concat (phases_of_parity_logs g present x v (device_of g (after_stores g b t))) ≡ b ++ p = ap (λ (u : Device). b ++ concat (phases_of_parity_logs g present x v u)) first in
    ap (λ (ys : List Store). ys ++ concat (phases_of_entries g present x v (device_of g (after_stores g ys t)))) logs ∙ ap (λ (u : Device). (b ++ p) ++ concat (phases_of_entries g present x v u)) second ∙ append_assoc b p q

-- ---- the call
module _ (g : Geometry) (named : List Bool) (t : Tables) (e : mount_verdict g named t ≡ accept) where
  abbrev present : ℕ → Bool
  present = present_in g (is_set named) (device_of g t)

  abbrev lost : ℕ
  lost = lost_drive_in g (is_set named) (device_of g t)

  passed : MountPassed g named t
  passed = mount_passed g named t e

  within : (d : ℕ) → present d ≡ true → d < g.drives
  within d h = (present_is_named g (is_set named) (seen_in g t) d h).0

  -- refusal 14, asked after the first flush
  pub not_full_here : mount_full g present (start_roles g present lost (device_of g t)) (by_look (mount_look g present lost (device_of g t))) (mount_view g present lost (device_of g t)) ≡ false
  unfolding mount_look
  not_full_here =
      let v = device_of g t in
      let u = after_opening g present v in
      let same : SameOn present v u = λ d p y. sym (opening_sectors g present v d y) in
      let seen_same = by_roles_depend g present v u same in
      sym (mount_full_depends g present (seen_in g t) (mount_view g present lost v) seen_same (roles_of g t) (start_roles g present lost v) (roles_depend g present v u same) _ _ (by_look_depends g present (seen_in g t) (mount_view g present lost v) seen_same lost)) ∙ passed.log_room

  pub mount_stores_fit : FitsAll g (mount_stores g present lost (device_of g t)) (device_of g t)
  mount_stores_fit =
      mount_fits g passed.tables.valid present lost (device_of g t) (tables_long g t passed.tables.sized) within (λ d y p hy. zone_short g t d y (within d p) hy) not_full_here

  -- on the tables: none of its appends finds its zone full
  pub mount_tables_fit : FitsAll g (mount_stores_on g present lost t) (device_of g t)
  mount_tables_fit = rw (mount_stores_are g present lost t passed.tables.sized mount_stores_fit) mount_stores_fit

  pub mount_none_vanishes : NoneVanishes g (mount_stores_on g present lost t) t
  mount_none_vanishes = none_vanishes g (mount_stores_on g present lost t) t passed.tables.sized mount_tables_fit
