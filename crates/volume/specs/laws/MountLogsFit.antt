-- A mount's stores up to its ninth step find room: the spares' resets, the emptyings of general logs into spares that are blank by then, and the steps by its
-- look, carried to where the logs lie from then on. (The rest: MountStoresFit)
use Rattle.std.specs.Prelude.{◌≡◌, ◌≢◌, Bool, ℕ, zero, suc, ◌+◌, ◌-◌, ◌*◌, ◌≤◌, ◌<◌, min, ltb, eqb}
use Rattle.std.proofs.Math.Path.{refl}
use Rattle.std.proofs.Common.{sym, ap, ◌∙◌, le_refl, arith, eq-eqb, ne_eqb, ltb-false}
use Rattle.std.proofs.Math.Bool.{true, false}
use Rattle.std.proofs.Math.Decide.{ℕ_discrete, dec_lt}
use mathlib.Core.List.{List, [], ◌∷◌, ◌++◌, map, append-nil}
use Rattle.std.proofs.Math.ListN.{length}
use Rattle.std.proofs.lemmas.Bool.{eqb-false}
use Rattle.tables.specs.declared.Geometry.{Geometry}
use Rattle.tables.specs.meaning.Basics.{pick}
use Rattle.tables.specs.laws.Basics.{not_both}
use Rattle.tables.specs.meaning.Below.{each_below}
use Rattle.tables.specs.laws.Below.{length_tabulate_from}
use Rattle.tables.specs.meaning.Lists.{concat, is_nil}
use Rattle.tables.specs.meaning.Geometry.{Valid, physical_zones, data_zone}
use Rattle.tables.specs.laws.Sizes.{needed_fits}
use Rattle.tables.specs.meaning.Device.{ZoneView, Device, Store, append, reset, flush, store_drive, apply, apply_all}
use Rattle.tables.specs.laws.Device.{apply_all_append}
use Rattle.tables.specs.laws.Local.{local_stores, apply_all_here, local_is}
use Rattle.tables.specs.meaning.Phases.{on_present, flush_all}
use Rattle.tables.specs.laws.Phases.{on_present_local, each_below_own}
use Rattle.tables.specs.meaning.Through.{through, carry}
use Rattle.tables.specs.laws.Through.{through_apply_all}
use Rattle.tables.specs.laws.Made.{AllPlaced, FitsAll}
use Rattle.tables.specs.laws.StoresFit.{placed_each, placed_present, placed_flushes, placed_pick, fits_append}
use Rattle.tables.specs.laws.AppendCounts.{appends_to, fits_by_count, appends_append, appends_one}
use Rattle.logs.specs.meaning.Entry.{general_zone, parity_zone, spare_zone, label, counters, zone_reset, partial_parity, seal, closing}
use Rattle.logs.specs.meaning.Walk.{Ending, at_pointer, no_entry, torn, walk_log}
use Rattle.volume.specs.meaning.Rules.{Shown, general_heads, parity_ending}
use Rattle.volume.specs.meaning.Calls.{append_all}
use Rattle.volume.specs.meaning.Roles.{Roles, drive_by_roles, zone_of_role, placed_by, emptied_roles}
use Rattle.volume.specs.meaning.Emptying.{by_look, new_general, spare_written, mount_general_limit, emptyings}
use Rattle.volume.specs.meaning.Refusals.{mount_full}
use Rattle.volume.specs.meaning.Mount.{spare_step, label_step, reset_entry_step, zone_reset_step, counters_differ, counter_step, seal_step, row_for, missing_rows, torn_row_step, fill_step, with_flush, with_flushes, steps_before_entries, after_opening, mount_view, mount_look, start_roles, emptied_general, middle_roles}
use Rattle.volume.specs.laws.OpeningFlush.{opening_sectors}
use Rattle.volume.specs.laws.CallAppends.{in_general, appends_all_most}
use Rattle.volume.specs.laws.PlacedStores.{AllLong}
use Rattle.volume.specs.laws.MountAppends.{steps_append, label_appends, header_appends, zone_reset_appends, counter_appends, torn_appends, fill_appends, fill_elsewhere}
use Rattle.volume.specs.laws.LookPointers.{look_pointer, look_reset}
use Rattle.volume.specs.laws.LogPlaces.{role_of_other}
use Rattle.volume.specs.laws.Firm.{Proper, proper_apart, role_one_to_one}
use Rattle.volume.specs.laws.LogRoom.{has_room_lem, emptied_here, log_by_roles, spare_by_roles, data_by_roles, mount_empties_general}
use Rattle.volume.specs.laws.EmptiedLogs.{new_general_length}
use Rattle.volume.specs.laws.EmptyingStored.{emptyings_else, emptyings_old}
use Rattle.volume.specs.laws.EmptyingFits.{roles_firm, after_firm, role_below, fits_carried, fits_short, emptyings_on, emptyings_fit, after_room}
use Rattle.volume.specs.laws.SectorLengths.{LongDevice, by_roles_long}
use Rattle.volume.specs.laws.CopyLengths.{new_general_long}
use Rattle.volume.specs.laws.MountPlaced.{ShowsSectors, look_values, steps_placed, placed_steps, on_steps}
use Rattle.volume.specs.laws.CarriedSteps.{step_carried, present_all}
use Rattle.volume.specs.laws.TornRoom.{torn_room}

-- ---- stores that append nothing need their place alone
abbrev NoAppend : Store → Type 0
NoAppend (append d y s) = ⊥
NoAppend (reset d y) = Unit {0}
NoAppend (flush d) = Unit {0}

abbrev NoAppends : List Store → Type 0
NoAppends [] = Unit {0}
NoAppends (x ∷ xs) = NoAppend x × NoAppends xs

none_append : (xs ys : List Store) → NoAppends xs → NoAppends ys → NoAppends (xs ++ ys)
none_append [] ys p q = q
none_append (x ∷ xs) ys p q = (p.0, none_append xs ys p.1 q)

none_each : (f : ℕ → List Store) (n : ℕ) → ((k : ℕ) → NoAppends (f k)) → NoAppends (each_below f n)
none_each f zero h = tt
none_each f (suc n) h = none_append (each_below f n) (f n) (none_each f n h) (h n)

none_pick : (b : Bool) (xs : List Store) → NoAppends xs → NoAppends (pick b xs [])
none_pick true xs p = p
none_pick false xs p = tt

none_present : (a : ℕ → Bool) (xs : List Store) → NoAppends xs → NoAppends (on_present a xs)
none_present a [] p = tt
none_present a (x ∷ xs) p = go (a (store_drive x)) (none_present a xs p.1)
  where
    go : (b : Bool) → NoAppends (on_present a xs) → NoAppends (pick b (x ∷ on_present a xs) (on_present a xs))
    go true q = (p.0, q)
    go false q = q

none_flushes : (n : ℕ) → NoAppends (flush_all n)
none_flushes zero = tt
none_flushes (suc n) = none_append (flush_all n) (flush n ∷ []) (none_flushes n) (tt, tt)

none_fit : (g : Geometry) (xs : List Store) (v : Device) → AllPlaced g xs → NoAppends xs → FitsAll g xs v
none_fit g [] v p n = tt
none_fit g (append d y s ∷ xs) v p n = absurd n.0
none_fit g (reset d y ∷ xs) v p n = (p.0, none_fit g xs (apply (reset d y) v) p.1 n.1)
none_fit g (flush d ∷ xs) v p n = (p.0, none_fit g xs (apply (flush d) v) p.1 n.1)

-- ---- a flush of the present drives
module _ (g : Geometry) (present : ℕ → Bool) where
  abbrev flushes : List Store
  flushes = on_present present (flush_all g.drives)

  pub flushes_fit : (v : Device) → FitsAll g flushes v
  flushes_fit v = none_fit g flushes v (placed_present g present (flush_all g.drives) (placed_flushes g g.drives (le_refl g.drives))) (none_present present (flush_all g.drives) (none_flushes g.drives))

  flushes_keep : (v : Device) (d y : ℕ) → (apply_all flushes v d y).sectors ≡ (v d y).sectors
  unfolding after_opening
  flushes_keep v d y = opening_sectors g present v d y

  -- a step with its flush: fits where the step fits, and leaves the sectors that the step leaves
  pub step_fits : (xs : List Store) (v : Device) → FitsAll g (on_present present xs) v → FitsAll g (concat (with_flush g present xs)) v
  step_fits xs v f = fits_append g (on_present present xs) (pick (is_nil (on_present present xs)) [] flushes ++ []) v f (go (is_nil (on_present present xs)) (apply_all (on_present present xs) v))
    where
      go : (b : Bool) (u : Device) → FitsAll g (pick b [] (on_present present (flush_all g.drives)) ++ []) u
      go true u = tt
      go false u = fits_append g flushes [] u (flushes_fit u) tt

  pub step_sectors : (xs : List Store) (v : Device) (d y : ℕ) → (apply_all (concat (with_flush g present xs)) v d y).sectors ≡ (apply_all (on_present present xs) v d y).sectors
  step_sectors xs v d y =
      ap (λ (u : Device). (u d y).sectors) (apply_all_append (on_present present xs) (pick (is_nil (on_present present xs)) [] flushes ++ []) v)
      ∙ go (is_nil (on_present present xs)) (apply_all (on_present present xs) v)
    where
      go : (b : Bool) (u : Device) → (apply_all (pick b [] (on_present present (flush_all g.drives)) ++ []) u d y).sectors ≡ (u d y).sectors
      go true u = refl
      go false u = ap (λ (ys : List Store). (apply_all ys u d y).sectors) (append-nil flushes) ∙ flushes_keep u d y

-- ---- step 1: the spares' resets (W: by whose spares it goes)
module _ (g : Geometry) (present : ℕ → Bool) (W : Device) where
  spares_fit : (u : Device) → FitsAll g (concat (with_flush g present (spare_step g W))) u
  unfolding spare_step
  spares_fit u =
      let xs = each_below (λ d. pick (spare_written W d) (reset d spare_zone ∷ []) []) g.drives in
      let placed : AllPlaced g xs = placed_each g _ g.drives (λ d hd. placed_pick g (spare_written W d) (reset d spare_zone ∷ []) ((hd, omega arith), tt)) in
      step_fits g present xs u (none_fit g (on_present present xs) u (placed_present g present xs placed) (none_present present xs (none_each _ g.drives (λ d. none_pick (spare_written W d) (reset d spare_zone ∷ []) (tt, tt)))))

  -- where the spares lie by roles R
  pub spares_fit_at : (R : ℕ → Roles) → ((d : ℕ) → Proper (R d)) → (u : Device) → FitsAll g (concat (with_flush g present (map (carry (placed_by R)) (spare_step g W)))) u
  spares_fit_at R proper u = rw (step_carried g present (placed_by R) (spare_step g W)) (
      fits_carried g (placed_by R) (concat (with_flush g present (spare_step g W))) u (λ d. role_one_to_one (R d) (proper d)) (λ d y h. role_below (R d) y (physical_zones g) (proper d) (omega arith) h) (spares_fit (through (placed_by R) u)))

  spare_local : (d y : ℕ) → d < g.drives → local_stores d y (spare_step g W) ≡ local_stores d y (pick (spare_written W d) (reset d spare_zone ∷ []) [])
  unfolding spare_step
  spare_local d y hd = each_below_own (λ k. pick (spare_written W k) (reset k spare_zone ∷ []) []) d y (λ k n. go k (spare_written W k) n) g.drives hd
    where
      go : (k : ℕ) (b : Bool) → d ≢ k → local_stores d y (pick b (reset k spare_zone ∷ []) []) ≡ []
      go k true n = rw (ne_eqb d k n) refl
      go k false n = refl

  spare_after : (u : Device) (d : ℕ) → d < g.drives → present d ≡ true → (spare_written W d ≡ false → (u d spare_zone).sectors ≡ []) → (apply_all (on_present present (spare_step g W)) u d spare_zone).sectors ≡ []
  spare_after u d hd p blank =
      ap (λ (z : ZoneView). z.sectors) (local_is d spare_zone (on_present present (spare_step g W)) u) ∙ ap (λ (os : List _). (apply_all_here os (u d spare_zone)).sectors) (on_present_local present d spare_zone (spare_step g W) p ∙ spare_local d spare_zone hd)
      ∙ go (spare_written W d) refl
    where
      go : (b : Bool) → spare_written W d ≡ b → (apply_all_here (local_stores d spare_zone (pick b (reset d spare_zone ∷ []) [])) (u d spare_zone)).sectors ≡ []
      go true q = rw (eq-eqb d d refl) refl
      go false q = blank q

  spare_else : (u : Device) (d y : ℕ) → d < g.drives → present d ≡ true → y ≢ spare_zone → (apply_all (on_present present (spare_step g W)) u d y).sectors ≡ (u d y).sectors
  spare_else u d y hd p n =
      ap (λ (z : ZoneView). z.sectors) (local_is d y (on_present present (spare_step g W)) u) ∙ ap (λ (os : List _). (apply_all_here os (u d y)).sectors) (on_present_local present d y (spare_step g W) p ∙ spare_local d y hd)
      ∙ go (spare_written W d)
    where
      go : (b : Bool) → (apply_all_here (local_stores d y (pick b (reset d spare_zone ∷ []) [])) (u d y)).sectors ≡ (u d y).sectors
      go true = rw (eq-eqb d d refl, ne_eqb y spare_zone n) refl
      go false = refl

-- ---- rows that a torn entry lacks
module _ (g : Geometry) (k : Shown) (d : ℕ) (ss : List (List ℕ)) (short : length ss ≤ g.capacity) where
  missing_room : (l : Ending) → (walk_log g d true ss).last ≡ l → length ss + length (missing_rows g k l) ≤ g.capacity
  missing_room at_pointer e = omega (arith, short)
  missing_room (no_entry f) e = omega (arith, short)
  missing_room (torn (label x a) rs) e = omega (arith, short)
  missing_room (torn (counters cs) rs) e = omega (arith, short)
  missing_room (torn (zone_reset z n) rs) e = omega (arith, short)
  missing_room (torn (partial_parity z s f n) rs) e =
      let many = length_tabulate_from (row_for g (k.zone z) s f n) (length rs) (min f g.unit - length rs) in
      omega (arith, torn_room g d true ss (partial_parity z s f n) rs e, many)
  missing_room (torn (seal z p n) rs) e = omega (arith, short)
  missing_room (torn (closing kind gen) rs) e = omega (arith, short)

-- ---- the mount of v (refusal 14 asked of its look)
module _ (g : Geometry) (ok : Valid g) (present : ℕ → Bool) (x : ℕ) (v : Device) (longs : LongDevice g.sector v) (below : (d : ℕ) → present d ≡ true → d < g.drives)
    (short : (d y : ℕ) → present d ≡ true → y < physical_zones g → length (v d y).sectors ≤ g.capacity)
    (full : mount_full g present (start_roles g present x v) (by_look (mount_look g present x v)) (mount_view g present x v) ≡ false) where
  abbrev pub opened : Device
  opened = after_opening g present v

  abbrev R : ℕ → Roles
  R = start_roles g present x v

  abbrev W : Device
  W = mount_view g present x v

  abbrev K : Shown
  K = mount_look g present x v

  abbrev pub EG : ℕ → Bool
  EG = emptied_general g present x v

  abbrev M : ℕ → Roles
  M = middle_roles g present x v

  pub opened_long : LongDevice g.sector opened
  opened_long d y = rw (opening_sectors g present v d y) (longs d y)

  pub proper : (d : ℕ) → Proper (R d)
  proper = roles_firm g opened

  pub proper_middle : (d : ℕ) → Proper (M d)
  proper_middle d = after_firm false EG R d (proper d)

  short1 : (d y : ℕ) → present d ≡ true → y < physical_zones g → length (opened d y).sectors ≤ g.capacity
  short1 d y p hy = rw (opening_sectors g present v d y) (short d y p hy)

  -- ---- step 1
  abbrev pub spares : List Store
  spares = concat (with_flush g present (map (carry (placed_by R)) (spare_step g W)))

  abbrev pub cleared : Device
  cleared = apply_all spares opened

  pub spares_fit_here : FitsAll g spares opened
  spares_fit_here = spares_fit_at g present W R proper opened

  seen_cleared : (d y : ℕ) → (cleared d (zone_of_role (R d) y)).sectors ≡ (apply_all (on_present present (spare_step g W)) (through (placed_by R) opened) d y).sectors
  seen_cleared d y =
      ap (λ (xs : List Store). (apply_all xs opened d (zone_of_role (R d) y)).sectors) (step_carried g present (placed_by R) (spare_step g W))
      ∙ ap (λ (u : Device). (u d y).sectors) (through_apply_all (placed_by R) (concat (with_flush g present (spare_step g W))) opened (λ d. role_one_to_one (R d) (proper d)))
      ∙ step_sectors g present (spare_step g W) (through (placed_by R) opened) d y

  pub spare_cleared : (d : ℕ) → present d ≡ true → (cleared d (R d).spare).sectors ≡ []
  spare_cleared d p = seen_cleared d spare_zone ∙ spare_after g present W (through (placed_by R) opened) d (below d p) p blank
    where
      empty : (ss : List (List ℕ)) → ltb 0 (length ss) ≡ false → ss ≡ []
      empty [] e = refl
      empty (s ∷ ss) e = absurd (omega (arith, ltb-false 0 (suc (length ss)) e))

      blank : spare_written W d ≡ false → (opened d (R d).spare).sectors ≡ []
      blank e = empty (opened d (R d).spare).sectors (sym (ap (λ (z : ZoneView). ltb 0 (length z.sectors)) (spare_by_roles g opened d)) ∙ e)

  pub else_cleared : (d y : ℕ) → present d ≡ true → y ≢ spare_zone → (cleared d (zone_of_role (R d) y)).sectors ≡ (opened d (zone_of_role (R d) y)).sectors
  else_cleared d y p n = seen_cleared d y ∙ spare_else g present W (through (placed_by R) opened) d y (below d p) p n

  short2 : (d y : ℕ) → present d ≡ true → y < physical_zones g → length (cleared d y).sectors ≤ g.capacity
  short2 d y p hy = fits_short g spares opened d y spares_fit_here (short1 d y p hy)

  -- ---- step 2
  abbrev pub NG : ℕ → List (List ℕ)
  NG d = new_general g (by_look K) (R d) d (general_heads g W d)

  abbrev pub generals : List Store
  generals = emptyings g present false R EG NG

  there : (d : ℕ) → EG d ≡ true → (present d ≡ true) × (d < g.drives)
  there d e = let p = emptied_here g present R W false (mount_general_limit g) d e in (p, below d p)

  long : (d : ℕ) → EG d ≡ true → AllLong g.sector (NG d)
  long d e = new_general_long g (by_look K) (general_heads g W d) (R d) d ok

  blank : (d : ℕ) → EG d ≡ true → length (cleared d (R d).spare).sectors ≡ 0
  blank d e = ap (λ (ss : List (List ℕ)). length ss) (spare_cleared d (there d e).0)

  pub new_general_fits : (d : ℕ) → EG d ≡ true → length (NG d) + mount_general_limit g ≤ g.capacity
  new_general_fits d e = omega (arith, (mount_empties_general g present R (by_look K) W full d (there d e).1 e).fits, new_general_length g (by_look K) (R d) d (general_heads g W d))

  generals_fit : FitsAll g generals cleared
  generals_fit = emptyings_fit g present false R EG NG (mount_general_limit g) cleared proper there long blank new_general_fits short2

  generals_all : on_present present generals ≡ generals
  generals_all = present_all present generals (emptyings_on g present false R EG NG (λ d e. (there d e).0))

  pub generals_fit_here : FitsAll g (concat (with_flush g present generals)) cleared
  generals_fit_here = step_fits g present generals cleared (rw generals_all generals_fit)

  abbrev pub emptied : Device
  emptied = apply_all (concat (with_flush g present generals)) cleared

  pub emptied_is : (d y : ℕ) → (emptied d y).sectors ≡ (apply_all generals cleared d y).sectors
  emptied_is d y = step_sectors g present generals cleared d y ∙ ap (λ (xs : List Store). (apply_all xs cleared d y).sectors) generals_all

  abbrev pub seen : Device
  seen = through (placed_by M) emptied

  -- by the roles from then on: the general log has the limit's room, the parity log and the zones are as they were, the spare is blank
  general_room : (d : ℕ) → present d ≡ true → length (seen d general_zone).sectors + mount_general_limit g ≤ g.capacity
  general_room d p =
      let r = after_room g present false R EG NG (mount_general_limit g) cleared proper there long blank new_general_fits short2 d kept in
      let e = ap (λ (ss : List (List ℕ)). length ss) (emptied_is d (M d).general) in
      omega (arith, r, e)
    where
      kept : EG d ≡ false → length (cleared d (R d).general).sectors + mount_general_limit g ≤ g.capacity
      kept e =
          let (claimed, room) = has_room_lem g present false R W (mount_general_limit g) d (omega arith) p e in
          let a = ap (λ (z : ZoneView). length z.sectors) (log_by_roles g opened d false claimed) in
          let b = ap (λ (ss : List (List ℕ)). length ss) (else_cleared d general_zone p (λ q. omega (arith, q))) in
          omega (arith, room, a, b)

  pub parity_kept : (d : ℕ) → present d ≡ true → (seen d parity_zone).sectors ≡ (opened d (R d).parity).sectors
  parity_kept d p = ap (λ (y : ℕ). (emptied d y).sectors) (same (EG d)) ∙ emptied_is d (R d).parity ∙ emptyings_else g present false R EG NG cleared d (R d).parity apart ∙ else_cleared d parity_zone p (λ q. omega (arith, q))
    where
      same : (b : Bool) → (pick b (emptied_roles false (R d)) (R d)).parity ≡ (R d).parity
      same true = refl
      same false = refl

      apart : EG d ≡ true → ((R d).parity ≢ (R d).general) × ((R d).parity ≢ (R d).spare)
      apart e = let (a, b, c, l) = proper_apart (R d) (proper d) in ((λ q. a (sym q)), c)

  pub spare_blank : (d : ℕ) → present d ≡ true → (seen d spare_zone).sectors ≡ []
  spare_blank d p = go (EG d) refl
    where
      go : (b : Bool) → EG d ≡ b → (emptied d (pick b (emptied_roles false (R d)) (R d)).spare).sectors ≡ []
      go true e = emptied_is d (R d).general ∙ emptyings_old g present false R EG NG cleared d (below d p) e
      go false e = emptied_is d (R d).spare ∙ emptyings_else g present false R EG NG cleared d (R d).spare (λ q. not_both (EG d) q e) ∙ spare_cleared d p

  pub data_kept : (d y : ℕ) → present d ≡ true → 3 ≤ y → (seen d y).sectors ≡ (opened d y).sectors
  data_kept d y p l =
      let there : zone_of_role (M d) y ≡ y = role_of_other (M d) y l in
      let home : zone_of_role (R d) y ≡ y = role_of_other (R d) y l in
      let e = else_cleared d y p (λ q. omega (arith, q, l)) in
      let f : (cleared d y).sectors ≡ (opened d y).sectors = rw home at e in
      ap (λ (z : ℕ). (emptied d z).sectors) there ∙ emptied_is d y ∙ emptyings_else g present false R EG NG cleared d y apart ∙ f
    where
      apart : EG d ≡ true → (y ≢ (R d).general) × (y ≢ (R d).spare)
      apart e = let (a, b, c, k) = proper_apart (R d) (proper d) in ((λ q. omega (arith, q, l, (proper d).general_lt)), (λ q. omega (arith, q, l, k)))

  pub short3 : (d y : ℕ) → present d ≡ true → y < physical_zones g → length (emptied d y).sectors ≤ g.capacity
  short3 d y p hy = fits_short g (concat (with_flush g present generals)) cleared d y generals_fit_here (short2 d y p hy)

  short_seen : (d y : ℕ) → present d ≡ true → y < physical_zones g → length (seen d y).sectors ≤ g.capacity
  short_seen d y p hy = short3 d (zone_of_role (M d) y) p (role_below (M d) y (physical_zones g) (proper_middle d) (omega arith) hy)

  -- ---- steps 3 to 9
  abbrev pub steps : List (List Store)
  steps = steps_before_entries g present x K W

  steps_get : (d y : ℕ) → appends_to d y (concat steps) ≤ in_general y + g.zones * in_general y + in_general y + appends_to d y (torn_row_step g K W) + appends_to d y (fill_step g K W)
  steps_get d y =
      let s1 = label_step g x K W in
      let s2 = reset_entry_step g K in
      let s3 = zone_reset_step g K in
      let s4 = counter_step g K (counters_differ g present W) in
      let s5 = seal_step g K W in
      let s6 = torn_row_step g K W in
      let s7 = fill_step g K W in
      omega (
        arith,
        appends_append d y s1 (s2 ++ (s3 ++ (s4 ++ (s5 ++ (s6 ++ (s7 ++ [])))))),
        appends_append d y s2 (s3 ++ (s4 ++ (s5 ++ (s6 ++ (s7 ++ []))))),
        appends_append d y s3 (s4 ++ (s5 ++ (s6 ++ (s7 ++ [])))),
        appends_append d y s4 (s5 ++ (s6 ++ (s7 ++ []))),
        appends_append d y s5 (s6 ++ (s7 ++ [])),
        appends_append d y s6 (s7 ++ []),
        appends_append d y s7 [],
        label_appends g K d y x W,
        header_appends g K d y W (λ z l. look_reset g present x v z),
        zone_reset_appends g K d y,
        counter_appends g K d y (counters_differ g present W),
      )

  -- torn rows: those that the drive's own log lacks
  torn_own : (d y : ℕ) → appends_to d y (torn_row_step g K W) ≤ length (missing_rows g K (parity_ending g W d))
  unfolding torn_row_step
  torn_own d y = appends_one d y d (λ k. append_all k parity_zone (missing_rows g K (parity_ending g W k))) g.drives (length (missing_rows g K (parity_ending g W d))) (λ k l. go k (ℕ_discrete d k))
    where
      go : (k : ℕ) → Dec (d ≡ k) → appends_to d y (append_all k parity_zone (missing_rows g K (parity_ending g W k))) ≤ pick (eqb d k) (length (missing_rows g K (parity_ending g W d))) 0
      go k (yes e) = rw (← e) (appends_all_most d y d parity_zone (missing_rows g K (parity_ending g W d)))
      go k (no n) = let m : appends_to d y (append_all k parity_zone (missing_rows g K (parity_ending g W k))) ≤ 0 = rw (ne_eqb d k n) at (appends_all_most d y k parity_zone (missing_rows g K (parity_ending g W k))) in omega (arith, m)

  torn_fits : (d : ℕ) → present d ≡ true → length (opened d (R d).parity).sectors + length (missing_rows g K (parity_ending g W d)) ≤ g.capacity
  unfolding parity_ending drive_by_roles
  torn_fits d p = go (eqb (R d).parity_claim 0) refl
    where
      home : length (opened d (R d).parity).sectors ≤ g.capacity
      home = short1 d (R d).parity p (omega (arith, (proper d).parity_lt))

      go : (b : Bool) → eqb (R d).parity_claim 0 ≡ b → length (opened d (R d).parity).sectors + length (missing_rows g K (walk_log g d true (W d parity_zone).sectors).last) ≤ g.capacity
      go true q =
          let e : (W d parity_zone).sectors ≡ [] = rw q refl in
          let m : length (missing_rows g K (walk_log g d true (W d parity_zone).sectors).last) ≡ 0 = ap (λ (ss : List (List ℕ)). length (missing_rows g K (walk_log g d true ss).last)) e in
          omega (arith, m, home)
      go false q =
          let e : (W d parity_zone).sectors ≡ (opened d (R d).parity).sectors = ap (λ (z : ZoneView). z.sectors) (log_by_roles g opened d true (let n = eqb-false (R d).parity_claim 0 q in omega (arith, n))) in
          rw e (missing_room g K d (opened d (R d).parity).sectors home (walk_log g d true (opened d (R d).parity).sectors).last refl)

  steps_room : (d y : ℕ) → present d ≡ true → y < physical_zones g → length (seen d y).sectors + appends_to d y (concat steps) ≤ g.capacity
  steps_room d y p hy = go (ℕ_discrete y general_zone) (ℕ_discrete y parity_zone) (dec_lt y 3) (short_seen d y p hy)
    where
      no_fill : y < 3 → appends_to d y (fill_step g K W) ≤ 0
      no_fill h = fill_elsewhere g K d y W (λ z l e. omega (arith, e, h))

      no_torn : y ≢ parity_zone → appends_to d y (torn_row_step g K W) ≤ 0
      no_torn n = let m : appends_to d y (torn_row_step g K W) ≤ pick (eqb y parity_zone) g.unit 0 = torn_appends g K d y W in rw (ne_eqb y parity_zone n) at m

      go : Dec (y ≡ general_zone) → Dec (y ≡ parity_zone) → Dec (y < 3) → length (seen d y).sectors ≤ g.capacity → length (seen d y).sectors + appends_to d y (concat steps) ≤ g.capacity
      go (yes i) j h s =
          let m : appends_to d y (concat steps) ≤ 1 + g.zones * 1 + 1 + appends_to d y (torn_row_step g K W) + appends_to d y (fill_step g K W) = rw (eq-eqb y general_zone i) at (steps_get d y) in
          let l : length (seen d y).sectors ≡ length (seen d general_zone).sectors = ap (λ (z : ℕ). length (seen d z).sectors) i in
          omega (arith, m, l, no_fill (omega (arith, i)), no_torn (λ q. omega (arith, i, q)), general_room d p)
      go (no i) (yes j) h s =
          let m : appends_to d y (concat steps) ≤ 0 + g.zones * 0 + 0 + appends_to d y (torn_row_step g K W) + appends_to d y (fill_step g K W) = rw (ne_eqb y general_zone i) at (steps_get d y) in
          let l : length (seen d y).sectors ≡ length (seen d parity_zone).sectors = ap (λ (z : ℕ). length (seen d z).sectors) j in
          let k = ap (λ (ss : List (List ℕ)). length ss) (parity_kept d p) in
          omega (arith, m, l, k, no_fill (omega (arith, j)), torn_own d y, torn_fits d p)
      go (no i) (no j) (yes h) s =
          let m : appends_to d y (concat steps) ≤ 0 + g.zones * 0 + 0 + appends_to d y (torn_row_step g K W) + appends_to d y (fill_step g K W) = rw (ne_eqb y general_zone i) at (steps_get d y) in
          omega (arith, m, s, no_fill h, no_torn j)
      go (no i) (no j) (no h) s =
          let m : appends_to d y (concat steps) ≤ 0 + g.zones * 0 + 0 + appends_to d y (torn_row_step g K W) + appends_to d y (fill_step g K W) = rw (ne_eqb y general_zone i) at (steps_get d y) in
          let z = y - 3 in
          let e : y ≡ data_zone (y - 3) = omega (arith, h) in
          let w : length (W d (data_zone z)).sectors ≡ length (opened d y).sectors = ap (λ (q : ℕ). length (W d q).sectors) (sym e) ∙ ap (λ (a : ZoneView). length a.sectors) (data_by_roles g opened d y (omega (arith, h))) in
          let k = ap (λ (ss : List (List ℕ)). length ss) (data_kept d y p (omega (arith, h))) in
          omega (arith, m, no_torn j, w, k, s, fill_appends g K d y W z e, needed_fits g ok z (K.zone z).pointer d (look_pointer g present x v z))

  pub values : ShowsSectors g K
  unfolding mount_look
  values = look_values g ok present x W (by_roles_long g opened opened_long)

  abbrev pub step_stores : List Store
  step_stores = concat (with_flushes g present steps)

  pub steps_fit : FitsAll g step_stores seen
  steps_fit = fits_by_count g present step_stores seen (placed_steps g present steps (steps_placed g ok K values present x W)) (on_steps g present steps) (λ d y p hy. omega (arith, steps_append g present d y steps, steps_room d y p hy))

  pub steps_fit_here : FitsAll g (map (carry (placed_by M)) step_stores) emptied
  steps_fit_here = fits_carried g (placed_by M) step_stores emptied (λ d. role_one_to_one (M d) (proper_middle d)) (λ d y h. role_below (M d) y (physical_zones g) (proper_middle d) (omega arith) h) steps_fit

  -- what a torn entry gets is at most a stripe unit's rows
  pub parity_grows_by : (d : ℕ) → appends_to d parity_zone step_stores ≤ g.unit
  parity_grows_by d =
      let m : appends_to d parity_zone (concat steps) ≤ 0 + g.zones * 0 + 0 + appends_to d parity_zone (torn_row_step g K W) + appends_to d parity_zone (fill_step g K W) = steps_get d parity_zone in
      omega (arith, m, steps_append g present d parity_zone steps, torn_appends g K d parity_zone W, fill_elsewhere g K d parity_zone W (λ z l e. omega (arith, e)))
