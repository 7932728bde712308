-- The parts of a mount one after the other, each by the tables that those before have left: steps 10 and 11 after the first nine; and both by the device that the
-- mount meets. Step 10 as the code makes it.
use Rattle.std.specs.Prelude.{◌≡◌, Bool, get_or}
use Rattle.std.proofs.Math.Path.{refl, ap, ap₂, subst}
use Rattle.std.proofs.Common.{sym, ◌∙◌, le_refl}
use Rattle.std.proofs.Math.Bool.{true, false}
use Prim.Native.Nat.{ℕ, zero, suc, ◌<◌}
use mathlib.Core.List.{List, [], ◌++◌}
use Rattle.tables.specs.declared.Geometry.{Geometry}
use Rattle.tables.specs.meaning.Basics.{pick}
use Rattle.tables.specs.meaning.Below.{each_below}
use Rattle.tables.specs.meaning.Lists.{concat, is_nil}
use Rattle.tables.specs.meaning.Device.{Device, Store}
use Rattle.tables.specs.meaning.Phases.{flush_all, on_present}
use Rattle.tables.specs.meaning.Through.{through}
use Rattle.tables.specs.meaning.Tables.{Tables, device_of}
use Rattle.tables.specs.laws.Made.{Made}
use Rattle.tables.specs.laws.Counted.{joined}
use Rattle.tables.specs.laws.StoresFit.{AllOn, on_append}
use Rattle.logs.specs.meaning.Entry.{spare_zone, kind_of_log, Entry}
use Rattle.volume.specs.declared.emptyings.Emptyings.{Emptyings}
use Rattle.volume.specs.meaning.CallContracts.{is_set, roles_of, seen_in, stores_before, parity_log_stores, stores_to_parity_logs, mount_stores_on}
use Rattle.volume.specs.meaning.Rules.{Shown, showing, parity_entries, value_at}
use Rattle.volume.specs.meaning.Roles.{Roles, roles, by_roles, claim_of_kind, placed_by, roles_after}
use Rattle.volume.specs.meaning.Emptying.{InForce, by_look, mount_general_limit, reserve, emptied_for, new_parity, emptying_stores, empty_parity}
use Rattle.volume.specs.meaning.Mount.{with_flush, carry_phases, entry_step, after_opening, phases_of_parity_logs, phases_of_entries}
use Rattle.volume.specs.laws.LogPlaces.{with_roles, logs_of, Proper, OnDrives, roles_after_proper}
use Rattle.volume.specs.laws.EmptyingUnread.{emptying_stores_alike}
use Rattle.volume.specs.laws.EmptyingFits.{emptying_on}
use Rattle.volume.specs.laws.CarriedSteps.{step_carried}
use Rattle.volume.specs.looking.Knowing.{read_device}
use Rattle.volume.specs.emptying.Shape.{SameShape, relaid_shape}
use Rattle.volume.specs.emptying.Emptyings.{emptying_of, emptied_on}
use Rattle.volume.specs.emptying.EmptyingStores.{with_closing}
use Rattle.volume.specs.emptying.ParityCopies.{in_force_by, old_entries, entry_sectors, copied_entries}
use Rattle.volume.specs.emptying.SameCopies.{parity_new, parity_by_lem}
use Rattle.volume.specs.emptying.Carried.{emptied_by, carry_emptyings, on_drives_append, on_drives_present, on_drives_flushes, on_drives_emptyings, made_by_roles}
use Rattle.volume.specs.laws.EachBelow.{each_below_cong}
use Rattle.mounting.specs.MountOpening.{opened_roles, opened_look, opened_lacks, present_kept}
use Rattle.volume.specs.looking.MovedLogs.{is_emptied, new_generation}

-- ---- all parts
module _ (g : Geometry) (a : ℕ → Bool) (x : ℕ) (t : Tables) where
  pub parity_joined : (budget mid rest : ℕ) (u v : Tables) → Made g budget mid (stores_before g a x t) t u → Made g mid rest (concat (phases_of_parity_logs g a x (device_of g t) (device_of g u))) u v → Made g budget rest (stores_to_parity_logs g a x t) t v
  unfolding stores_to_parity_logs parity_log_stores
  parity_joined budget mid rest u v m k = joined g budget mid rest (stores_before g a x t) (λ w. concat (phases_of_parity_logs g a x (device_of g t) (device_of g w))) t u v m k

  pub mount_joined : (budget mid rest : ℕ) (u v : Tables) → Made g budget mid (stores_to_parity_logs g a x t) t u → Made g mid rest (concat (phases_of_entries g a x (device_of g t) (device_of g u))) u v → Made g budget rest (mount_stores_on g a x t) t v
  unfolding mount_stores_on
  mount_joined budget mid rest u v m k = joined g budget mid rest (stores_to_parity_logs g a x t) (λ w. concat (phases_of_entries g a x (device_of g t) (device_of g w))) t u v m k

  -- ---- steps 10 and 11 by the device that the mount meets (e, f: the drives whose general log, whose parity log lacks room; u: the device by then)
  module _ (e f : ℕ → Bool) (p : e ≡ emptied_for g a false (roles_of g t) (seen_in g t) (mount_general_limit g)) (q : f ≡ emptied_for g a true (roles_of g t) (seen_in g t) (reserve g)) where
    abbrev opened : Device
    opened = after_opening g a (device_of g t)

    middle_roles_lem : roles_after false (emptied_for g a false (roles g opened) (by_roles g opened) (mount_general_limit g)) (roles g opened) ≡ roles_after false e (roles_of g t)
    middle_roles_lem = ap₂ (λ (b : ℕ → Bool) (r : ℕ → Roles). roles_after false b r) (opened_lacks g a (device_of g t) false (mount_general_limit g) ∙ sym p) (opened_roles g a (device_of g t))

    parity_lacks : emptied_for g a true (roles g opened) (by_roles g opened) (reserve g) ≡ f
    parity_lacks = opened_lacks g a (device_of g t) true (reserve g) ∙ sym q

    pub parity_phases_lem : (u : Device) → phases_of_parity_logs g a x (device_of g t) u
        ≡ with_flush g a (empty_parity g a (roles_after false e (roles_of g t)) (by_look (showing g a x (seen_in g t))) f (through (placed_by (roles_after false e (roles_of g t))) u))
    unfolding phases_of_parity_logs
    parity_phases_lem u =
        ap₂ (λ (r : ℕ → Roles) (k : Shown). with_flush g a (empty_parity g a r (by_look k) (emptied_for g a true (roles g opened) (by_roles g opened) (reserve g)) (through (placed_by r) u))) middle_roles_lem (opened_look g a (device_of g t) x)
        ∙ ap (λ (b : ℕ → Bool). with_flush g a (empty_parity g a (roles_after false e (roles_of g t)) (by_look (showing g a x (seen_in g t))) b (through (placed_by (roles_after false e (roles_of g t))) u))) parity_lacks

    pub entry_phases_lem : (u : Device) → phases_of_entries g a x (device_of g t) u
        ≡ carry_phases (placed_by (roles_after true f (roles_after false e (roles_of g t)))) (with_flush g a (entry_step g (showing g a x (seen_in g t)) (through (placed_by (roles_after true f (roles_after false e (roles_of g t)))) u)))
    unfolding phases_of_entries
    entry_phases_lem u =
        let last : roles_after true (emptied_for g a true (roles g opened) (by_roles g opened) (reserve g)) (roles_after false (emptied_for g a false (roles g opened) (by_roles g opened) (mount_general_limit g)) (roles g opened)) ≡ roles_after true f (roles_after false e (roles_of g t)) =
        ap₂ (λ (b : ℕ → Bool) (r : ℕ → Roles). roles_after true b r) parity_lacks middle_roles_lem in
        ap₂ (λ (r : ℕ → Roles) (k : Shown). carry_phases (placed_by r) (with_flush g a (entry_step g k (through (placed_by r) u)))) last (opened_look g a (device_of g t) x)

-- ---- a step with its flush, on the drives of the geometry
pub with_flush_on : (g : Geometry) (a : ℕ → Bool) (xs : List Store) → OnDrives g xs → OnDrives g (concat (with_flush g a xs))
with_flush_on g a xs p =
    let last = pick (is_nil (on_present a xs)) [] (on_present a (flush_all g.drives)) in
    on_drives_append g (on_present a xs) (last ++ []) (on_drives_present g a xs p) (on_drives_append g last [] (go (is_nil (on_present a xs))) tt)
  where
    go : (b : Bool) → OnDrives g (pick b [] (on_present a (flush_all g.drives)))
    go true = tt
    go false = on_drives_present g a (flush_all g.drives) (on_drives_flushes g g.drives (le_refl g.drives))

-- emptyings of present drives store on present drives
emptied_on_lem : (g : Geometry) (a : ℕ → Bool) (par : Bool) (e : ℕ → Bool) (ss : ℕ → List (List ℕ)) → ((d : ℕ) → e d ≡ true → a d ≡ true) → (n : ℕ) → AllOn a (emptied_by g a par e ss n)
emptied_on_lem g a par e ss h zero = tt
emptied_on_lem g a par e ss h (suc n) = on_append a (emptied_by g a par e ss n) (pick (e n) (emptying_stores g a n spare_zone (kind_of_log par) (ss n)) []) (emptied_on_lem g a par e ss h n) (go (e n) refl)
  where
    go : (b : Bool) → e n ≡ b → AllOn a (pick b (emptying_stores g a n spare_zone (kind_of_log par) (ss n)) [])
    go true q = emptying_on g a n spare_zone (kind_of_log par) (ss n) (h n q)
    go false q = tt

-- ---- step 10, made by the geometries that place the logs before and after
module _ (g : Geometry) (first : g.logs ≡ 0) (a : ℕ → Bool) (r : ℕ → Roles) (proper : (d : ℕ) → Proper (r d)) (all : Emptyings) (from_is : all.from ≡ with_roles g r) (here_is : is_set all.here ≡ a)
    (to_is : all.to ≡ with_roles g (roles_after true (is_emptied all.emptied) r)) where
  same_from : SameShape g all.from
  same_from = rw from_is (relaid_shape g (logs_of r g.drives))

  module _ (gs qs xs ps ss : List ℕ) (f : InForce) (w : Device) (entries : (d : ℕ) → d < g.drives → is_emptied all.emptied d ≡ true → parity_entries all.from (read_device all.from xs ss) d ≡ parity_entries g w d)
      (force : (z : ℕ) → z < g.zones → (get_or gs z 0 ≡ f.generation z) × (get_or qs z 0 ≡ f.pointer z) × (value_at all.from (is_set all.here) (read_device all.from xs ps) z (get_or gs z 0) ≡ f.value z))
      (claims : (d : ℕ) → is_emptied all.emptied d ≡ true → new_generation all.emptied d ≡ claim_of_kind true (r d)) where
    -- the copies of drive d's parity log
    abbrev copies_on : ℕ → List (List ℕ)
    copies_on d = entry_sectors (emptying_of all d) (copied_entries (emptying_of all d) gs qs ps ss xs)

    new_parity_by : (d : ℕ) (es : List Entry) → new_parity g (in_force_by (emptying_of all d) gs qs (read_device all.from xs ps)) (r d) d es ≡ new_parity g f (r d) d es
    unfolding new_parity
    new_parity_by d es = rw (parity_by_lem g (in_force_by (emptying_of all d) gs qs (read_device all.from xs ps)) f d es force) refl

    one_parity : (d : ℕ) → d < g.drives → (b : Bool) → is_emptied all.emptied d ≡ b
        → pick b (emptying_stores all.from (is_set all.here) d spare_zone (kind_of_log true) (with_closing (emptying_of all d) true (copies_on d))) [] ≡ pick b (emptying_stores g a d spare_zone (kind_of_log true) (new_parity g f (r d) d (parity_entries g w d))) []
    one_parity d hd true q =
        let es = old_entries (emptying_of all d) (read_device all.from xs ss) in
        let new : with_closing (emptying_of all d) true (copies_on d) ≡ new_parity g f (r d) d (parity_entries g w d) =
        parity_new g (emptying_of all d) same_from (r d) (in_force_by (emptying_of all d) gs qs (read_device all.from xs ps)) es (sym (claims d q)) ∙ new_parity_by d es ∙ ap (new_parity g f (r d) d) (entries d hd q) in
        ap₂ (λ (h : Geometry) (b : ℕ → Bool). emptying_stores h b d spare_zone (kind_of_log true) (with_closing (emptying_of all d) true (copies_on d))) from_is here_is
        ∙ emptying_stores_alike g (logs_of r g.drives) a d spare_zone (kind_of_log true) (with_closing (emptying_of all d) true (copies_on d))
        ∙ ap (emptying_stores g a d spare_zone (kind_of_log true)) new
    one_parity d hd false q = refl

    abbrev new : ℕ → List (List ℕ)
    new d = new_parity g f (r d) d (parity_entries g w d)

    abbrev made_stores : List Store
    made_stores = each_below (λ d. emptied_on all true (copies_on d) d) all.from.drives

    made_are : made_stores ≡ emptied_by g a true (is_emptied all.emptied) new g.drives
    made_are =
        ap (each_below (λ d. emptied_on all true (copies_on d) d)) (ap (λ (h : Geometry). h.drives) from_is)
        ∙ each_below_cong _ _ g.drives (λ d hd. one_parity d hd (is_emptied all.emptied d) refl)

    -- WITH ITS FLUSH
    pub parity_flushed : (budget rest : ℕ) (t u : Tables) → Made all.to budget rest (concat (with_flush all.to (is_set all.here) made_stores)) t u
        → Made g budget rest (concat (with_flush g a (empty_parity g a r f (is_emptied all.emptied) w))) t u
    unfolding empty_parity
    parity_flushed budget rest t u m =
        let r' = roles_after true (is_emptied all.emptied) r in
        let ss = emptied_by g a true (is_emptied all.emptied) new g.drives in
        let one : Made (with_roles g r') budget rest (concat (with_flush (with_roles g r') (is_set all.here) made_stores)) t u = subst (λ (h : Geometry). Made h budget rest (concat (with_flush h (is_set all.here) made_stores)) t u) to_is m in
        let two : Made (with_roles g r') budget rest (concat (with_flush g a ss)) t u =
        subst (λ (l : List Store). Made (with_roles g r') budget rest l t u) (ap₂ (λ (b : ℕ → Bool) (l : List Store). concat (with_flush g b l)) here_is made_are) one in
        let on = with_flush_on g a ss (on_drives_emptyings g a true (is_emptied all.emptied) new g.drives (le_refl g.drives)) in
        subst (λ (l : List Store). Made g budget rest l t u) (sym (step_carried g a (placed_by r') ss) ∙ ap (λ (l : List Store). concat (with_flush g a l)) (carry_emptyings g a true r (is_emptied all.emptied) new))
        (made_by_roles g first r' (roles_after_proper true (is_emptied all.emptied) r proper) budget rest (concat (with_flush g a ss)) t u on two)

    -- its stores are on present drives
    pub parity_present : ((d : ℕ) → is_emptied all.emptied d ≡ true → a d ≡ true) → on_present (is_set all.here) made_stores ≡ made_stores
    parity_present h =
        ap₂ on_present here_is made_are
        ∙ present_kept a (emptied_by g a true (is_emptied all.emptied) new g.drives) (emptied_on_lem g a true (is_emptied all.emptied) new h g.drives) ∙ sym made_are
