-- A mount on the physical device from its step 3 on (v: the device at the mount's start; v2: after its step 2): steps 3 to 9, the emptying of parity logs, the
-- entries. Stopped anywhere and cut, the invariant holds by the roles with marks at or above the ledger's; finished, all is at rest as shown.
use Rattle.std.specs.Prelude.{◌≡◌, refl, Bool, false, ℕ, ◌+◌, ◌*◌, ◌≤◌, ◌<◌, length}
use Rattle.std.proofs.Common.{sym, ◌∙◌, subst, arith}
use Rattle.std.proofs.Math.Path.{ap, ap₂}
use Rattle.std.proofs.Math.Bool.{true}
use mathlib.Core.List.{List, [], ◌++◌, append-nil, map}
use Rattle.tables.specs.meaning.Basics.{pick}
use Rattle.tables.specs.meaning.Lists.{concat, is_nil}
use Rattle.tables.specs.meaning.Device.{ZoneView, Device, Store, apply_all}
use Rattle.tables.specs.laws.Device.{apply_all_append}
use Rattle.tables.specs.meaning.Phases.{on_present}
use Rattle.tables.specs.meaning.Through.{through, carry}
use Rattle.tables.specs.meaning.Drives.{present_but}
use Rattle.tables.specs.declared.Geometry.{Geometry}
use Rattle.tables.specs.meaning.Geometry.{Valid}
use Rattle.logs.specs.meaning.Entry.{parity_zone, spare_zone, worn_generation, Entry}
use Rattle.logs.specs.meaning.Walk.{walk_log}
use Rattle.volume.specs.meaning.Rules.{Shown, showing, parity_entries}
use Rattle.volume.specs.meaning.Calls.{flush_stores}
use Rattle.volume.specs.meaning.Roles.{Roles, roles, zone_of_role, by_roles, placed_by, roles_after, emptied_roles}
use Rattle.volume.specs.meaning.Emptying.{by_look, reserve, new_parity_size, new_parity, empty_parity}
use Rattle.volume.specs.meaning.Mount.{with_flush, with_flushes, carry_phases, steps_before_entries, entry_step, counters_differ, mount_state, mount_view, mount_look, emptied_parity, middle_roles, end_roles, phases_of_parity_logs, phases_of_entries}
use Rattle.volume.specs.laws.SpareZone.{KeepsOff, all_still, steps_keep_off, entries_keep_off}
use Rattle.volume.specs.laws.Firm.{firm_roles, firm_seen, places}
use Rattle.promise.specs.meaning.Ledger.{Ledger, after_mount}
use Rattle.promise.proofs.device.Marks.{with_marks}
use Rattle.promise.proofs.invariant.Invariant.{Here, LogGenerations}
use Rattle.promise.proofs.invariant.Obligations.{Invs}
use Rattle.promise.proofs.calls.FlushKeeps.{flush_all_lem}
use Rattle.promise.proofs.mount.MountRuns.{Runs}
use Rattle.promise.proofs.mount.MountFilled.{GrownRows, AfterEntries}
use Rattle.promise.proofs.mount.MountCounters.{CountsSame}
use Rattle.promise.proofs.mount.MountSteps.{steps_by, GeneralRoom, AfterSteps, steps_run}
use Rattle.promise.proofs.mount.MountParityEntries.{EntryRoom, entries_run}
use Rattle.promise.proofs.mount.MountRest.{end_rests}
use Rattle.promise.proofs.roles.Ordinary.{Ordinary}
use Rattle.promise.proofs.roles.Roled.{Standing}
use Rattle.promise.proofs.roles.RoledCalls.{RoledRests}
use Rattle.promise.proofs.emptying.Marked.{KeptBy}
use Rattle.promise.proofs.emptying.BlankSpares.{BlankSpares, blank_same, blank_emptied}
use Rattle.promise.proofs.emptying.CutRuns.{cut_runs_then, flushed_run}
use Rattle.promise.proofs.emptying.EmptyingsDelayed.{delayed_stopped, delayed_flushed}
use Rattle.promise.proofs.emptying.EmptyingStops.{Solid, solid_flushed}
use Rattle.promise.proofs.emptying.FlushedRests.{roles_same, seen_same}
use Rattle.promise.proofs.emptying.OnPresent.{on_present_all}
use Rattle.promise.proofs.emptying.DriveStores.{on_step, on_steps, with_flush_same, emptyings_on, emptyings_same, entries_present}
use Rattle.promise.proofs.emptying.CallParts.{Part, part_less, Carried, ordinary_run, carried_alike, concat_carried, solid_seen, filled_same, as_it_is, FilledAt, filled_solid, filled_at_same}
use Rattle.promise.proofs.emptying.ParityRests.{new_sectors}
use Rattle.promise.proofs.emptying.ParityInMount.{EmptiedInMount, FilledSome, parity_logs_first, parity_logs_stopped, parity_logs_finished}

-- ---- STEPS 3 TO 9, carried by the roles of w
pub record Stepped (g : Geometry) (x : ℕ) (c : LogGenerations) (l : Ledger) (k : Shown) (w u : Device) : Type 0 where
  pub filled : FilledAt g x u c l k
  pub roles_are : (e : ℕ) → Here g x e → roles g u e ≡ roles g w e
  pub grown : GrownRows g x (by_roles g w) (by_roles g u)
  pub spare : (e : ℕ) → Here g x e → (by_roles g u e spare_zone).sectors ≡ (by_roles g w e spare_zone).sectors

pub steps_part : (g : Geometry) → Valid g → (x : ℕ) (c : LogGenerations) (l : Ledger) (w : Device) → Standing g x w c → Invs c g x (by_roles g w) l → Solid g x w → GeneralRoom g x (by_roles g w)
    → (k : Shown) → k ≡ showing g (present_but g x) x (by_roles g w) → (differ : Bool) → (differ ≡ false → CountsSame g x (by_roles g w))
    → (steps : List (List Store)) → steps ≡ steps_by g x differ k (by_roles g w) → KeepsOff (concat (with_flushes g (present_but g x) steps))
    → Part g x l w (map (carry (places g w)) (concat (with_flushes g (present_but g x) steps))) (Stepped g x c l k w)
steps_part g ok x c l w st i solid room k look differ same steps is off = record { stopped = p.stopped; forgets = p.forgets; after = to (apply_all (map (carry (places g w)) (concat (with_flushes g (present_but g x) steps))) w) p.after }
  where
    r : Runs c g x l (by_roles g w) (concat (with_flushes g (present_but g x) steps)) (AfterSteps g x (by_roles g w) l k c)
    r = subst (λ (t : List (List Store)). Runs c g x l (by_roles g w) (concat (with_flushes g (present_but g x) t)) (AfterSteps g x (by_roles g w) l k c)) (sym is) (steps_run g ok c x l (by_roles g w) i (solid_seen g x c w st solid) room k look differ same)

    o : Ordinary g x (concat (with_flushes g (present_but g x) steps))
    o = record { on = on_steps g (present_but g x) steps; off = off }

    p : Part g x l w (map (carry (places g w)) (concat (with_flushes g (present_but g x) steps))) (Carried g x w c (concat (with_flushes g (present_but g x) steps)) (AfterSteps g x (by_roles g w) l k c))
    p = ordinary_run g x c l w st (concat (with_flushes g (present_but g x) steps)) o (AfterSteps g x (by_roles g w) l k c) r

    to : (u : Device) → Carried g x w c (concat (with_flushes g (present_but g x) steps)) (AfterSteps g x (by_roles g w) l k c) u → Stepped g x c l k w u
    to u d =
        let U = apply_all (concat (with_flushes g (present_but g x) steps)) (by_roles g w) in
        let (δ, f, m, q) = d.reached in
        record {
          filled = record { standing = d.standing; ghosts = as_it_is δ; filled = filled_same g x U (by_roles g u) δ l k f d.seen; closed_is = q };
          roles_are = d.roles_are;
          grown = λ e a. rw (d.seen e parity_zone a) (m e a);
          spare = λ e a. ap (λ (z : ZoneView). z.sectors) (d.seen e spare_zone a) ∙ all_still (concat (with_flushes g (present_but g x) steps)) (by_roles g w) e off;
        }

-- ---- STEP 11, carried by the roles of u
-- at rest, as a look shows it, with blank spares
pub record AtRest (g : Geometry) (x : ℕ) (w : Device) : Type 0 where
  pub generations : LogGenerations
  pub rests : let K = showing g (present_but g x) x (by_roles g w) in RoledRests generations g x w (mount_state K) (after_mount K)
  pub blank : BlankSpares g x w

pub entries_part : (g : Geometry) → Valid g → (x : ℕ) (c : LogGenerations) (l : Ledger) (k : Shown) (u : Device) → FilledAt g x u c l k → EntryRoom g x (by_roles g u) → BlankSpares g x u
    → Part g x l u (map (carry (places g u)) (concat (with_flush g (present_but g x) (entry_step g k (by_roles g u))))) (AtRest g x)
entries_part g ok x c l k u fa room blank = record { stopped = p.stopped; forgets = p.forgets; after = to (apply_all (map (carry (places g u)) (concat (with_flush g (present_but g x) (entry_step g k (by_roles g u))))) u) p.after }
  where
    r : Runs c g x l (by_roles g u) (concat (with_flush g (present_but g x) (entry_step g k (by_roles g u)))) (AfterEntries g x l k c)
    r = subst (λ (e : LogGenerations). Runs e g x l (by_roles g u) (concat (with_flush g (present_but g x) (entry_step g k (by_roles g u)))) (AfterEntries g x l k e)) fa.closed_is (entries_run g ok x (by_roles g u) fa.ghosts l k fa.filled room)

    o : Ordinary g x (concat (with_flush g (present_but g x) (entry_step g k (by_roles g u))))
    o = record { on = on_step g (present_but g x) (entry_step g k (by_roles g u)); off = entries_keep_off g (present_but g x) k (by_roles g u) }

    p : Part g x l u (map (carry (places g u)) (concat (with_flush g (present_but g x) (entry_step g k (by_roles g u))))) (Carried g x u c (concat (with_flush g (present_but g x) (entry_step g k (by_roles g u)))) (AfterEntries g x l k c))
    p = ordinary_run g x c l u fa.standing (concat (with_flush g (present_but g x) (entry_step g k (by_roles g u)))) o (AfterEntries g x l k c) r

    to : (w : Device) → Carried g x u c (concat (with_flush g (present_but g x) (entry_step g k (by_roles g u)))) (AfterEntries g x l k c) w → AtRest g x w
    to w d =
        let U = apply_all (concat (with_flush g (present_but g x) (entry_step g k (by_roles g u)))) (by_roles g u) in
        let (δ, f, en, q) = d.reached in
        let (γ, rs, e) = end_rests g ok x (by_roles g w) (as_it_is δ) l k (filled_same g x U (by_roles g w) δ l k f d.seen) (record { entry = en.entry }) in
        record {
          generations = c;
          rests = (d.standing, (γ, rs, e ∙ q));
          blank = λ i a. ap (λ (z : ZoneView). z.sectors) (d.seen i spare_zone a) ∙ all_still (concat (with_flush g (present_but g x) (entry_step g k (by_roles g u)))) (by_roles g u) i o.off ∙ blank i a;
        }

-- ---- STEP 10 with its flush, which changes nothing
pub record LogsDone (g : Geometry) (x : ℕ) (l : Ledger) (k : Shown) (emptied : ℕ → Bool) (v u : Device) : Type 0 where
  pub some : FilledSome g x l k u
  pub roles_are : (e : ℕ) → Here g x e → roles g u e ≡ roles_after true emptied (roles g v) e
  pub room : EntryRoom g x (by_roles g u)
  pub blank : BlankSpares g x u

logs_done_same : (g : Geometry) (x : ℕ) (l : Ledger) (k : Shown) (emptied : ℕ → Bool) (v u w : Device) → LogsDone g x l k emptied v u → ((e y : ℕ) → Here g x e → w e y ≡ u e y) → LogsDone g x l k emptied v w
logs_done_same g x l k emptied v u w d h =
    let f = d.some in
    let s : (e : ℕ) → Here g x e → (y : ℕ) → (w e y).sectors ≡ (u e y).sectors = λ e a y. ap (λ (z : ZoneView). z.sectors) (h e y a) in
    let at = filled_at_same g x u w f.generations (with_marks l f.marks) k f.at h in
    record {
      some = record { generations = f.generations; marks = f.marks; above = f.above; at = at };
      roles_are = λ e a. roles_same g u w e (s e a) ∙ d.roles_are e a;
      room = λ e a. rw (seen_same g x f.generations f.generations u w f.at.standing at.standing e a (s e a) parity_zone) (d.room e a);
      blank = blank_same g x u w (λ e y a. s e a y) d.blank;
    }

flush_done : (g : Geometry) (x : ℕ) (l : Ledger) (k : Shown) (emptied : ℕ → Bool) (v u : Device) (b : Bool) → LogsDone g x l k emptied v u → LogsDone g x l k emptied v (apply_all (pick b [] (flush_stores g (present_but g x)) ++ []) u)
flush_done g x l k emptied v u b d = logs_done_same g x l k emptied v u (apply_all (pick b [] (flush_stores g (present_but g x)) ++ []) u) d (whole b)
  where
    solid : Solid g x u
    solid = filled_solid g x u d.some.generations (with_marks l d.some.marks) k d.some.at

    whole : (b : Bool) (e y : ℕ) → Here g x e → apply_all (pick b [] (flush_stores g (present_but g x)) ++ []) u e y ≡ u e y
    whole true e y a = refl
    whole false e y a = rw (append-nil (flush_stores g (present_but g x))) (flush_all_lem g x u e y a ∙ solid_flushed (u e y) (solid e y a))

pub parity_step : (g : Geometry) → Valid g → (x : ℕ) (c : LogGenerations) (l : Ledger) (k : Shown) (v : Device) → FilledAt g x v c l k → (emptied : ℕ → Bool) → ((d : ℕ) → emptied d ≡ true → Here g x d)
    → ((d : ℕ) → d < g.drives → emptied d ≡ true → EmptiedInMount g x v k d) → ((e : ℕ) → Here g x e → emptied e ≡ false → length (by_roles g v e parity_zone).sectors + g.zones * (1 + g.unit) ≤ g.capacity)
    → BlankSpares g x v → Part g x l v (concat (with_flush g (present_but g x) (empty_parity g (present_but g x) (roles g v) (by_look k) emptied (by_roles g v)))) (LogsDone g x l k emptied v)
unfolding flush_stores empty_parity
parity_step g ok x c l k v fa emptied here known old blank =
    let xs = empty_parity g (present_but g x) (roles g v) (by_look k) emptied (by_roles g v) in
    let ys = pick (is_nil xs) [] (flush_stores g (present_but g x)) ++ [] in
    let e : on_present (present_but g x) xs ≡ xs = on_present_all (present_but g x) xs (emptyings_on g (present_but g x) true (roles g v) emptied (new_sectors g (by_look k) v) here) in
    let D = LogsDone g x l k emptied v in
    let Left : Device → Type 0 = λ w. KeptBy g x w l in
    let a = parity_logs_finished g ok x v c l k fa emptied known in
    let first = parity_logs_first g ok x v c l k fa emptied known in
    let stopped = parity_logs_stopped g ok x v c l k fa emptied known in
    let early = delayed_stopped g x true (roles g v) emptied (new_sectors g (by_look k) v) v Left first stopped in
    let late = delayed_flushed g x true (roles g v) emptied (new_sectors g (by_look k) v) v Left first stopped in
    let d : D (apply_all xs v) = record { some = a.some; roles_are = a.roles_are; room = a.room old; blank = blank_emptied g x true emptied (new_sectors g (by_look k) v) v a.roles_are blank } in
    let p : Part g x l v (xs ++ (pick (is_nil xs) [] (flush_stores g (present_but g x)) ++ [])) D = flushed_run g x v xs Left D early late (rw (apply_all_append xs ys v) (flush_done g x l k emptied v (apply_all xs v) (is_nil xs) d)) in
    subst (λ (t : List Store). Part g x l v (t ++ (pick (is_nil t) [] (flush_stores g (present_but g x)) ++ [])) D) (sym e) p

-- ==== THE MOUNT FROM STEP 3 ON
-- what it has reached after its step 2
pub record MountReady (g : Geometry) (x : ℕ) (l : Ledger) (v v2 : Device) : Type 0 where
  pub generations : LogGenerations
  pub standing : Standing g x v2 generations
  pub invs : Invs generations g x (by_roles g v2) l
  pub solid : Solid g x v2
  pub roles_are : (e : ℕ) → Here g x e → roles g v2 e ≡ middle_roles g (present_but g x) x v e
  -- its look, and what its steps ask, are answered as at its start
  pub look : mount_look g (present_but g x) x v ≡ showing g (present_but g x) x (by_roles g v2)
  pub steps : steps_before_entries g (present_but g x) x (mount_look g (present_but g x) x v) (mount_view g (present_but g x) x v)
      ≡ steps_by g x (counters_differ g (present_but g x) (mount_view g (present_but g x) x v)) (mount_look g (present_but g x) x v) (by_roles g v2)
  pub counts : counters_differ g (present_but g x) (mount_view g (present_but g x) x v) ≡ false → CountsSame g x (by_roles g v2)
  -- room, or what an emptying asks
  pub general_room : GeneralRoom g x (by_roles g v2)
  pub parity_room : (d : ℕ) → Here g x d → emptied_parity g (present_but g x) x v d ≡ false → length (by_roles g v2 d parity_zone).sectors + reserve g ≤ g.capacity
  pub emptied_here : (d : ℕ) → emptied_parity g (present_but g x) x v d ≡ true → Here g x d
  pub emptied_fits : (d : ℕ) → emptied_parity g (present_but g x) x v d ≡ true → new_parity_size g (by_look (mount_look g (present_but g x) x v)) d + reserve g ≤ g.capacity
  pub emptied_top : (d : ℕ) → emptied_parity g (present_but g x) x v d ≡ true → (middle_roles g (present_but g x) x v d).parity_claim ≤ worn_generation
  pub blank : BlankSpares g x v2

module _ (g : Geometry) (ok : Valid g) (x : ℕ) (l : Ledger) (v v2 : Device) (r : MountReady g x l v v2) where
  abbrev pub present : ℕ → Bool
  present = present_but g x

  abbrev pub k : Shown
  k = mount_look g (present_but g x) x v

  abbrev pub w0 : Device
  w0 = mount_view g (present_but g x) x v

  abbrev pub c : LogGenerations
  c = r.generations

  abbrev pub middle : ℕ → Roles
  middle = middle_roles g (present_but g x) x v

  abbrev end : ℕ → Roles
  end = end_roles g (present_but g x) x v

  abbrev pub emptied : ℕ → Bool
  emptied = emptied_parity g (present_but g x) x v

  abbrev step_stores : List Store
  step_stores = concat (with_flushes g present (steps_before_entries g present x k w0))

  -- steps 3 to 9
  first_are : concat (carry_phases (placed_by middle) (with_flushes g present (steps_before_entries g present x k w0))) ≡ map (carry (places g v2)) step_stores
  first_are = concat_carried (placed_by middle) (with_flushes g present (steps_before_entries g present x k w0))
      ∙ carried_alike present (placed_by middle) (places g v2) (λ e a. ap zone_of_role (sym (r.roles_are e a))) step_stores (on_steps g present (steps_before_entries g present x k w0))

  first_part : Part g x l v2 (concat (carry_phases (placed_by middle) (with_flushes g present (steps_before_entries g present x k w0)))) (Stepped g x c l k v2)
  first_part = subst (λ (t : List Store). Part g x l v2 t (Stepped g x c l k v2)) (sym first_are)
      (steps_part g ok x c l v2 r.standing r.invs r.solid r.general_room k r.look (counters_differ g present w0) r.counts (steps_before_entries g present x k w0) r.steps (steps_keep_off g present x k w0))

  -- the device after step 9
  abbrev pub filled_device : Device
  filled_device = apply_all (concat (carry_phases (placed_by middle) (with_flushes g present (steps_before_entries g present x k w0)))) v2

  pub stepped : Stepped g x c l k v2 filled_device
  stepped = first_part.after

  -- ---- step 10 (u: the device after step 9)
  module _ (u : Device) (s : Stepped g x c l k v2 u) where
    middle_is : (e : ℕ) → Here g x e → roles g u e ≡ middle e
    middle_is e a = s.roles_are e a ∙ r.roles_are e a

    -- by the roles of the step before
    seen_through : (e y : ℕ) → Here g x e → through (placed_by middle) u e y ≡ by_roles g u e y
    seen_through e y a = ap (λ (t : Roles). u e (zone_of_role t y)) (sym (middle_is e a) ∙ firm_roles g u e (s.filled.standing.roles e) (s.filled.standing.firm e a)) ∙ sym (firm_seen g u e (s.filled.standing.roles e) (s.filled.standing.firm e a) y)

    pub entries_through : (d : ℕ) → Here g x d → parity_entries g (through (placed_by middle) u) d ≡ parity_entries g (by_roles g u) d
    unfolding parity_entries
    entries_through d a = ap (λ (z : ZoneView). (walk_log g d true z.sectors).entries) (seen_through d parity_zone a)

    -- the emptyings of all of them, or of some
    pub emptyings_are : (some : ℕ → Bool) → ((d : ℕ) → some d ≡ true → emptied d ≡ true) → empty_parity g present middle (by_look k) some (through (placed_by middle) u) ≡ empty_parity g present (roles g u) (by_look k) some (by_roles g u)
    unfolding empty_parity
    emptyings_are some of = emptyings_same g present true middle (roles g u) some _ _
        (λ d hd b. let a = r.emptied_here d (of d b) in (sym (middle_is d a), ap₂ (λ (t : Roles) (es : List Entry). new_parity g (by_look k) t d es) (sym (middle_is d a)) (entries_through d a)))

    second_are : phases_of_parity_logs g present x v u ≡ with_flush g present (empty_parity g present (roles g u) (by_look k) emptied (by_roles g u))
    unfolding phases_of_parity_logs
    second_are = ap (with_flush g present) (emptyings_are emptied (λ d b. b))

    pub known : (d : ℕ) → d < g.drives → emptied d ≡ true → EmptiedInMount g x u k d
    known d hd b =
        let a = r.emptied_here d b in
        let f = r.emptied_fits d b in
        let st = s.filled.standing in
        let sp : (u d (roles g u d).spare).sectors ≡ [] = ap (λ (t : Roles). (u d t.spare).sectors) (firm_roles g u d (st.roles d) (st.firm d a)) ∙ ap (λ (z : ZoneView). z.sectors) (sym (firm_seen g u d (st.roles d) (st.firm d a) spare_zone)) ∙ s.spare d a ∙ r.blank d a in
        record { here = a; can = record { room = omega (arith, f); top = rw (middle_is d a) (r.emptied_top d b); blank = sp }; room = omega (arith, f) }

    second_part : Part g x l u (concat (phases_of_parity_logs g present x v u)) (LogsDone g x l k emptied u)
    second_part = rw second_are (parity_step g ok x c l k u s.filled emptied r.emptied_here known (λ e a b. let p = r.parity_room e a b in omega (arith, p, s.grown e a)) (λ e a. s.spare e a ∙ r.blank e a))

    -- ---- step 11 (w: the device after step 10)
    module _ (w : Device) (d : LogsDone g x l k emptied u w) where
      abbrev f : FilledSome g x l k w
      f = d.some

      end_is : (e : ℕ) → Here g x e → roles g w e ≡ end e
      end_is e a = d.roles_are e a ∙ go (emptied e)
        where
          go : (b : Bool) → pick b (emptied_roles true (roles g u e)) (roles g u e) ≡ pick b (emptied_roles true (middle e)) (middle e)
          go true = ap (emptied_roles true) (middle_is e a)
          go false = middle_is e a

      seen_end : (e y : ℕ) → Here g x e → through (placed_by end) w e y ≡ by_roles g w e y
      seen_end e y a = ap (λ (t : Roles). w e (zone_of_role t y)) (sym (end_is e a) ∙ firm_roles g w e (f.at.standing.roles e) (f.at.standing.firm e a)) ∙ sym (firm_seen g w e (f.at.standing.roles e) (f.at.standing.firm e a) y)

      entries_are : with_flush g present (entry_step g k (through (placed_by end) w)) ≡ with_flush g present (entry_step g k (by_roles g w))
      entries_are = with_flush_same g present (entry_step g k (through (placed_by end) w)) (entry_step g k (by_roles g w)) (entries_present g present k (through (placed_by end) w) (by_roles g w) (λ e a. same e (ap (λ (z : ZoneView). z.sectors) (seen_end e parity_zone a))))
        where
          same : (e : ℕ) → (through (placed_by end) w e parity_zone).sectors ≡ (by_roles g w e parity_zone).sectors → parity_entries g (through (placed_by end) w) e ≡ parity_entries g (by_roles g w) e
          same e q = unfold parity_entries in ap (λ (ss : List (List ℕ)). (walk_log g e true ss).entries) q

      third_are : concat (phases_of_entries g present x v w) ≡ map (carry (places g w)) (concat (with_flush g present (entry_step g k (by_roles g w))))
      unfolding phases_of_entries
      third_are = ap (λ (ps : List (List Store)). concat (carry_phases (placed_by end) ps)) entries_are ∙ concat_carried (placed_by end) (with_flush g present (entry_step g k (by_roles g w)))
          ∙ carried_alike present (placed_by end) (places g w) (λ e a. ap zone_of_role (sym (end_is e a))) (concat (with_flush g present (entry_step g k (by_roles g w)))) (on_step g present (entry_step g k (by_roles g w)))

      third_part : Part g x l w (concat (phases_of_entries g present x v w)) (AtRest g x)
      third_part = part_less g x l f.marks w (concat (phases_of_entries g present x v w)) (AtRest g x) f.above
          (subst (λ (t : List Store). Part g x (with_marks l f.marks) w t (AtRest g x)) (sym third_are) (entries_part g ok x f.generations (with_marks l f.marks) k w f.at d.room d.blank))

  -- ---- the stores, one step after the other
  abbrev pub tail_stores : List Store
  tail_stores =
      let X = concat (carry_phases (placed_by middle) (with_flushes g present (steps_before_entries g present x k w0))) in
      let u = apply_all X v2 in
      let Y = concat (phases_of_parity_logs g present x v u) in
      X ++ (Y ++ concat (phases_of_entries g present x v (apply_all Y u)))

  pub tail_part : Part g x l v2 tail_stores (AtRest g x)
  tail_part =
      let X = concat (carry_phases (placed_by middle) (with_flushes g present (steps_before_entries g present x k w0))) in
      let u = apply_all X v2 in
      let Y = concat (phases_of_parity_logs g present x v u) in
      let Z = concat (phases_of_entries g present x v (apply_all Y u)) in
      cut_runs_then g x v2 X (Y ++ Z) (λ w. KeptBy g x w l) (Stepped g x c l k v2) (AtRest g x) first_part (λ s. cut_runs_then g x u Y Z (λ w. KeptBy g x w l) (LogsDone g x l k emptied u) (AtRest g x) (second_part u s) (λ d. third_part u s (apply_all Y u) d))
