-- THE WHOLE MOUNT on the physical device: how it begins (MountLogs: the flush, the spares' resets, the emptying of general logs), and the rest (MountTail). After its
-- step 2 its look, and all that its steps ask, are answered as at its start (volume's EmptiedLooks, EmptiedSteps), so that the rest goes on by that look.
-- (v: the device at its start; v1: after the first flush; t: after step 2.)
use Rattle.std.specs.Prelude.{◌≡◌, ◌≢◌, ◌⊎◌, Bool, ℕ, ◌+◌, ◌≤◌, ◌<◌, length, take}
use Rattle.std.proofs.Math.Path.{refl, ap, ap₂, fun_ext}
use Rattle.std.proofs.Common.{sym, ◌∙◌, subst, inl, inr, arith}
use Rattle.std.proofs.Math.Bool.{true, false}
use Rattle.std.proofs.Math.Decide.{ℕ_discrete}
use mathlib.Core.List.{List, [], ◌∷◌, ◌++◌, append-nil, append_assoc, map}
use Rattle.tables.specs.meaning.Basics.{pick}
use Rattle.tables.specs.laws.Basics.{and_split}
use Rattle.tables.specs.meaning.Lists.{concat, is_nil}
use Rattle.tables.specs.laws.Lists.{concat_append}
use Rattle.tables.specs.meaning.Device.{ZoneView, Device, Store, blank_zone, apply_all, Cut}
use Rattle.tables.specs.laws.Device.{apply_all_append}
use Rattle.tables.specs.meaning.Phases.{on_present, flush_all}
use Rattle.tables.specs.laws.Phases.{absent_frame}
use Rattle.tables.specs.meaning.Through.{carry}
use Rattle.tables.specs.meaning.Drives.{present_but}
use Rattle.tables.specs.laws.Drives.{present_below}
use Rattle.tables.specs.declared.Geometry.{Geometry}
use Rattle.tables.specs.meaning.Geometry.{Valid}
use Rattle.logs.specs.meaning.Entry.{general_zone, parity_zone, spare_zone, worn_generation}
use Rattle.volume.specs.meaning.Rules.{Shown, showing, zone_shown, zone_at, general_heads}
use Rattle.volume.specs.meaning.Calls.{flush_stores}
use Rattle.volume.specs.meaning.Roles.{Roles, roles, by_roles, drive_by_roles, placed_by, roles_after, emptied_roles}
use Rattle.volume.specs.meaning.Emptying.{InForce, by_look, reserve, mount_general_limit, lacks_room, emptied_for, empty_general, new_general_size}
use Rattle.volume.specs.meaning.Mount.{spare_step, reset_entry_step, zone_reset_step, counter_step, counters_differ, with_flush, with_flushes, carry_phases, steps_before_entries, after_opening, after_fill, mount_look, mount_view, middle_roles, phases_of_logs, phases_before_entries, phases_of_parity_logs, phases_of_entries, mount_stores, mount_state}
use Rattle.volume.specs.laws.Firm.{firm_roles}
use Rattle.volume.specs.laws.EmptiedLogs.{Emptied}
use Rattle.volume.specs.laws.EmptiedLooks.{look_same}
use Rattle.volume.specs.laws.EmptiedSteps.{label_step_same, torn_step_same, fill_step_same, seal_step_same, counts_after}
use Rattle.promise.specs.meaning.Ledger.{Ledger, after_mount}
use Rattle.promise.proofs.device.Marks.{with_marks, MarksAbove}
use Rattle.promise.proofs.invariant.Invariant.{Here, LogGenerations}
use Rattle.promise.proofs.invariant.RoomAsked.{MountAccepted}
use Rattle.promise.proofs.invariant.Delayed.{Delayed, Forgets}
use Rattle.promise.proofs.look.LookReads.{begins}
use Rattle.promise.proofs.mount.MountSteps.{steps_by}
use Rattle.promise.proofs.mount.MountCounters.{CountsSame}
use Rattle.promise.proofs.roles.RoledCalls.{RoledInvs, RoledRests}
use Rattle.promise.proofs.roles.MountReads.{mount_accepted_same}
use Rattle.promise.proofs.emptying.Marked.{KeptBy}
use Rattle.promise.proofs.emptying.CanEmpty.{spare_seen}
use Rattle.promise.proofs.emptying.BlankSpares.{BlankSpares}
use Rattle.promise.proofs.emptying.EmptyingStops.{Solid}
use Rattle.promise.proofs.emptying.FlushedRests.{flushed_all, flush_sectors, flush_solid, flushed_invs}
use Rattle.promise.proofs.emptying.Forced.{Forced}
use Rattle.promise.proofs.emptying.GeneralEmptying.{new_general_of}
use Rattle.promise.proofs.emptying.OnPresent.{on_present_all}
use Rattle.promise.proofs.emptying.GeneralStores.{general_on}
use Rattle.promise.proofs.emptying.SparesReset.{carried_resets, spares_done, spares_blank}
use Rattle.promise.proofs.emptying.EmptyingsLeave.{Leaves, emptyings_leave}
use Rattle.promise.proofs.emptying.MountLogs.{spare_step_of, general_step_of, log_steps, logs_absent, LogsReady, ready_long, CanEmptyGeneral, mount_logs}
use Rattle.promise.proofs.emptying.CutRuns.{cut_runs_then}
use Rattle.promise.proofs.emptying.CallParts.{Part, kept_as_is}
use Rattle.promise.proofs.emptying.MountTail.{AtRest, MountReady, tail_part}

-- ---- a flush if there was a store
module _ (g : Geometry) (x : ℕ) (u : Device) where
  abbrev flush_if : Bool → List Store
  flush_if b = pick b [] (on_present (present_but g x) (flush_all g.drives)) ++ []

  flush_if_solid : (b : Bool) → Solid g x u → Solid g x (apply_all (flush_if b) u)
  unfolding flush_stores
  flush_if_solid true s = s
  flush_if_solid false s = rw (append-nil (on_present (present_but g x) (flush_all g.drives))) (flush_solid g x u)

  flush_if_sectors : (b : Bool) (e y : ℕ) → Here g x e → (apply_all (flush_if b) u e y).sectors ≡ (u e y).sectors
  unfolding flush_stores
  flush_if_sectors true e y a = refl
  flush_if_sectors false e y a = rw (append-nil (on_present (present_but g x) (flush_all g.drives))) (flush_sectors g x u e y a)

module _ (g : Geometry) (ok : Valid g) (x : ℕ) (c : LogGenerations) (l : Ledger) (v1 : Device) (ri : RoledInvs c g x v1 l) (solid1 : Solid g x v1) where
  abbrev present : ℕ → Bool
  present = present_but g x

  abbrev w0 : Device
  w0 = by_roles g v1

  abbrev k : Shown
  k = showing g (present_but g x) x (by_roles g v1)

  abbrev f : InForce
  f = by_look k

  abbrev emptied : ℕ → Bool
  emptied = emptied_for g (present_but g x) false (roles g v1) (by_roles g v1) (mount_general_limit g)

  abbrev emptied_p : ℕ → Bool
  emptied_p = emptied_for g (present_but g x) true (roles g v1) (by_roles g v1) (reserve g)

  emptied_here : (par : Bool) (limit d : ℕ) → emptied_for g (present_but g x) par (roles g v1) (by_roles g v1) limit d ≡ true → Here g x d
  unfolding emptied_for
  emptied_here par limit d b = (and_split (present_but g x d) (lacks_room g par (roles g v1) (by_roles g v1) limit d) b).0

  -- ---- after step 1
  abbrev resets : List Store
  resets = carried_resets g (present_but g x) (roles g v1) (by_roles g v1)

  resets_solid : Solid g x (apply_all resets v1)
  resets_solid e y a = go (ℕ_discrete y (roles g v1 e).spare)
    where
      spare : (apply_all resets v1 e (roles g v1 e).spare ≡ v1 e (roles g v1 e).spare) ⊎ (apply_all resets v1 e (roles g v1 e).spare ≡ blank_zone) → (apply_all resets v1 e (roles g v1 e).spare).durable ≡ length (apply_all resets v1 e (roles g v1 e).spare).sectors
      spare (inl q) = rw q (solid1 e (roles g v1 e).spare a)
      spare (inr q) = rw q refl

      go : Dec (y ≡ (roles g v1 e).spare) → (apply_all resets v1 e y).durable ≡ length (apply_all resets v1 e y).sectors
      go (yes q) = rw q (spare ((spares_done g x c v1 l ri).spares e a))
      go (no q) = rw ((spares_done g x c v1 l ri).others e y a q) (solid1 e y a)

  abbrev u1 : Device
  u1 = apply_all (spare_step_of g x v1) v1

  u1_is : u1 ≡ apply_all (flush_if g x v1 (is_nil resets)) (apply_all resets v1)
  u1_is = apply_all_append resets (flush_if g x v1 (is_nil resets)) v1

  u1_solid : Solid g x u1
  u1_solid = rw u1_is (flush_if_solid g x (apply_all resets v1) (is_nil resets) resets_solid)

  u1_blank : (d : ℕ) → Here g x d → (u1 d (roles g v1 d).spare).sectors ≡ []
  u1_blank d a = ap (λ (u : Device). (u d (roles g v1 d).spare).sectors) u1_is ∙ flush_if_sectors g x (apply_all resets v1) (is_nil resets) d (roles g v1 d).spare a ∙ spares_blank g x c v1 l ri d a

  -- ---- after step 2
  abbrev stores : List Store
  stores = empty_general g (present_but g x) (roles g v1) f emptied w0

  stores_present : on_present present stores ≡ stores
  stores_present = on_present_all present stores (general_on g present (roles g v1) f emptied w0 (λ d hd b. emptied_here false (mount_general_limit g) d b))

  abbrev u2 : Device
  u2 = apply_all stores u1

  leaves : Leaves g x false (roles g v1) emptied (new_general_of g f v1) u1 g.drives u2
  unfolding empty_general
  leaves = emptyings_leave g x false (roles g v1) emptied (new_general_of g f v1) u1

  abbrev t : Device
  t = apply_all (log_steps g x f emptied v1) v1

  t_is : t ≡ apply_all (flush_if g x u1 (is_nil stores)) u2
  t_is = apply_all_append (spare_step_of g x v1) (general_step_of g x f emptied v1) v1
      ∙ subst (λ (xs : List Store). apply_all (xs ++ flush_if g x u1 (is_nil xs)) u1 ≡ apply_all (flush_if g x u1 (is_nil stores)) u2) (sym stores_present) (apply_all_append stores (flush_if g x u1 (is_nil stores)) u1)

  t_solid : Solid g x t
  t_solid = rw t_is (flush_if_solid g x u2 (is_nil stores) (leaves.solid u1_solid))

  -- the spares are blank
  t_blank : (d : ℕ) → Here g x d → (t d (roles_after false emptied (roles g v1) d).spare).sectors ≡ []
  t_blank d a = ap (λ (u : Device). (u d (roles_after false emptied (roles g v1) d).spare).sectors) t_is ∙ flush_if_sectors g x u2 (is_nil stores) d (roles_after false emptied (roles g v1) d).spare a ∙ go (emptied d) refl
    where
      go : (b : Bool) → emptied d ≡ b → (u2 d (pick b (emptied_roles false (roles g v1 d)) (roles g v1 d)).spare).sectors ≡ []
      go true b = leaves.old d a (present_below g x d a) b
      go false b = leaves.same d a (inr b) (roles g v1 d).spare ∙ u1_blank d a

  -- ---- by what the call was accepted for
  module _ (ma : MountAccepted g (present_but g x) (roles g v1) (by_roles g v1) (by_look (showing g (present_but g x) x (by_roles g v1)))) where
    can : (d : ℕ) → d < g.drives → emptied d ≡ true → CanEmptyGeneral g x f v1 d
    can d hd b = let e = ma.general.emptiable d b in record { present = emptied_here false (mount_general_limit g) d b; room = omega (arith, e.room); top = e.top }

    forced : Forced g x w0 f.generation
    unfolding showing zone_shown zone_at
    forced z hz = refl

    module _ (r : LogsReady g x l f emptied v1 t) where
      absent_same : (d : ℕ) → present_but g x d ≡ false → (y : ℕ) → (by_roles g t d y).sectors ≡ (w0 d y).sectors
      absent_same d h y = ap (λ (zs : ℕ → ZoneView). (drive_by_roles g d zs y).sectors) (fun_ext λ z. logs_absent g x f emptied v1 d z h)

      kept_general : (d : ℕ) → emptied d ≡ false → (by_roles g t d general_zone).sectors ≡ (w0 d general_zone).sectors
      kept_general d b = go (present_but g x d) refl
        where
          go : (q : Bool) → present_but g x d ≡ q → (by_roles g t d general_zone).sectors ≡ (w0 d general_zone).sectors
          go true a = r.left d a b
          go false a = absent_same d a general_zone

      kept_else : (d y : ℕ) → y ≢ general_zone → y ≢ spare_zone → (by_roles g t d y).sectors ≡ (w0 d y).sectors
      kept_else d y n m = go (present_but g x d) refl
        where
          go : (q : Bool) → present_but g x d ≡ q → (by_roles g t d y).sectors ≡ (w0 d y).sectors
          go true a = r.kept d y a n m
          go false a = absent_same d a y

      -- general logs were emptied, and nothing else changed but spares
      law : Emptied g present f (roles g v1) emptied w0 (by_roles g t)
      law = record {
        valid = ok;
        there = λ d b. let a = emptied_here false (mount_general_limit g) d b in (a, present_below g x d a);
        in_force_lem = forced;
        begins = λ d b. let a = emptied_here false (mount_general_limit g) d b in let (γ, i, q) = ri.1 in (begins g ok x w0 γ i.logs d a).0;
        claims = λ d b. let a = emptied_here false (mount_general_limit g) d b in let s = ri.0 in
            (rw (firm_roles g v1 d (s.roles d) (s.firm d a)) (omega (arith, (s.general_claim_lem d a).0)), (ma.general.emptiable d b).top);
        room = λ d b. let e = (ma.general.emptiable d b).room in omega (arith, e);
        copied = λ d b. r.logs d (emptied_here false (mount_general_limit g) d b) b;
        kept = kept_general;
        elsewhere = kept_else;
      }

      general_room : (d : ℕ) → Here g x d → length (by_roles g t d general_zone).sectors + (g.zones + 2) ≤ g.capacity
      general_room d a = rw (ready_long g x l f emptied v1 t r d a) (go (emptied d) refl)
        where
          go : (b : Bool) → emptied d ≡ b → pick b (new_general_size g f (general_heads g w0 d)) (length (w0 d general_zone).sectors) + (g.zones + 2) ≤ g.capacity
          go true b = (ma.general.emptiable d b).room
          go false b = ma.general.roomy d a b

      -- the steps by the look at the start are those by the device now
      steps_are : steps_before_entries g present x k w0 ≡ steps_by g x (counters_differ g present w0) k (by_roles g t)
      steps_are = sym back
        where
          back : steps_by g x (counters_differ g present w0) k (by_roles g t) ≡ steps_before_entries g present x k w0
          back i =
              label_step_same g present f (roles g v1) emptied w0 (by_roles g t) law x k i ∷ reset_entry_step g k ∷ zone_reset_step g k ∷ counter_step g k (counters_differ g present w0)
              ∷ seal_step_same g present f (roles g v1) emptied w0 (by_roles g t) law x i ∷ torn_step_same g present f (roles g v1) emptied w0 (by_roles g t) law k i ∷ fill_step_same g present f (roles g v1) emptied w0 (by_roles g t) law k i ∷ []

      look_is : k ≡ showing g present x (by_roles g t)
      look_is = sym (look_same g present f (roles g v1) emptied w0 (by_roles g t) law x)

      counts_are : counters_differ g present w0 ≡ false → CountsSame g x (by_roles g t)
      counts_are e d i a b z hz = counts_after g present f (roles g v1) emptied w0 (by_roles g t) law e z d (present_below g x d a) a hz ∙ sym (counts_after g present f (roles g v1) emptied w0 (by_roles g t) law e z i (present_below g x i b) b hz)

      parity_room : (d : ℕ) → Here g x d → emptied_p d ≡ false → length (by_roles g t d parity_zone).sectors + reserve g ≤ g.capacity
      parity_room d a b = rw (r.kept d parity_zone a (λ q. omega (arith, q)) (λ q. omega (arith, q))) (ma.parity.roomy d a b)

      top : (d : ℕ) → emptied_p d ≡ true → (roles_after false emptied (roles g v1) d).parity_claim ≤ worn_generation
      top d b = go (emptied d)
        where
          go : (q : Bool) → (pick q (emptied_roles false (roles g v1 d)) (roles g v1 d)).parity_claim ≤ worn_generation
          go true = (ma.parity.emptiable d b).top
          go false = (ma.parity.emptiable d b).top

      blank : BlankSpares g x t
      blank d a = ap (λ (z : ZoneView). z.sectors) (spare_seen g t d) ∙ ap (λ (q : Roles). (t d q.spare).sectors) (r.roles_are d a) ∙ t_blank d a

-- ---- THE MOUNT OF v
module _ (g : Geometry) (ok : Valid g) (x : ℕ) (c : LogGenerations) (l : Ledger) (v : Device) (ri : RoledInvs c g x v l)
    (ma : MountAccepted g (present_but g x) (roles g (flushed_all g x v)) (by_roles g (flushed_all g x v)) (by_look (showing g (present_but g x) x (by_roles g (flushed_all g x v))))) where
  abbrev opened : Device
  opened = flushed_all g x v

  abbrev K : Shown
  K = showing g (present_but g x) x (by_roles g (flushed_all g x v))

  abbrev lacking : ℕ → Bool
  lacking = emptied_for g (present_but g x) false (roles g (flushed_all g x v)) (by_roles g (flushed_all g x v)) (mount_general_limit g)

  ri1 : RoledInvs c g x (flushed_all g x v) l
  ri1 = flushed_invs g ok c x v l ri

  opened_solid : Solid g x (flushed_all g x v)
  opened_solid = flush_solid g x v

  -- its first two steps
  abbrev begun : List Store
  begun = flush_stores g (present_but g x) ++ log_steps g x (by_look K) lacking opened

  abbrev pub reached : Device
  reached = apply_all (log_steps g x (by_look K) lacking opened) opened

  reached_is : apply_all begun v ≡ reached
  reached_is = apply_all_append (flush_stores g (present_but g x)) (log_steps g x (by_look K) lacking opened) v

  ready : LogsReady g x l (by_look K) lacking opened reached → MountReady g x l v reached
  unfolding mount_look after_opening flush_stores
  ready r = record {
    generations = r.holds.0;
    standing = r.holds.1.0;
    invs = r.holds.1.1;
    solid = t_solid g ok x c l opened ri1 opened_solid;
    roles_are = r.roles_are;
    look = look_is g ok x c l opened ri1 opened_solid ma r;
    steps = steps_are g ok x c l opened ri1 opened_solid ma r;
    counts = counts_are g ok x c l opened ri1 opened_solid ma r;
    general_room = general_room g ok x c l opened ri1 opened_solid ma r;
    parity_room = parity_room g ok x c l opened ri1 opened_solid ma r;
    emptied_here = λ d b. emptied_here g ok x c l opened ri1 opened_solid true (reserve g) d b;
    emptied_fits = λ d b. (ma.parity.emptiable d b).room;
    emptied_top = top g ok x c l opened ri1 opened_solid ma r;
    blank = blank g ok x c l opened ri1 opened_solid ma r;
  }

  begin_part : Part g x l v begun (LogsReady g x l (by_look K) lacking opened)
  begin_part =
      let p = mount_logs g ok x c l v ri (by_look K) (forced g ok x c l opened ri1 opened_solid ma) lacking (can g ok x c l opened ri1 opened_solid ma) in
      record { stopped = λ n u w d cut. let (e, h) = p.stopped n u w d cut in kept_as_is g x w l e h; forgets = p.forgets; after = p.after }

  -- the rest, from w
  abbrev pub step_phases : List (List Store)
  step_phases = carry_phases (placed_by (middle_roles g (present_but g x) x v)) (with_flushes g (present_but g x) (steps_before_entries g (present_but g x) x (mount_look g (present_but g x) x v) (mount_view g (present_but g x) x v)))

  abbrev last_ones : Device → List Store
  last_ones u = let Y = concat (phases_of_parity_logs g (present_but g x) x v u) in Y ++ concat (phases_of_entries g (present_but g x) x v (apply_all Y u))

  abbrev from_step3 : Device → List Store
  from_step3 w = concat step_phases ++ last_ones (apply_all (concat step_phases) w)

  rest_part : LogsReady g x l (by_look K) lacking opened (apply_all begun v) → Part g x l (apply_all begun v) (from_step3 (apply_all begun v)) (AtRest g x)
  rest_part r =
      let r1 : LogsReady g x l (by_look K) lacking opened reached = subst (λ (w : Device). LogsReady g x l (by_look K) lacking opened w) reached_is r in
      subst (λ (w : Device). Part g x l w (from_step3 w) (AtRest g x)) (sym reached_is) (tail_part g ok x l v reached (ready r1))

  -- the stores of the mount are these
  logs_are : concat (phases_of_logs g (present_but g x) x v) ≡ begun
  unfolding phases_of_logs spare_step mount_look after_opening flush_stores
  logs_are =
      let F = on_present (present_but g x) (flush_all g.drives) in
      ap (λ (t : List Store). F ++ t) (concat_append (with_flush g (present_but g x) (map (carry (placed_by (roles g opened))) (spare_step g (by_roles g opened)))) (with_flush g (present_but g x) (empty_general g (present_but g x) (roles g opened) (by_look K) lacking (by_roles g opened))))

  before_are : concat (phases_before_entries g (present_but g x) x v) ≡ begun ++ concat step_phases
  unfolding phases_before_entries
  before_are = concat_append (phases_of_logs g (present_but g x) x v) step_phases ∙ ap (λ (t : List Store). t ++ concat step_phases) logs_are

  stores_are : mount_stores g (present_but g x) x v ≡ begun ++ from_step3 (apply_all begun v)
  unfolding mount_stores
  stores_are =
      let e : apply_all (concat (phases_before_entries g (present_but g x) x v)) v ≡ apply_all (concat step_phases) (apply_all begun v) = ap (λ (t : List Store). apply_all t v) before_are ∙ apply_all_append begun (concat step_phases) v in
      ap₂ (λ (a b : List Store). a ++ b) before_are (ap last_ones e) ∙ append_assoc begun (concat step_phases) (last_ones (apply_all (concat step_phases) (apply_all begun v)))

  -- what it has reached after its step 2, and after its step 9
  pub ready_there : MountReady g x l v reached
  ready_there = ready (subst (λ (w : Device). LogsReady g x l (by_look K) lacking opened w) reached_is begin_part.after)

  pub fill_is : after_fill g (present_but g x) x v ≡ apply_all (concat step_phases) reached
  fill_is = ap (λ (t : List Store). apply_all t v) before_are ∙ apply_all_append begun (concat step_phases) v ∙ ap (apply_all (concat step_phases)) reached_is

  -- STOPPED ANYWHERE AND CUT the invariant holds by the roles, with marks at or above the ledger's; FINISHED all is at rest, as a look shows it
  pub mount_part : Part g x l v (mount_stores g (present_but g x) x v) (AtRest g x)
  mount_part = subst (λ (xs : List Store). Part g x l v xs (AtRest g x)) (sym stores_are) (cut_runs_then g x v begun (from_step3 (apply_all begun v)) (λ w. KeptBy g x w l) (LogsReady g x l (by_look K) lacking opened) (AtRest g x) begin_part rest_part)

-- the same, accepted by what the device was before the first flush, which leaves all sectors
pub opened_sectors : (g : Geometry) (x : ℕ) (v : Device) (d y : ℕ) → (v d y).sectors ≡ (flushed_all g x v d y).sectors
unfolding flush_stores
opened_sectors g x v d y = sym (go (present_but g x d) refl)
  where
    go : (b : Bool) → present_but g x d ≡ b → (flushed_all g x v d y).sectors ≡ (v d y).sectors
    go true a = flush_sectors g x v d y a
    go false a = ap (λ (z : ZoneView). z.sectors) (absent_frame (present_but g x) (flush_all g.drives) v d y a)

pub mount_cuts : (g : Geometry) → Valid g → (x : ℕ) (v : Device) (l : Ledger) (c : LogGenerations) → RoledInvs c g x v l
    → MountAccepted g (present_but g x) (roles g v) (by_roles g v) (by_look (showing g (present_but g x) x (by_roles g v)))
    → let xs = mount_stores g (present_but g x) x v in let k = showing g (present_but g x) x (by_roles g (apply_all xs v)) in
    ((n : ℕ) (u w : Device) → Delayed g x v (take n xs) u → Cut x u w → (e : LogGenerations) × (m : ℕ → ℕ) × MarksAbove l m × RoledInvs e g x w (with_marks l m)) × Forgets g x v xs × ((e : LogGenerations) × RoledRests e g x (apply_all xs v) (mount_state k) (after_mount k))
mount_cuts g ok x v l c ri ma =
    let p = mount_part g ok x c l v ri (mount_accepted_same g (present_but g x) x v (flushed_all g x v) (opened_sectors g x v) ma) in
    ((λ n u w d cut. let h = p.stopped n u w d cut in (h.generations, h.marks, h.above, h.holds)), p.forgets, (p.after.generations, p.after.rests))

-- and leaves blank spares
pub mount_blank : (g : Geometry) → Valid g → (x : ℕ) (v : Device) (l : Ledger) (c : LogGenerations) → RoledInvs c g x v l
    → MountAccepted g (present_but g x) (roles g v) (by_roles g v) (by_look (showing g (present_but g x) x (by_roles g v))) → BlankSpares g x (apply_all (mount_stores g (present_but g x) x v) v)
mount_blank g ok x v l c ri ma = (mount_part g ok x c l v ri (mount_accepted_same g (present_but g x) x v (flushed_all g x v) (opened_sectors g x v) ma)).after.blank
