-- A RESET on drives that cache resets, which may empty general logs first: what it owes. An old log that its emptyings leave may come back until the next flush:
-- it is a spare, and all is at rest with it (EmptyingsBack), so the reset's own stores begin there (CachedOwn).
use Rattle.std.specs.Prelude.{◌≡◌, refl, ◌⊎◌, Bool, ℕ, ◌+◌, ◌-◌, length, take}
use Rattle.std.proofs.Common.{sym, ap, ◌∙◌, subst, inl, inr, arith}
use Rattle.std.proofs.Math.Bool.{false}
use mathlib.Core.List.{List, [], ◌++◌, map}
use Rattle.tables.specs.laws.Lists.{prefix_trans, prefix_append, prefix_is_take}
use Rattle.tables.specs.meaning.Device.{Device, Store, apply_all}
use Rattle.tables.specs.meaning.Cached.{Caching, apply_all_caching}
use Rattle.tables.specs.laws.Cached.{caching_append, now_is}
use Rattle.tables.specs.meaning.Through.{carry}
use Rattle.tables.specs.meaning.Drives.{present_but}
use Rattle.tables.specs.declared.Geometry.{Geometry}
use Rattle.tables.specs.meaning.Geometry.{Valid}
use Rattle.logs.specs.meaning.Entry.{general_zone}
use Rattle.volume.specs.meaning.State.{StateView}
use Rattle.volume.specs.meaning.Calls.{reset_stores, reset_state}
use Rattle.volume.specs.meaning.Roles.{roles, zone_of_role, by_roles, placed_by, roles_after}
use Rattle.volume.specs.meaning.Emptying.{by_state, emptyings, empty_general, reset_all}
use Rattle.volume.specs.laws.Firm.{places}
use Rattle.promise.specs.meaning.Ledger.{Ledger, after_reset, after_stopped_reset}
use Rattle.promise.proofs.invariant.Invariant.{LogGenerations}
use Rattle.promise.proofs.invariant.Obligations.{ResetOk}
use Rattle.promise.proofs.invariant.RoomAsked.{ResetAccepted}
use Rattle.promise.proofs.invariant.Delayed.{PutBack}
use Rattle.promise.proofs.roles.RoledCalls.{RoledRests}
use Rattle.promise.proofs.roles.OrdinaryCalls.{reset_ordinary}
use Rattle.promise.proofs.emptying.CallParts.{carried_alike}
use Rattle.promise.proofs.emptying.EmptyingsDelayed.{LeftAs, in_first, as_part, emptyings_delayed}
use Rattle.promise.proofs.emptying.GeneralEmptying.{new_general_of}
use Rattle.promise.proofs.emptying.GeneralEmptyings.{BackAtRest, general_emptyings_back}
use Rattle.promise.proofs.emptying.GeneralReset.{flag_invs, ResetEmpties, invs, forced, done, reset_ok}
use Rattle.promise.proofs.device.Marks.{with_marks, MarksAbove}
use Rattle.promise.proofs.device.Modes.{SomeRests, SomeInvs, Halted, less_rests, rests_invs, kept_rests}
use Rattle.promise.proofs.device.PlainCalls.{flush_halted}
use Rattle.promise.proofs.device.ResetCall.{emptied, reset_empties, stores_are, reset_owes}
use Rattle.promise.proofs.device.CachedModes.{now_back, RestsCached, HaltedCached, back_seen}
use Rattle.promise.proofs.device.CachedOwed.{ResetOwesCached, in_either}
use Rattle.promise.proofs.device.CachedOwn.{own_reset_halted, own_reset_rests}

module _ (g : Geometry) (ok : Valid g) (x : ℕ) (c : Caching) (state : StateView) (l : Ledger) (z : ℕ) (r : RestsCached g x c state l)
    (ra : ResetAccepted g (present_but g x) (roles g c.now) (by_roles g c.now) (by_state g (present_but g x) (by_roles g c.now) state) state z)
    (e : LogGenerations) (m : ℕ → ℕ) (above : MarksAbove l m) (rr : RoledRests e g x c.now state (with_marks l m)) where
  abbrev v : Device
  v = c.now

  abbrev emptied_by : ℕ → Bool
  emptied_by = emptied g ok x c.now state l z e m ra

  re : ResetEmpties g ok x e c.now state (with_marks l m) rr (emptied g ok x c.now state l z e m ra) z
  re = reset_empties g ok x c.now state l z e m ra c.now (λ d y. refl) rr

  abbrev E : List Store
  E = empty_general g (present_but g x) (roles g c.now) (by_state g (present_but g x) (by_roles g c.now) state) (emptied g ok x c.now state l z e m ra) (by_roles g c.now)

  abbrev own : List Store
  own = map (carry (placed_by (roles_after false (emptied g ok x c.now state l z e m ra) (roles g c.now)))) (reset_stores g (present_but g x) state z)

  all_are : reset_all g (present_but g x) (roles g c.now) (by_roles g c.now) state z ≡ E ++ own
  all_are = stores_are g ok x c.now state l z e m ra c.now (λ d y. refl)

  abbrev c_e : Caching
  c_e = apply_all_caching E c

  now_e : c_e.now ≡ apply_all E v
  now_e = now_is E c

  -- ---- once the logs are emptied
  rests_e : RestsCached g x c_e state l
  rests_e = go (general_emptyings_back g ok x e c.now (with_marks l m) (invs g ok x e c.now state (with_marks l m) rr emptied_by z) (by_state g (present_but g x) (by_roles g c.now) state)
      (forced g ok x e c.now state (with_marks l m) rr emptied_by z) emptied_by re.can state rr c.was)
    where
      go : (E ≡ []) ⊎ BackAtRest g ok x e c.now (with_marks l m) (invs g ok x e c.now state (with_marks l m) rr emptied_by z) (by_state g (present_but g x) (by_roles g c.now) state)
          (forced g ok x e c.now state (with_marks l m) rr emptied_by z) emptied_by re.can state c.was → RestsCached g x c_e state l
      go (inl q) = subst (λ (ys : List Store). RestsCached g x (apply_all_caching ys c) state l) (sym q) r
      go (inr b) = record {
        rests = λ t k. less_rests g x t state l m above (kept_rests g x t state (with_marks l m) (b.rests t k));
        roles_are = λ t k d a. b.roles_are t k d a ∙ ap (λ (w : Device). roles g w d) (sym now_e);
        spares = λ d y a. side d y (b.spares d y a);
      }
        where
          side : (d y : ℕ) → (c_e.was d y ≡ []) ⊎ (y ≡ (roles g (apply_all E v) d).spare) → (c_e.was d y ≡ []) ⊎ (y ≡ (roles g c_e.now d).spare)
          side d y (inl q) = inl q
          side d y (inr q) = inr (rw now_e q)

  own_is : own ≡ map (carry (places g c_e.now)) (reset_stores g (present_but g x) state z)
  own_is = carried_alike (present_but g x) (placed_by (roles_after false emptied_by (roles g v))) (places g c_e.now)
      (λ d a. ap zone_of_role (sym (ap (λ (w : Device). roles g w d) now_e ∙ (done g ok x e c.now state (with_marks l m) rr emptied_by z re).roles_are d a))) (reset_stores g (present_but g x) state z) (reset_ordinary g x state z).on

  rok : (t : Device) → PutBack g x c_e t → ResetOk g (present_but g x) (by_roles g t) state z
  rok t k =
      let q = reset_ok g ok x e c.now state (with_marks l m) rr emptied_by z re in
      record { zone_ok = q.zone_ok; not_worn = q.not_worn; room = λ d a. rw (back_seen g x c_e state l rests_e t k d a general_zone (λ i. omega (arith, i)), now_e) (q.room d a) }

  -- FINISHED
  reset_done : RestsCached g x (apply_all_caching (reset_all g (present_but g x) (roles g c.now) (by_roles g c.now) state z) c) (reset_state x state z) (after_reset l z)
  reset_done =
      let q = own_reset_rests g ok x c_e state l rests_e z rok in
      subst (λ (k : Caching). RestsCached g x k (reset_state x state z) (after_reset l z)) (sym (ap (λ (ys : List Store). apply_all_caching ys c) all_are ∙ caching_append E own c ∙ ap (λ (ys : List Store). apply_all_caching ys c_e) own_is)) q

  -- STOPPED
  flagged : (u : Device) → PutBack g x c u → SomeInvs g x u (after_stopped_reset l z)
  flagged u k = go (rests_invs g x u state l (r.rests u k))
    where
      go : SomeInvs g x u l → SomeInvs g x u (after_stopped_reset l z)
      go (b, n, h, (s, i)) = (b, n, h, (s, flag_invs g b x (by_roles g u) (with_marks l n) z i))

  in_emptyings : (P : Type 0) (t : Device) → LeftAs g x false (roles g c.now) emptied_by (new_general_of g (by_state g (present_but g x) (by_roles g c.now) state) c.now) c P E t → Halted g x t (after_stopped_reset l z)
  in_emptyings P t (in_first e n u k q) = subst (λ (a : Device). Halted g x a (after_stopped_reset l z)) (sym q) (flush_halted g ok x u (after_stopped_reset l z) n (flagged u k))
  in_emptyings P t (as_part p) =
      let h = (reset_owes g ok x c.now state l z (e, m, above, rr) ra).0 (length p.part) in
      let i : p.part ≡ take (length p.part) (reset_all g (present_but g x) (roles g c.now) (by_roles g c.now) state z) = prefix_is_take p.part (E ++ own) (prefix_trans p.of (prefix_append E own)) ∙ ap (take (length p.part)) (sym all_are) in
      subst (λ (a : Device). Halted g x a (after_stopped_reset l z)) (sym (p.is ∙ ap (λ (ys : List Store). apply_all ys v) i)) h

  reset_stopped : (n : ℕ) → HaltedCached g x (apply_all_caching (take n (reset_all g (present_but g x) (roles g c.now) (by_roles g c.now) state z)) c) (after_stopped_reset l z)
  unfolding empty_general
  reset_stopped n t k = in_either g x c E own n t (Halted g x t (after_stopped_reset l z))
      (λ h k1. in_emptyings _ t (emptyings_delayed g x false (roles g c.now) emptied_by (new_general_of g (by_state g (present_but g x) (by_roles g c.now) state) c.now) c n t k1))
      (λ j e k1. own_reset_halted g ok x c_e state l rests_e z rok j t (subst (λ (ys : List Store). PutBack g x (apply_all_caching (take j ys) c_e) t) own_is k1))
      (subst (λ (ys : List Store). PutBack g x (apply_all_caching (take n ys) c) t) all_are k)

pub reset_owes_cached : (g : Geometry) → Valid g → ResetOwesCached g
reset_owes_cached g ok x c state l z r ra = go (r.rests c.now (now_back g x c))
  where
    go : SomeRests g x c.now state l → let xs = reset_all g (present_but g x) (roles g c.now) (by_roles g c.now) state z in
        ((n : ℕ) → HaltedCached g x (apply_all_caching (take n xs) c) (after_stopped_reset l z)) × RestsCached g x (apply_all_caching xs c) (reset_state x state z) (after_reset l z)
    go (e, m, above, rr) = (reset_stopped g ok x c state l z r ra e m above rr, reset_done g ok x c state l z r ra e m above rr)
