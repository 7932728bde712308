-- A RESET THAT EMPTIES GENERAL LOGS FIRST, on the physical device: the emptyings, then its own stores, carried to where the logs lie from then on. Stopped
-- after any number of stores and cut in any way the drives stand in firm roles and the invariant holds by them, with marks at or above the ledger's;
-- finished, all is at rest. (emptied: the drives whose general log is emptied.)
use Rattle.std.specs.Prelude.{◌≡◌, refl, ◌⊎◌, Bool, true, ℕ, zero, ◌+◌, ◌-◌, ◌≤◌, ◌<◌, List, ◌++◌, map, length, take, eqb}
use Rattle.std.proofs.Common.{sym, ap, ◌∙◌, subst, inl, inr, zero-le, le_refl, arith}
use Rattle.std.proofs.Math.Bool.{false}
use Rattle.std.proofs.Math.Decide.{dec_lt}
use Rattle.std.proofs.lemmas.List.{take-append-le}
use Rattle.std.proofs.Math.Seq.{take-append-add}
use Rattle.tables.specs.meaning.Basics.{pick}
use Rattle.tables.specs.meaning.Device.{ZoneView, Device, Store, apply_all, Cut}
use Rattle.tables.specs.laws.Device.{apply_all_append}
use Rattle.tables.specs.meaning.Through.{carry}
use Rattle.tables.specs.meaning.Drives.{present_but}
use Rattle.tables.specs.declared.Geometry.{Geometry}
use Rattle.tables.specs.meaning.Geometry.{Valid, data_zone}
use Rattle.logs.specs.meaning.Entry.{general_zone, parity_zone, worn_generation}
use Rattle.volume.specs.meaning.Rules.{general_heads}
use Rattle.volume.specs.meaning.State.{StateView, set_at}
use Rattle.volume.specs.meaning.Calls.{reset_stores, reset_state}
use Rattle.volume.specs.meaning.Roles.{roles, zone_of_role, placed_by, by_roles, roles_after}
use Rattle.volume.specs.meaning.Emptying.{InForce, by_state, empty_general}
use Rattle.promise.specs.meaning.Ledger.{Ledger, after_reset, after_stopped_reset}
use Rattle.promise.proofs.invariant.Invariant.{Here, Live, Dying, LogGenerations, rest_inv, facts_of, said}
use Rattle.promise.proofs.invariant.SaidMoves.{live_flag}
use Rattle.promise.proofs.invariant.Obligations.{Invs, ResetOk}
use Rattle.promise.proofs.device.Marks.{with_marks}
use Rattle.promise.proofs.roles.Roled.{standing_cut}
use Rattle.promise.proofs.roles.RoledCalls.{RoledInvs, RoledRests, roled_reset_keeps, roled_reset_rests}
use Rattle.promise.proofs.calls.ResetKeeps.{reset_rests}
use Rattle.promise.proofs.calls.ParityLogsAfter.{reset_log}
use Rattle.promise.proofs.roles.Ordinary.{carried_to, ordinary_seen}
use Rattle.promise.proofs.roles.OrdinaryCalls.{reset_ordinary}
use Rattle.promise.proofs.emptying.BlankSpares.{BlankSpares, blank_ordinary, blank_emptied}
use Rattle.promise.proofs.emptying.FlushedRests.{sectors_seen}
use Rattle.promise.proofs.emptying.Forced.{Forced, rest_forced}
use Rattle.promise.proofs.emptying.Marked.{KeptBy, RestsBy}
use Rattle.promise.proofs.emptying.CanEmpty.{CanEmptyLog}
use Rattle.promise.proofs.emptying.GeneralEmptying.{new_general_of, general_size_of, new_general_long}
use Rattle.promise.proofs.emptying.GeneralEmptyings.{EmptiedAll, left_invs, general_emptyings_stopped, general_emptyings_rest}
use Rattle.promise.proofs.emptying.CallParts.{carried_alike}

-- ---- a reset that has stored nothing yet: only the flag is up
pub flag_invs : (g : Geometry) (c : LogGenerations) (x : ℕ) (v : Device) (l : Ledger) (z : ℕ) → Invs c g x v l → Invs c g x v (after_stopped_reset l z)
flag_invs g c x v l z (γ, i, q) = (γ, record { logs = i.logs; zones = λ y hy. go y (i.zones y hy) }, q)
  where
    up : (y : ℕ) (b : Bool) → l.resetting y ≡ true → pick b true (l.resetting y) ≡ true
    up y true e = refl
    up y false e = e

    go : (y : ℕ) → Live g x v γ l y ⊎ Dying g x v γ l y → Live g x v γ (after_stopped_reset l z) y ⊎ Dying g x v γ (after_stopped_reset l z) y
    go y (inl h) = inl (live_flag g x y (facts_of γ l y) (said g v γ y) (λ d. v d (data_zone y)) (set_at l.resetting z true y) (up y (eqb y z)) h)
    go y (inr h) = inr (record { idle = idle h.idle; generation_top = h.generation_top; entries = h.entries; counts = h.counts; raised = h.raised; why = h.why })
      where
        idle : (l.committed y ≡ zero) ⊎ (l.resetting y ≡ true) → (l.committed y ≡ zero) ⊎ (set_at l.resetting z true y ≡ true)
        idle (inl e) = inl e
        idle (inr e) = inr (up y (eqb y z) e)

module _ (g : Geometry) (ok : Valid g) (x : ℕ) (c : LogGenerations) (v : Device) (state : StateView) (l : Ledger) (rr : RoledRests c g x v state l) (emptied : ℕ → Bool) (z : ℕ) where
  -- the copies go by the state
  abbrev pub at_state : InForce
  at_state = by_state g (present_but g x) (by_roles g v) state

  -- an accepted reset: the logs can be emptied, and then there is room for its entries
  pub record ResetEmpties : Type 0 where
    pub zone_ok : z < g.zones
    pub not_worn : state.generation z < worn_generation
    pub can : (d : ℕ) → d < g.drives → emptied d ≡ true → Here g x d × CanEmptyLog g false v d (general_size_of g (by_state g (present_but g x) (by_roles g v) state) v d)
    pub room : (d : ℕ) → Here g x d → pick (emptied d) (general_size_of g (by_state g (present_but g x) (by_roles g v) state) v d) (length (by_roles g v d general_zone).sectors) + (g.zones + 4) ≤ g.capacity

  abbrev pub reset_emptying : List Store
  reset_emptying = empty_general g (present_but g x) (roles g v) (by_state g (present_but g x) (by_roles g v) state) emptied (by_roles g v)

  abbrev pub reset_carried : List Store
  reset_carried = map (carry (placed_by (roles_after false emptied (roles g v)))) (reset_stores g (present_but g x) state z)

  pub invs : RoledInvs c g x v l
  invs = let (s, (γ, r, q)) = rr in (s, (γ, rest_inv g x (by_roles g v) state l γ r, q))

  pub forced : Forced g x (by_roles g v) state.generation
  forced = let (s, (γ, r, q)) = rr in rest_forced g ok x (by_roles g v) state l γ r

  module _ (re : ResetEmpties) where
    abbrev pub u : Device
    u = apply_all reset_emptying v

    pub done : EmptiedAll g x v at_state emptied (λ w. RestsBy g x w state l) u
    done = general_emptyings_rest g ok x c v l invs at_state forced emptied re.can state rr

    then : RestsBy g x u state l
    then = done.holds

    pub carried_are : reset_carried ≡ map (carry (placed_by (roles g u))) (reset_stores g (present_but g x) state z)
    carried_are = carried_alike (present_but g x) (placed_by (roles_after false emptied (roles g v))) (placed_by (roles g u)) (λ e a. ap zone_of_role (sym (done.roles_are e a))) (reset_stores g (present_but g x) state z) (reset_ordinary g x state z).on

    log_length : (d : ℕ) → Here g x d → length (by_roles g u d general_zone).sectors ≡ pick (emptied d) (general_size_of g at_state v d) (length (by_roles g v d general_zone).sectors)
    log_length d a = go (emptied d) refl
      where
        go : (b : Bool) → emptied d ≡ b → length (by_roles g u d general_zone).sectors ≡ pick (emptied d) (general_size_of g at_state v d) (length (by_roles g v d general_zone).sectors)
        go true b = rw b (ap length (done.logs d a b) ∙ new_general_long g at_state (roles g v d) d (general_heads g (by_roles g v) d))
        go false b = rw b (ap length (sectors_seen g v u d (done.left d a b) general_zone))

    pub reset_ok : ResetOk g (present_but g x) (by_roles g u) state z
    reset_ok = record { zone_ok = re.zone_ok; not_worn = re.not_worn; room = λ d a. rw (log_length d a) (re.room d a) }

    abbrev m : Ledger
    m = with_marks l then.marks

    abbrev own : List Store
    own = reset_stores g (present_but g x) state z

    whole_is : apply_all (reset_emptying ++ reset_carried) v ≡ carried_to g u own
    whole_is = apply_all_append reset_emptying reset_carried v ∙ ap (λ (xs : List Store). apply_all xs u) carried_are

    -- FINISHED
    pub reset_emptied_rests : RestsBy g x (apply_all (reset_emptying ++ reset_carried) v) (reset_state x state z) (after_reset l z)
    reset_emptied_rests =
        let k = roled_reset_rests g ok then.generations x u state m z then.holds reset_ok in
        record { generations = then.generations; marks = set_at then.marks z zero; above = λ y. less y (eqb y z); holds = rw whole_is k }
      where
        less : (y : ℕ) (b : Bool) → pick b zero (l.committed y) ≤ pick b zero (then.marks y)
        less y true = zero-le
        less y false = then.above y

    pub reset_emptied_blank : BlankSpares g x v → BlankSpares g x (apply_all (reset_emptying ++ reset_carried) v)
    unfolding empty_general
    reset_emptied_blank b =
        let (γ, r, q) = reset_rests g ok then.generations x (by_roles g u) state m z then.holds.1 reset_ok in
        let i = rest_inv g x (apply_all own (by_roles g u)) (reset_state x state z) (after_reset m z) γ r in
        let c1 = blank_emptied g x false emptied (new_general_of g at_state v) v done.roles_are b in
        rw whole_is (blank_ordinary g x then.generations u then.holds.0 own (reset_ordinary g x state z) (after_reset m z) (γ, i, q) c1)

    -- the parity logs are as they were
    pub reset_emptied_logs : (d : ℕ) → Here g x d → (by_roles g (apply_all (reset_emptying ++ reset_carried) v) d parity_zone).sectors ≡ (by_roles g v d parity_zone).sectors
    reset_emptied_logs d a =
        let s = then.holds.0 in
        let (γ, r, q) = then.holds.1 in
        let (δ, t, e) = reset_rests g ok then.generations x (by_roles g u) state m z then.holds.1 reset_ok in
        let seen = ordinary_seen g x u s.roles s.firm own (reset_ordinary g x state z) then.generations s.general_claim_lem s.parity_claim_lem δ t.logs e d a parity_zone in
        ap (λ (w : Device). (by_roles g w d parity_zone).sectors) whole_is ∙ ap (λ (k : ZoneView). k.sectors) seen ∙ reset_log g ok x (by_roles g u) state m γ r z reset_ok d a ∙ done.kept d parity_zone a (λ i. omega (arith, i)) (λ i. omega (arith, i))

    -- STOPPED AND CUT
    pub reset_emptied_kept : (k : ℕ) (w : Device) → Cut x (apply_all (take k (reset_emptying ++ reset_carried)) v) w → KeptBy g x w (after_stopped_reset l z)
    reset_emptied_kept k w cut = go (dec_lt k (length reset_emptying))
      where
        go : Dec (k < length reset_emptying) → KeptBy g x w (after_stopped_reset l z)
        go (yes h) =
            let t = subst (λ (xs : List Store). Cut x (apply_all xs v) w) (take-append-le k reset_emptying reset_carried (omega (arith, h))) cut in
            let (e, (s, i)) = left_invs g x c v l w (general_emptyings_stopped g ok x c v l invs at_state forced emptied re.can k w t) in
            record { generations = e; marks = l.committed; above = λ y. le_refl (l.committed y); holds = (s, flag_invs g e x (by_roles g w) l z i) }
        go (no h) =
            let j = k - length reset_emptying in
            let e : k ≡ length reset_emptying + j = omega arith in
            let s : take k (reset_emptying ++ reset_carried) ≡ reset_emptying ++ take j reset_carried = ap (λ (i : ℕ). take i (reset_emptying ++ reset_carried)) e ∙ take-append-add reset_emptying reset_carried j in
            let d : apply_all (take k (reset_emptying ++ reset_carried)) v ≡ apply_all (take j (map (carry (placed_by (roles g u))) own)) u =
            ap (λ (xs : List Store). apply_all xs v) s ∙ apply_all_append reset_emptying (take j reset_carried) v ∙ ap (λ (xs : List Store). apply_all (take j xs) u) carried_are in
            let i = roled_reset_keeps g ok then.generations x u state m z j then.holds reset_ok in
            record {
              generations = then.generations;
              marks = then.marks;
              above = then.above;
              holds = standing_cut g x (apply_all (take j (map (carry (placed_by (roles g u))) own)) u) w then.generations (after_stopped_reset m z) i.0 i.1 (subst (λ (a : Device). Cut x a w) d cut);
            }
