-- A reset that may empty general logs first, as the claim's events have it: what it owes (CallsOwed).
use Rattle.std.specs.Prelude.{◌≡◌, refl, Bool, true, length, take, eqb}
use Rattle.std.proofs.Math.Path.{ap}
use Rattle.std.proofs.Common.{subst, arith}
use Rattle.std.proofs.Math.Bool.{false}
use Prim.Native.Nat.{ℕ, zero, ◌+◌, ◌≤◌, zero-le}
use mathlib.Core.List.{List, ◌++◌, map}
use Rattle.tables.specs.meaning.Basics.{pick}
use Rattle.tables.specs.laws.Basics.{and_split}
use Rattle.tables.specs.meaning.Device.{Device, Store, apply_all, Cut}
use Rattle.tables.specs.meaning.Through.{carry}
use Rattle.tables.specs.meaning.Drives.{present_but}
use Rattle.tables.specs.declared.Geometry.{Geometry}
use Rattle.tables.specs.meaning.Geometry.{Valid}
use Rattle.logs.specs.meaning.Entry.{general_zone, parity_zone}
use Rattle.volume.specs.meaning.State.{StateView, set_at}
use Rattle.volume.specs.meaning.Rules.{general_heads}
use Rattle.volume.specs.meaning.Calls.{reset_stores, reset_state}
use Rattle.volume.specs.meaning.Roles.{Roles, roles, placed_by, by_roles, drive_by_roles, roles_after}
use Rattle.volume.specs.meaning.Emptying.{by_state, new_general_size, general_copies, lacks_room, reset_limit, emptied_for, empty_general, reset_all}
use Rattle.promise.specs.meaning.Ledger.{Ledger, after_reset, after_stopped_reset}
use Rattle.promise.proofs.invariant.Invariant.{Here, LogGenerations}
use Rattle.promise.proofs.invariant.RoomAsked.{ResetAccepted}
use Rattle.promise.proofs.roles.RoledCalls.{RoledRests}
use Rattle.promise.proofs.roles.SamePlaces.{in_order}
use Rattle.promise.proofs.roles.ReadsSectors.{SameSectors, by_roles_same, roles_same, general_emptying_same, heads_same}
use Rattle.promise.proofs.emptying.GeneralReset.{ResetEmpties, reset_emptied_kept, reset_emptied_rests, reset_emptied_blank, reset_emptied_logs}
use Rattle.promise.proofs.emptying.BlankSpares.{BlankSpares}
use Rattle.promise.proofs.device.Marks.{with_marks, MarksAbove}
use Rattle.promise.proofs.device.Modes.{SomeRests, Halted, less_invs, less_rests, rests_invs, invs_lasting, cuts_halted, order_rests, kept_invs, kept_rests}
use Rattle.promise.proofs.device.CallsOwed.{ResetOwes}

-- (c, m: generations and marks with which all is at rest)
module _ (g : Geometry) (ok : Valid g) (x : ℕ) (v : Device) (state : StateView) (l : Ledger) (z : ℕ) (c : LogGenerations) (m : ℕ → ℕ)
    (ra : ResetAccepted g (present_but g x) (roles g v) (by_roles g v) (by_state g (present_but g x) (by_roles g v) state) state z) where
  abbrev here : ℕ → Bool
  here = present_but g x

  pub emptied : ℕ → Bool
  emptied = emptied_for g (present_but g x) false (roles g v) (by_roles g v) (reset_limit g)

  emptied_here : (d : ℕ) → emptied d ≡ true → Here g x d
  unfolding emptied emptied_for
  emptied_here d e = (and_split (here d) (lacks_room g false (roles g v) (by_roles g v) (reset_limit g) d) e).0

  pub reset_empties : (u : Device) → SameSectors v u → (rr : RoledRests c g x u state (with_marks l m)) → ResetEmpties g ok x c u state (with_marks l m) rr emptied z
  unfolding emptied new_general_size general_copies drive_by_roles
  reset_empties u same rr = record {
    zone_ok = ra.zone_ok;
    not_worn = ra.not_worn;
    can = λ d hd e. (
      emptied_here d e,
      record {
        room = rw (← heads_at d) (let k = (ra.logs.emptiable d e).room in omega (arith, k));
        top = rw (← roles_at d) (ra.logs.emptiable d e).top;
        blank = rw (← roles_at d, ← same d (roles g v d).spare) (ra.blank d e);
      },
    );
    room = λ d a. go d a (emptied d) refl;
  }
    where
      roles_at : (d : ℕ) → roles g v d ≡ roles g u d
      roles_at d = ap (λ (r : ℕ → Roles). r d) (roles_same g v u same)

      heads_at : (d : ℕ) → general_heads g (by_roles g v) d ≡ general_heads g (by_roles g u) d
      heads_at = heads_same g (by_roles g v) (by_roles g u) (by_roles_same g v u same)

      go : (d : ℕ) → Here g x d → (b : Bool) → emptied d ≡ b → pick (emptied d) (new_general_size g (by_state g here (by_roles g u) state) (general_heads g (by_roles g u) d)) (length (by_roles g u d general_zone).sectors) + (g.zones + 4) ≤ g.capacity
      go d a true e = rw (e, ← heads_at d) (ra.logs.emptiable d e).room
      go d a false e = rw (e, ← by_roles_same g v u same d general_zone) (ra.logs.roomy d a e)

  pub stores_are : (u : Device) → SameSectors v u → reset_all g here (roles g v) (by_roles g v) state z
      ≡ empty_general g here (roles g u) (by_state g here (by_roles g u) state) emptied (by_roles g u) ++ map (carry (placed_by (roles_after false emptied (roles g u)))) (reset_stores g here state z)
  unfolding reset_all emptied
  stores_are u same = rw (← roles_same g v u same) (ap (λ (xs : List Store). xs ++ map (carry (placed_by (roles_after false emptied (roles g v)))) (reset_stores g here state z))
      (general_emptying_same g (by_roles g v) (by_roles g u) (by_roles_same g v u same) here (roles g v) emptied state))

  module _ (above : MarksAbove l m) (rr : RoledRests c g x v state (with_marks l m)) where
    abbrev stores : List Store
    stores = reset_all g (present_but g x) (roles g v) (by_roles g v) state z

    less : (y : ℕ) (b : Bool) → pick b zero (l.committed y) ≤ pick b zero (m y)
    less y true = zero-le
    less y false = above y

    reset_done : SomeRests g x (apply_all stores v) (reset_state x state z) (after_reset l z)
    reset_done =
        let k = kept_rests g x _ (reset_state x state z) (after_reset (with_marks l m) z) (reset_emptied_rests g ok x c v state (with_marks l m) rr emptied z (reset_empties v (λ d y. refl) rr)) in
        rw (stores_are v (λ d y. refl)) (less_rests g x _ (reset_state x state z) (after_reset l z) (set_at m z zero) (λ y. less y (eqb y z)) k)

    reset_leaves_blank : BlankSpares g x v → BlankSpares g x (apply_all stores v)
    reset_leaves_blank b = rw (stores_are v (λ d y. refl)) (reset_emptied_blank g ok x c v state (with_marks l m) rr emptied z (reset_empties v (λ d y. refl) rr) b)

    reset_logs_left : (d : ℕ) → Here g x d → (by_roles g (apply_all stores v) d parity_zone).sectors ≡ (by_roles g v d parity_zone).sectors
    reset_logs_left d a = rw (stores_are v (λ d y. refl)) (reset_emptied_logs g ok x c v state (with_marks l m) rr emptied z (reset_empties v (λ d y. refl) rr) d a)

    reset_stopped : (n : ℕ) → Halted g x (apply_all (take n stores) v) (after_stopped_reset l z)
    reset_stopped n = cuts_halted g x v (after_stopped_reset l z) (take n stores) (invs_lasting g x v l (rests_invs g x v state l (c, m, above, rr))) (λ w cut.
        let u = in_order v in
        let rr' = order_rests g x v c state (with_marks l m) rr in
        let k = reset_emptied_kept g ok x c u state (with_marks l m) rr' emptied z (reset_empties u (λ d y. refl) rr') n w (subst (λ (xs : List Store). Cut x (apply_all (take n xs) u) w) (stores_are u (λ d y. refl)) cut) in
        less_invs g x w (after_stopped_reset l z) m above (kept_invs g x w (after_stopped_reset (with_marks l m) z) k))

pub reset_owes : (g : Geometry) → Valid g → ResetOwes g
reset_owes g ok x v state l z (c, m, above, rr) ra = (reset_stopped g ok x v state l z c m ra above rr, reset_done g ok x v state l z c m ra above rr)

-- and finished it leaves blank spares
pub reset_blank : (g : Geometry) → Valid g → (x : ℕ) (v : Device) (state : StateView) (l : Ledger) (z : ℕ) → SomeRests g x v state l
    → ResetAccepted g (present_but g x) (roles g v) (by_roles g v) (by_state g (present_but g x) (by_roles g v) state) state z
    → BlankSpares g x v → BlankSpares g x (apply_all (reset_all g (present_but g x) (roles g v) (by_roles g v) state z) v)
reset_blank g ok x v state l z (c, m, above, rr) ra b = reset_leaves_blank g ok x v state l z c m ra above rr b

-- and the parity logs as they were
pub reset_leaves_logs : (g : Geometry) → Valid g → (x : ℕ) (v : Device) (state : StateView) (l : Ledger) (z : ℕ) → SomeRests g x v state l
    → ResetAccepted g (present_but g x) (roles g v) (by_roles g v) (by_state g (present_but g x) (by_roles g v) state) state z
    → (d : ℕ) → Here g x d → (by_roles g (apply_all (reset_all g (present_but g x) (roles g v) (by_roles g v) state z) v) d parity_zone).sectors ≡ (by_roles g v d parity_zone).sectors
reset_leaves_logs g ok x v state l z (c, m, above, rr) ra d a = reset_logs_left g ok x v state l z c m ra above rr d a
