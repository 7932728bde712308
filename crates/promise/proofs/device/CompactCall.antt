-- A compact, as the claim's events have it: what it owes (CallsOwed).
use Rattle.std.specs.Prelude.{◌≡◌, refl, List, length, take}
use Rattle.std.proofs.Math.Path.{ap}
use Rattle.std.proofs.Common.{subst, arith}
use Prim.Native.Nat.{ℕ}
use Rattle.std.proofs.Math.Dec.{eqb}
use Rattle.tables.specs.meaning.Basics.{pick}
use Rattle.tables.specs.meaning.Device.{Device, Store, apply_all, Cut}
use Rattle.tables.specs.meaning.Drives.{present_but}
use Rattle.tables.specs.declared.Geometry.{Geometry}
use Rattle.tables.specs.meaning.Geometry.{Valid}
use Rattle.logs.specs.meaning.Entry.{parity_zone}
use Rattle.volume.specs.meaning.State.{StateView}
use Rattle.volume.specs.meaning.Roles.{Roles, roles, by_roles, drive_by_roles}
use Rattle.volume.specs.meaning.Emptying.{by_state, new_parity_size, compact_stores}
use Rattle.promise.specs.meaning.Ledger.{Ledger}
use Rattle.promise.proofs.invariant.Invariant.{Here, LogGenerations}
use Rattle.promise.proofs.invariant.RoomAsked.{CompactAccepted}
use Rattle.promise.proofs.roles.RoledCalls.{RoledRests}
use Rattle.promise.proofs.roles.SamePlaces.{in_order}
use Rattle.promise.proofs.roles.ReadsSectors.{SameSectors, by_roles_same, roles_same, parity_emptying_same}
use Rattle.promise.proofs.emptying.BlankSpares.{BlankSpares}
use Rattle.promise.proofs.emptying.ParityCompact.{CanCompact, compact_kept, compact_rests, compact_blank, compact_log}
use Rattle.promise.proofs.device.Marks.{with_marks, MarksAbove}
use Rattle.promise.proofs.device.Modes.{SomeRests, Halted, less_invs, less_rests, rests_invs, invs_lasting, cuts_halted, order_rests, kept_invs, kept_rests}
use Rattle.promise.proofs.device.CallsOwed.{CompactOwes}

-- (c, m: generations and marks with which all is at rest)
module _ (g : Geometry) (ok : Valid g) (x : ℕ) (v : Device) (state : StateView) (l : Ledger) (d : ℕ) (ca : CompactAccepted g (present_but g x) (roles g v) (by_roles g v) (by_state g (present_but g x) (by_roles g v) state) d) where
  -- of any device with the same sectors
  pub can_compact : (c : LogGenerations) (m : ℕ → ℕ) (u : Device) → SameSectors v u → (rr : RoledRests c g x u state (with_marks l m)) → CanCompact g ok x c u state (with_marks l m) rr d
  unfolding new_parity_size drive_by_roles
  can_compact c m u same rr =
      let roles_at : roles g v d ≡ roles g u d = ap (λ (r : ℕ → Roles). r d) (roles_same g v u same) in
      let k = ca.log.room in (
        ca.here,
        record {
          room = omega (arith, k);
          top = rw (← roles_at) ca.log.top;
          blank = rw (← roles_at, ← same d (roles g v d).spare) ca.blank;
        },
      )

  stores_are : (u : Device) → SameSectors v u → compact_stores g (present_but g x) (roles g v) (by_roles g v) state d ≡ compact_stores g (present_but g x) (roles g u) (by_roles g u) state d
  unfolding compact_stores
  stores_are u same = rw (← roles_same g v u same) (parity_emptying_same g (by_roles g v) (by_roles g u) (by_roles_same g v u same) (present_but g x) (roles g v) (λ e. eqb e d) state)

  abbrev stores : List Store
  stores = compact_stores g (present_but g x) (roles g v) (by_roles g v) state d

  module _ (c : LogGenerations) (m : ℕ → ℕ) (above : MarksAbove l m) (rr : RoledRests c g x v state (with_marks l m)) where
    abbrev can : CanCompact g ok x c v state (with_marks l m) rr d
    can = can_compact c m v (λ e y. refl) rr

    compact_done : SomeRests g x (apply_all stores v) state l
    compact_done = less_rests g x (apply_all stores v) state l m above (kept_rests g x (apply_all stores v) state (with_marks l m) (compact_rests g ok x c v state (with_marks l m) rr d can))

    compact_stopped : (n : ℕ) → Halted g x (apply_all (take n stores) v) l
    compact_stopped n = cuts_halted g x v l (take n stores) (invs_lasting g x v l (rests_invs g x v state l (c, m, above, rr))) (λ w cut.
        let u = in_order v in
        let rr' = order_rests g x v c state (with_marks l m) rr in
        let k = compact_kept g ok x c u state (with_marks l m) rr' d (can_compact c m u (λ e y. refl) rr') n w (subst (λ (xs : List Store). Cut x (apply_all (take n xs) u) w) (stores_are u (λ e y. refl)) cut) in
        less_invs g x w l m above (kept_invs g x w (with_marks l m) k))

  -- finished it leaves blank spares
  pub compact_leaves_blank : SomeRests g x v state l → BlankSpares g x v → BlankSpares g x (apply_all stores v)
  compact_leaves_blank (c, m, above, rr) b = compact_blank g ok x c v state (with_marks l m) rr d (can_compact c m v (λ e y. refl) rr) b

  -- and each drive's parity log as long as it was, drive d's as long as the new one
  pub compact_leaves_logs : SomeRests g x v state l → (e : ℕ) → Here g x e → length (by_roles g (apply_all stores v) e parity_zone).sectors
      ≡ pick (eqb e d) (new_parity_size g (by_state g (present_but g x) (by_roles g v) state) e) (length (by_roles g v e parity_zone).sectors)
  compact_leaves_logs (c, m, above, rr) e a = compact_log g ok x c v state (with_marks l m) rr d (can_compact c m v (λ e y. refl) rr) e a

pub compact_owes : (g : Geometry) → Valid g → CompactOwes g
compact_owes g ok x v state l d (c, m, above, rr) ca = (compact_stopped g ok x v state l d ca c m above rr, compact_done g ok x v state l d ca c m above rr)
