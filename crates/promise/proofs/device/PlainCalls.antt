-- A flush and a write, on the physical device: ordinary stores. A flush is the same stores wherever the logs lie.
use Rattle.std.specs.Prelude.{◌≡◌, ℕ, List, map, length, take}
use Rattle.std.proofs.Common.{ap, ◌∙◌}
use Rattle.tables.specs.meaning.Device.{Device, Store, apply_all}
use Rattle.tables.specs.meaning.Phases.{on_present, flush_all}
use Rattle.tables.specs.meaning.Through.{carry}
use Rattle.tables.specs.laws.Through.{carry_on_present, carry_flush_all}
use Rattle.tables.specs.meaning.Drives.{present_but}
use Rattle.tables.specs.declared.Geometry.{Geometry}
use Rattle.tables.specs.meaning.Geometry.{Valid}
use Rattle.volume.specs.meaning.State.{StateView}
use Rattle.volume.specs.meaning.Calls.{write_stores, write_state, flush_stores, flush_state}
use Rattle.volume.specs.meaning.Roles.{roles, by_roles}
use Rattle.volume.specs.meaning.Emptying.{write_all}
use Rattle.volume.specs.laws.Firm.{places}
use Rattle.promise.specs.meaning.Ledger.{Ledger, after_write, after_flush}
use Rattle.promise.proofs.invariant.Invariant.{Here, LogGenerations, rest_inv}
use Rattle.promise.proofs.invariant.Obligations.{WriteOk}
use Rattle.promise.proofs.calls.WriteKeeps.{write_rests}
use Rattle.promise.proofs.roles.Ordinary.{ordinary_seen}
use Rattle.promise.proofs.roles.OrdinaryCalls.{write_ordinary}
use Rattle.promise.proofs.roles.RoledCalls.{RoledInvs, RoledRests, roled_flush_keeps, roled_flush_rests, roled_write_keeps, roled_write_rests}
use Rattle.promise.proofs.emptying.BlankSpares.{BlankSpares, blank_ordinary}
use Rattle.promise.proofs.device.Marks.{with_marks}
use Rattle.promise.proofs.device.Modes.{SomeRests, SomeInvs, Halted, invs_halted}
use Rattle.promise.proofs.device.CallsOwed.{WriteOwes}

pub flush_carried : (g : Geometry) (x : ℕ) (ρ : ℕ → ℕ → ℕ) → map (carry ρ) (flush_stores g (present_but g x)) ≡ flush_stores g (present_but g x)
unfolding flush_stores
flush_carried g x ρ = carry_on_present ρ (present_but g x) (flush_all g.drives) ∙ ap (on_present (present_but g x)) (carry_flush_all ρ g.drives)

module _ (g : Geometry) (ok : Valid g) (x : ℕ) (v : Device) where
  pub flush_invs : (k : LogGenerations) (l : Ledger) (n : ℕ) → RoledInvs k g x v l → RoledInvs k g x (apply_all (take n (flush_stores g (present_but g x))) v) l
  flush_invs k l n i = rw (flush_carried g x (places g v)) at (roled_flush_keeps g ok k x v l n i)

  pub flush_some_invs : (l : Ledger) (n : ℕ) → SomeInvs g x v l → SomeInvs g x (apply_all (take n (flush_stores g (present_but g x))) v) l
  flush_some_invs l n (k, c, a, i) = (k, c, a, flush_invs k (with_marks l c) n i)

  -- stopped
  pub flush_halted : (l : Ledger) (n : ℕ) → SomeInvs g x v l → Halted g x (apply_all (take n (flush_stores g (present_but g x))) v) l
  flush_halted l n i = invs_halted g x (apply_all (take n (flush_stores g (present_but g x))) v) l (flush_some_invs l n i)

  -- finished: all contents are committed
  pub flush_done : (state : StateView) (l : Ledger) → SomeRests g x v state l → (k : LogGenerations) × RoledRests k g x (apply_all (flush_stores g (present_but g x)) v) (flush_state x state) (after_flush l)
  flush_done state l (k, c, a, r) = (k, rw (flush_carried g x (places g v)) at (roled_flush_rests g ok k x v state (with_marks l c) r))

-- ---- A WRITE
module _ (g : Geometry) (ok : Valid g) (x : ℕ) (v : Device) (state : StateView) (l : Ledger) (z : ℕ) (ss : List (List ℕ)) (wk : WriteOk g (present_but g x) (by_roles g v) state z ss) where
  abbrev stores : List Store
  stores = write_all g (present_but g x) (roles g v) (by_roles g v) state z ss

  abbrev own : List Store
  own = write_stores g (present_but g x) (by_roles g v) state z ss

  write_stopped : (n : ℕ) → SomeRests g x v state l → Halted g x (apply_all (take n stores) v) (after_write l z ss)
  unfolding write_all
  write_stopped n (k, c, a, r) = invs_halted g x (apply_all (take n stores) v) (after_write l z ss) (k, c, a, roled_write_keeps g ok k x v state (with_marks l c) z ss n r wk)

  write_done : SomeRests g x v state l → SomeRests g x (apply_all stores v) (write_state x state z (length ss)) (after_write l z ss)
  unfolding write_all
  write_done (k, c, a, r) = (k, c, a, roled_write_rests g ok k x v state (with_marks l c) z ss r wk)

  -- the device by its roles is what the stores make of the device by its roles
  pub write_seen : SomeRests g x v state l → (d : ℕ) → Here g x d → (y : ℕ) → by_roles g (apply_all stores v) d y ≡ apply_all own (by_roles g v) d y
  unfolding write_all
  write_seen (k, c, a, (s, r)) d h y =
      let (γ, q, e) = write_rests g ok k x (by_roles g v) state (with_marks l c) z ss r wk in
      ordinary_seen g x v s.roles s.firm own (write_ordinary g x (by_roles g v) state z ss) k s.general_claim_lem s.parity_claim_lem γ q.logs e d h y

  -- it leaves blank spares
  pub write_blank : SomeRests g x v state l → BlankSpares g x v → BlankSpares g x (apply_all stores v)
  unfolding write_all
  write_blank (k, c, a, (s, r)) b =
      let (γ, q, e) = write_rests g ok k x (by_roles g v) state (with_marks l c) z ss r wk in
      let m = after_write (with_marks l c) z ss in
      blank_ordinary g x k v s own (write_ordinary g x (by_roles g v) state z ss) m (γ, rest_inv g x (apply_all own (by_roles g v)) (write_state x state z (length ss)) m γ q, e) b

pub write_owes : (g : Geometry) → Valid g → WriteOwes g
write_owes g ok x v state l z ss r wk = ((λ n. write_stopped g ok x v state l z ss wk n r), write_done g ok x v state l z ss wk r)
