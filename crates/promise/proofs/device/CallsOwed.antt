-- What a write and the calls that may empty logs owe, on the physical device: stopped after any n stores, that the invariant holds of whatever a cut may
-- keep; finished, that all is at rest.
use Rattle.std.specs.Prelude.{ℕ, List, take, length}
use Rattle.tables.specs.meaning.Device.{Device, apply_all}
use Rattle.tables.specs.declared.Geometry.{Geometry}
use Rattle.tables.specs.meaning.Drives.{present_but}
use Rattle.volume.specs.meaning.State.{StateView}
use Rattle.volume.specs.meaning.Rules.{showing}
use Rattle.volume.specs.meaning.Calls.{write_state, reset_state}
use Rattle.volume.specs.meaning.Roles.{roles, by_roles}
use Rattle.volume.specs.meaning.Emptying.{by_state, by_look, write_all, reset_all, compact_stores}
use Rattle.volume.specs.meaning.Mount.{mount_stores, mount_shows, mount_state}
use Rattle.promise.specs.meaning.Ledger.{Ledger, after_write, after_reset, after_stopped_reset, after_mount}
use Rattle.promise.proofs.invariant.Obligations.{WriteOk}
use Rattle.promise.proofs.invariant.RoomAsked.{ResetAccepted, CompactAccepted, MountAccepted}
use Rattle.promise.proofs.device.Modes.{SomeRests, SomeInvs, Halted}

abbrev pub WriteOwes : Geometry → Type 0
WriteOwes g = (x : ℕ) (v : Device) (state : StateView) (l : Ledger) (z : ℕ) (ss : List (List ℕ)) → SomeRests g x v state l
    → WriteOk g (present_but g x) (by_roles g v) state z ss
    → let xs = write_all g (present_but g x) (roles g v) (by_roles g v) state z ss in
    ((n : ℕ) → Halted g x (apply_all (take n xs) v) (after_write l z ss)) × SomeRests g x (apply_all xs v) (write_state x state z (length ss)) (after_write l z ss)

abbrev pub ResetOwes : Geometry → Type 0
ResetOwes g = (x : ℕ) (v : Device) (state : StateView) (l : Ledger) (z : ℕ) → SomeRests g x v state l
    → ResetAccepted g (present_but g x) (roles g v) (by_roles g v) (by_state g (present_but g x) (by_roles g v) state) state z
    → let xs = reset_all g (present_but g x) (roles g v) (by_roles g v) state z in
    ((n : ℕ) → Halted g x (apply_all (take n xs) v) (after_stopped_reset l z)) × SomeRests g x (apply_all xs v) (reset_state x state z) (after_reset l z)

abbrev pub CompactOwes : Geometry → Type 0
CompactOwes g = (x : ℕ) (v : Device) (state : StateView) (l : Ledger) (d : ℕ) → SomeRests g x v state l
    → CompactAccepted g (present_but g x) (roles g v) (by_roles g v) (by_state g (present_but g x) (by_roles g v) state) d
    → let xs = compact_stores g (present_but g x) (roles g v) (by_roles g v) state d in
    ((n : ℕ) → Halted g x (apply_all (take n xs) v) l) × SomeRests g x (apply_all xs v) state l

abbrev pub MountOwes : Geometry → Type 0
MountOwes g = (x : ℕ) (v : Device) (l : Ledger) → SomeInvs g x v l
    → MountAccepted g (present_but g x) (roles g v) (by_roles g v) (by_look (showing g (present_but g x) x (by_roles g v)))
    → let xs = mount_stores g (present_but g x) x v in let k = mount_shows g (present_but g x) x v in
    ((n : ℕ) → Halted g x (apply_all (take n xs) v) l) × SomeRests g x (apply_all xs v) (mount_state k) (after_mount k)

pub record CallsOwed (g : Geometry) : Type 0 where
  pub write : WriteOwes g
  pub reset : ResetOwes g
  pub compact : CompactOwes g
  pub mount : MountOwes g
