-- A mount, as the claim's events have it: what it owes (CallsOwed), from what is known of every cut of it (MountCuts).
use Rattle.std.specs.Prelude.{refl, ℕ, List, take}
use Rattle.std.proofs.Common.{subst}
use Rattle.tables.specs.meaning.Device.{Device, Store, apply_all, Cut}
use Rattle.tables.specs.meaning.Drives.{present_but}
use Rattle.tables.specs.declared.Geometry.{Geometry}
use Rattle.volume.specs.meaning.Rules.{showing}
use Rattle.volume.specs.meaning.Roles.{roles, by_roles}
use Rattle.volume.specs.meaning.Emptying.{by_look}
use Rattle.volume.specs.meaning.Mount.{mount_stores, mount_shows, mount_state}
use Rattle.promise.specs.meaning.Ledger.{Ledger, after_mount}
use Rattle.promise.proofs.invariant.Invariant.{LogGenerations}
use Rattle.promise.proofs.invariant.RoomAsked.{MountAccepted}
use Rattle.promise.proofs.roles.RoledCalls.{RoledInvs, RoledRests}
use Rattle.promise.proofs.roles.SamePlaces.{in_order}
use Rattle.promise.proofs.roles.MountReads.{mount_stores_same, mount_accepted_same}
use Rattle.promise.proofs.device.Marks.{with_marks}
use Rattle.promise.proofs.device.Modes.{SomeInvs, Halted, own_rests, less_invs, invs_lasting, cuts_halted, order_invs}
use Rattle.promise.proofs.device.CallsOwed.{MountOwes}

-- stopped after any n stores and cut in any way: the invariant, with some marks at or above the ledger's; finished: rest, as a look shows it then
abbrev pub MountCuts : Geometry → Type 0
MountCuts g = (x : ℕ) (v : Device) (l : Ledger) (c : LogGenerations) → RoledInvs c g x v l
    → MountAccepted g (present_but g x) (roles g v) (by_roles g v) (by_look (showing g (present_but g x) x (by_roles g v)))
    → let xs = mount_stores g (present_but g x) x v in let k = showing g (present_but g x) x (by_roles g (apply_all xs v)) in
    ((n : ℕ) (w : Device) → Cut x (apply_all (take n xs) v) w → SomeInvs g x w l) × ((e : LogGenerations) × RoledRests e g x (apply_all xs v) (mount_state k) (after_mount k))

pub mount_owes : (g : Geometry) → MountCuts g → MountOwes g
unfolding mount_shows
mount_owes g cuts x v l (c, m, above, ri) ma =
    let xs = mount_stores g (present_but g x) x v in
    let k = showing g (present_but g x) x (by_roles g (apply_all xs v)) in
    let (e, r) = (cuts x v (with_marks l m) c ri ma).1 in
    (stop, own_rests e g x (apply_all xs v) (mount_state k) (after_mount k) r)
  where
    -- with the places outside the geometry in order it is the same mount
    stop : (n : ℕ) → Halted g x (apply_all (take n (mount_stores g (present_but g x) x v)) v) l
    stop n = cuts_halted g x v l (take n (mount_stores g (present_but g x) x v)) (invs_lasting g x v l (c, m, above, ri)) (λ w cut.
        let k = (cuts x (in_order v) (with_marks l m) c (order_invs g x v c (with_marks l m) ri) (mount_accepted_same g (present_but g x) x v (in_order v) (λ d y. refl) ma)).0 n w in
        less_invs g x w l m above (k (subst (λ (xs : List Store). Cut x (apply_all (take n xs) (in_order v)) w) (mount_stores_same g (present_but g x) x v (in_order v) (λ d y. refl)) cut)))
