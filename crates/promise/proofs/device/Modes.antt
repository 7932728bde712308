-- What holds in each mode of a history, of the physical device with its roles. Between finished calls all is at rest; after a cut the invariant holds;
-- after a stopped call it holds of whatever a cut may keep. Each with some generations of the logs, and marks at or above the ledger's.
use Rattle.std.specs.Prelude.{◌≡◌, ◌⊎◌, ℕ, ◌<◌, List}
use Rattle.std.proofs.Common.{le_refl, le_trans}
use Rattle.tables.specs.meaning.Device.{Device, Store, apply_all, Cut, Loss}
use Rattle.tables.specs.meaning.Drives.{no_drive}
use Rattle.tables.specs.declared.Geometry.{Geometry}
use Rattle.tables.specs.meaning.Geometry.{Valid}
use Rattle.volume.specs.meaning.State.{StateView}
use Rattle.volume.specs.meaning.Roles.{by_roles}
use Rattle.promise.specs.meaning.Ledger.{Ledger}
use Rattle.promise.specs.meaning.Claim.{Mode, ready, stopped, down, SameZones}
use Rattle.promise.proofs.invariant.Invariant.{Names, LogGenerations, rest_inv}
use Rattle.promise.proofs.invariant.StateRead.{read_rests}
use Rattle.promise.proofs.roles.Kept.{Lasting, lasting_stores, Kept, cut_kept, standing_lasting, standing_kept, lasting_loss, kept_loss}
use Rattle.promise.proofs.roles.SamePlaces.{placed_invs, placed_rests, in_order, order_same, kept_of, kept_cut, kept_same}
use Rattle.promise.proofs.roles.RoledCalls.{RoledInvs, RoledRests, roled_loss_keeps, roled_loss_rests}
use Rattle.promise.proofs.emptying.Marked.{KeptBy, RestsBy}
use Rattle.promise.proofs.device.Marks.{with_marks, MarksAbove}

abbrev pub SomeRests : Geometry → ℕ → Device → StateView → Ledger → Type 0
SomeRests g x v state l = (k : LogGenerations) × (c : ℕ → ℕ) × MarksAbove l c × RoledRests k g x v state (with_marks l c)

abbrev pub SomeInvs : Geometry → ℕ → Device → Ledger → Type 0
SomeInvs g x v l = (k : LogGenerations) × (c : ℕ → ℕ) × MarksAbove l c × RoledInvs k g x v (with_marks l c)

abbrev pub Halted : Geometry → ℕ → Device → Ledger → Type 0
Halted g x v l = Lasting g x v × ((w : Device) → Kept g x v w → SomeInvs g x w l)

abbrev pub OkIn : Geometry → Mode → ℕ → Device → StateView → Ledger → Type 0
OkIn g ready x v state l = SomeRests g x v state l
OkIn g stopped x v state l = Halted g x v l
OkIn g down x v state l = SomeInvs g x v l

-- the ledger's own marks are such
pub own_rests : (k : LogGenerations) (g : Geometry) (x : ℕ) (v : Device) (state : StateView) (l : Ledger) → RoledRests k g x v state l → SomeRests g x v state l
own_rests k g x v state l h = (k, l.committed, (λ z. le_refl (l.committed z)), h)

-- and those above some that are above them
pub less_invs : (g : Geometry) (x : ℕ) (v : Device) (l : Ledger) (c : ℕ → ℕ) → MarksAbove l c → SomeInvs g x v (with_marks l c) → SomeInvs g x v l
less_invs g x v l c a (k, m, b, h) = (k, m, (λ z. le_trans (a z) (b z)), h)

pub less_rests : (g : Geometry) (x : ℕ) (v : Device) (state : StateView) (l : Ledger) (c : ℕ → ℕ) → MarksAbove l c → SomeRests g x v state (with_marks l c) → SomeRests g x v state l
less_rests g x v state l c a (k, m, b, h) = (k, m, (λ z. le_trans (a z) (b z)), h)

-- with a state that says the same of the zones
pub read_some : (g : Geometry) (x : ℕ) (v : Device) (a b : StateView) (l : Ledger) → (Names x a.lost → Names x b.lost) → SameZones g a b → SomeRests g x v a l → SomeRests g x v b l
read_some g x v a b l lost same (k, c, h, (s, r)) = (k, c, h, (s, read_rests g x (by_roles g v) a b lost same k (with_marks l c) r))

-- ---- from one to the next
pub rests_invs : (g : Geometry) (x : ℕ) (v : Device) (state : StateView) (l : Ledger) → SomeRests g x v state l → SomeInvs g x v l
rests_invs g x v state l (k, c, a, (s, (γ, r, q))) = (k, c, a, (s, (γ, rest_inv g x (by_roles g v) state (with_marks l c) γ r, q)))

pub invs_lasting : (g : Geometry) (x : ℕ) (v : Device) (l : Ledger) → SomeInvs g x v l → Lasting g x v
invs_lasting g x v l (k, c, a, (s, (γ, i, q))) = standing_lasting g x v k s γ i.logs

pub invs_halted : (g : Geometry) (x : ℕ) (v : Device) (l : Ledger) → SomeInvs g x v l → Halted g x v l
invs_halted g x v l (k, c, a, (s, i)) = (invs_lasting g x v l (k, c, a, (s, i)), λ w t. (k, c, a, standing_kept g x v k s w (with_marks l c) i t))

-- ---- cuts and losses
pub halted_cut : (g : Geometry) (x : ℕ) (v w : Device) (l : Ledger) → Halted g x v l → Cut x v w → SomeInvs g x w l
halted_cut g x v w l (h, i) c = i w (cut_kept g x v w c)

module _ (g : Geometry) (ok : Valid g) (x y : ℕ) (v w : Device) (hy : y < g.drives) (one : (x ≡ no_drive) ⊎ (x ≡ y)) (lo : Loss y v w) where
  pub loss_some_rests : (state : StateView) (l : Ledger) → SomeRests g x v state l → SomeRests g y w state l
  loss_some_rests state l (k, c, a, h) = (k, c, a, roled_loss_rests g ok k x v y w hy one lo state (with_marks l c) h)

  pub loss_some_invs : (l : Ledger) → SomeInvs g x v l → SomeInvs g y w l
  loss_some_invs l (k, c, a, h) = (k, c, a, roled_loss_keeps g ok k x v y w hy one lo (with_marks l c) h)

pub loss_halted : (g : Geometry) → Valid g → (x y : ℕ) (v w : Device) → y < g.drives → (x ≡ no_drive) ⊎ (x ≡ y) → Loss y v w → (l : Ledger) → Halted g x v l → Halted g y w l
loss_halted g ok x y v w hy one lo l (h, i) = (lasting_loss g ok x y v w one lo h, λ t k. let (u, p, q) = kept_loss g ok x y v w one lo h t k in loss_some_invs g ok x y u t hy one q l (i u p))

pub lose_in : (g : Geometry) → Valid g → (m : Mode) (x y : ℕ) (v w : Device) (state : StateView) (l : Ledger) → y < g.drives → (x ≡ no_drive) ⊎ (x ≡ y) → Loss y v w → OkIn g m x v state l → OkIn g m y w state l
lose_in g ok ready x y v w state l hy one lo o = loss_some_rests g ok x y v w hy one lo state l o
lose_in g ok stopped x y v w state l hy one lo o = loss_halted g ok x y v w hy one lo l o
lose_in g ok down x y v w state l hy one lo o = loss_some_invs g ok x y v w hy one lo l o

-- in every mode a cut leaves the invariant
pub cut_in : (g : Geometry) (m : Mode) (x : ℕ) (v w : Device) (state : StateView) (l : Ledger) → OkIn g m x v state l → Cut x v w → SomeInvs g x w l
cut_in g ready x v w state l o c = halted_cut g x v w l (invs_halted g x v l (rests_invs g x v state l o)) c
cut_in g stopped x v w state l o c = halted_cut g x v w l o c
cut_in g down x v w state l o c = halted_cut g x v w l (invs_halted g x v l o) c

-- ---- what is known of every cut, with the places outside the geometry in order, is known of whatever a cut may keep
pub cuts_halted : (g : Geometry) (x : ℕ) (v : Device) (l : Ledger) (xs : List Store) → Lasting g x v → ((w : Device) → Cut x (apply_all xs (in_order v)) w → SomeInvs g x w l) → Halted g x (apply_all xs v) l
cuts_halted g x v l xs h f = (lasting_stores g x xs v h, λ w k. go w k (f (kept_of g x v h xs w k) (kept_cut g x v h xs w k)))
  where
    go : (w : Device) (k : Kept g x (apply_all xs v) w) → SomeInvs g x (kept_of g x v h xs w k) l → SomeInvs g x w l
    go w k (c, m, a, (s, i)) = (c, m, a, placed_invs g x c (kept_of g x v h xs w k) w s (kept_same g x v h xs w k) (with_marks l m) i)

pub order_rests : (g : Geometry) (x : ℕ) (v : Device) (c : LogGenerations) (state : StateView) (l : Ledger) → RoledRests c g x v state l → RoledRests c g x (in_order v) state l
order_rests g x v c state l (s, (γ, r, q)) = placed_rests g x c v (in_order v) s (order_same g x v (standing_lasting g x v c s γ r.logs)) state l (γ, r, q)

pub order_invs : (g : Geometry) (x : ℕ) (v : Device) (c : LogGenerations) (l : Ledger) → RoledInvs c g x v l → RoledInvs c g x (in_order v) l
order_invs g x v c l (s, (γ, i, q)) = placed_invs g x c v (in_order v) s (order_same g x v (standing_lasting g x v c s γ i.logs)) l (γ, i, q)

-- ---- the same, said by records
pub kept_invs : (g : Geometry) (x : ℕ) (w : Device) (l : Ledger) → KeptBy g x w l → SomeInvs g x w l
kept_invs g x w l k = (k.generations, k.marks, k.above, k.holds)

pub kept_rests : (g : Geometry) (x : ℕ) (w : Device) (state : StateView) (l : Ledger) → RestsBy g x w state l → SomeRests g x w state l
kept_rests g x w state l k = (k.generations, k.marks, k.above, k.holds)
