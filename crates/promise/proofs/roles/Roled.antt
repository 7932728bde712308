-- What holds of the physical device besides the invariant of the device by its roles: the drives have firm roles, by the generations of their logs
-- (Standing). Ordinary stores, cuts and losses keep both.
use Rattle.std.specs.Prelude.{◌≡◌, ◌⊎◌, ℕ, List}
use Rattle.std.proofs.Common.{ap, ◌∙◌, arith}
use Rattle.std.proofs.Math.Path.{fun_ext}
use Rattle.tables.specs.meaning.Device.{ZoneView, Device, Store, apply_all, Cut, Loss}
use Rattle.tables.specs.laws.Device.{cut_at, loss_at}
use Rattle.tables.specs.meaning.Drives.{no_drive}
use Rattle.tables.specs.laws.Drives.{present_not}
use Rattle.tables.specs.declared.Geometry.{Geometry}
use Rattle.tables.specs.meaning.Geometry.{Valid}
use Rattle.logs.specs.meaning.Entry.{spare_zone}
use Rattle.volume.specs.meaning.State.{StateView}
use Rattle.volume.specs.meaning.Roles.{Roles, zone_of_role, drive_by_roles, by_roles}
use Rattle.volume.specs.laws.Claims.{Claims}
use Rattle.volume.specs.laws.Firm.{Firm, firm_seen, firm_cut, firm_same}
use Rattle.promise.specs.meaning.Ledger.{Ledger}
use Rattle.promise.proofs.invariant.Invariant.{Ghost, Here, Inv, LogGenerations, rest_inv}
use Rattle.promise.proofs.invariant.Obligations.{Invs, Rests}
use Rattle.promise.proofs.invariant.HoldsLess.{with_logs}
use Rattle.promise.proofs.invariant.StoppedCall.{inv_part}
use Rattle.promise.proofs.invariant.CrashKeeps.{cut_part, present_before}
use Rattle.promise.proofs.roles.Spares.{SameButSpares, spare_inv, spare_rest}
use Rattle.promise.proofs.roles.Ordinary.{Ordinary, carried_to, ordinary_firm, ordinary_seen}

-- (c: the logs' generations)
pub record Standing (g : Geometry) (x : ℕ) (v : Device) (c : LogGenerations) : Type 0 where
  pub roles : ℕ → Roles
  pub firm : (e : ℕ) → Here g x e → Firm g v e (roles e)
  pub general_claim_lem : (e : ℕ) → Here g x e → Claims (c e).0 (roles e).general 0 (roles e).general_claim
  pub parity_claim_lem : (e : ℕ) → Here g x e → Claims (c e).1 (roles e).parity 1 (roles e).parity_claim

-- ---- AN ORDINARY CALL: stores xs over the device by its roles, carried by them
module _ (g : Geometry) (x : ℕ) (v : Device) (c : LogGenerations) (s : Standing g x v c) (xs : List Store) (o : Ordinary g x xs) where
  module _ (l : Ledger) (δ : Ghost) (i : Inv g x (apply_all xs (by_roles g v)) l δ) (same : δ.closed ≡ c) where
    -- the roles stand
    next_standing : Standing g x (carried_to g v xs) c
    next_standing = record {
      roles = s.roles;
      firm = ordinary_firm g x v s.roles s.firm xs o c s.general_claim_lem s.parity_claim_lem δ i.logs same;
      general_claim_lem = s.general_claim_lem;
      parity_claim_lem = s.parity_claim_lem;
    }

    -- and the device by them is what the stores made
    next_seen : SameButSpares g x (apply_all xs (by_roles g v)) (by_roles g (carried_to g v xs))
    next_seen = record {
      same = λ e y a h. is e y a;
      lasts = λ e a. rw (is e spare_zone a) (i.logs.lasting e spare_zone a (omega arith));
      fits = λ e a. rw (is e spare_zone a) (i.logs.place_fits e spare_zone a (omega arith));
    }
      where
        is : (e y : ℕ) → Here g x e → by_roles g (carried_to g v xs) e y ≡ apply_all xs (by_roles g v) e y
        is e y a = ordinary_seen g x v s.roles s.firm xs o c s.general_claim_lem s.parity_claim_lem δ i.logs same e a y

  -- so: what a ..Keeps file says of a stopped call, and a ..Rests of a finished one, holds of the physical device by its roles
  pub ordinary_invs : (l : Ledger) → Invs c g x (apply_all xs (by_roles g v)) l → Standing g x (carried_to g v xs) c × Invs c g x (by_roles g (carried_to g v xs)) l
  ordinary_invs l (δ, i, same) = (
    next_standing l δ i same,
    (with_logs δ δ.general δ.parity, spare_inv g x (apply_all xs (by_roles g v)) (by_roles g (carried_to g v xs)) (next_seen l δ i same) δ l i, same),
  )

  pub ordinary_rests : (state : StateView) (l : Ledger) → Rests c g x (apply_all xs (by_roles g v)) state l → Standing g x (carried_to g v xs) c × Rests c g x (by_roles g (carried_to g v xs)) state l
  ordinary_rests state l (δ, r, same) =
      let i = rest_inv g x (apply_all xs (by_roles g v)) state l δ r in (
        next_standing l δ i same,
        (with_logs δ δ.general δ.parity, spare_rest g x (apply_all xs (by_roles g v)) (by_roles g (carried_to g v xs)) (next_seen l δ i same) δ state l r, same),
      )

-- ---- A CUT keeps the roles, and the invariant by them
pub standing_cut : (g : Geometry) (x : ℕ) (v w : Device) (c : LogGenerations) (l : Ledger) → Standing g x v c → Invs c g x (by_roles g v) l → Cut x v w → Standing g x w c × Invs c g x (by_roles g w) l
standing_cut g x v w c l s (γ, i, q) k =
    let firm' : (e : ℕ) → Here g x e → Firm g w e (s.roles e) = λ e a. firm_cut g x v w e (s.roles e) (present_not g x e a) k (s.firm e a) in
    let (δ, j, p) = inv_part g x (by_roles g v) (by_roles g w) l γ i (λ e y a h. let z = zone_of_role (s.roles e) y in
    rw (firm_seen g v e (s.roles e) (s.firm e a) y, firm_seen g w e (s.roles e) (firm' e a) y) (cut_part (v e z) (w e z) (cut_at x v w k e z (present_not g x e a)))) in
    (record { roles = s.roles; firm = firm'; general_claim_lem = s.general_claim_lem; parity_claim_lem = s.parity_claim_lem }, (δ, j, p ∙ q))

-- ---- A LOSS of drive y, which may have been lost before (x)
pub by_roles_loss : (g : Geometry) (y : ℕ) (v w : Device) → Loss y v w → Loss y (by_roles g v) (by_roles g w)
unfolding Loss
by_roles_loss g y v w lo d z n = let e : w d ≡ v d = fun_ext λ t. loss_at y v w lo d t n in ap (λ (zs : ℕ → ZoneView). drive_by_roles g d zs z) e

pub standing_loss : (g : Geometry) → Valid g → (x y : ℕ) (v w : Device) (c : LogGenerations) → (x ≡ no_drive) ⊎ (x ≡ y) → Loss y v w → Standing g x v c → Standing g y w c
standing_loss g ok x y v w c one lo s =
    let here = present_before g ok x y one in
    record {
      roles = s.roles;
      firm = λ e a. firm_same g v w e (s.roles e) (s.firm e (here e a)) (λ z h. loss_at y v w lo e z (present_not g y e a));
      general_claim_lem = λ e a. s.general_claim_lem e (here e a);
      parity_claim_lem = λ e a. s.parity_claim_lem e (here e a);
    }
