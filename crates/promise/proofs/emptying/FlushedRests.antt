-- A device by its roles, flushed: what an emptying begins with. Roles and logs go by the sectors, which a flush leaves; and where all lasts already, neither a
-- flush nor a cut changes anything.
use Rattle.std.specs.Prelude.{◌≡◌, refl, ◌⊎◌, Bool, true, false, ◌&&◌, ◌||◌, ℕ, List, [], ◌∷◌, map, length, take, eqb}
use Rattle.std.proofs.Common.{sym, ap, ◌∙◌, subst, inl, inr, arith}
use Rattle.std.proofs.Math.Path.{fun_ext}
use Rattle.std.proofs.Math.Seq.{take-length}
use Rattle.tables.specs.meaning.Basics.{pick}
use Rattle.tables.specs.laws.Lists.{Prefix, prefix_one}
use Rattle.tables.specs.meaning.Device.{ZoneView, Device, Store, apply_all, Cut}
use Rattle.tables.specs.laws.Device.{cut_at}
use Rattle.tables.specs.laws.Local.{LocalStore, flush_here, apply_all_here, local_stores, local_is, local_take}
use Rattle.tables.specs.meaning.Phases.{on_present, flush_all}
use Rattle.tables.specs.laws.Phases.{on_present_local, flush_all_local}
use Rattle.tables.specs.meaning.Through.{carry}
use Rattle.tables.specs.laws.Through.{carry_on_present, carry_flush_all}
use Rattle.tables.specs.meaning.Drives.{present_but}
use Rattle.tables.specs.laws.Drives.{present_below, present_not}
use Rattle.tables.specs.declared.Geometry.{Geometry}
use Rattle.tables.specs.meaning.Geometry.{Valid}
use Rattle.logs.specs.meaning.Entry.{spare_zone}
use Rattle.volume.specs.meaning.State.{StateView}
use Rattle.volume.specs.meaning.Calls.{flush_stores, flush_state}
use Rattle.volume.specs.meaning.Roles.{Roles, roles_in, roles, zone_of_role, says_nothing, seen_as, drive_by_roles, by_roles}
use Rattle.volume.specs.laws.Firm.{Firm, firm_seen, firm_same}
use Rattle.promise.specs.meaning.Ledger.{Ledger, after_flush}
use Rattle.promise.proofs.invariant.Invariant.{Ghost, Here, LogsOk, LogGenerations}
use Rattle.promise.proofs.invariant.Obligations.{Invs, Rests}
use Rattle.promise.proofs.invariant.StateRead.{read_rests}
use Rattle.promise.proofs.invariant.HoldsLess.{with_logs}
use Rattle.promise.proofs.calls.FlushKeeps.{flush_all_lem}
use Rattle.promise.proofs.roles.Roled.{Standing, standing_cut}
use Rattle.promise.proofs.roles.RoledCalls.{RoledInvs, RoledRests, roled_flush_keeps, roled_flush_rests}
use Rattle.promise.proofs.roles.Spares.{SameButSpares, spare_inv, spare_rest}
use Rattle.promise.proofs.emptying.EmptyingStops.{Solid, solid_flushed, solid_cut}

-- ---- roles go by sectors
pub roles_same : (g : Geometry) (v w : Device) (d : ℕ) → ((y : ℕ) → (w d y).sectors ≡ (v d y).sectors) → roles g w d ≡ roles g v d
roles_same g v w d h = ap (roles_in g d) (fun_ext λ y. h y)

-- a drive by its roles goes by its zones
pub drive_same : (g : Geometry) (v w : Device) (d : ℕ) → ((y : ℕ) → w d y ≡ v d y) → (y : ℕ) → by_roles g w d y ≡ by_roles g v d y
drive_same g v w d h y = ap (λ (zs : ℕ → ZoneView). drive_by_roles g d zs y) (fun_ext λ t. h t)

pub sectors_seen : (g : Geometry) (v w : Device) (d : ℕ) → ((y : ℕ) → (w d y).sectors ≡ (v d y).sectors) → (y : ℕ) → (by_roles g w d y).sectors ≡ (by_roles g v d y).sectors
unfolding drive_by_roles
sectors_seen g v w d h y = ap (λ (r : Roles). (seen_as r (w d) y).sectors) (roles_same g v w d h) ∙ go (roles g v d)
  where
    go : (r : Roles) → (seen_as r (w d) y).sectors ≡ (seen_as r (v d) y).sectors
    go r = by (eqb y 0 && eqb r.general_claim 0 || (eqb y 1 && eqb r.parity_claim 0))
      where
        by : (b : Bool) → (pick b (says_nothing (w d (zone_of_role r y))) (w d (zone_of_role r y))).sectors ≡ (pick b (says_nothing (v d (zone_of_role r y))) (v d (zone_of_role r y))).sectors
        by true = refl
        by false = h (zone_of_role r y)

pub seen_same : (g : Geometry) (x : ℕ) (b c : LogGenerations) (v w : Device) → Standing g x v b → Standing g x w c → (e : ℕ) → Here g x e → ((y : ℕ) → (w e y).sectors ≡ (v e y).sectors) → (y : ℕ) → (by_roles g w e y).sectors ≡ (by_roles g v e y).sectors
seen_same g x b c v w s t e a h y = sectors_seen g v w e h y

-- ---- the flush, carried by any roles, is the flush
flush_carried : (g : Geometry) (present : ℕ → Bool) (ρ : ℕ → ℕ → ℕ) → map (carry ρ) (flush_stores g present) ≡ flush_stores g present
unfolding flush_stores
flush_carried g present ρ = carry_on_present ρ present (flush_all g.drives) ∙ ap (on_present present) (carry_flush_all ρ g.drives)

abbrev pub flushed_all : Geometry → ℕ → Device → Device
flushed_all g x v = apply_all (flush_stores g (present_but g x)) v

pub flush_sectors : (g : Geometry) (x : ℕ) (v : Device) (e y : ℕ) → Here g x e → (flushed_all g x v e y).sectors ≡ (v e y).sectors
flush_sectors g x v e y a = ap (λ (z : ZoneView). z.sectors) (flush_all_lem g x v e y a)

pub flush_solid : (g : Geometry) (x : ℕ) (v : Device) → Solid g x (flushed_all g x v)
flush_solid g x v e y a = rw (flush_all_lem g x v e y a) refl

module _ (g : Geometry) (ok : Valid g) (c : LogGenerations) (x : ℕ) (v : Device) where
  -- FINISHED
  pub flushed_rests : (state : StateView) (l : Ledger) → RoledRests c g x v state l → RoledRests c g x (flushed_all g x v) state (after_flush l)
  flushed_rests state l (s, r) =
      let (t, q) = roled_flush_rests g ok c x v state l (s, r) in
      let e = flush_carried g (present_but g x) (λ d. zone_of_role (roles g v d)) in
      subst (λ (xs : List Store). RoledRests c g x (apply_all xs v) state (after_flush l)) e (t, read_rests g x (by_roles g (apply_all (map (carry (λ d. zone_of_role (roles g v d))) (flush_stores g (present_but g x))) v)) (flush_state x state) state (λ h. r.1.lost_is) (record { generations = λ z h. refl; conditions = λ z h. refl }) c (after_flush l) q)

  -- STOPPED, or finished, without rest
  pub flushed_part : (l : Ledger) (n : ℕ) → RoledInvs c g x v l → RoledInvs c g x (apply_all (take n (flush_stores g (present_but g x))) v) l
  flushed_part l n i = subst (λ (xs : List Store). RoledInvs c g x (apply_all (take n xs) v) l) (flush_carried g (present_but g x) (λ d. zone_of_role (roles g v d))) (roled_flush_keeps g ok c x v l n i)

  pub flushed_invs : (l : Ledger) → RoledInvs c g x v l → RoledInvs c g x (flushed_all g x v) l
  flushed_invs l i = subst (λ (xs : List Store). RoledInvs c g x (apply_all xs v) l) (take-length (flush_stores g (present_but g x))) (flushed_part l (length (flush_stores g (present_but g x))) i)

  -- STOPPED AND CUT
  pub flushed_cut : (l : Ledger) (n : ℕ) (w : Device) → RoledInvs c g x v l → Cut x (apply_all (take n (flush_stores g (present_but g x))) v) w → RoledInvs c g x w l
  flushed_cut l n w i k = let j = flushed_part l n i in standing_cut g x (apply_all (take n (flush_stores g (present_but g x))) v) w c l j.0 j.1 k

-- ---- where all lasts already
pub still_flushed : (g : Geometry) (x : ℕ) (v : Device) → Solid g x v → (n : ℕ) (w : Device) → Cut x (apply_all (take n (flush_stores g (present_but g x))) v) w → (e y : ℕ) → Here g x e → w e y ≡ v e y
unfolding flush_stores
still_flushed g x v solid n w k e y a =
    let xs = on_present (present_but g x) (flush_all g.drives) in
    let p : Prefix (local_stores e y (take n xs)) (flush_here ∷ []) = rw (← flush_all_local e y g.drives (present_below g x e a), ← on_present_local (present_but g x) e y (flush_all g.drives) a) (local_take e y n xs) in
    let s : apply_all (take n xs) v e y ≡ v e y = local_is e y (take n xs) v ∙ go (local_stores e y (take n xs)) (prefix_one flush_here (local_stores e y (take n xs)) p) in
    solid_cut (v e y) (w e y) (rw s at (cut_at x (apply_all (take n xs) v) w k e y (present_not g x e a))) (solid e y a)
  where
    go : (os : List LocalStore) → (os ≡ []) ⊎ (os ≡ flush_here ∷ []) → apply_all_here os (v e y) ≡ v e y
    go os (inl q) = rw q refl
    go os (inr q) = rw q (solid_flushed (v e y) (solid e y a))

-- ---- a device with the same present drives
module _ (g : Geometry) (c : LogGenerations) (x : ℕ) (v w : Device) (s : Standing g x v c) (h : (e y : ℕ) → Here g x e → w e y ≡ v e y) where
  same_firm : (e : ℕ) → Here g x e → Firm g w e (s.roles e)
  same_firm e a = firm_same g v w e (s.roles e) (s.firm e a) (λ y k. h e y a)

  pub same_standing : Standing g x w c
  same_standing = record { roles = s.roles; firm = same_firm; general_claim_lem = s.general_claim_lem; parity_claim_lem = s.parity_claim_lem }

  pub same_seen : (e y : ℕ) → Here g x e → by_roles g w e y ≡ by_roles g v e y
  same_seen e y a = firm_seen g w e (s.roles e) (same_firm e a) y ∙ h e (zone_of_role (s.roles e) y) a ∙ sym (firm_seen g v e (s.roles e) (s.firm e a) y)

  pub same_but_spares : (γ : Ghost) → LogsOk g x (by_roles g v) γ → SameButSpares g x (by_roles g v) (by_roles g w)
  same_but_spares γ lg = record {
    same = λ e y a n. same_seen e y a;
    lasts = λ e a. rw (same_seen e spare_zone a) (lg.lasting e spare_zone a (omega arith));
    fits = λ e a. rw (same_seen e spare_zone a) (lg.place_fits e spare_zone a (omega arith));
  }

  pub same_rests : (state : StateView) (l : Ledger) → Rests c g x (by_roles g v) state l → RoledRests c g x w state l
  same_rests state l (γ, r, q) = (same_standing, (with_logs γ γ.general γ.parity, spare_rest g x (by_roles g v) (by_roles g w) (same_but_spares γ r.logs) γ state l r, q))

  pub same_invs : (l : Ledger) → Invs c g x (by_roles g v) l → RoledInvs c g x w l
  same_invs l (γ, i, q) = (same_standing, (with_logs γ γ.general γ.parity, spare_inv g x (by_roles g v) (by_roles g w) (same_but_spares γ i.logs) γ l i, q))
