-- Nothing outside the geometry is read: where two devices have the same zones on the present drives, the roles stand, and rest holds, of both. So a device may be
-- taken with its other places in order (in_order), and what is known of every cut of that one holds of whatever a cut may keep of the device itself.
use Rattle.std.specs.Prelude.{◌≡◌, Bool, ◌&&◌, ℕ, ◌≤◌, ◌<◌, min, List, length, ltb}
use Rattle.std.proofs.Math.Path.{refl}
use Rattle.std.proofs.Common.{sym, ap, ◌∙◌, arith, lt-ltb, ltb-true}
use Rattle.std.proofs.Math.Bool.{true, false}
use Rattle.tables.specs.meaning.Basics.{pick}
use Rattle.tables.specs.laws.Basics.{and_join, and_split}
use Rattle.tables.specs.meaning.Device.{Device, Store, flushed, apply_all, ZoneCut, Cut}
use Rattle.tables.specs.laws.Device.{WellFormed, well_formed_apply_all}
use Rattle.tables.specs.laws.Local.{apply_all_here, local_stores, local_is}
use Rattle.tables.specs.meaning.Drives.{present_but}
use Rattle.tables.specs.declared.Geometry.{Geometry}
use Rattle.tables.specs.meaning.Geometry.{physical_zones, data_zone}
use Rattle.logs.specs.meaning.Entry.{general_zone, parity_zone}
use Rattle.volume.specs.meaning.State.{StateView}
use Rattle.volume.specs.meaning.Roles.{zone_of_role, by_roles}
use Rattle.volume.specs.laws.Firm.{Firm, firm_seen, firm_same}
use Rattle.promise.specs.meaning.Ledger.{Ledger}
use Rattle.promise.proofs.invariant.Invariant.{Ghost, Here, LogsOk, Inv, Rest, LogGenerations}
use Rattle.promise.proofs.invariant.Obligations.{Invs, Rests}
use Rattle.promise.proofs.invariant.HoldsLess.{with_logs}
use Rattle.promise.proofs.roles.SameZones.{SameZones, InBounds, same_inv, same_rest}
use Rattle.promise.proofs.roles.Kept.{Lasting, Kept, role_below, whole_cut}
use Rattle.promise.proofs.roles.Roled.{Standing}
use Rattle.promise.proofs.roles.RoledCalls.{RoledInvs, RoledRests}

abbrev pub SamePlaces : Geometry → ℕ → Device → Device → Type 0
SamePlaces g x u w = (d y : ℕ) → Here g x d → y < physical_zones g → w d y ≡ u d y

-- ---- the invariant and rest
module _ (g : Geometry) (x : ℕ) (u w : Device) (k : SamePlaces g x u w) (γ : Ghost) where
  abbrev δ : Ghost
  δ = with_logs γ γ.general γ.parity

  zones : SameZones g x u w
  zones = record {
    general = λ d a. k d general_zone a (omega arith);
    parity = λ d a. k d parity_zone a (omega arith);
    data_zone_lem = λ d z a h. k d (data_zone z) a (omega arith);
  }

  bounds : LogsOk g x u γ → InBounds g x w
  bounds lg = record { lasting = λ d y a h. rw (k d y a h) (lg.lasting d y a h); fits = λ d y a h. rw (k d y a h) (lg.place_fits d y a h) }

  placed_inv : (l : Ledger) → Inv g x u l γ → Inv g x w l δ
  placed_inv l i = same_inv g x u w zones γ (bounds i.logs) l i

  placed_rest : (state : StateView) (l : Ledger) → Rest g x u state l γ → Rest g x w state l δ
  placed_rest state l r = same_rest g x u w zones γ (bounds r.logs) state l r

-- ---- of the physical device
module _ (g : Geometry) (x : ℕ) (c : LogGenerations) (v w : Device) (s : Standing g x v c) (k : SamePlaces g x v w) where
  firm' : (e : ℕ) → Here g x e → Firm g w e (s.roles e)
  firm' e a = firm_same g v w e (s.roles e) (s.firm e a) (λ y h. k e y a (omega (arith, h)))

  seen' : SamePlaces g x (by_roles g v) (by_roles g w)
  seen' e y a h = firm_seen g w e (s.roles e) (firm' e a) y ∙ k e (zone_of_role (s.roles e) y) a (role_below g (s.roles e) (s.firm e a).proper y h) ∙ sym (firm_seen g v e (s.roles e) (s.firm e a) y)

  standing' : Standing g x w c
  standing' = record { roles = s.roles; firm = firm'; general_claim_lem = s.general_claim_lem; parity_claim_lem = s.parity_claim_lem }

  pub placed_invs : (l : Ledger) → Invs c g x (by_roles g v) l → RoledInvs c g x w l
  placed_invs l (γ, i, q) = (standing', (with_logs γ γ.general γ.parity, placed_inv g x (by_roles g v) (by_roles g w) seen' γ l i, q))

  pub placed_rests : (state : StateView) (l : Ledger) → Rests c g x (by_roles g v) state l → RoledRests c g x w state l
  placed_rests state l (γ, r, q) = (standing', (with_logs γ γ.general γ.parity, placed_rest g x (by_roles g v) (by_roles g w) seen' γ state l r, q))

-- ---- a device with every place in order: no more is durable than there are sectors
abbrev pub in_order : Device → Device
in_order v d y = record { sectors = (v d y).sectors; durable = min (v d y).durable (length (v d y).sectors) }

least_is : (a b : ℕ) → a ≤ b → min a b ≡ a
least_is a b h = omega arith

pub order_same : (g : Geometry) (x : ℕ) (v : Device) → Lasting g x v → SamePlaces g x v (in_order v)
order_same g x v h d y a b i = record { sectors = (v d y).sectors; durable = least_is (v d y).durable (length (v d y).sectors) (h d y a b) i }

pub order_well : (v : Device) → WellFormed (in_order v)
unfolding WellFormed
order_well v d y = let e : min (v d y).durable (length (v d y).sectors) ≤ length (v d y).sectors = omega arith in e

-- WHAT HOLDS OF EVERY CUT of that one, after stores, holds of whatever a cut may keep of the device after them (Q: read of the present drives' zones alone)
module _ (g : Geometry) (x : ℕ) (v : Device) (lasts : Lasting g x v) (xs : List Store) (w : Device) (k : Kept g x (apply_all xs v) w) where
  abbrev after : Device
  after = apply_all xs (in_order v)

  abbrev inside : ℕ → ℕ → Bool
  inside d y = present_but g x d && ltb y (physical_zones g)

  -- w where it is kept; elsewhere all is kept
  pub kept_of : Device
  kept_of d y = pick (inside d y) (w d y) (flushed (after d y))

  after_same : (d y : ℕ) → Here g x d → y < physical_zones g → after d y ≡ apply_all xs v d y
  after_same d y a h = local_is d y xs (in_order v) ∙ ap (apply_all_here (local_stores d y xs)) (order_same g x v lasts d y a h) ∙ sym (local_is d y xs v)

  after_well : (d y : ℕ) → (after d y).durable ≤ length (after d y).sectors
  unfolding WellFormed
  after_well = well_formed_apply_all xs (in_order v) (order_well v)

  pub kept_cut : Cut x (apply_all xs (in_order v)) kept_of
  unfolding Cut kept_of
  kept_cut d y n = go (inside d y) refl
    where
      go : (b : Bool) → inside d y ≡ b → ZoneCut (after d y) (pick b (w d y) (flushed (after d y)))
      go true e = let (a, l) = and_split (present_but g x d) (ltb y (physical_zones g)) e in rw (after_same d y a (ltb-true y (physical_zones g) l)) (k d y a (ltb-true y (physical_zones g) l))
      go false e = whole_cut (after d y) (after_well d y)

  pub kept_same : SamePlaces g x kept_of w
  unfolding kept_of
  kept_same d y a h = rw (and_join (present_but g x d) (ltb y (physical_zones g)) a (lt-ltb y (physical_zones g) h)) refl
