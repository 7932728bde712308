-- Ordinary stores: on present drives, and none to a spare. They are computed over the device by its roles and carried to the physical zones by the
-- roles that the drives have then. Where the logs are in order after them, with the same closing entries, the roles stay as they are, firmly, and the
-- device by its roles is what the stores make of the device by its roles.
use Rattle.std.specs.Prelude.{◌≡◌, refl, Bool, true, false, ℕ, zero, suc, List, [], ◌∷◌, map, length, take}
use Rattle.std.proofs.Common.{sym, ap, ap₂, ◌∙◌}
use Rattle.std.proofs.Math.Seq.{take-length}
use Rattle.tables.specs.meaning.Basics.{pick}
use Rattle.tables.specs.laws.Lists.{mem_take}
use Rattle.tables.specs.meaning.Device.{ZoneView, Device, Store, append, reset, flush, store_drive, apply_all}
use Rattle.tables.specs.laws.Local.{apply_all_here, local_stores, local_is}
use Rattle.tables.specs.laws.StoresFit.{AllOn}
use Rattle.tables.specs.meaning.Through.{through, carry}
use Rattle.tables.specs.laws.Through.{OneToOne, through_apply_all}
use Rattle.tables.specs.meaning.Drives.{present_but}
use Rattle.tables.specs.declared.Geometry.{Geometry}
use Rattle.logs.specs.meaning.Entry.{spare_zone}
use Rattle.volume.specs.meaning.Roles.{Roles, zone_of_role, by_roles}
use Rattle.volume.specs.laws.SpareZone.{KeepsOff, still}
use Rattle.volume.specs.laws.Claims.{Claims}
use Rattle.volume.specs.laws.Firm.{role_one_to_one, Firm, firm_roles, firm_seen, places}
use Rattle.promise.proofs.invariant.Invariant.{Ghost, Here, LogsOk, LogGenerations}
use Rattle.promise.proofs.roles.ClaimsOfLogs.{firm_of_logs}

pub record Ordinary (g : Geometry) (x : ℕ) (xs : List Store) : Type 0 where
  pub on : AllOn (present_but g x) xs
  pub off : KeepsOff xs

pub on_take : (present : ℕ → Bool) (n : ℕ) (xs : List Store) → AllOn present xs → AllOn present (take n xs)
on_take present zero xs p = tt
on_take present (suc n) [] p = tt
on_take present (suc n) (x ∷ xs) p = (p.0, on_take present n xs p.1)

-- a part of them
pub ordinary_part : (g : Geometry) (x n : ℕ) (xs : List Store) → Ordinary g x xs → Ordinary g x (take n xs)
ordinary_part g x n xs o = record { on = on_take (present_but g x) n xs o.on; off = record { each = λ s m. o.off.each s (mem_take n xs s m) } }

-- the device after stores that are computed over the device by its roles
abbrev pub carried_to : Geometry → Device → List Store → Device
carried_to g v xs = apply_all (map (carry (places g v)) xs) v

module _ (g : Geometry) (x : ℕ) (v : Device) (r : ℕ → Roles) (firm : (e : ℕ) → Here g x e → Firm g v e (r e)) where
  -- the zones of the present drives by their roles; a lost drive's are its own
  abbrev by : ℕ → ℕ → ℕ
  by e = pick (present_but g x e) (zone_of_role (r e)) (λ (y : ℕ). y)

  by_here : (e : ℕ) → Here g x e → by e ≡ zone_of_role (r e)
  by_here e a = rw a refl

  by_one : (e : ℕ) → OneToOne (by e)
  by_one e = go (present_but g x e) refl
    where
      go : (b : Bool) → present_but g x e ≡ b → OneToOne (pick b (zone_of_role (r e)) (λ (y : ℕ). y))
      go true a = role_one_to_one (r e) (firm e a).proper
      go false a = λ y z q. q

  carry_same : (s : Store) (ρ σ : ℕ → ℕ → ℕ) → ρ (store_drive s) ≡ σ (store_drive s) → carry ρ s ≡ carry σ s
  carry_same (append d z t) ρ σ e = ap (λ (f : ℕ → ℕ). append d (f z) t) e
  carry_same (reset d z) ρ σ e = ap (λ (f : ℕ → ℕ). reset d (f z)) e
  carry_same (flush d) ρ σ e = refl

  -- stores on present drives are carried so, by the roles that the device has
  carried_so : (xs : List Store) → AllOn (present_but g x) xs → map (carry (places g v)) xs ≡ map (carry by) xs
  carried_so [] o = refl
  carried_so (s ∷ xs) o =
      let e = store_drive s in
      let q : places g v e ≡ by e = ap zone_of_role (firm_roles g v e (r e) (firm e o.0)) ∙ sym (by_here e o.0) in
      ap₂ (λ (h : Store) (t : List Store). h ∷ t) (carry_same s (places g v) by q) (carried_so xs o.1)

  module _ (xs : List Store) (o : Ordinary g x xs) where
    abbrev u : Device
    u = by_roles g v

    -- the carried stores, seen, are the stores of what is seen
    pub carried : (e : ℕ) → Here g x e → (y : ℕ) → carried_to g v xs e (zone_of_role (r e) y) ≡ apply_all xs u e y
    carried e a y =
        let after : Device = apply_all (map (carry by) xs) v in
        let p : through by after e y ≡ apply_all xs (through by v) e y = ap (λ (t : Device). t e y) (through_apply_all by xs v by_one) in
        let q : through by v e y ≡ u e y = ap (λ (f : ℕ → ℕ). v e (f y)) (by_here e a) ∙ sym (firm_seen g v e (r e) (firm e a) y) in
        let m : carried_to g v xs e (zone_of_role (r e) y) ≡ after e (zone_of_role (r e) y) = ap (λ (t : List Store). apply_all t v e (zone_of_role (r e) y)) (carried_so xs o.on) in
        m ∙ ap (λ (f : ℕ → ℕ). after e (f y)) (sym (by_here e a)) ∙ p ∙ local_is e y xs (through by v) ∙ ap (apply_all_here (local_stores e y xs)) q ∙ sym (local_is e y xs u)

    spare_is : (e : ℕ) → Here g x e → (carried_to g v xs e (r e).spare).sectors ≡ (v e (r e).spare).sectors
    spare_is e a =
        let s : (apply_all xs u e spare_zone).sectors ≡ (u e spare_zone).sectors = ap (λ (t : List Store). (apply_all t u e spare_zone).sectors) (sym (take-length xs)) ∙ still (length xs) xs u e o.off in
        ap (λ (z : ZoneView). z.sectors) (carried e a spare_zone) ∙ s ∙ ap (λ (z : ZoneView). z.sectors) (firm_seen g v e (r e) (firm e a) spare_zone)

    -- (c: the logs' generations, by which their claims are made)
    module _ (c : LogGenerations) (cg : (e : ℕ) → Here g x e → Claims (c e).0 (r e).general 0 (r e).general_claim) (cp : (e : ℕ) → Here g x e → Claims (c e).1 (r e).parity 1 (r e).parity_claim)
        (δ : Ghost) (lg : LogsOk g x (apply_all xs u) δ) (same : δ.closed ≡ c) where
      -- THE ROLES STAY, FIRMLY
      pub ordinary_firm : (e : ℕ) → Here g x e → Firm g (carried_to g v xs) e (r e)
      ordinary_firm e a = firm_of_logs g x (carried_to g v xs) (apply_all xs u) δ lg e a (r e) (λ y. sym (carried e a y)) (firm e a).proper (rw same (cg e a)) (rw same (cp e a))
          (λ k. rw (spare_is e a) ((firm e a).spare_loses k))

      -- AND THE DEVICE BY ITS ROLES is what the stores make of the device by its roles
      pub ordinary_seen : (e : ℕ) → Here g x e → (y : ℕ) → by_roles g (carried_to g v xs) e y ≡ apply_all xs u e y
      ordinary_seen e a y = firm_seen g (carried_to g v xs) e (r e) (ordinary_firm e a) y ∙ carried e a y
