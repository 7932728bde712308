-- The general log of drive d is emptied, on the physical zones: its spare holds the new log, all of it durable, and its old zone is as it was or blank
-- (Swapped). Then the drive has new roles, firmly, the invariant (or rest) holds by them, and every look shows the same.
use Rattle.std.specs.Prelude.{◌≡◌, ◌≢◌, ◌⊎◌, false, ℕ, zero, suc, ◌≤◌, ◌<◌, List, map, length, take, eqb}
use Rattle.std.proofs.Math.Path.{refl}
use Rattle.std.proofs.Common.{sym, ap, ◌∙◌, inl, inr, zero-le, le_refl, le_of_eq, arith, eq-eqb, ne_eqb}
use Rattle.std.proofs.Math.Decide.{ℕ_discrete}
use Rattle.std.proofs.Math.Seq.{take-length}
use Rattle.tables.specs.meaning.Basics.{pick}
use Rattle.tables.specs.laws.Lists.{length_map}
use Rattle.tables.specs.meaning.Device.{ZoneView, Device, blank_zone}
use Rattle.tables.specs.meaning.Drives.{present_but}
use Rattle.tables.specs.declared.Geometry.{Geometry}
use Rattle.tables.specs.meaning.Geometry.{Valid}
use Rattle.logs.specs.meaning.Entry.{general_zone, spare_zone, Header, encode}
use Rattle.volume.specs.meaning.State.{StateView}
use Rattle.volume.specs.meaning.Roles.{Roles, zone_of_role, by_roles, emptied_roles, roles_after}
use Rattle.volume.specs.laws.Claims.{Claims}
use Rattle.volume.specs.laws.Firm.{role_one_to_one, Firm, firm_seen, firm_same}
use Rattle.promise.specs.meaning.Ledger.{Ledger}
use Rattle.promise.proofs.invariant.Invariant.{Ghost, Here, LogsOk, Live, Dying, Rest}
use Rattle.promise.proofs.invariant.Obligations.{Invs, Rests}
use Rattle.promise.proofs.look.InForce.{InForce}
use Rattle.promise.proofs.roles.Roled.{Standing}
use Rattle.promise.proofs.emptying.AskedSame.{NamedBut, ShowsSame}
use Rattle.promise.proofs.emptying.EmptiedGeneral.{general_log, EmptiedTo, emptied_ghost, Copyable, emptied_logs, emptied_force, emptied_inv, emptied_rest}
use Rattle.promise.proofs.emptying.EmptiedShows.{emptied_shows}
use Rattle.promise.proofs.emptying.EmptyingCuts.{new_firm}

-- (r: drive d's roles; copy: the new log)
pub record Swapped (g : Geometry) (x d : ℕ) (r : Roles) (copy : List Header) (v w : Device) : Type 0 where
  pub others : (e y : ℕ) → Here g x e → (e ≢ d) ⊎ ((y ≢ r.spare) × (y ≢ r.general)) → w e y ≡ v e y
  pub log : w d r.spare ≡ record { sectors = map (encode g d) copy; durable = length copy }
  pub old : (w d r.general ≡ v d r.general) ⊎ (w d r.general ≡ blank_zone)

module _ (g : Geometry) (ok : Valid g) (x : ℕ) (v : Device) (γ : Ghost) (s : Standing g x v γ.closed) (lg : LogsOk g x (by_roles g v) γ) (d : ℕ) (gens : ℕ → ℕ) (cp : Copyable g x d γ gens (s.roles d).general_claim)
    (w : Device) (k : Swapped g x d (s.roles d) (general_log g gens (γ.general d) (s.roles d).general_claim) v w) where
  abbrev r : ℕ → Roles
  r = s.roles

  abbrev n : ℕ
  n = (s.roles d).general_claim

  abbrev copy : List Header
  copy = general_log g gens (γ.general d) n

  abbrev δ : Ghost
  δ = emptied_ghost γ d copy n

  abbrev u : Device
  u = by_roles g v

  hd : Here g x d
  hd = cp.present

  seen : (e : ℕ) → Here g x e → (y : ℕ) → u e y ≡ v e (zone_of_role (r e) y)
  seen e a y = firm_seen g v e (r e) (s.firm e a) y

  abbrev r' : Roles
  r' = emptied_roles false (s.roles d)

  -- a zone that is neither log nor spare keeps its role, and its sectors
  kept_role : (y : ℕ) → y ≢ general_zone → y ≢ spare_zone → zone_of_role r' y ≡ zone_of_role (r d) y
  kept_role zero p q = absurd (p refl)
  kept_role (suc zero) p q = refl
  kept_role (suc (suc zero)) p q = absurd (q refl)
  kept_role (suc (suc (suc y))) p q = refl

  kept_zone : (y : ℕ) → y ≢ general_zone → y ≢ spare_zone → w d (zone_of_role r' y) ≡ v d (zone_of_role (r d) y)
  kept_zone y p q =
      let one = role_one_to_one (r d) (s.firm d hd).proper in
      rw (kept_role y p q) (k.others d (zone_of_role (r d) y) hd (inr ((λ t. q (one y spare_zone t)), λ t. p (one y general_zone t))))

  -- what is left of the old log
  log_is : (v d (r d).general).sectors ≡ map (encode g d) (γ.general d)
  log_is = ap (λ (z : ZoneView). z.sectors) (sym (seen d hd general_zone)) ∙ lg.general_is d hd

  old_is : (m : ℕ) × ((w d (r d).general).sectors ≡ map (encode g d) (take m (γ.general d)))
  old_is = go k.old
    where
      go : (w d (r d).general ≡ v d (r d).general) ⊎ (w d (r d).general ≡ blank_zone) → (m : ℕ) × ((w d (r d).general).sectors ≡ map (encode g d) (take m (γ.general d)))
      go (inl q) = (length (γ.general d), ap (λ (z : ZoneView). z.sectors) q ∙ log_is ∙ ap (map (encode g d)) (sym (take-length (γ.general d))))
      go (inr q) = (0, ap (λ (z : ZoneView). z.sectors) q)

  old_fits : ((w d (r d).general).durable ≤ length (w d (r d).general).sectors) × (length (w d (r d).general).sectors ≤ g.capacity)
  old_fits = go k.old
    where
      go : (w d (r d).general ≡ v d (r d).general) ⊎ (w d (r d).general ≡ blank_zone) → ((w d (r d).general).durable ≤ length (w d (r d).general).sectors) × (length (w d (r d).general).sectors ≤ g.capacity)
      go (inl q) = rw (q, ← seen d hd general_zone) (lg.lasting d general_zone hd (omega arith), lg.place_fits d general_zone hd (omega arith))
      go (inr q) = rw q (le_refl 0, zero-le)

  -- any device that shows drive d by the new roles, and the others by the old
  to : (t : Device) → ((y : ℕ) → t d y ≡ w d (zone_of_role r' y)) → ((e : ℕ) → Here g x e → e ≢ d → (y : ℕ) → t e y ≡ u e y) → EmptiedTo g x d u t copy
  to t own rest = record {
    log = own general_zone ∙ k.log;
    others = λ e y a o q. go e y a o q (ℕ_discrete e d);
    spare_lasts = λ e a. low e a (ℕ_discrete e d);
    spare_fits = λ e a. fit e a (ℕ_discrete e d);
  }
    where
      go : (e y : ℕ) → Here g x e → (e ≢ d) ⊎ (y ≢ general_zone) → y ≢ spare_zone → Dec (e ≡ d) → t e y ≡ u e y
      go e y a o q (no h) = rest e a h y
      go e y a (inl o) q (yes h) = absurd (o h)
      go e y a (inr o) q (yes h) = rw h (own y ∙ kept_zone y o q ∙ sym (seen d hd y))

      low : (e : ℕ) → Here g x e → Dec (e ≡ d) → (t e spare_zone).durable ≤ length (t e spare_zone).sectors
      low e a (no h) = rw (rest e a h spare_zone) (lg.lasting e spare_zone a (omega arith))
      low e a (yes h) = rw (h, own spare_zone) old_fits.0

      fit : (e : ℕ) → Here g x e → Dec (e ≡ d) → length (t e spare_zone).sectors ≤ g.capacity
      fit e a (no h) = rw (rest e a h spare_zone) (lg.place_fits e spare_zone a (omega arith))
      fit e a (yes h) = rw (h, own spare_zone) old_fits.1

  -- ---- the roles: first of a device that is seen so
  u' : Device
  u' e y = pick (eqb e d) (w d (zone_of_role r' y)) (u e y)

  own' : (y : ℕ) → u' d y ≡ w d (zone_of_role r' y)
  unfolding u'
  own' y = rw (eq-eqb d d refl) refl

  rest' : (e : ℕ) → e ≢ d → (y : ℕ) → u' e y ≡ u e y
  unfolding u'
  rest' e h y = rw (ne_eqb e d h) refl

  logs' : LogsOk g x u' δ
  logs' = emptied_logs g ok x d u u' γ lg gens n cp (to u' own' (λ e a h y. rest' e h y))

  firm_d : Firm g w d r'
  firm_d =
      let (m, q) = old_is in
      new_firm g x w u' δ logs' d hd (r d) own' (γ.general d) (lg.general_reads d hd) long (γ.closed d).0 (s.firm d hd).proper (s.general_claim_lem d hd) (s.parity_claim_lem d hd) (rw (eq-eqb d d refl) refl)
      (λ j i o. le_of_eq (lg.general_closes d hd j i o)) m q
    where
      long : length (γ.general d) ≤ g.capacity
      long = let q : length (map (encode g d) (γ.general d)) ≤ g.capacity = rw (lg.general_is d hd) at (lg.place_fits d general_zone hd (omega arith)) in rw length_map at q

  firm_other : (e : ℕ) → Here g x e → e ≢ d → Firm g w e (r e)
  firm_other e a h = firm_same g v w e (r e) (s.firm e a) (λ y q. k.others e y a (inl h))

  pub swapped_firm : (e : ℕ) → Here g x e → Firm g w e (roles_after false (λ j. eqb j d) r e)
  swapped_firm e a = go (ℕ_discrete e d)
    where
      go : Dec (e ≡ d) → Firm g w e (roles_after false (λ j. eqb j d) r e)
      go (yes q) = rw (eq-eqb e d q, q) firm_d
      go (no q) = rw (ne_eqb e d q) (firm_other e a q)

  -- THE NEW ROLES STAND
  pub swapped_standing : Standing g x w δ.closed
  swapped_standing = record {
    roles = roles_after false (λ j. eqb j d) r;
    firm = swapped_firm;
    general_claim_lem = λ e a. general e a (ℕ_discrete e d);
    parity_claim_lem = λ e a. parity e a (ℕ_discrete e d);
  }
    where
      general : (e : ℕ) → Here g x e → Dec (e ≡ d) → Claims (δ.closed e).0 (roles_after false (λ j. eqb j d) r e).general 0 (roles_after false (λ j. eqb j d) r e).general_claim
      general e a (yes q) = rw (eq-eqb e d q, q) (refl, inl cp.some)
      general e a (no q) = rw (ne_eqb e d q) (s.general_claim_lem e a)

      parity : (e : ℕ) → Here g x e → Dec (e ≡ d) → Claims (δ.closed e).1 (roles_after false (λ j. eqb j d) r e).parity 1 (roles_after false (λ j. eqb j d) r e).parity_claim
      parity e a (yes q) = rw (eq-eqb e d q, q) (s.parity_claim_lem d hd)
      parity e a (no q) = rw (ne_eqb e d q) (s.parity_claim_lem e a)

  -- the device by them
  pub swapped_to : EmptiedTo g x d u (by_roles g w) copy
  swapped_to = to (by_roles g w) (firm_seen g w d r' firm_d) (λ e a h y. firm_seen g w e (r e) (firm_other e a h) y ∙ k.others e (zone_of_role (r e) y) a (inl h) ∙ sym (seen e a y))

  -- THE INVARIANT, AND REST, HOLD BY THEM
  abbrev Zones : Ledger → Type 0
  Zones l = (z : ℕ) → z < g.zones → Live g x u γ l z ⊎ Dying g x u γ l z

  pub swapped_invs : (l : Ledger) → Zones l → Invs δ.closed g x (by_roles g w) l
  swapped_invs l zs = (δ, emptied_inv g ok x d u (by_roles g w) γ lg gens n cp swapped_to l zs, refl)

  pub swapped_rests : (state : StateView) (l : Ledger) → Rest g x u state l γ → Rests δ.closed g x (by_roles g w) state l
  swapped_rests state l q = (δ, emptied_rest g ok x d u (by_roles g w) γ lg gens n cp swapped_to state l q, refl)

  pub swapped_force : InForce g x δ gens
  swapped_force = emptied_force g ok x d u (by_roles g w) γ lg gens n cp swapped_to

  -- A LOOK SHOWS THE SAME
  pub swapped_shows : (l : Ledger) → Zones l → (y : ℕ) → NamedBut g x y → (z : ℕ) → z < g.zones → ShowsSame g (present_but g y) u (by_roles g w) z
  swapped_shows l zs y by z hz = emptied_shows g ok x d u (by_roles g w) γ lg gens n cp swapped_to l zs y by z hz
