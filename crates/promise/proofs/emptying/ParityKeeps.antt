-- A stopped and cut emptying of a parity log, on the physical zones (EmptyingStops): while its closing entry is not kept, the drives stand in their old
-- roles and by these only spares differ (ByOld); where it is, they stand in the new ones, and by these the copy is drive d's parity log
-- (ByCopy). (v: the device at the emptying's first flush's end; w: what the stop and the cut left.)
use Rattle.std.specs.Prelude.{◌≡◌, ◌≢◌, ◌⊎◌, Bool, true, false, ℕ, zero, suc, ◌+◌, ◌^◌, ◌≤◌, ◌<◌, length, take, eqb}
use Rattle.std.proofs.Math.Path.{refl}
use Rattle.std.proofs.Common.{sym, ap, ◌∙◌, inl, inr, zero-le, le_refl, le_trans, le_of_eq, arith, length-append, length-take, eq-eqb, ne_eqb}
use Rattle.std.proofs.Math.Decide.{ℕ_discrete}
use mathlib.Core.List.{List, [], ◌∷◌, ◌++◌, Memᴰ}
use Rattle.std.proofs.lemmas.List.{take-append-le}
use Rattle.std.proofs.Math.Seq.{take-length}
use Rattle.tables.specs.meaning.Basics.{pick}
use Rattle.tables.specs.laws.Lists.{mem_left}
use Rattle.tables.specs.meaning.Device.{ZoneView, Device, blank_zone}
use Rattle.tables.specs.declared.Geometry.{Geometry}
use Rattle.tables.specs.meaning.Geometry.{Valid}
use Rattle.logs.specs.meaning.Entry.{parity_zone, spare_zone, closing, Entry, encode}
use Rattle.logs.specs.laws.Walk.{WellFormedLog, sectors_of_all, sectors_of_append, log_extent, extent_append}
use Rattle.logs.specs.laws.LogLaws.{sectors_of_most}
use Rattle.volume.specs.meaning.Roles.{Roles, roles, zone_of_role, by_roles, emptied_roles, roles_after}
use Rattle.volume.specs.laws.Claims.{Claims}
use Rattle.volume.specs.laws.Firm.{Proper, proper_apart, role_one_to_one, Firm, firm_roles, firm_seen, firm_same}
use Rattle.promise.proofs.invariant.Invariant.{Ghost, Here, LogsOk, LogGenerations, closing_entry}
use Rattle.promise.proofs.roles.Roled.{Standing}
use Rattle.promise.proofs.roles.Spares.{SameButSpares}
use Rattle.promise.proofs.emptying.EmptyingStops.{LeftBy, part, all, Solid}
use Rattle.promise.proofs.emptying.ParityLogs.{ParityCopyOf, ParityEmptiedTo, parity_ghost, parity_closed, laid_log, entry_ok, lawful_of, parity_emptied_logs}
use Rattle.promise.proofs.emptying.ParityCuts.{Silent, copies_silent, silent_firm, new_firm}

-- (c: the logs' generations at v)
pub record ByOld (g : Geometry) (x : ℕ) (c : LogGenerations) (v w : Device) : Type 0 where
  pub standing : Standing g x w c
  pub roles_are : (e : ℕ) → Here g x e → roles g w e ≡ roles g v e
  pub seen : SameButSpares g x (by_roles g v) (by_roles g w)

pub record ByCopy (g : Geometry) (x : ℕ) (c : LogGenerations) (v w : Device) (d : ℕ) (copy : List Entry) (n : ℕ) : Type 0 where
  pub standing : Standing g x w (parity_closed c d n)
  pub roles_are : (e : ℕ) → Here g x e → roles g w e ≡ roles_after true (λ i. eqb i d) (roles g v) e
  pub seen : ParityEmptiedTo g x d (by_roles g v) (by_roles g w) copy

module _ (g : Geometry) (ok : Valid g) (x : ℕ) (c : LogGenerations) (v : Device) (st : Standing g x v c) (γ : Ghost) (lg : LogsOk g x (by_roles g v) γ) (same : γ.closed ≡ c) (d : ℕ) (hd : Here g x d) where
  abbrev r : ℕ → Roles
  r = st.roles

  abbrev u : Device
  u = by_roles g v

  -- the new log's generation, one above the old one's
  abbrev n : ℕ
  n = (st.roles d).parity_claim

  seen_at : (e : ℕ) → Here g x e → (y : ℕ) → u e y ≡ v e (zone_of_role (r e) y)
  seen_at e a y = firm_seen g v e (r e) (st.firm e a) y

  -- a zone of a role other than the spare's is not the spare
  not_spare_lem : (e : ℕ) → Here g x e → (y : ℕ) → y ≢ spare_zone → zone_of_role (r e) y ≢ (r e).spare
  not_spare_lem e a y h q = h (role_one_to_one (r e) (st.firm e a).proper y spare_zone q)

  n_some : 0 < n
  n_some = omega (arith, (st.parity_claim_lem d hd).0)

  -- a spare of another drive
  spare_lasts : (e : ℕ) → Here g x e → (v e (r e).spare).durable ≤ length (v e (r e).spare).sectors
  spare_lasts e a = rw (seen_at e a spare_zone) at (lg.lasting e spare_zone a (omega arith))

  spare_fits : (e : ℕ) → Here g x e → length (v e (r e).spare).sectors ≤ g.capacity
  spare_fits e a = rw (seen_at e a spare_zone) at (lg.place_fits e spare_zone a (omega arith))

  module _ (Made : Entry → Type 0) (front : List Entry) (none : (e : Entry) → Memᴰ e front → (k i : ℕ) → e.head ≡ closing k i → ⊥) (n_lt : n < 256 ^ 8)
      (pc : ParityCopyOf g d γ Made (front ++ (closing_entry 1 n ∷ [])) n) (w : Device) where
    abbrev copy : List Entry
    copy = front ++ (closing_entry 1 n ∷ [])

    copy_is : sectors_of_all g d true copy ≡ sectors_of_all g d true front ++ (encode g d (closing 1 n) ∷ [])
    copy_is = sectors_of_append g d true front (closing_entry 1 n ∷ [])

    copy_long : length (sectors_of_all g d true copy) ≡ length (sectors_of_all g d true front) + 1
    copy_long = ap length copy_is ∙ length-append (sectors_of_all g d true front) (encode g d (closing 1 n) ∷ [])

    front_lawful : WellFormedLog g d true front
    front_lawful = lawful_of g d front (λ e m. entry_ok g ok x d hd u w γ lg Made copy n n_some n_lt pc e (mem_left front (closing_entry 1 n ∷ []) e m))

    front_room : log_extent g d true front ≤ g.capacity
    front_room = let q = extent_append g d true front (closing_entry 1 n ∷ []) in omega (arith, q, pc.room)

    -- ---- THE CLOSING ENTRY IS NOT KEPT
    module _ (others : (e y : ℕ) → Here g x e → (e ≢ d) ⊎ (y ≢ (r d).spare) → w e y ≡ v e y) (m : ℕ) (lt : m < length (sectors_of_all g d true copy)) (is : (w d (r d).spare).sectors ≡ take m (sectors_of_all g d true copy))
        (lasts : (w d (r d).spare).durable ≤ length (w d (r d).spare).sectors) where
      front_is : take m (sectors_of_all g d true copy) ≡ take m (sectors_of_all g d true front)
      front_is = ap (take m) copy_is ∙ take-append-le m (sectors_of_all g d true front) (encode g d (closing 1 n) ∷ []) (omega (arith, copy_long, lt))

      old_firm : (e : ℕ) → Here g x e → Firm g w e (r e)
      old_firm e a = go (ℕ_discrete e d)
        where
          p : ((r d).general ≢ (r d).parity) × ((r d).general ≢ (r d).spare) × ((r d).parity ≢ (r d).spare) × ((r d).spare < 3)
          p = proper_apart (r d) (st.firm d hd).proper

          quiet : Silent g d (w d (r d).spare).sectors
          quiet = rw (is, front_is) (copies_silent g d front front_lawful front_room none m)

          go : Dec (e ≡ d) → Firm g w e (r e)
          go (no q) = firm_same g v w e (r e) (st.firm e a) (λ y h. others e y a (inl q))
          go (yes q) = rw q (silent_firm g v w d (r d) (st.firm d hd) (others d (r d).general hd (inr p.1)) (others d (r d).parity hd (inr p.2)) quiet)

      few : length (w d (r d).spare).sectors ≤ g.capacity
      few = rw (is, front_is, length-take) (let a = sectors_of_most g d front front_lawful in omega (arith, a, front_room))

      by_old : ByOld g x c v w
      by_old = record {
        standing = record { roles = r; firm = old_firm; general_claim_lem = st.general_claim_lem; parity_claim_lem = st.parity_claim_lem };
        roles_are = λ e a. firm_roles g w e (r e) (old_firm e a) ∙ sym (firm_roles g v e (r e) (st.firm e a));
        seen = record {
          same = λ e y a h. firm_seen g w e (r e) (old_firm e a) y ∙ zone e y a h (ℕ_discrete e d) ∙ sym (seen_at e a y);
          lasts = λ e a. rw (firm_seen g w e (r e) (old_firm e a) spare_zone) (low e a (ℕ_discrete e d));
          fits = λ e a. rw (firm_seen g w e (r e) (old_firm e a) spare_zone) (fit e a (ℕ_discrete e d));
        };
      }
        where
          zone : (e y : ℕ) → (a : Here g x e) → y ≢ spare_zone → Dec (e ≡ d) → w e (zone_of_role (r e) y) ≡ v e (zone_of_role (r e) y)
          zone e y a h (no q) = others e (zone_of_role (r e) y) a (inl q)
          zone e y a h (yes q) = others e (zone_of_role (r e) y) a (inr (rw (← q) (not_spare_lem e a y h)))

          low : (e : ℕ) → Here g x e → Dec (e ≡ d) → (w e (r e).spare).durable ≤ length (w e (r e).spare).sectors
          low e a (yes q) = rw q lasts
          low e a (no q) = rw (others e (r e).spare a (inl q)) (spare_lasts e a)

          fit : (e : ℕ) → Here g x e → Dec (e ≡ d) → length (w e (r e).spare).sectors ≤ g.capacity
          fit e a (yes q) = rw q few
          fit e a (no q) = rw (others e (r e).spare a (inl q)) (spare_fits e a)

    -- ---- IT IS
    module _ (solid : Solid g x v) (others : (e y : ℕ) → Here g x e → (e ≢ d) ⊎ ((y ≢ (r d).spare) × (y ≢ (r d).parity)) → w e y ≡ v e y) (log : w d (r d).spare ≡ laid_log g d copy)
        (old : (w d (r d).parity ≡ v d (r d).parity) ⊎ (w d (r d).parity ≡ blank_zone)) where
      abbrev r' : Roles
      r' = emptied_roles true (r d)

      abbrev δ : Ghost
      δ = parity_ghost γ d copy n

      kept_role : (y : ℕ) → y ≢ parity_zone → y ≢ spare_zone → zone_of_role r' y ≡ zone_of_role (r d) y
      kept_role zero p q = refl
      kept_role (suc zero) p q = absurd (p refl)
      kept_role (suc (suc zero)) p q = absurd (q refl)
      kept_role (suc (suc (suc y))) p q = refl

      kept_zone : (y : ℕ) → y ≢ parity_zone → y ≢ spare_zone → w d (zone_of_role r' y) ≡ v d (zone_of_role (r d) y)
      kept_zone y p q = rw (kept_role y p q) (others d (zone_of_role (r d) y) hd (inr (not_spare_lem d hd y q, λ e. p (role_one_to_one (r d) (st.firm d hd).proper y parity_zone e))))

      log_is : (v d (r d).parity).sectors ≡ sectors_of_all g d true (γ.parity d)
      log_is = ap (λ (z : ZoneView). z.sectors) (sym (seen_at d hd parity_zone)) ∙ lg.parity_is d hd

      -- the old zone: all of the old log, or nothing of it
      old_is : (m : ℕ) × ((w d (r d).parity).sectors ≡ take m (sectors_of_all g d true (γ.parity d))) × ((w d (r d).parity).durable ≤ length (w d (r d).parity).sectors) × (length (w d (r d).parity).sectors ≤ g.capacity)
      old_is = go old
        where
          go : (w d (r d).parity ≡ v d (r d).parity) ⊎ (w d (r d).parity ≡ blank_zone)
              → (m : ℕ) × ((w d (r d).parity).sectors ≡ take m (sectors_of_all g d true (γ.parity d))) × ((w d (r d).parity).durable ≤ length (w d (r d).parity).sectors) × (length (w d (r d).parity).sectors ≤ g.capacity)
          go (inl q) =
              let s = sectors_of_all g d true (γ.parity d) in
              let f : length (v d (r d).parity).sectors ≤ g.capacity = rw (seen_at d hd parity_zone) at (lg.place_fits d parity_zone hd (omega arith)) in
              (length s, ap (λ (z : ZoneView). z.sectors) q ∙ log_is ∙ sym (take-length s), rw q (le_of_eq (solid d (r d).parity hd)), rw q f)
          go (inr q) = (0, ap (λ (z : ZoneView). z.sectors) q, rw q (le_refl 0), rw q zero-le)

      -- any device that shows drive d by the new roles, and the others by the old
      to : (t : Device) → ((y : ℕ) → t d y ≡ w d (zone_of_role r' y)) → ((e : ℕ) → Here g x e → e ≢ d → (y : ℕ) → y ≢ spare_zone → t e y ≡ u e y)
          → ((e : ℕ) → Here g x e → e ≢ d → ((t e spare_zone).durable ≤ length (t e spare_zone).sectors) × (length (t e spare_zone).sectors ≤ g.capacity)) → ParityEmptiedTo g x d u t copy
      to t own rest spares = record {
        log = own parity_zone ∙ log;
        others = λ e y a o q. go e y a o q (ℕ_discrete e d);
        spare_lasts = λ e a. low e a (ℕ_discrete e d);
        spare_fits = λ e a. fit e a (ℕ_discrete e d);
      }
        where
          go : (e y : ℕ) → Here g x e → (e ≢ d) ⊎ (y ≢ parity_zone) → y ≢ spare_zone → Dec (e ≡ d) → t e y ≡ u e y
          go e y a o q (no h) = rest e a h y q
          go e y a (inl o) q (yes h) = absurd (o h)
          go e y a (inr o) q (yes h) = rw h (own y ∙ kept_zone y o q ∙ sym (seen_at d hd y))

          low : (e : ℕ) → Here g x e → Dec (e ≡ d) → (t e spare_zone).durable ≤ length (t e spare_zone).sectors
          low e a (no h) = (spares e a h).0
          low e a (yes h) = rw (h, own spare_zone) old_is.2

          fit : (e : ℕ) → Here g x e → Dec (e ≡ d) → length (t e spare_zone).sectors ≤ g.capacity
          fit e a (no h) = (spares e a h).1
          fit e a (yes h) = rw (h, own spare_zone) old_is.3

      u' : Device
      u' e y = pick (eqb e d) (w d (zone_of_role r' y)) (u e y)

      own' : (y : ℕ) → u' d y ≡ w d (zone_of_role r' y)
      unfolding u'
      own' y = rw (eq-eqb d d refl) refl

      rest' : (e : ℕ) → e ≢ d → (y : ℕ) → u' e y ≡ u e y
      unfolding u'
      rest' e h y = rw (ne_eqb e d h) refl

      logs' : LogsOk g x u' δ
      logs' = parity_emptied_logs g ok x d hd u u' γ lg Made copy n n_some n_lt pc
          (to u' own' (λ e a h y q. rest' e h y) (λ e a h. (rw (rest' e h spare_zone) (lg.lasting e spare_zone a (omega arith)), rw (rest' e h spare_zone) (lg.place_fits e spare_zone a (omega arith)))))

      firm_d : Firm g w d r'
      firm_d = new_firm g x w u' δ logs' d hd (r d) own' (γ.parity d) (lg.parity_lawful d hd) (lg.parity_fits d hd) (γ.closed d).1 (st.firm d hd).proper (rw same (st.general_claim_lem d hd)) (rw same (st.parity_claim_lem d hd))
          (rw (eq-eqb d d refl) refl) (λ e o k i h. le_of_eq (lg.parity_closes d hd e o k i h)) old_is.0 old_is.1

      firm_other : (e : ℕ) → Here g x e → e ≢ d → Firm g w e (r e)
      firm_other e a h = firm_same g v w e (r e) (st.firm e a) (λ y q. others e y a (inl h))

      abbrev after : ℕ → Roles
      after = roles_after true (λ i. eqb i d) r

      new_roles : (e : ℕ) → Here g x e → Firm g w e (after e)
      new_roles e a = go (ℕ_discrete e d)
        where
          go : Dec (e ≡ d) → Firm g w e (after e)
          go (yes q) = rw (q, eq-eqb d d refl) firm_d
          go (no q) = rw (ne_eqb e d q) (firm_other e a q)

      by_copy : ByCopy g x c v w d copy n
      by_copy = record {
        standing = record { roles = after; firm = new_roles; general_claim_lem = λ e a. general e a (ℕ_discrete e d); parity_claim_lem = λ e a. parity e a (ℕ_discrete e d) };
        roles_are = λ e a. firm_roles g w e (after e) (new_roles e a) ∙ ap (λ (q : Roles). pick (eqb e d) (emptied_roles true q) q) (sym (firm_roles g v e (r e) (st.firm e a)));
        seen = to (by_roles g w) (firm_seen g w d r' firm_d) (λ e a h y q. firm_seen g w e (r e) (firm_other e a h) y ∙ others e (zone_of_role (r e) y) a (inl h) ∙ sym (seen_at e a y)) (λ e a h. spares e a h);
      }
        where
          general : (e : ℕ) → Here g x e → Dec (e ≡ d) → Claims (c e).0 (after e).general 0 (after e).general_claim
          general e a (yes q) = rw (q, eq-eqb d d refl) (st.general_claim_lem d hd)
          general e a (no q) = rw (ne_eqb e d q) (st.general_claim_lem e a)

          parity : (e : ℕ) → Here g x e → Dec (e ≡ d) → Claims (pick (eqb e d) n (c e).1) (after e).parity 1 (after e).parity_claim
          parity e a (yes q) = rw (q, eq-eqb d d refl) (refl, inl n_some)
          parity e a (no q) = rw (ne_eqb e d q) (st.parity_claim_lem e a)

          spares : (e : ℕ) → Here g x e → e ≢ d → ((by_roles g w e spare_zone).durable ≤ length (by_roles g w e spare_zone).sectors) × (length (by_roles g w e spare_zone).sectors ≤ g.capacity)
          spares e a h =
              let s : by_roles g w e spare_zone ≡ v e (r e).spare = firm_seen g w e (r e) (firm_other e a h) spare_zone ∙ others e (r e).spare a (inl h) in
              (rw s (spare_lasts e a), rw s (spare_fits e a))

    -- WHAT A STOP AND A CUT LEFT
    pub parity_left : Solid g x v → LeftBy g x v w d (r d).parity (r d).spare (sectors_of_all g d true copy) → ByOld g x c v w ⊎ ByCopy g x c v w d copy n
    parity_left solid (part others m lt is lasts) = inl (by_old others m lt is lasts)
    parity_left solid (all others log old) = inr (by_copy solid others log old)

    -- nothing was stopped, or no more than the reset of the old zone lacks
    pub parity_done : Solid g x v → ((e y : ℕ) → Here g x e → (e ≢ d) ⊎ ((y ≢ (r d).spare) × (y ≢ (r d).parity)) → w e y ≡ v e y) → w d (r d).spare ≡ laid_log g d copy → (w d (r d).parity ≡ v d (r d).parity) ⊎ (w d (r d).parity ≡ blank_zone) → ByCopy g x c v w d copy n
    parity_done solid others log old = by_copy solid others log old
