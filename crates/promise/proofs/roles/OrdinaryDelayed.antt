-- Ordinary stores on drives that cache resets: what is put back after them, on the physical zones, is put back by the roles. So where the invariant holds of the
-- device by its roles, whatever is put back there, the roles stand, and it holds, on the physical device.
use Rattle.std.specs.Prelude.{◌≡◌, ◌≢◌, ◌⊎◌, Bool, ◌&&◌, ℕ, suc, ◌-◌, ◌<◌, eqb}
use Rattle.std.proofs.Math.Path.{refl}
use Rattle.std.proofs.Common.{sym, ap, ap₂, ◌∙◌, subst, inr, arith, eq-eqb, ne_eqb}
use Rattle.std.proofs.Math.Logic.{inl}
use Rattle.std.proofs.Math.Bool.{true, false}
use Rattle.std.proofs.Math.Decide.{dec_lt, ℕ_discrete}
use mathlib.Core.List.{List, [], ◌∷◌, ◌++◌, map, Memᴰ}
use Rattle.tables.specs.meaning.Basics.{pick}
use Rattle.tables.specs.laws.Lists.{Prefix}
use Rattle.tables.specs.meaning.Device.{ZoneView, Device, Store, append, reset, flush, apply_all}
use Rattle.tables.specs.laws.Local.{LocalStore, append_here, reset_here, flush_here, apply_all_here, local_store, local_stores}
use Rattle.tables.specs.meaning.Cached.{uncached, apply_all_caching}
use Rattle.tables.specs.laws.Cached.{now_is, remember_here}
use Rattle.tables.specs.meaning.Through.{carry}
use Rattle.tables.specs.laws.Through.{OneToOne}
use Rattle.tables.specs.meaning.Drives.{present_but}
use Rattle.tables.specs.declared.Geometry.{Geometry}
use Rattle.logs.specs.meaning.Entry.{spare_zone}
use Rattle.volume.specs.meaning.Roles.{Roles, zone_of_role, by_roles}
use Rattle.volume.specs.laws.SpareZone.{KeepsOff}
use Rattle.volume.specs.laws.Firm.{Proper, RoleOf, is_general, is_parity, is_spare, role_of, role_one_to_one, Firm, firm_roles, firm_seen, places}
use Rattle.promise.specs.meaning.Ledger.{Ledger}
use Rattle.promise.proofs.invariant.Invariant.{Ghost, Here, Inv, LogGenerations}
use Rattle.promise.proofs.invariant.Obligations.{Invs}
use Rattle.promise.proofs.invariant.HoldsLess.{with_logs}
use Rattle.promise.proofs.invariant.Delayed.{Delayed, Forgets, back_here, back_part, delayed_at, OnlyFlush, only_flush_sectors}
use Rattle.promise.proofs.roles.ClaimsOfLogs.{firm_of_logs}
use Rattle.promise.proofs.roles.Spares.{SameButSpares, spare_inv}
use Rattle.promise.proofs.roles.Ordinary.{Ordinary}
use Rattle.promise.proofs.roles.Roled.{Standing}

-- ---- what a place sees of carried stores
eqb_one : (f : ℕ → ℕ) → OneToOne f → (y z : ℕ) → eqb (f y) (f z) ≡ eqb y z
eqb_one f i y z = go (ℕ_discrete y z)
  where
    go : Dec (y ≡ z) → eqb (f y) (f z) ≡ eqb y z
    go (yes e) = eq-eqb (f y) (f z) (ap f e) ∙ sym (eq-eqb y z e)
    go (no n) = ne_eqb (f y) (f z) (λ e. n (i y z e)) ∙ sym (ne_eqb y z n)

same_place_lem : (ρ : ℕ → ℕ → ℕ) (e y d z : ℕ) → OneToOne (ρ e) → eqb e d && eqb (ρ e y) (ρ d z) ≡ eqb e d && eqb y z
same_place_lem ρ e y d z i = go (ℕ_discrete e d)
  where
    go : Dec (e ≡ d) → eqb e d && eqb (ρ e y) (ρ d z) ≡ eqb e d && eqb y z
    go (yes q) = rw (← q) (ap (λ (b : Bool). eqb e e && b) (eqb_one (ρ e) i y z))
    go (no n) = rw (ne_eqb e d n) refl

pub carried_local : (ρ : ℕ → ℕ → ℕ) (e y : ℕ) → OneToOne (ρ e) → (xs : List Store) → local_stores e (ρ e y) (map (carry ρ) xs) ≡ local_stores e y xs
carried_local ρ e y i [] = refl
carried_local ρ e y i (s ∷ xs) = ap₂ (λ (a b : List LocalStore). a ++ b) (one s) (carried_local ρ e y i xs)
  where
    one : (s : Store) → local_store e (ρ e y) (carry ρ s) ≡ local_store e y s
    one (append d z t) = ap (λ (b : Bool). pick b (append_here t ∷ []) []) (same_place_lem ρ e y d z i)
    one (reset d z) = ap (λ (b : Bool). pick b (reset_here ∷ []) []) (same_place_lem ρ e y d z i)
    one (flush d) = refl

-- a spare sees flushes alone
off_rest : (s : Store) (xs : List Store) → KeepsOff (s ∷ xs) → KeepsOff xs
off_rest s xs k = record { each = λ t m. k.each t (Memᴰ.tail m) }

pub spare_sees : (e : ℕ) (xs : List Store) → KeepsOff xs → OnlyFlush (local_stores e spare_zone xs)
spare_sees e [] k = tt
spare_sees e (append d z t ∷ xs) k = rw (ne_eqb spare_zone z (λ q. k.each (append d z t) (Memᴰ.head refl) (sym q))) (go (eqb e d) (spare_sees e xs (off_rest (append d z t) xs k)))
  where
    go : (b : Bool) → OnlyFlush (local_stores e spare_zone xs) → OnlyFlush (pick (b && false) (append_here t ∷ []) [] ++ local_stores e spare_zone xs)
    go true n = n
    go false n = n
spare_sees e (reset d z ∷ xs) k = rw (ne_eqb spare_zone z (λ q. k.each (reset d z) (Memᴰ.head refl) (sym q))) (go (eqb e d) (spare_sees e xs (off_rest (reset d z) xs k)))
  where
    go : (b : Bool) → OnlyFlush (local_stores e spare_zone xs) → OnlyFlush (pick (b && false) (reset_here ∷ []) [] ++ local_stores e spare_zone xs)
    go true n = n
    go false n = n
spare_sees e (flush d ∷ xs) k = go (eqb e d) (spare_sees e xs (off_rest (flush d) xs k))
  where
    go : (b : Bool) → OnlyFlush (local_stores e spare_zone xs) → OnlyFlush (pick b (flush_here ∷ []) [] ++ local_stores e spare_zone xs)
    go true n = n
    go false n = n

only_flush_front : (os ps : List LocalStore) → OnlyFlush (os ++ ps) → OnlyFlush os
only_flush_front [] ps n = tt
only_flush_front (append_here s ∷ os) ps n = n
only_flush_front (reset_here ∷ os) ps n = n
only_flush_front (flush_here ∷ os) ps n = only_flush_front os ps n

pub only_flush_part : (os ps : List LocalStore) → Prefix os ps → OnlyFlush ps → OnlyFlush os
only_flush_part os ps p n = only_flush_front os p.rest (rw p.is n)

-- ---- a device t, put back from v after the carried stores xs
module _ (g : Geometry) (x : ℕ) (v : Device) (c : LogGenerations) (s : Standing g x v c) (xs : List Store) (o : Ordinary g x xs) (t : Device) (k : Delayed g x v (map (carry (places g v)) xs) t) where
  abbrev ρ : ℕ → ℕ → ℕ
  ρ = places g v

  place_is : (e : ℕ) → Here g x e → ρ e ≡ zone_of_role (s.roles e)
  place_is e a = ap zone_of_role (firm_roles g v e (s.roles e) (s.firm e a))

  one : (e : ℕ) → Here g x e → OneToOne (ρ e)
  one e a = rw (place_is e a) (role_one_to_one (s.roles e) (s.firm e a).proper)

  seen_before : (e : ℕ) → Here g x e → (y : ℕ) → v e (ρ e y) ≡ by_roles g v e y
  seen_before e a y = ap (λ (f : ℕ → ℕ). v e (f y)) (place_is e a) ∙ sym (firm_seen g v e (s.roles e) (s.firm e a) y)

  -- by the roles of before
  pub seen_back : Device
  seen_back e y = pick (present_but g x e) (t e (ρ e y)) (apply_all xs (by_roles g v) e y)

  seen_here : (e : ℕ) → Here g x e → (y : ℕ) → seen_back e y ≡ t e (ρ e y)
  unfolding seen_back
  seen_here e a y = rw a refl

  pub seen_back_delayed : Delayed g x (by_roles g v) xs seen_back
  unfolding seen_back
  seen_back_delayed = record { at = λ e y. go e y (present_but g x e) refl }
    where
      go : (e y : ℕ) (b : Bool) → present_but g x e ≡ b → (seen_back e y ≡ (apply_all_caching xs (uncached (by_roles g v))).now e y) ⊎ (Here g x e × Memᴰ (seen_back e y) ((apply_all_caching xs (uncached (by_roles g v))).was e y))
      go e y true a = delayed_at g x (by_roles g v) xs seen_back e y a (rw (seen_here e a y, ← seen_before e a y, ← carried_local ρ e y (one e a) xs) (back_here g x (uncached v) (map (carry ρ) xs) t k e (ρ e y)))
      go e y false a = inl (rw a (ap (λ (u : Device). u e y) (sym (now_is xs (uncached (by_roles g v))))))

  spare_is : (e : ℕ) → Here g x e → (t e (s.roles e).spare).sectors ≡ (v e (s.roles e).spare).sectors
  spare_is e a =
      let z = ρ e spare_zone in
      let (os, p, q) = back_part (local_stores e z (map (carry ρ) xs)) (v e z) (t e z) (back_here g x (uncached v) (map (carry ρ) xs) t k e z) in
      let n : OnlyFlush (local_stores e z (map (carry ρ) xs)) = rw (carried_local ρ e spare_zone (one e a) xs) (spare_sees e xs o.off) in
      let h : (t e z).sectors ≡ (v e z).sectors = ap (λ (b : ZoneView). b.sectors) q ∙ only_flush_sectors os (v e z) (only_flush_part os (local_stores e z (map (carry ρ) xs)) p n) in
      rw (place_is e a) at h

  -- THE ROLES STAND AND THE INVARIANT HOLDS, as by the roles of before
  pub ordinary_delayed : (l : Ledger) → Invs c g x seen_back l → Standing g x t c × Invs c g x (by_roles g t) l
  ordinary_delayed l (δ, i, same) = (record { roles = s.roles; firm = firm; general_claim_lem = s.general_claim_lem; parity_claim_lem = s.parity_claim_lem }, (with_logs δ δ.general δ.parity, spare_inv g x seen_back (by_roles g t) seen δ l i, same))
    where
      at : (e : ℕ) → Here g x e → (y : ℕ) → seen_back e y ≡ t e (zone_of_role (s.roles e) y)
      at e a y = seen_here e a y ∙ ap (λ (f : ℕ → ℕ). t e (f y)) (place_is e a)

      firm : (e : ℕ) → Here g x e → Firm g t e (s.roles e)
      firm e a = firm_of_logs g x t seen_back δ i.logs e a (s.roles e) (at e a) (s.firm e a).proper (rw same (s.general_claim_lem e a)) (rw same (s.parity_claim_lem e a)) (λ n. rw (spare_is e a) ((s.firm e a).spare_loses n))

      is : (e y : ℕ) → Here g x e → by_roles g t e y ≡ seen_back e y
      is e y a = firm_seen g t e (s.roles e) (firm e a) y ∙ sym (at e a y)

      seen : SameButSpares g x seen_back (by_roles g t)
      seen = record {
        same = λ e y a h. is e y a;
        lasts = λ e a. rw (is e spare_zone a) (i.logs.lasting e spare_zone a (omega arith));
        fits = λ e a. rw (is e spare_zone a) (i.logs.place_fits e spare_zone a (omega arith));
      }

-- ---- behind which nothing is remembered by the roles, nothing is
role_any : (r : Roles) → Proper r → (y : ℕ) → (i : ℕ) × (y ≡ zone_of_role r i)
role_any r p y = go (dec_lt y 3)
  where
    first : RoleOf r y → (i : ℕ) × (y ≡ zone_of_role r i)
    first (is_general e) = (0, e)
    first (is_parity e) = (1, e)
    first (is_spare e) = (2, e)

    go : Dec (y < 3) → (i : ℕ) × (y ≡ zone_of_role r i)
    go (yes k) = first (role_of r p y k)
    go (no k) = (suc (suc (suc (y - 3))), omega arith)

pub ordinary_forgets : (g : Geometry) (x : ℕ) (v : Device) (c : LogGenerations) → Standing g x v c → (xs : List Store) → Forgets g x (by_roles g v) xs → Forgets g x v (map (carry (places g v)) xs)
ordinary_forgets g x v c s xs f = record { none = λ e y a. go e y a (role_any (s.roles e) (s.firm e a).proper y) }
  where
    at : (e : ℕ) → Here g x e → (i : ℕ) → remember_here (local_stores e (places g v e i) (map (carry (places g v)) xs)) (v e (places g v e i)) [] ≡ []
    at e a i =
        let q : places g v e ≡ zone_of_role (s.roles e) = ap zone_of_role (firm_roles g v e (s.roles e) (s.firm e a)) in
        let one : OneToOne (places g v e) = rw q (role_one_to_one (s.roles e) (s.firm e a).proper) in
        let b : v e (places g v e i) ≡ by_roles g v e i = ap (λ (h : ℕ → ℕ). v e (h i)) q ∙ sym (firm_seen g v e (s.roles e) (s.firm e a) i) in
        ap₂ (λ (os : List LocalStore) (z : ZoneView). remember_here os z []) (carried_local (places g v) e i one xs) b ∙ f.none e i a

    go : (e y : ℕ) (a : Here g x e) → (i : ℕ) × (y ≡ zone_of_role (s.roles e) i) → remember_here (local_stores e y (map (carry (places g v)) xs)) (v e y) [] ≡ []
    go e y a (i, q) =
        let p : places g v e i ≡ y = ap (λ (r : Roles). zone_of_role r i) (firm_roles g v e (s.roles e) (s.firm e a)) ∙ sym q in
        subst (λ (z : ℕ). remember_here (local_stores e z (map (carry (places g v)) xs)) (v e z) [] ≡ []) p (at e a i)
