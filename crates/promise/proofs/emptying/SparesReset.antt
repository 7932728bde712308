-- A mount first resets the spares that have sectors written: only spares change, and a blank one claims nothing more than its place gives. So the roles stand
-- as they were, the invariant holds as before, and a look shows the same.
use Rattle.std.specs.Prelude.{◌≡◌, refl, ◌≢◌, ◌⊎◌, Bool, true, false, ◌&&◌, ℕ, zero, suc, ◌≤◌, ◌<◌, length, take, eqb}
use Rattle.std.proofs.Common.{sym, ap, ◌∙◌, inl, inr, zero-le, le_refl, not-suc-le-zero, arith, eq-eqb, ne_eqb}
use Rattle.std.proofs.Math.Decide.{ℕ_discrete}
use mathlib.Core.List.{List, [], ◌∷◌, ◌++◌, map, Memᴰ}
use Rattle.std.proofs.Math.Seq.{take-nil}
use Rattle.tables.specs.meaning.Basics.{pick}
use Rattle.tables.specs.meaning.Below.{each_below}
use Rattle.tables.specs.laws.Lists.{Prefix, prefix_of_nil, mem_take, mem_left, mem_right, mem_append, mem_nil, map_append}
use Rattle.tables.specs.meaning.Device.{ZoneView, Device, Store, reset, store_drive, blank_zone, put_zone, apply, apply_all}
use Rattle.tables.specs.laws.Device.{put_zone_same, put_zone_other_drive, put_zone_other_zone}
use Rattle.tables.specs.laws.Local.{LocalStore, append_here, reset_here, flush_here, apply_all_here, local_stores}
use Rattle.tables.specs.meaning.Cached.{uncached}
use Rattle.tables.specs.meaning.Phases.{on_present}
use Rattle.tables.specs.meaning.Through.{carry}
use Rattle.tables.specs.meaning.Drives.{present_but}
use Rattle.tables.specs.laws.Drives.{present_below}
use Rattle.tables.specs.declared.Geometry.{Geometry}
use Rattle.logs.specs.meaning.Entry.{spare_zone}
use Rattle.volume.specs.meaning.Roles.{strength, Roles, roles, zone_of_role, placed_by, by_roles}
use Rattle.volume.specs.meaning.Emptying.{spare_written}
use Rattle.volume.specs.laws.Firm.{Firm, proper_apart, role_one_to_one, firm_roles, firm_seen}
use Rattle.promise.specs.meaning.Ledger.{Ledger}
use Rattle.promise.proofs.invariant.Invariant.{Here, LogGenerations}
use Rattle.promise.proofs.invariant.Obligations.{Invs}
use Rattle.promise.proofs.invariant.Delayed.{Delayed, back_here, back_part}
use Rattle.promise.proofs.invariant.HoldsLess.{with_logs}
use Rattle.promise.proofs.roles.Spares.{SameButSpares, spare_inv}
use Rattle.promise.proofs.roles.Roled.{Standing}
use Rattle.promise.proofs.roles.RoledCalls.{RoledInvs}
use Rattle.promise.proofs.emptying.CanEmpty.{spare_blank}

-- ---- only spares changed (r: the drives' roles), and those that did are blank
pub record SparesBlanked (g : Geometry) (x : ℕ) (r : ℕ → Roles) (v w : Device) : Type 0 where
  pub others : (e y : ℕ) → Here g x e → y ≢ (r e).spare → w e y ≡ v e y
  pub spares : (e : ℕ) → Here g x e → (w e (r e).spare ≡ v e (r e).spare) ⊎ (w e (r e).spare ≡ blank_zone)

module _ (g : Geometry) (x : ℕ) (c : LogGenerations) (v w : Device) (s : Standing g x v c) (k : SparesBlanked g x (roles g v) v w) where
  roles_is : (e : ℕ) → Here g x e → roles g v e ≡ s.roles e
  roles_is e a = firm_roles g v e (s.roles e) (s.firm e a)

  other : (e y : ℕ) → Here g x e → y ≢ (s.roles e).spare → w e y ≡ v e y
  other e y a n = k.others e y a (λ q. n (q ∙ ap (λ (t : Roles). t.spare) (roles_is e a)))

  spare : (e : ℕ) → Here g x e → (w e (s.roles e).spare ≡ v e (s.roles e).spare) ⊎ (w e (s.roles e).spare ≡ blank_zone)
  spare e a = rw (roles_is e a) at (k.spares e a)

  blanked_firm : (e : ℕ) → Here g x e → Firm g w e (s.roles e)
  blanked_firm e a =
      let f = s.firm e a in
      let n = proper_apart (s.roles e) f.proper in
      record {
        proper = f.proper;
        general_firm = rw (other e (s.roles e).general a n.1) f.general_firm;
        parity_firm = rw (other e (s.roles e).parity a n.2) f.parity_firm;
        spare_loses = λ j. loses j (spare e a);
      }
    where
      loses : (j : ℕ) → (w e (s.roles e).spare ≡ v e (s.roles e).spare) ⊎ (w e (s.roles e).spare ≡ blank_zone)
          → (strength g e false (s.roles e).spare (take j (w e (s.roles e).spare).sectors) < (s.roles e).general_claim) × (strength g e true (s.roles e).spare (take j (w e (s.roles e).spare).sectors) < (s.roles e).parity_claim)
      loses j (inl q) = rw q ((s.firm e a).spare_loses j)
      loses j (inr q) = rw (q, take-nil j) ((s.firm e a).spare_loses 0)

  -- THE ROLES STAND
  pub blanked_standing : Standing g x w c
  blanked_standing = record { roles = s.roles; firm = blanked_firm; general_claim_lem = s.general_claim_lem; parity_claim_lem = s.parity_claim_lem }

  pub blanked_roles : (e : ℕ) → Here g x e → roles g w e ≡ roles g v e
  blanked_roles e a = firm_roles g w e (s.roles e) (blanked_firm e a) ∙ sym (roles_is e a)

  -- by them only the spares changed
  pub blanked_seen : (e y : ℕ) → Here g x e → y ≢ spare_zone → by_roles g w e y ≡ by_roles g v e y
  blanked_seen e y a n = rw (firm_seen g w e (s.roles e) (blanked_firm e a) y, firm_seen g v e (s.roles e) (s.firm e a) y) (other e (zone_of_role (s.roles e) y) a (λ t. n (role_one_to_one (s.roles e) (s.firm e a).proper y spare_zone t)))

  -- THE INVARIANT HOLDS
  pub blanked_invs : (l : Ledger) → Invs c g x (by_roles g v) l → RoledInvs c g x w l
  blanked_invs l (γ, i, q) = (blanked_standing, (with_logs γ γ.general γ.parity, spare_inv g x (by_roles g v) (by_roles g w) same γ l i, q))
    where
      fine : (e : ℕ) → (a : Here g x e) → (w e (s.roles e).spare ≡ v e (s.roles e).spare) ⊎ (w e (s.roles e).spare ≡ blank_zone) → ((w e (s.roles e).spare).durable ≤ length (w e (s.roles e).spare).sectors) × (length (w e (s.roles e).spare).sectors ≤ g.capacity)
      fine e a (inl t) = rw (t, ← firm_seen g v e (s.roles e) (s.firm e a) spare_zone) (i.logs.lasting e spare_zone a (omega arith), i.logs.place_fits e spare_zone a (omega arith))
      fine e a (inr t) = rw t (le_refl 0, zero-le)

      same : SameButSpares g x (by_roles g v) (by_roles g w)
      same = record {
        same = λ e y a n. blanked_seen e y a n;
        lasts = λ e a. rw (firm_seen g w e (s.roles e) (blanked_firm e a) spare_zone) (fine e a (spare e a)).0;
        fits = λ e a. rw (firm_seen g w e (s.roles e) (blanked_firm e a) spare_zone) (fine e a (spare e a)).1;
      }

-- ---- stores that are resets of spares
pub record SpareResets (r : ℕ → Roles) (xs : List Store) : Type 0 where
  pub each : (s : Store) → Memᴰ s xs → (d : ℕ) × (s ≡ reset d (r d).spare)

resets_rest : (r : ℕ → Roles) (s : Store) (xs : List Store) → SpareResets r (s ∷ xs) → SpareResets r xs
resets_rest r s xs k = record { each = λ t m. k.each t (Memᴰ.tail m) }

pub resets_part : (r : ℕ → Roles) (n : ℕ) (xs : List Store) → SpareResets r xs → SpareResets r (take n xs)
resets_part r n xs k = record { each = λ t m. k.each t (mem_take n xs t m) }

pub resets_others : (r : ℕ → Roles) (xs : List Store) (v : Device) → SpareResets r xs → (e y : ℕ) → y ≢ (r e).spare → apply_all xs v e y ≡ v e y
resets_others r [] v k e y n = refl
resets_others r (s ∷ xs) v k e y n = resets_others r xs (apply s v) (resets_rest r s xs k) e y n ∙ (let (d, q) = k.each s (Memᴰ.head refl) in rw q (one d (ℕ_discrete e d)))
  where
    one : (d : ℕ) → Dec (e ≡ d) → put_zone v d (r d).spare blank_zone e y ≡ v e y
    one d (yes p) = put_zone_other_zone v d (r d).spare blank_zone e y (λ t. n (t ∙ ap (λ (i : ℕ). (r i).spare) (sym p)))
    one d (no p) = put_zone_other_drive v d (r d).spare blank_zone e y p

pub resets_spares : (r : ℕ → Roles) (xs : List Store) (v : Device) → SpareResets r xs → (e : ℕ) → (apply_all xs v e (r e).spare ≡ v e (r e).spare) ⊎ (apply_all xs v e (r e).spare ≡ blank_zone)
resets_spares r [] v k e = inl refl
resets_spares r (s ∷ xs) v k e = let (d, q) = k.each s (Memᴰ.head refl) in go d q (ℕ_discrete e d) (resets_spares r xs (apply s v) (resets_rest r s xs k) e)
  where
    go : (d : ℕ) → s ≡ reset d (r d).spare → Dec (e ≡ d) → (apply_all xs (apply s v) e (r e).spare ≡ apply s v e (r e).spare) ⊎ (apply_all xs (apply s v) e (r e).spare ≡ blank_zone)
        → (apply_all xs (apply s v) e (r e).spare ≡ v e (r e).spare) ⊎ (apply_all xs (apply s v) e (r e).spare ≡ blank_zone)
    go d q p (inr h) = inr h
    go d q (yes p) (inl h) = inr (h ∙ rw (q, p) (put_zone_same v d (r d).spare blank_zone))
    go d q (no p) (inl h) = inl (h ∙ rw q (put_zone_other_drive v d (r d).spare blank_zone e (r e).spare p))

-- what a place sees of them: a spare resets, any other nothing
abbrev AllResets : List LocalStore → Type 0
AllResets [] = Unit {0}
AllResets (append_here s ∷ os) = ⊥
AllResets (reset_here ∷ os) = AllResets os
AllResets (flush_here ∷ os) = ⊥

resets_seen : (r : ℕ → Roles) (xs : List Store) → SpareResets r xs → (e y : ℕ) → AllResets (local_stores e y xs)
resets_seen r [] k e y = tt
resets_seen r (s ∷ xs) k e y = let (d, q) = k.each s (Memᴰ.head refl) in rw q (go (eqb e d && eqb y (r d).spare) (resets_seen r xs (resets_rest r s xs k) e y))
  where
    go : (b : Bool) → AllResets (local_stores e y xs) → AllResets (pick b (reset_here ∷ []) [] ++ local_stores e y xs)
    go true n = n
    go false n = n

resets_unseen : (r : ℕ → Roles) (xs : List Store) → SpareResets r xs → (e y : ℕ) → y ≢ (r e).spare → local_stores e y xs ≡ []
resets_unseen r [] k e y n = refl
resets_unseen r (s ∷ xs) k e y n = let (d, q) = k.each s (Memᴰ.head refl) in rw q (one d (ℕ_discrete e d) (resets_unseen r xs (resets_rest r s xs k) e y n))
  where
    one : (d : ℕ) → Dec (e ≡ d) → local_stores e y xs ≡ [] → pick (eqb e d && eqb y (r d).spare) (reset_here ∷ []) [] ++ local_stores e y xs ≡ []
    one d (yes p) h = rw (ne_eqb y (r d).spare (λ t. n (t ∙ ap (λ (i : ℕ). (r i).spare) (sym p))), eq-eqb e d p) h
    one d (no p) h = rw (ne_eqb e d p) h

resets_leave : (os ps : List LocalStore) (a : ZoneView) → Prefix os ps → AllResets ps → (apply_all_here os a ≡ a) ⊎ (apply_all_here os a ≡ blank_zone)
resets_leave os ps a p n = go os a (front os p.rest (rw p.is n))
  where
    front : (os ps : List LocalStore) → AllResets (os ++ ps) → AllResets os
    front [] ps n = tt
    front (append_here s ∷ os) ps n = n
    front (reset_here ∷ os) ps n = front os ps n
    front (flush_here ∷ os) ps n = n

    blank : (os : List LocalStore) → AllResets os → apply_all_here os blank_zone ≡ blank_zone
    blank [] n = refl
    blank (append_here s ∷ os) n = absurd n
    blank (reset_here ∷ os) n = blank os n
    blank (flush_here ∷ os) n = absurd n

    go : (os : List LocalStore) (a : ZoneView) → AllResets os → (apply_all_here os a ≡ a) ⊎ (apply_all_here os a ≡ blank_zone)
    go [] a n = inl refl
    go (append_here s ∷ os) a n = absurd n
    go (reset_here ∷ os) a n = inr (blank os n)
    go (flush_here ∷ os) a n = absurd n

-- put back or not, only spares changed, and each is as it was or blank
pub resets_delayed : (g : Geometry) (x : ℕ) (r : ℕ → Roles) (xs : List Store) (v u : Device) → SpareResets r xs → Delayed g x v xs u → SparesBlanked g x r v u
resets_delayed g x r xs v u k h = record { others = λ e y a n. unseen e y (part e y) (resets_unseen r xs k e y n); spares = λ e a. seen e (r e).spare (part e (r e).spare) }
  where
    part : (e y : ℕ) → (os : List LocalStore) × Prefix os (local_stores e y xs) × (u e y ≡ apply_all_here os (v e y))
    part e y = back_part (local_stores e y xs) (v e y) (u e y) (back_here g x (uncached v) xs u h e y)

    unseen : (e y : ℕ) → (os : List LocalStore) × Prefix os (local_stores e y xs) × (u e y ≡ apply_all_here os (v e y)) → local_stores e y xs ≡ [] → u e y ≡ v e y
    unseen e y (os, p, q) n = q ∙ ap (λ (t : List LocalStore). apply_all_here t (v e y)) (prefix_of_nil os (local_stores e y xs) p n)

    seen : (e y : ℕ) → (os : List LocalStore) × Prefix os (local_stores e y xs) × (u e y ≡ apply_all_here os (v e y)) → (u e y ≡ v e y) ⊎ (u e y ≡ blank_zone)
    seen e y (os, p, q) = rw q (resets_leave os (local_stores e y xs) (v e y) p (resets_seen r xs k e y))

-- one of them that is there leaves its spare blank
pub resets_blank : (r : ℕ → Roles) (xs : List Store) (v : Device) → SpareResets r xs → (d : ℕ) → Memᴰ (reset d (r d).spare) xs → apply_all xs v d (r d).spare ≡ blank_zone
resets_blank r (s ∷ xs) v k d (Memᴰ.tail m) = resets_blank r xs (apply s v) (resets_rest r s xs k) d m
resets_blank r (s ∷ xs) v k d (Memᴰ.head q) = go (resets_spares r xs (apply s v) (resets_rest r s xs k) d)
  where
    go : (apply_all xs (apply s v) d (r d).spare ≡ apply s v d (r d).spare) ⊎ (apply_all xs (apply s v) d (r d).spare ≡ blank_zone) → apply_all xs (apply s v) d (r d).spare ≡ blank_zone
    go (inr h) = h
    go (inl h) = h ∙ rw (← q) (put_zone_same v d (r d).spare blank_zone)
resets_blank r [] v k d x'' = elim x'' [ ]

-- ---- the step of a mount: the spares that have sectors written (w: the device by the roles r), on the present drives
abbrev pub spare_resets : Geometry → Device → List Store
spare_resets g w = each_below (λ d. pick (spare_written w d) (reset d spare_zone ∷ []) []) g.drives

abbrev pub carried_resets : Geometry → (ℕ → Bool) → (ℕ → Roles) → Device → List Store
carried_resets g present r w = on_present present (map (carry (placed_by r)) (spare_resets g w))

on_present_mem : (a : ℕ → Bool) (xs : List Store) (s : Store) → Memᴰ s (on_present a xs) → Memᴰ s xs
on_present_mem a [] s m = m
on_present_mem a (t ∷ xs) s m = go (a (store_drive t)) m (λ k. on_present_mem a xs s k)
  where
    go : (b : Bool) → Memᴰ s (pick b (t ∷ on_present a xs) (on_present a xs)) → (Memᴰ s (on_present a xs) → Memᴰ s xs) → Memᴰ s (t ∷ xs)
    go true (Memᴰ.head q) ih = Memᴰ.head q
    go true (Memᴰ.tail k) ih = Memᴰ.tail (ih k)
    go false k ih = Memᴰ.tail (ih k)

mem_on_present : (a : ℕ → Bool) (xs : List Store) (s : Store) → a (store_drive s) ≡ true → Memᴰ s xs → Memᴰ s (on_present a xs)
mem_on_present a (t ∷ xs) s h (Memᴰ.head q) = rw (← q, h) (Memᴰ.head refl)
mem_on_present a (t ∷ xs) s h (Memᴰ.tail k) = go (a (store_drive t)) (mem_on_present a xs s h k)
  where
    go : (b : Bool) → Memᴰ s (on_present a xs) → Memᴰ s (pick b (t ∷ on_present a xs) (on_present a xs))
    go true m = Memᴰ.tail m
    go false m = m
mem_on_present a [] s h x'' = elim x'' [ ]

module _ (r : ℕ → Roles) (w : Device) where
  -- of the drives below n, and of drive n
  abbrev below : ℕ → List Store
  below n = map (carry (placed_by r)) (each_below (λ d. pick (spare_written w d) (reset d spare_zone ∷ []) []) n)

  abbrev of : ℕ → List Store
  of n = map (carry (placed_by r)) (pick (spare_written w n) (reset n spare_zone ∷ []) [])

  below_suc : (n : ℕ) → below (suc n) ≡ below n ++ of n
  below_suc n = map_append (carry (placed_by r)) (each_below (λ d. pick (spare_written w d) (reset d spare_zone ∷ []) []) n) (pick (spare_written w n) (reset n spare_zone ∷ []) [])

  abbrev IsReset : Store → Type 0
  IsReset s = (d : ℕ) × (s ≡ reset d (r d).spare)

  carried_mem : (n : ℕ) (s : Store) → Memᴰ s (below n) → IsReset s
  carried_mem zero s m = mem_nil s m
  carried_mem (suc n) s m = go (mem_append (below n) (of n) s (rw (below_suc n) at m)) (λ k. carried_mem n s k)
    where
      one : (b : Bool) → Memᴰ s (map (carry (placed_by r)) (pick b (reset n spare_zone ∷ []) [])) → IsReset s
      one true (Memᴰ.head q) = (n, q)
      one true (Memᴰ.tail k) = mem_nil s k
      one false k = mem_nil s k

      go : Memᴰ s (below n) ⊎ Memᴰ s (of n) → (Memᴰ s (below n) → IsReset s) → IsReset s
      go (inl k) ih = ih k
      go (inr k) ih = one (spare_written w n) k

  mem_carried : (n d : ℕ) → d < n → spare_written w d ≡ true → Memᴰ (reset d (r d).spare) (below n)
  mem_carried zero d h b = absurd (not-suc-le-zero h)
  mem_carried (suc n) d h b = rw (below_suc n) (go (ℕ_discrete d n) (λ k. mem_carried n d k b))
    where
      go : Dec (d ≡ n) → (d < n → Memᴰ (reset d (r d).spare) (below n)) → Memᴰ (reset d (r d).spare) (below n ++ of n)
      go (yes q) ih = mem_right (below n) (of n) (reset d (r d).spare) (rw (← q, b) (Memᴰ.head refl))
      go (no q) ih = mem_left (below n) (of n) (reset d (r d).spare) (ih (omega (arith, h, q)))

pub carried_resets_lem : (g : Geometry) (present : ℕ → Bool) (r : ℕ → Roles) (w : Device) → SpareResets r (carried_resets g present r w)
carried_resets_lem g present r w = record { each = λ s m. carried_mem r w g.drives s (on_present_mem present (map (carry (placed_by r)) (spare_resets g w)) s m) }

-- ==== the step, of a device v
module _ (g : Geometry) (x : ℕ) (c : LogGenerations) (v : Device) (l : Ledger) (ri : RoledInvs c g x v l) where
  abbrev xs : List Store
  xs = carried_resets g (present_but g x) (roles g v) (by_roles g v)

  -- STOPPED, spares put back or not
  pub spares_part : (n : ℕ) (u : Device) → Delayed g x v (take n xs) u → RoledInvs c g x u l
  spares_part n u h = blanked_invs g x c v u ri.0 (resets_delayed g x (roles g v) (take n xs) v u (resets_part (roles g v) n xs (carried_resets_lem g (present_but g x) (roles g v) (by_roles g v))) h) l ri.1

  -- FINISHED: only spares changed, and each present drive's is blank
  pub spares_done : SparesBlanked g x (roles g v) v (apply_all xs v)
  spares_done = let k = carried_resets_lem g (present_but g x) (roles g v) (by_roles g v) in record { others = λ e y a t. resets_others (roles g v) xs v k e y t; spares = λ e a. resets_spares (roles g v) xs v k e }

  pub spares_blank : (d : ℕ) → Here g x d → (apply_all xs v d (roles g v d).spare).sectors ≡ []
  spares_blank d a = go (spare_written (by_roles g v) d) refl (resets_spares (roles g v) xs v (carried_resets_lem g (present_but g x) (roles g v) (by_roles g v)) d)
    where
      go : (b : Bool) → spare_written (by_roles g v) d ≡ b → (apply_all xs v d (roles g v d).spare ≡ v d (roles g v d).spare) ⊎ (apply_all xs v d (roles g v d).spare ≡ blank_zone) → (apply_all xs v d (roles g v d).spare).sectors ≡ []
      go true b k =
          let m = mem_on_present (present_but g x) (map (carry (placed_by (roles g v))) (spare_resets g (by_roles g v))) (reset d (roles g v d).spare) a (mem_carried (roles g v) (by_roles g v) g.drives d (present_below g x d a) b) in
          ap (λ (z : ZoneView). z.sectors) (resets_blank (roles g v) xs v (carried_resets_lem g (present_but g x) (roles g v) (by_roles g v)) d m)
      go false b (inl k) = ap (λ (z : ZoneView). z.sectors) k ∙ spare_blank g v d b
      go false b (inr k) = ap (λ (z : ZoneView). z.sectors) k
