-- What the stores of emptyings leave whatever they began with: all of the present drives lasts; the old zone of each emptied log is blank; the other drives hold
-- the sectors that they held. (v: the device before; r: the roles that the stores go by; ss: of each drive, the new log's sectors.)
use Rattle.std.specs.Prelude.{◌≡◌, refl, ◌≢◌, ◌⊎◌, Bool, true, false, ◌&&◌, ℕ, zero, suc, ◌≤◌, ◌<◌, List, [], ◌∷◌, ◌++◌, length, eqb}
use Rattle.std.proofs.Common.{sym, ap, ◌∙◌, subst, inl, inr, true≢false, not-suc-le-zero, arith, ne_eqb}
use Rattle.std.proofs.Math.Decide.{ℕ_discrete}
use Rattle.tables.specs.meaning.Basics.{pick}
use Rattle.tables.specs.meaning.Below.{each_below}
use Rattle.tables.specs.meaning.Device.{ZoneView, Device, Store, reset, blank_zone, apply_all}
use Rattle.tables.specs.laws.Device.{apply_all_append, put_zone_same}
use Rattle.tables.specs.laws.Local.{LocalStore, reset_here, apply_all_here, local_stores, local_is}
use Rattle.tables.specs.meaning.Drives.{present_but}
use Rattle.tables.specs.declared.Geometry.{Geometry}
use Rattle.volume.specs.meaning.Calls.{append_all, flush_stores}
use Rattle.volume.specs.meaning.Roles.{Roles, zone_of_kind}
use Rattle.volume.specs.meaning.Emptying.{emptying_stores, emptyings}
use Rattle.promise.proofs.invariant.Invariant.{Here}
use Rattle.promise.proofs.calls.WriteLocal.{appends_other_zone, appends_other_drive}
use Rattle.promise.proofs.emptying.EmptyingStops.{Solid, emptying_whole}
use Rattle.promise.proofs.emptying.FlushedRests.{flushed_all, flush_sectors, flush_solid}

module _ (g : Geometry) (x : ℕ) where
  -- ---- a reset
  reset_sees : (d y e z : ℕ) (b : ZoneView) (Q : ZoneView → Type 0) → Q b → Q blank_zone → Q (apply_all_here (local_stores e z (reset d y ∷ [])) b)
  reset_sees d y e z b Q p q = go (eqb e d && eqb z y)
    where
      go : (c : Bool) → Q (apply_all_here (pick c (reset_here ∷ []) [] ++ []) b)
      go true = q
      go false = p

  reset_solid : (d y : ℕ) (u : Device) → Solid g x u → Solid g x (apply_all (reset d y ∷ []) u)
  reset_solid d y u s e z a = rw (local_is e z (reset d y ∷ []) u) (reset_sees d y e z (u e z) (λ b. b.durable ≡ length b.sectors) (s e z a) refl)

  -- ---- one emptying
  module _ (d old spare : ℕ) (ss : List (List ℕ)) (u : Device) where
    abbrev u1 : Device
    u1 = flushed_all g x u

    abbrev u2 : Device
    u2 = apply_all (append_all d spare ss) u1

    abbrev u3 : Device
    u3 = flushed_all g x u2

    whole_is : apply_all (emptying_stores g (present_but g x) d old spare ss) u ≡ apply_all (reset d old ∷ []) u3
    whole_is =
        emptying_whole g x d old spare ss u ∙ apply_all_append (append_all d spare ss ++ flush_stores g (present_but g x)) (reset d old ∷ []) u1
        ∙ ap (λ (w : Device). apply_all (reset d old ∷ []) w) (apply_all_append (append_all d spare ss) (flush_stores g (present_but g x)) u1)

    emptied_solid : Solid g x (apply_all (emptying_stores g (present_but g x) d old spare ss) u)
    emptied_solid = rw whole_is (reset_solid d old u3 (flush_solid g x u2))

    emptied_old : (apply_all (emptying_stores g (present_but g x) d old spare ss) u d old).sectors ≡ []
    emptied_old = rw whole_is (ap (λ (z : ZoneView). z.sectors) (put_zone_same u3 d old blank_zone))

    emptied_other : (e y : ℕ) → Here g x e → e ≢ d → (apply_all (emptying_stores g (present_but g x) d old spare ss) u e y).sectors ≡ (u e y).sectors
    emptied_other e y a n =
        let r : local_stores e y (reset d old ∷ []) ≡ [] = rw (ne_eqb e d n) refl in
        ap (λ (w : Device). (w e y).sectors) whole_is ∙ ap (λ (z : ZoneView). z.sectors) (local_is e y (reset d old ∷ []) u3 ∙ ap (λ (os : List LocalStore). apply_all_here os (u3 e y)) r) ∙ flush_sectors g x u2 e y a
        ∙ ap (λ (z : ZoneView). z.sectors) (local_is e y (append_all d spare ss) u1 ∙ ap (λ (os : List LocalStore). apply_all_here os (u1 e y)) (go (ℕ_discrete y spare))) ∙ flush_sectors g x u e y a
      where
        go : Dec (y ≡ spare) → local_stores e y (append_all d spare ss) ≡ []
        go (yes q) = rw q (appends_other_drive e d spare ss n)
        go (no q) = appends_other_zone e d y spare ss q

  -- ---- all of them
  module _ (par : Bool) (r : ℕ → Roles) (emptied : ℕ → Bool) (ss : ℕ → List (List ℕ)) (v : Device) where
    abbrev one : ℕ → List Store
    one d = pick (emptied d) (emptying_stores g (present_but g x) d (zone_of_kind par (r d)) (r d).spare (ss d)) []

    pub record Leaves (m : ℕ) (u : Device) : Type 0 where
      pub solid : Solid g x v → Solid g x u
      pub old : (e : ℕ) → Here g x e → e < m → emptied e ≡ true → (u e (zone_of_kind par (r e))).sectors ≡ []
      pub same : (e : ℕ) → Here g x e → (m ≤ e) ⊎ (emptied e ≡ false) → (y : ℕ) → (u e y).sectors ≡ (v e y).sectors

    next : (m : ℕ) (u : Device) → Leaves m u → (b : Bool) → emptied m ≡ b → Leaves (suc m) (apply_all (pick b (emptying_stores g (present_but g x) m (zone_of_kind par (r m)) (r m).spare (ss m)) []) u)
    next m u p false b = record {
      solid = p.solid;
      old = λ e a h t. p.old e a (less e h t (ℕ_discrete e m)) t;
      same = λ e a h y. p.same e a (more e h) y;
    }
      where
        less : (e : ℕ) → e < suc m → emptied e ≡ true → Dec (e ≡ m) → e < m
        less e h t (yes q) = absurd (true≢false (sym t ∙ ap emptied q ∙ b))
        less e h t (no q) = omega (arith, h, q)

        more : (e : ℕ) → (suc m ≤ e) ⊎ (emptied e ≡ false) → (m ≤ e) ⊎ (emptied e ≡ false)
        more e (inl h) = inl (omega (arith, h))
        more e (inr h) = inr h
    next m u p true b = record {
      solid = λ s. emptied_solid m (zone_of_kind par (r m)) (r m).spare (ss m) u;
      old = λ e a h t. gone e a h t (ℕ_discrete e m);
      same = λ e a h y. kept e a h y (ℕ_discrete e m);
    }
      where
        gone : (e : ℕ) → Here g x e → e < suc m → emptied e ≡ true → Dec (e ≡ m) → (apply_all (emptying_stores g (present_but g x) m (zone_of_kind par (r m)) (r m).spare (ss m)) u e (zone_of_kind par (r e))).sectors ≡ []
        gone e a h t (yes q) = rw q (emptied_old m (zone_of_kind par (r m)) (r m).spare (ss m) u)
        gone e a h t (no q) = emptied_other m (zone_of_kind par (r m)) (r m).spare (ss m) u e (zone_of_kind par (r e)) a q ∙ p.old e a (omega (arith, h, q)) t

        kept : (e : ℕ) → Here g x e → (suc m ≤ e) ⊎ (emptied e ≡ false) → (y : ℕ) → Dec (e ≡ m) → (apply_all (emptying_stores g (present_but g x) m (zone_of_kind par (r m)) (r m).spare (ss m)) u e y).sectors ≡ (v e y).sectors
        kept e a (inl h) y q = emptied_other m (zone_of_kind par (r m)) (r m).spare (ss m) u e y a (λ t. omega (arith, h, t)) ∙ p.same e a (inl (omega (arith, h))) y
        kept e a (inr h) y (no q) = emptied_other m (zone_of_kind par (r m)) (r m).spare (ss m) u e y a q ∙ p.same e a (inr h) y
        kept e a (inr h) y (yes q) = absurd (true≢false (sym b ∙ ap emptied (sym q) ∙ h))

    below : (m : ℕ) → Leaves m (apply_all (each_below one m) v)
    below zero = record { solid = λ s. s; old = λ e a h. absurd (not-suc-le-zero h); same = λ e a h y. refl }
    below (suc m) = subst (λ (w : Device). Leaves (suc m) w) (sym (apply_all_append (each_below one m) (one m) v)) (next m (apply_all (each_below one m) v) (below m) (emptied m) refl)

    pub emptyings_leave : Leaves g.drives (apply_all (emptyings g (present_but g x) par r emptied ss) v)
    unfolding emptyings
    emptyings_leave = below g.drives
