-- Emptyings that are finished, on drives that cache resets: the old log of the drive emptied last may be put back; it is that drive's spare. What holds when they
-- are finished holds then too, from what is known of one drive's emptying before its last store (before).
use Rattle.std.specs.Prelude.{◌≡◌, refl, ◌≢◌, ◌⊎◌, Bool, true, false, ◌&&◌, ℕ, zero, suc, ◌≤◌, ◌<◌, List, [], ◌∷◌, ◌++◌, take, eqb}
use Rattle.std.proofs.Common.{sym, ap, ◌∙◌, subst, inl, inr, le_refl, arith, append-nil, eqb-true, ne_eqb}
use Rattle.std.proofs.Math.Decide.{ℕ_discrete}
use Rattle.tables.specs.meaning.Basics.{pick}
use Rattle.tables.specs.laws.Basics.{and_split}
use Rattle.tables.specs.meaning.Below.{each_below}
use Rattle.tables.specs.meaning.Device.{ZoneView, Device, Store, reset, blank_zone, apply_all, Cut}
use Rattle.tables.specs.laws.Device.{apply_all_append}
use Rattle.tables.specs.meaning.Cached.{Caching, apply_all_caching}
use Rattle.tables.specs.laws.Cached.{caching_append, now_is, was_is, remember_here, remember_append}
use Rattle.tables.specs.laws.Local.{LocalStore, reset_here, local_stores, local_append, local_is, apply_all_here}
use Rattle.tables.specs.meaning.Drives.{present_but}
use Rattle.tables.specs.declared.Geometry.{Geometry}
use Rattle.volume.specs.meaning.Calls.{append_all, flush_stores}
use Rattle.volume.specs.meaning.Roles.{Roles, roles, zone_of_kind, emptied_roles}
use Rattle.volume.specs.meaning.Emptying.{emptyings}
use Rattle.promise.proofs.invariant.Invariant.{Here}
use Rattle.promise.proofs.invariant.Delayed.{PutBack, Delayed, begun_anew, delayed_append, no_resets_forget, remembers_none}
use Rattle.promise.proofs.emptying.EmptyingStops.{Solid, emptying_is}
use Rattle.promise.proofs.emptying.FlushedRests.{roles_same, flushed_all, flush_sectors, flush_solid}
use Rattle.promise.proofs.emptying.Emptyings.{SameSectors, rest_of, OneDrive, Below, one, one_is, here, begun, drive, below}
use Rattle.promise.proofs.emptying.EmptyingsDelayed.{flush_forgets, reset_delayed, no_reset_ab}

-- what holds of a device t, put back after the stores xs
pub record BackAt (g : Geometry) (x : ℕ) (v : Device) (Held : Device → Type 0) (xs : List Store) (t : Device) : Type 0 where
  pub held : Held t
  pub roles_are : (e : ℕ) → Here g x e → roles g t e ≡ roles g (apply_all xs v) e

-- and of each that may be (was: what is remembered before them)
pub record Finished (g : Geometry) (x : ℕ) (v : Device) (was : ℕ → ℕ → List ZoneView) (Held : Device → Type 0) (xs : List Store) : Type 0 where
  pub back : (t : Device) → PutBack g x (apply_all_caching xs (record { now = v; was = was })) t → BackAt g x v Held xs t
  pub spares : (d y : ℕ) → Here g x d → ((apply_all_caching xs (record { now = v; was = was })).was d y ≡ []) ⊎ (y ≡ (roles g (apply_all xs v) d).spare)

module _ (g : Geometry) (x : ℕ) (par : Bool) (v : Device) (ss : ℕ → List (List ℕ)) (emptied : ℕ → Bool) (Held Left : Device → Type 0)
    (first : Held (flushed_all g x v)) (more : (u : Device) → Solid g x u → Held u → Held (flushed_all g x u))
    (in_first_lem : (n : ℕ) (w : Device) → Cut x (apply_all (take n (flush_stores g (present_but g x))) v) w → Left w)
    (same : (u w : Device) → Solid g x u → Held u → ((e y : ℕ) → Here g x e → w e y ≡ u e y) → Left w)
    (one_of_lem : (d : ℕ) → d < g.drives → emptied d ≡ true → Here g x d × ((u : Device) → Solid g x u → Held u → SameSectors v u d → OneDrive g x par v Held Left d u (ss d) (rest_of g x par v ss d)))
    (before : (d : ℕ) → d < g.drives → emptied d ≡ true → (u : Device) → Solid g x u → Held u → SameSectors v u d
    → let w = apply_all (append_all d (roles g v d).spare (ss d) ++ flush_stores g (present_but g x)) u in Held w × (roles g w d ≡ emptied_roles par (roles g v d)))
    (was : ℕ → ℕ → List ZoneView) where
  abbrev c : Caching
  c = record { now = v; was = was }

  abbrev stores : ℕ → List Store
  stores m = each_below (one g x par v ss emptied Held Left first more in_first_lem same one_of_lem) m

  abbrev F : List Store
  F = flush_stores g (present_but g x)

  -- one drive more
  module _ (m : ℕ) (hm : m < g.drives) (b : emptied m ≡ true) where
    abbrev X : List Store
    X = stores m

    abbrev u : Device
    u = apply_all (stores m) v

    abbrev old : ℕ
    old = zone_of_kind par (roles g v m)

    abbrev AB : List Store
    AB = append_all m (roles g v m).spare (ss m) ++ F

    abbrev C : List Store
    C = reset m (zone_of_kind par (roles g v m)) ∷ []

    p : Below g x par v ss emptied Held Left first more in_first_lem same one_of_lem m (apply_all (stores m) v)
    p = below g x par v ss emptied Held Left first more in_first_lem same one_of_lem m (omega (arith, hm))

    a : Here g x m
    a = here g x par v ss emptied Held Left first more in_first_lem same one_of_lem m hm b u p

    dr : OneDrive g x par v Held Left m (flushed_all g x u) (ss m) (rest_of g x par v ss m)
    dr = drive g x par v ss emptied Held Left first more in_first_lem same one_of_lem m hm b u p

    early : let w = apply_all AB (flushed_all g x u) in Held w × (roles g w m ≡ emptied_roles par (roles g v m))
    early = before m hm b (flushed_all g x u) (flush_solid g x u) (begun g x par v ss emptied Held Left first more in_first_lem same one_of_lem m hm b u p) (λ y. flush_sectors g x u m y a ∙ p.left m a (inl (le_refl m)) y)

    abbrev all : List Store
    all = stores m ++ one g x par v ss emptied Held Left first more in_first_lem same one_of_lem m

    all_is : all ≡ stores m ++ (F ++ (AB ++ C))
    all_is = ap (λ (t : List Store). stores m ++ t) (one_is g x par v ss emptied Held Left first more in_first_lem same one_of_lem m hm b u p ∙ emptying_is g x m old (roles g v m).spare (ss m))

    after_is : apply_all all v ≡ apply_all (AB ++ C) (flushed_all g x u)
    after_is = ap (λ (t : List Store). apply_all t v) all_is ∙ apply_all_append (stores m) (F ++ (AB ++ C)) v ∙ apply_all_append F (AB ++ C) u

    -- what the caches hold behind the flush
    abbrev cc : Caching
    cc = apply_all_caching F (apply_all_caching (stores m) c)

    cc_is : apply_all_caching all c ≡ apply_all_caching (AB ++ C) cc
    cc_is = ap (λ (t : List Store). apply_all_caching t c) all_is ∙ caching_append (stores m) (F ++ (AB ++ C)) c ∙ caching_append F (AB ++ C) (apply_all_caching (stores m) c)

    cc_now : cc.now ≡ flushed_all g x u
    cc_now = now_is F (apply_all_caching (stores m) c) ∙ ap (apply_all F) (now_is (stores m) c)

    other_drive_lem : (e : ℕ) → e ≢ m → roles g (apply_all AB (flushed_all g x u)) e ≡ roles g (apply_all C (apply_all AB (flushed_all g x u))) e
    other_drive_lem e n = roles_same g (apply_all C (apply_all AB (flushed_all g x u))) (apply_all AB (flushed_all g x u)) e (λ y. rw (ne_eqb e m n) refl)

    next_back : (t : Device) → PutBack g x (apply_all_caching all c) t → BackAt g x v Held all t
    next_back t k =
        let d1 : Delayed g x cc.now (AB ++ C) t = begun_anew g x cc (AB ++ C) t (flush_forgets g x (apply_all_caching (stores m) c)) (subst (λ (q : Caching). PutBack g x q t) cc_is k) in
        let d2 : Delayed g x (flushed_all g x u) (AB ++ C) t = subst (λ (q : Device). Delayed g x q (AB ++ C) t) cc_now d1 in
        let f = no_resets_forget g x (flushed_all g x u) AB (no_reset_ab g x m old (roles g v m).spare (ss m)) in
        go (reset_delayed g x (apply_all AB (flushed_all g x u)) m old t (delayed_append g x (flushed_all g x u) AB C t f d2))
      where
        end_is : apply_all C (apply_all AB (flushed_all g x u)) ≡ apply_all all v
        end_is = sym (apply_all_append AB C (flushed_all g x u)) ∙ sym after_is

        go : (t ≡ apply_all AB (flushed_all g x u)) ⊎ (t ≡ apply_all C (apply_all AB (flushed_all g x u))) → BackAt g x v Held all t
        go (inr q) = record { held = rw (q ∙ sym (apply_all_append AB C (flushed_all g x u))) dr.held; roles_are = λ e h. ap (λ (w : Device). roles g w e) (q ∙ end_is) }
        go (inl q) = record { held = rw q early.0; roles_are = λ e h. ap (λ (w : Device). roles g w e) q ∙ side e (ℕ_discrete e m) ∙ ap (λ (w : Device). roles g w e) end_is }
          where
            side : (e : ℕ) → Dec (e ≡ m) → roles g (apply_all AB (flushed_all g x u)) e ≡ roles g (apply_all C (apply_all AB (flushed_all g x u))) e
            side e (no n) = other_drive_lem e n
            side e (yes i) = subst (λ (j : ℕ). roles g (apply_all AB (flushed_all g x u)) j ≡ roles g (apply_all C (apply_all AB (flushed_all g x u))) j) (sym i)
                (early.1 ∙ sym dr.roles_are ∙ ap (λ (w : Device). roles g w m) (apply_all_append AB C (flushed_all g x u)))

    -- the old zone is the spare
    old_spare : old ≡ (roles g (apply_all all v) m).spare
    old_spare = side par ∙ ap (λ (q : Roles). q.spare) (sym (ap (λ (w : Device). roles g w m) after_is ∙ dr.roles_are))
      where
        side : (q : Bool) → zone_of_kind q (roles g v m) ≡ (emptied_roles q (roles g v m)).spare
        side true = refl
        side false = refl

    next_spares : (d y : ℕ) → Here g x d → ((apply_all_caching all c).was d y ≡ []) ⊎ (y ≡ (roles g (apply_all all v) d).spare)
    next_spares d y h = go (eqb d m && eqb y old) refl
      where
        seen : remember_here (local_stores d y (AB ++ C)) (cc.now d y) (cc.was d y) ≡ remember_here (local_stores d y C) (apply_all_here (local_stores d y AB) (cc.now d y)) []
        seen = ap (λ (os : List LocalStore). remember_here os (cc.now d y) (cc.was d y)) (local_append d y AB C) ∙ remember_append (local_stores d y AB) (local_stores d y C) (cc.now d y) (cc.was d y)
            ∙ ap (λ (w : List ZoneView). remember_here (local_stores d y C) (apply_all_here (local_stores d y AB) (cc.now d y)) w) (ap (remember_here (local_stores d y AB) (cc.now d y)) (flush_forgets g x (apply_all_caching (stores m) c) d y h) ∙ remembers_none (local_stores d y AB) (cc.now d y) (no_reset_ab g x m old (roles g v m).spare (ss m) d y h))

        go : (q : Bool) → eqb d m && eqb y old ≡ q → ((apply_all_caching all c).was d y ≡ []) ⊎ (y ≡ (roles g (apply_all all v) d).spare)
        go true e = let (i, j) = and_split (eqb d m) (eqb y old) e in inr (eqb-true y old j ∙ old_spare ∙ ap (λ (n : ℕ). (roles g (apply_all all v) n).spare) (sym (eqb-true d m i)))
        go false e = inl (ap (λ (q : Caching). q.was d y) cc_is ∙ was_is d y (AB ++ C) cc ∙ seen ∙ rw e refl)

  none_more : (m : ℕ) → emptied m ≡ false → stores m ++ one g x par v ss emptied Held Left first more in_first_lem same one_of_lem m ≡ stores m
  none_more m b = rw b (append-nil (stores m))

  -- nothing was stored, or what holds when they are finished holds whatever is put back
  finished_below : (m : ℕ) → m ≤ g.drives → (stores m ≡ []) ⊎ Finished g x v was Held (stores m)
  finished_below zero h = inl refl
  finished_below (suc m) h = go (emptied m) refl (finished_below m (omega (arith, h)))
    where
      go : (b : Bool) → emptied m ≡ b → (stores m ≡ []) ⊎ Finished g x v was Held (stores m) → (stores (suc m) ≡ []) ⊎ Finished g x v was Held (stores (suc m))
      go true b f = inr (record { back = next_back m h b; spares = next_spares m h b })
      go false b (inl q) = inl (none_more m b ∙ q)
      go false b (inr f) = inr (subst (λ (t : List Store). Finished g x v was Held t) (sym (none_more m b)) f)

  pub emptyings_back : let E = emptyings g (present_but g x) par (roles g v) emptied ss in (E ≡ []) ⊎ Finished g x v was Held E
  unfolding emptyings
  emptyings_back = finished_below g.drives (le_refl g.drives)
