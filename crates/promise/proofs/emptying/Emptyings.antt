-- THE EMPTYINGS OF A CALL, of logs of one kind, one drive after the other: from what is known of one drive's emptying behind its first flush (OneDrive),
-- what a stop and a cut leave of all of them, and what holds when they are finished. (v: the device at the call's start; ss: of each drive,
-- the new log's sectors; Held: what holds between two emptyings, all being durable; Left: what a stop and a cut may leave.)
use Rattle.std.specs.Prelude.{◌≡◌, ◌≢◌, ◌⊎◌, Bool, true, false, ℕ, zero, suc, ◌+◌, ◌-◌, ◌≤◌, ◌<◌, List, [], ◌++◌, length, take}
use Rattle.std.proofs.Math.Path.{refl}
use Rattle.std.proofs.Common.{sym, ap, ◌∙◌, subst, inl, inr, true≢false, le_refl, not-suc-le-zero, arith, take_all}
use Rattle.std.proofs.Math.Decide.{dec_lt, ℕ_discrete}
use Rattle.std.proofs.lemmas.List.{take-append-le}
use Rattle.std.proofs.Math.Seq.{take-append-add, take-nil}
use Rattle.tables.specs.meaning.Basics.{pick}
use Rattle.tables.specs.meaning.Below.{each_below}
use Rattle.tables.specs.meaning.Device.{ZoneView, Device, Store, apply_all, Cut}
use Rattle.tables.specs.laws.Device.{apply_all_append}
use Rattle.tables.specs.meaning.Drives.{present_but}
use Rattle.tables.specs.declared.Geometry.{Geometry}
use Rattle.logs.specs.meaning.Entry.{spare_zone, kind_of_log}
use Rattle.volume.specs.meaning.Calls.{flush_stores}
use Rattle.volume.specs.meaning.Roles.{Roles, roles, by_roles, zone_of_kind, emptied_roles, roles_after}
use Rattle.volume.specs.meaning.Emptying.{emptying_stores, emptyings}
use Rattle.promise.proofs.invariant.Invariant.{Here}
use Rattle.promise.proofs.emptying.EmptyingStops.{Solid, after_first_flush, StoppedAt, in_flush, behind_flush, stopped_at_lem, emptying_whole}
use Rattle.promise.proofs.emptying.FlushedRests.{roles_same, sectors_seen, flushed_all, flush_sectors, flush_solid, still_flushed}

-- drive d's zones hold the same sectors
abbrev pub SameSectors : Device → Device → ℕ → Type 0
SameSectors v w d = (y : ℕ) → (w d y).sectors ≡ (v d y).sectors

-- of one drive, behind the first flush: the stores, by the roles at the call's start
abbrev pub rest_of : Geometry → ℕ → Bool → Device → (ℕ → List (List ℕ)) → ℕ → List Store
rest_of g x par v ss d = after_first_flush g x d (zone_of_kind par (roles g v d)) (roles g v d).spare (ss d)

-- of each drive, its emptying, or none (r: the drives' roles)
abbrev pub emptying_of : Geometry → ℕ → Bool → (ℕ → Roles) → (ℕ → Bool) → (ℕ → List (List ℕ)) → ℕ → List Store
emptying_of g x par r emptied ss d = pick (emptied d) (emptying_stores g (present_but g x) d (zone_of_kind par (r d)) (r d).spare (ss d)) []

-- the device at the end of the first flush of drive d's emptying
abbrev pub at_flush : Geometry → ℕ → Bool → (ℕ → Roles) → (ℕ → Bool) → (ℕ → List (List ℕ)) → Device → ℕ → Device
at_flush g x par r emptied ss v d = flushed_all g x (apply_all (each_below (emptying_of g x par r emptied ss) d) v)

-- what is known of it (u: the device at that flush's end; new: the new log's sectors; xs: these stores)
pub record OneDrive (g : Geometry) (x : ℕ) (par : Bool) (v : Device) (Held Left : Device → Type 0) (d : ℕ) (u : Device) (new : List (List ℕ)) (xs : List Store) : Type 0 where
  pub stopped : (k : ℕ) (w : Device) → Cut x (apply_all (take k xs) u) w → Left w
  pub held : Held (apply_all xs u)
  pub solid : Solid g x (apply_all xs u)
  pub roles_are : roles g (apply_all xs u) d ≡ emptied_roles par (roles g v d)
  pub log : (by_roles g (apply_all xs u) d (kind_of_log par)).sectors ≡ new
  pub kept : (y : ℕ) → y ≢ kind_of_log par → y ≢ spare_zone → (by_roles g (apply_all xs u) d y).sectors ≡ (by_roles g u d y).sectors
  pub others : (e y : ℕ) → Here g x e → e ≢ d → apply_all xs u e y ≡ u e y

-- nothing is done yet, or all is durable
abbrev pub Mode : Geometry → ℕ → Device → (Device → Type 0) → Device → Type 0
Mode g x v Held u = (u ≡ v) ⊎ (Solid g x u × Held u)

-- the drives below m are done (u: the device then): their roles are the new ones, the log of each that was emptied the new one; nothing else changed but spares
pub record Progress (g : Geometry) (x : ℕ) (par : Bool) (v : Device) (ss : ℕ → List (List ℕ)) (emptied : ℕ → Bool) (Held : Device → Type 0) (m : ℕ) (u : Device) : Type 0 where
  pub mode : Mode g x v Held u
  pub done : (e : ℕ) → Here g x e → e < m → roles g u e ≡ roles_after par emptied (roles g v) e
  pub logs : (e : ℕ) → Here g x e → e < m → emptied e ≡ true → (by_roles g u e (kind_of_log par)).sectors ≡ ss e
  pub kept : (e y : ℕ) → Here g x e → y ≢ kind_of_log par → y ≢ spare_zone → (by_roles g u e y).sectors ≡ (by_roles g v e y).sectors
  pub left : (e : ℕ) → Here g x e → (m ≤ e) ⊎ (emptied e ≡ false) → SameSectors v u e

module _ (g : Geometry) (x : ℕ) (par : Bool) (v : Device) (ss : ℕ → List (List ℕ)) (emptied : ℕ → Bool) (Held Left : Device → Type 0)
    (first : Held (flushed_all g x v)) (more : (u : Device) → Solid g x u → Held u → Held (flushed_all g x u))
    (in_first_lem : (n : ℕ) (w : Device) → Cut x (apply_all (take n (flush_stores g (present_but g x))) v) w → Left w)
    (same : (u w : Device) → Solid g x u → Held u → ((e y : ℕ) → Here g x e → w e y ≡ u e y) → Left w)
    (one_of_lem : (d : ℕ) → d < g.drives → emptied d ≡ true → Here g x d × ((u : Device) → Solid g x u → Held u → SameSectors v u d → OneDrive g x par v Held Left d u (ss d) (rest_of g x par v ss d))) where
  -- the stores of one drive
  abbrev pub one : ℕ → List Store
  one d = pick (emptied d) (emptying_stores g (present_but g x) d (zone_of_kind par (roles g v d)) (roles g v d).spare (ss d)) []

  abbrev pub Below : ℕ → Device → Type 0
  Below m u = Progress g x par v ss emptied Held m u

  -- ---- one drive: it is to be emptied
  module _ (m : ℕ) (hm : m < g.drives) (b : emptied m ≡ true) (u : Device) (p : Below m u) where
    pub here : Here g x m
    here = (one_of_lem m hm b).0

    abbrev pub u1 : Device
    u1 = flushed_all g x u

    pub begun : Held u1
    begun = go p.mode
      where
        go : Mode g x v Held u → Held u1
        go (inl q) = rw q first
        go (inr (s, h)) = more u s h

    pub drive : OneDrive g x par v Held Left m u1 (ss m) (rest_of g x par v ss m)
    drive = (one_of_lem m hm b).1 u1 (flush_solid g x u) begun (λ y. flush_sectors g x u m y here ∙ p.left m here (inl (le_refl m)) y)

    pub one_is : one m ≡ emptying_stores g (present_but g x) m (zone_of_kind par (roles g v m)) (roles g v m).spare (ss m)
    one_is = rw b refl

    -- stopped and cut
    drive_stopped : (k : ℕ) (w : Device) → Cut x (apply_all (take k (one m)) u) w → Left w
    drive_stopped k w cut = go (stopped_at_lem g x m (zone_of_kind par (roles g v m)) (roles g v m).spare (ss m) k u)
      where
        cut1 : Cut x (apply_all (take k (emptying_stores g (present_but g x) m (zone_of_kind par (roles g v m)) (roles g v m).spare (ss m))) u) w
        cut1 = subst (λ (xs : List Store). Cut x (apply_all (take k xs) u) w) one_is cut

        flushing : (j : ℕ) → Cut x (apply_all (take j (flush_stores g (present_but g x))) u) w → Mode g x v Held u → Left w
        flushing j t (inl q) = in_first_lem j w (subst (λ (a : Device). Cut x (apply_all (take j (flush_stores g (present_but g x))) a) w) q t)
        flushing j t (inr (s, h)) = same u w s h (still_flushed g x u s j w t)

        go : StoppedAt g x m (zone_of_kind par (roles g v m)) (roles g v m).spare (ss m) k u → Left w
        go (in_flush j q) = flushing j (subst (λ (a : Device). Cut x a w) q cut1) p.mode
        go (behind_flush j q) = drive.stopped j w (subst (λ (a : Device). Cut x a w) q cut1)

    -- finished
    abbrev u2 : Device
    u2 = apply_all (rest_of g x par v ss m) u1

    u2_is : apply_all (one m) u ≡ u2
    u2_is = ap (λ (xs : List Store). apply_all xs u) one_is ∙ emptying_whole g x m (zone_of_kind par (roles g v m)) (roles g v m).spare (ss m) u

    u2_other : (e : ℕ) → Here g x e → e ≢ m → SameSectors u u2 e
    u2_other e a n y = ap (λ (z : ZoneView). z.sectors) (drive.others e y a n) ∙ flush_sectors g x u e y a

    next : Below (suc m) u2
    next = record {
      mode = inr (drive.solid, drive.held);
      done = λ e a h. which e a h (ℕ_discrete e m);
      logs = λ e a h t. log e a h t (ℕ_discrete e m);
      kept = λ e y a n k. seen e y a n k (ℕ_discrete e m) ∙ p.kept e y a n k;
      left = λ e a h. kept e a h (ℕ_discrete e m);
    }
      where
        log : (e : ℕ) → Here g x e → e < suc m → emptied e ≡ true → Dec (e ≡ m) → (by_roles g u2 e (kind_of_log par)).sectors ≡ ss e
        log e a h t (yes q) = rw q drive.log
        log e a h t (no q) = sectors_seen g u u2 e (u2_other e a q) (kind_of_log par) ∙ p.logs e a (omega (arith, h, q)) t

        seen : (e y : ℕ) → Here g x e → y ≢ kind_of_log par → y ≢ spare_zone → Dec (e ≡ m) → (by_roles g u2 e y).sectors ≡ (by_roles g u e y).sectors
        seen e y a n k (yes q) = rw q (drive.kept y n k ∙ sectors_seen g u u1 m (λ t. flush_sectors g x u m t here) y)
        seen e y a n k (no q) = sectors_seen g u u2 e (u2_other e a q) y

        which : (e : ℕ) → Here g x e → e < suc m → Dec (e ≡ m) → roles g u2 e ≡ roles_after par emptied (roles g v) e
        which e a h (yes q) = rw q (drive.roles_are ∙ rw b refl)
        which e a h (no q) = roles_same g u u2 e (u2_other e a q) ∙ p.done e a (omega (arith, h, q))

        kept : (e : ℕ) → Here g x e → (suc m ≤ e) ⊎ (emptied e ≡ false) → Dec (e ≡ m) → SameSectors v u2 e
        kept e a (inl h) q y = u2_other e a (λ t. omega (arith, h, t)) y ∙ p.left e a (inl (omega (arith, h))) y
        kept e a (inr h) (no q) y = u2_other e a q y ∙ p.left e a (inr h) y
        kept e a (inr h) (yes q) y = absurd (true≢false (sym b ∙ ap emptied (sym q) ∙ h))

    drive_done : Below (suc m) (apply_all (one m) u)
    drive_done = subst (λ (a : Device). Below (suc m) a) (sym u2_is) next

  -- ---- it is not
  one_none : (m : ℕ) → emptied m ≡ false → one m ≡ []
  one_none m b = rw b refl

  skip : (m : ℕ) (u : Device) → emptied m ≡ false → Below m u → Below (suc m) u
  skip m u b p = record { mode = p.mode; done = λ e a h. which e a h (ℕ_discrete e m); logs = λ e a h t. log e a h t (ℕ_discrete e m); kept = p.kept; left = λ e a h. kept e a h }
    where
      log : (e : ℕ) → Here g x e → e < suc m → emptied e ≡ true → Dec (e ≡ m) → (by_roles g u e (kind_of_log par)).sectors ≡ ss e
      log e a h t (no q) = p.logs e a (omega (arith, h, q)) t
      log e a h t (yes q) = absurd (true≢false (sym t ∙ ap emptied q ∙ b))

      which : (e : ℕ) → Here g x e → e < suc m → Dec (e ≡ m) → roles g u e ≡ roles_after par emptied (roles g v) e
      which e a h (no q) = p.done e a (omega (arith, h, q))
      which e a h (yes q) = roles_same g v u e (p.left e a (inl (omega (arith, q)))) ∙ rw (q, b) refl

      kept : (e : ℕ) → Here g x e → (suc m ≤ e) ⊎ (emptied e ≡ false) → SameSectors v u e
      kept e a (inl h) = p.left e a (inl (omega (arith, h)))
      kept e a (inr h) = p.left e a (inr h)

  -- ---- the drives below m
  pub below : (m : ℕ) → m ≤ g.drives → Below m (apply_all (each_below one m) v)
  below zero h = record { mode = inl refl; done = λ e a k. absurd (not-suc-le-zero k); logs = λ e a k. absurd (not-suc-le-zero k); kept = λ e y a n k. refl; left = λ e a k y. refl }
  below (suc m) h = subst (λ (a : Device). Below (suc m) a) (sym (apply_all_append (each_below one m) (one m) v)) (go (emptied m) refl (below m (omega (arith, h))))
    where
      go : (b : Bool) → emptied m ≡ b → Below m (apply_all (each_below one m) v) → Below (suc m) (apply_all (one m) (apply_all (each_below one m) v))
      go true b p = drive_done m h b (apply_all (each_below one m) v) p
      go false b p = subst (λ (xs : List Store). Below (suc m) (apply_all xs (apply_all (each_below one m) v))) (sym (one_none m b)) (skip m (apply_all (each_below one m) v) b p)

  -- AT THE END OF THE FIRST FLUSH OF DRIVE d's
  pub flush_held : (d : ℕ) → d < g.drives → emptied d ≡ true → Held (at_flush g x par (roles g v) emptied ss v d) × SameSectors v (at_flush g x par (roles g v) emptied ss v d) d
  flush_held d hd b =
      let u = apply_all (each_below one d) v in
      let p = below d (omega (arith, hd)) in
      (begun d hd b u p, λ y. flush_sectors g x u d y (here d hd b u p) ∙ p.left d (here d hd b u p) (inl (le_refl d)) y)

  stopped_below : (m : ℕ) → m ≤ g.drives → (k : ℕ) (w : Device) → Cut x (apply_all (take k (each_below one m)) v) w → Left w
  stopped_below zero h k w cut = in_first_lem 0 w (subst (λ (xs : List Store). Cut x (apply_all xs v) w) (take-nil k) cut)
  stopped_below (suc m) h k w cut = go (dec_lt k (length (each_below one m))) (λ t. stopped_below m (omega (arith, h)) k w t)
    where
      inside : (j : ℕ) (b : Bool) → emptied m ≡ b → Cut x (apply_all (take j (one m)) (apply_all (each_below one m) v)) w → (Cut x (apply_all (each_below one m) v) w → Left w) → Left w
      inside j true b t ih = drive_stopped m h b (apply_all (each_below one m) v) (below m (omega (arith, h))) j w t
      inside j false b t ih = ih (subst (λ (xs : List Store). Cut x (apply_all xs (apply_all (each_below one m) v)) w) (ap (take j) (one_none m b) ∙ take-nil j) t)

      go : Dec (k < length (each_below one m)) → (Cut x (apply_all (take k (each_below one m)) v) w → Left w) → Left w
      go (yes q) ih = ih (subst (λ (xs : List Store). Cut x (apply_all xs v) w) (take-append-le k (each_below one m) (one m) (omega (arith, q))) cut)
      go (no q) ih =
          let j = k - length (each_below one m) in
          let e : k ≡ length (each_below one m) + j = omega arith in
          let s : take k (each_below one m ++ one m) ≡ each_below one m ++ take j (one m) = ap (λ (i : ℕ). take i (each_below one m ++ one m)) e ∙ take-append-add (each_below one m) (one m) j in
          let t : Cut x (apply_all (take j (one m)) (apply_all (each_below one m) v)) w = subst (λ (a : Device). Cut x a w) (ap (λ (xs : List Store). apply_all xs v) s ∙ apply_all_append (each_below one m) (take j (one m)) v) cut in
          inside j (emptied m) refl t (λ o. ih (subst (λ (xs : List Store). Cut x (apply_all xs v) w) (sym (take_all k (each_below one m) (omega (arith, q)))) o))

  -- ---- all of them
  all_are : emptyings g (present_but g x) par (roles g v) emptied ss ≡ each_below one g.drives
  unfolding emptyings
  all_are = refl

  -- STOPPED AND CUT
  pub emptyings_stopped : (k : ℕ) (w : Device) → Cut x (apply_all (take k (emptyings g (present_but g x) par (roles g v) emptied ss)) v) w → Left w
  emptyings_stopped k w cut = stopped_below g.drives (le_refl g.drives) k w (subst (λ (xs : List Store). Cut x (apply_all (take k xs) v) w) all_are cut)

  -- FINISHED
  pub emptyings_done : Progress g x par v ss emptied Held g.drives (apply_all (emptyings g (present_but g x) par (roles g v) emptied ss) v)
  emptyings_done = subst (λ (xs : List Store). Below g.drives (apply_all xs v)) (sym all_are) (below g.drives (le_refl g.drives))
