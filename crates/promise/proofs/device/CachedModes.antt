-- What holds in each mode of a history on drives that cache resets. Between finished calls all is at rest, old logs put back or not, which are spares; after a
-- stopped call the invariant holds of whatever a cut may keep, put back or not; after a cut nothing is remembered.
use Rattle.std.specs.Prelude.{◌≡◌, ◌≢◌, ◌⊎◌, Bool, ◌&&◌, ℕ, ◌≤◌, ◌<◌, length, ltb, eqb}
use Rattle.std.proofs.Math.Path.{refl, subst, fun_ext}
use Rattle.std.proofs.Common.{sym, ap, ◌∙◌, lt-ltb, ltb-true, eq-eqb, ne_eqb}
use Rattle.std.proofs.Math.Logic.{inl, inr}
use Rattle.std.proofs.Math.Bool.{true, false}
use Rattle.std.proofs.Math.Decide.{ℕ_discrete}
use mathlib.Core.List.{List, [], Memᴰ}
use Rattle.tables.specs.meaning.Basics.{pick}
use Rattle.tables.specs.laws.Basics.{and_join, and_split}
use Rattle.tables.specs.laws.Lists.{mem_nil}
use Rattle.tables.specs.meaning.Device.{ZoneView, Device, Store, flushed, apply_all, ZoneCut, Cut, Loss}
use Rattle.tables.specs.laws.Device.{cut_at, loss_at, WellFormed, well_formed_apply_all}
use Rattle.tables.specs.laws.Local.{local_stores}
use Rattle.tables.specs.meaning.Cached.{Caching, uncached, apply_all_caching, CachingCut}
use Rattle.tables.specs.laws.Cached.{now_is, cut_from, cut_from_back, cut_from_cut, CachingLoss}
use Rattle.tables.specs.meaning.Drives.{no_drive, present_but}
use Rattle.tables.specs.laws.Drives.{present_not}
use Rattle.tables.specs.declared.Geometry.{Geometry}
use Rattle.tables.specs.meaning.Geometry.{Valid, physical_zones}
use Rattle.volume.specs.meaning.State.{StateView}
use Rattle.logs.specs.meaning.Entry.{spare_zone}
use Rattle.volume.specs.meaning.Roles.{Roles, roles, zone_of_role, by_roles}
use Rattle.volume.specs.laws.Firm.{role_one_to_one, firm_roles, firm_seen}
use Rattle.promise.specs.meaning.Ledger.{Ledger}
use Rattle.promise.specs.meaning.Claim.{Mode, ready, stopped, down, SameZones}
use Rattle.promise.proofs.invariant.Invariant.{Here, Names}
use Rattle.promise.proofs.invariant.CrashKeeps.{present_before}
use Rattle.promise.proofs.invariant.Delayed.{PutBack, Delayed, BackHere, back_here, back_part, delayed_at}
use Rattle.promise.proofs.roles.Kept.{Lasting, Kept, whole_cut, here_lasting}
use Rattle.promise.proofs.roles.SamePlaces.{SamePlaces, in_order, order_same, order_well, placed_invs}
use Rattle.promise.proofs.emptying.EmptyingStops.{CutHere}
use Rattle.promise.proofs.emptying.FlushedRests.{roles_same}
use Rattle.promise.proofs.device.Marks.{with_marks}
use Rattle.promise.proofs.device.Modes.{SomeRests, SomeInvs, Halted, read_some, rests_invs, invs_halted, loss_some_rests, loss_some_invs, loss_halted}

abbrev pub Forgotten : Geometry → ℕ → Caching → Type 0
Forgotten g x c = (d y : ℕ) → Here g x d → c.was d y ≡ []

pub now_back : (g : Geometry) (x : ℕ) (c : Caching) → PutBack g x c c.now
now_back g x c = record { at = λ d y. inl refl }

-- then nothing can be put back
pub forgotten_is : (g : Geometry) (x : ℕ) (c : Caching) (u : Device) → Forgotten g x c → PutBack g x c u → u ≡ c.now
forgotten_is g x c u f k = fun_ext λ d. fun_ext λ y. go d y (k.at d y)
  where
    go : (d y : ℕ) → (u d y ≡ c.now d y) ⊎ (Here g x d × Memᴰ (u d y) (c.was d y)) → u d y ≡ c.now d y
    go d y (inl q) = q
    go d y (inr (a, m)) = mem_nil (u d y) (rw (f d y a) at m)

-- ---- at rest: what is remembered are spares
pub record RestsCached (g : Geometry) (x : ℕ) (c : Caching) (state : StateView) (l : Ledger) : Type 0 where
  pub rests : (u : Device) → PutBack g x c u → SomeRests g x u state l
  pub roles_are : (u : Device) → PutBack g x c u → (d : ℕ) → Here g x d → roles g u d ≡ roles g c.now d
  pub spares : (d y : ℕ) → Here g x d → (c.was d y ≡ []) ⊎ (y ≡ (roles g c.now d).spare)

abbrev pub HaltedCached : Geometry → ℕ → Caching → Ledger → Type 0
HaltedCached g x c l = (u : Device) → PutBack g x c u → Halted g x u l

abbrev pub DownCached : Geometry → ℕ → Caching → Ledger → Type 0
DownCached g x c l = SomeInvs g x c.now l × Forgotten g x c

abbrev pub OkCached : Geometry → Mode → ℕ → Caching → StateView → Ledger → Type 0
OkCached g ready x c state l = RestsCached g x c state l
OkCached g stopped x c state l = HaltedCached g x c l
OkCached g down x c state l = DownCached g x c l

-- with a state that says the same of the zones
pub read_cached : (g : Geometry) (x : ℕ) (c : Caching) (a b : StateView) (l : Ledger) → (Names x a.lost → Names x b.lost) → SameZones g a b → RestsCached g x c a l → RestsCached g x c b l
read_cached g x c a b l lost same r = record { rests = λ u k. read_some g x u a b l lost same (r.rests u k); roles_are = r.roles_are; spares = r.spares }

-- what is put back are spares: by the roles nothing else changes
pub back_seen : (g : Geometry) (x : ℕ) (c : Caching) (state : StateView) (l : Ledger) → RestsCached g x c state l → (t : Device) → PutBack g x c t → (d : ℕ) → Here g x d → (y : ℕ) → y ≢ spare_zone → by_roles g t d y ≡ by_roles g c.now d y
back_seen g x c state l r t k d a y n = go (r.rests t k) (r.rests c.now (now_back g x c))
  where
    go : SomeRests g x t state l → SomeRests g x c.now state l → by_roles g t d y ≡ by_roles g c.now d y
    go (e, m, above, (s, rs)) (e2, m2, above2, (s2, rs2)) =
        let p : s.roles d ≡ s2.roles d = sym (firm_roles g t d (s.roles d) (s.firm d a)) ∙ r.roles_are t k d a ∙ firm_roles g c.now d (s2.roles d) (s2.firm d a) in
        firm_seen g t d (s.roles d) (s.firm d a) y ∙ ap (λ (q : Roles). t d (zone_of_role q y)) p ∙ same (r.spares d (zone_of_role (s2.roles d) y) a) (k.at d (zone_of_role (s2.roles d) y)) ∙ sym (firm_seen g c.now d (s2.roles d) (s2.firm d a) y)
      where
        same : (c.was d (zone_of_role (s2.roles d) y) ≡ []) ⊎ (zone_of_role (s2.roles d) y ≡ (roles g c.now d).spare)
            → (t d (zone_of_role (s2.roles d) y) ≡ c.now d (zone_of_role (s2.roles d) y)) ⊎ (Here g x d × Memᴰ (t d (zone_of_role (s2.roles d) y)) (c.was d (zone_of_role (s2.roles d) y)))
            → t d (zone_of_role (s2.roles d) y) ≡ c.now d (zone_of_role (s2.roles d) y)
        same q (inl i) = i
        same (inl q) (inr (h, i)) = mem_nil (t d (zone_of_role (s2.roles d) y)) (rw q at i)
        same (inr q) (inr i) = absurd (n (role_one_to_one (s2.roles d) (s2.firm d a).proper y spare_zone (q ∙ ap (λ (t : Roles). t.spare) (firm_roles g c.now d (s2.roles d) (s2.firm d a)))))

-- with nothing remembered
pub forgotten_rests : (g : Geometry) (x : ℕ) (c : Caching) (state : StateView) (l : Ledger) → Forgotten g x c → SomeRests g x c.now state l → RestsCached g x c state l
forgotten_rests g x c state l f r = record {
  rests = λ u k. rw (forgotten_is g x c u f k) r;
  roles_are = λ u k d a. ap (λ (v : Device). roles g v d) (forgotten_is g x c u f k);
  spares = λ d y a. inl (f d y a);
}

pub rests_halted : (g : Geometry) (x : ℕ) (c : Caching) (state : StateView) (l : Ledger) → RestsCached g x c state l → HaltedCached g x c l
rests_halted g x c state l r u k = invs_halted g x u l (rests_invs g x u state l (r.rests u k))

pub down_halted : (g : Geometry) (x : ℕ) (c : Caching) (l : Ledger) → DownCached g x c l → HaltedCached g x c l
down_halted g x c l (i, f) u k = rw (forgotten_is g x c u f k) (invs_halted g x c.now l i)

-- in every mode
pub halted_in : (g : Geometry) (m : Mode) (x : ℕ) (c : Caching) (state : StateView) (l : Ledger) → OkCached g m x c state l → HaltedCached g x c l
halted_in g ready x c state l o = rests_halted g x c state l o
halted_in g stopped x c state l o = o
halted_in g down x c state l o = down_halted g x c l o

-- ---- A CUT leaves the invariant
module _ (g : Geometry) (x : ℕ) (c : Caching) (w : Device) (h : CachingCut x c w) where
  pub chosen : Device
  chosen d y = pick (present_but g x d) (cut_from x c w h d y) (c.now d y)

  chosen_here : (d y : ℕ) → Here g x d → chosen d y ≡ cut_from x c w h d y
  unfolding chosen
  chosen_here d y a = rw a refl

  pub chosen_back : PutBack g x c chosen
  unfolding chosen
  chosen_back = record { at = λ d y. go d y (present_but g x d) refl }
    where
      side : (d y : ℕ) → Here g x d → (cut_from x c w h d y ≡ c.now d y) ⊎ ((d ≢ x) × Memᴰ (cut_from x c w h d y) (c.was d y)) → (cut_from x c w h d y ≡ c.now d y) ⊎ (Here g x d × Memᴰ (cut_from x c w h d y) (c.was d y))
      side d y a (inl q) = inl q
      side d y a (inr (n, m)) = inr (a, m)

      go : (d y : ℕ) (b : Bool) → present_but g x d ≡ b → (pick b (cut_from x c w h d y) (c.now d y) ≡ c.now d y) ⊎ (Here g x d × Memᴰ (pick b (cut_from x c w h d y) (c.now d y)) (c.was d y))
      go d y true a = side d y a ((cut_from_back x c w h).at d y)
      go d y false a = inl refl

  pub chosen_cut : CutHere g x chosen w
  chosen_cut d y a = rw (chosen_here d y a) (cut_at x (cut_from x c w h) w (cut_from_cut x c w h) d y (present_not g x d a))

  pub cached_cut : (l : Ledger) → HaltedCached g x c l → SomeInvs g x w l
  cached_cut l o = (o chosen chosen_back).1 w (λ d y a k. chosen_cut d y a)

-- ---- A LOSS of drive y (x: lost before, if any)
module _ (g : Geometry) (ok : Valid g) (x y : ℕ) (c k : Caching) (hy : y < g.drives) (one : (x ≡ no_drive) ⊎ (x ≡ y)) (lo : CachingLoss y c k) where
  module _ (u : Device) (b : PutBack g y k u) where
    -- put back before it
    unlost : Device
    unlost d z = pick (eqb d y) (c.now d z) (u d z)

    unlost_back : PutBack g x c unlost
    unfolding unlost
    unlost_back = record { at = λ d z. go d z (ℕ_discrete d y) }
      where
        side : (d z : ℕ) → d ≢ y → (u d z ≡ k.now d z) ⊎ (Here g y d × Memᴰ (u d z) (k.was d z)) → (u d z ≡ c.now d z) ⊎ (Here g x d × Memᴰ (u d z) (c.was d z))
        side d z n (inl q) = inl (q ∙ loss_at y c.now k.now lo.now_same d z n)
        side d z n (inr (a, m)) = inr (present_before g ok x y one d a, rw (lo.was_same d z n) at m)

        go : (d z : ℕ) → Dec (d ≡ y) → (pick (eqb d y) (c.now d z) (u d z) ≡ c.now d z) ⊎ (Here g x d × Memᴰ (pick (eqb d y) (c.now d z) (u d z)) (c.was d z))
        go d z (yes q) = rw (eq-eqb d y q) (inl refl)
        go d z (no n) = rw (ne_eqb d y n) (side d z n (b.at d z))

    unlost_loss : Loss y unlost u
    unfolding Loss unlost
    unlost_loss d z n = rw (ne_eqb d y n) refl

  pub loss_halted_cached : (l : Ledger) → HaltedCached g x c l → HaltedCached g y k l
  loss_halted_cached l o u b = loss_halted g ok x y (unlost u b) u hy one (unlost_loss u b) l (o (unlost u b) (unlost_back u b))

  pub loss_rests_cached : (state : StateView) (l : Ledger) → RestsCached g x c state l → RestsCached g y k state l
  loss_rests_cached state l r = record {
    rests = λ u b. loss_some_rests g ok x y (unlost u b) u hy one (unlost_loss u b) state l (r.rests (unlost u b) (unlost_back u b));
    roles_are = λ u b d a. let n = present_not g y d a in
        roles_same g (unlost u b) u d (λ z. ap (λ (t : ZoneView). t.sectors) (loss_at y (unlost u b) u (unlost_loss u b) d z n)) ∙ r.roles_are (unlost u b) (unlost_back u b) d (present_before g ok x y one d a) ∙ now_roles d n;
    spares = λ d z a. go d z (present_not g y d a) (r.spares d z (present_before g ok x y one d a));
  }
    where
      now_roles : (d : ℕ) → d ≢ y → roles g c.now d ≡ roles g k.now d
      now_roles d n = sym (roles_same g c.now k.now d (λ z. ap (λ (t : ZoneView). t.sectors) (loss_at y c.now k.now lo.now_same d z n)))

      go : (d z : ℕ) → d ≢ y → (c.was d z ≡ []) ⊎ (z ≡ (roles g c.now d).spare) → (k.was d z ≡ []) ⊎ (z ≡ (roles g k.now d).spare)
      go d z n (inl q) = inl (lo.was_same d z n ∙ q)
      go d z n (inr q) = inr (q ∙ ap (λ (t : Roles). t.spare) (now_roles d n))

  pub loss_down_cached : (l : Ledger) → DownCached g x c l → DownCached g y k l
  loss_down_cached l (i, f) = (loss_some_invs g ok x y c.now k.now hy one lo.now_same l i, λ d z a. lo.was_same d z (present_not g y d a) ∙ f d z (present_before g ok x y one d a))

pub lose_cached : (g : Geometry) → Valid g → (m : Mode) (x y : ℕ) (c k : Caching) (state : StateView) (l : Ledger) → y < g.drives → (x ≡ no_drive) ⊎ (x ≡ y) → CachingLoss y c k → OkCached g m x c state l → OkCached g m y k state l
lose_cached g ok ready x y c k state l hy one lo o = loss_rests_cached g ok x y c k hy one lo state l o
lose_cached g ok stopped x y c k state l hy one lo o = loss_halted_cached g ok x y c k hy one lo l o
lose_cached g ok down x y c k state l hy one lo o = loss_down_cached g ok x y c k hy one lo l o

-- ---- what is known of every cut, with the places outside the geometry in order, is known of whatever a cut may keep
module _ (g : Geometry) (x : ℕ) (v : Device) (l : Ledger) (xs : List Store) (lasts : Lasting g x v) (u : Device) (h : Delayed g x v xs u) where
  abbrev inside : ℕ → ℕ → Bool
  inside d y = present_but g x d && ltb y (physical_zones g)

  abbrev after : Device
  after = apply_all xs (in_order v)

  within : (d y : ℕ) → inside d y ≡ true → Here g x d × (y < physical_zones g)
  within d y e = let (a, b) = and_split (present_but g x d) (ltb y (physical_zones g)) e in (a, ltb-true y (physical_zones g) b)

  -- u, in order
  ordered : Device
  ordered d y = pick (inside d y) (u d y) (after d y)

  ordered_delayed : Delayed g x (in_order v) xs ordered
  unfolding ordered
  ordered_delayed = record { at = λ d y. go d y (inside d y) refl }
    where
      go : (d y : ℕ) (b : Bool) → inside d y ≡ b → (ordered d y ≡ (apply_all_caching xs (uncached (in_order v))).now d y) ⊎ (Here g x d × Memᴰ (ordered d y) ((apply_all_caching xs (uncached (in_order v))).was d y))
      go d y true e =
          let (a, b) = within d y e in
          let k : BackHere (local_stores d y xs) (in_order v d y) [] (u d y) = subst (λ (i : ZoneView). BackHere (local_stores d y xs) i [] (u d y)) (sym (order_same g x v lasts d y a b)) (back_here g x (uncached v) xs u h d y) in
          let q : ordered d y ≡ u d y = rw e refl in
          delayed_at g x (in_order v) xs ordered d y a (subst (λ (i : ZoneView). BackHere (local_stores d y xs) (in_order v d y) [] i) (sym q) k)
      go d y false e = inl (rw e (ap (λ (t : Device). t d y) (sym (now_is xs (uncached (in_order v))))))

  after_well : (d y : ℕ) → (after d y).durable ≤ length (after d y).sectors
  unfolding WellFormed
  after_well = well_formed_apply_all xs (in_order v) (order_well v)

  module _ (w : Device) (k : Kept g x u w) where
    kept_in : Device
    kept_in d y = pick (inside d y) (w d y) (flushed (after d y))

    kept_in_cut : Cut x ordered kept_in
    unfolding Cut ordered kept_in
    kept_in_cut d y n = go (inside d y) refl
      where
        go : (b : Bool) → inside d y ≡ b → ZoneCut (pick b (u d y) (after d y)) (pick b (w d y) (flushed (after d y)))
        go true e = let (a, b) = within d y e in k d y a b
        go false e = whole_cut (after d y) (after_well d y)

    kept_in_same : SamePlaces g x kept_in w
    unfolding kept_in
    kept_in_same d y a b = rw (and_join (present_but g x d) (ltb y (physical_zones g)) a (lt-ltb y (physical_zones g) b)) refl

  pub delayed_halted : ((t w : Device) → Delayed g x (in_order v) xs t → Cut x t w → SomeInvs g x w l) → Halted g x u l
  delayed_halted f = (lasting, λ w k. go w k (f ordered (kept_in w k) ordered_delayed (kept_in_cut w k)))
    where
      lasting : Lasting g x u
      lasting d y a b = let (os, p, e) = back_part (local_stores d y xs) (v d y) (u d y) (back_here g x (uncached v) xs u h d y) in rw e (here_lasting os (v d y) (lasts d y a b))

      go : (w : Device) (k : Kept g x u w) → SomeInvs g x (kept_in w k) l → SomeInvs g x w l
      go w k (c, m, a, (s, i)) = (c, m, a, placed_invs g x c (kept_in w k) w s (kept_in_same w k) (with_marks l m) i)
