-- Roles that no cut can change (Firm): the counting logs claim their kind in whatever a cut keeps of them, and no beginning of the spare
-- claims as much. A cut of such a device is a cut of the device by its roles.
use Rattle.std.specs.Prelude.{◌≡◌, ◌≢◌, ◌⊎◌, Bool, List, length, take, leb}
use Rattle.std.proofs.Math.Path.{refl, ap}
use Rattle.std.proofs.Common.{sym, ◌∙◌, inl, inr, arith, length-take, take_all, take-take}
use Rattle.std.proofs.Math.Bool.{true, false}
use Prim.Native.Nat.{ℕ, zero, suc, ◌+◌, ◌-◌, ◌≤◌, ◌<◌, min}
use Rattle.std.proofs.Math.Decide.{dec_lt}
use Rattle.std.proofs.Math.Dec.{eqb}
use borrow.Author.Tests.{ne_eqb, le-leb, lt-leb}
use Rattle.tables.specs.laws.Basics.{Tri, lt, eq, gt, tri}
use Rattle.tables.specs.meaning.Device.{ZoneView, Device, ZoneCut, Cut}
use Rattle.tables.specs.laws.Device.{cut_at}
use Rattle.tables.specs.laws.Through.{OneToOne}
use Rattle.tables.specs.declared.Geometry.{Geometry}
use Rattle.logs.specs.code.Judge.{and_false}
use Rattle.volume.specs.meaning.Roles.{strength, strongest, Roles, roles_in, roles, zone_of_role, placed_by, seen_as, drive_by_roles, by_roles}

-- ---- three zones, each in one role
pub record Proper (r : Roles) : Type 0 where
  pub general_lt : r.general < 3
  pub parity_lt : r.parity < 3
  pub apart : (r.general < r.parity) ⊎ (r.parity < r.general)
  pub sum : r.general + r.parity + r.spare ≡ 3

pub proper_apart : (r : Roles) → Proper r → (r.general ≢ r.parity) × (r.general ≢ r.spare) × (r.parity ≢ r.spare) × (r.spare < 3)
proper_apart r p = go p.apart
  where
    go : (r.general < r.parity) ⊎ (r.parity < r.general) → (r.general ≢ r.parity) × (r.general ≢ r.spare) × (r.parity ≢ r.spare) × (r.spare < 3)
    go (inl h) = ((λ e. omega (arith, h)), (λ e. omega (arith, h, p.sum, p.parity_lt)), (λ e. omega (arith, h, p.sum, p.parity_lt)), omega (arith, h, p.sum))
    go (inr h) = ((λ e. omega (arith, h)), (λ e. omega (arith, h, p.sum, p.general_lt)), (λ e. omega (arith, h, p.sum, p.general_lt)), omega (arith, h, p.sum))

pub role_one_to_one : (r : Roles) → Proper r → OneToOne (zone_of_role r)
role_one_to_one r p = let a = proper_apart r p in go a.0 a.1 a.2 a.3
  where
    go : r.general ≢ r.parity → r.general ≢ r.spare → r.parity ≢ r.spare → r.spare < 3 → OneToOne (zone_of_role r)
    go n0 n1 n2 l3 zero zero e = refl
    go n0 n1 n2 l3 zero (suc zero) e = absurd (n0 e)
    go n0 n1 n2 l3 zero (suc (suc zero)) e = absurd (n1 e)
    go n0 n1 n2 l3 zero (suc (suc (suc z))) e = absurd (omega (arith, e, p.general_lt))
    go n0 n1 n2 l3 (suc zero) zero e = absurd (n0 (sym e))
    go n0 n1 n2 l3 (suc zero) (suc zero) e = refl
    go n0 n1 n2 l3 (suc zero) (suc (suc zero)) e = absurd (n2 e)
    go n0 n1 n2 l3 (suc zero) (suc (suc (suc z))) e = absurd (omega (arith, e, p.parity_lt))
    go n0 n1 n2 l3 (suc (suc zero)) zero e = absurd (n1 (sym e))
    go n0 n1 n2 l3 (suc (suc zero)) (suc zero) e = absurd (n2 (sym e))
    go n0 n1 n2 l3 (suc (suc zero)) (suc (suc zero)) e = refl
    go n0 n1 n2 l3 (suc (suc zero)) (suc (suc (suc z))) e = absurd (omega (arith, e, l3))
    go n0 n1 n2 l3 (suc (suc (suc y))) zero e = absurd (omega (arith, e, p.general_lt))
    go n0 n1 n2 l3 (suc (suc (suc y))) (suc zero) e = absurd (omega (arith, e, p.parity_lt))
    go n0 n1 n2 l3 (suc (suc (suc y))) (suc (suc zero)) e = absurd (omega (arith, e, l3))
    go n0 n1 n2 l3 (suc (suc (suc y))) (suc (suc (suc z))) e = e

-- every zone below 3 has a role
pub data RoleOf (r : Roles) (y : ℕ) : Type 0 where
  is_general : y ≡ r.general → RoleOf r y
  is_parity : y ≡ r.parity → RoleOf r y
  is_spare : y ≡ r.spare → RoleOf r y

pub role_of : (r : Roles) → Proper r → (y : ℕ) → y < 3 → RoleOf r y
role_of r p y h = go (tri y r.general) (tri y r.parity) p.apart
  where
    go : Tri y r.general → Tri y r.parity → (r.general < r.parity) ⊎ (r.parity < r.general) → RoleOf r y
    go (eq e) q k = is_general e
    go (lt i) (eq e) k = is_parity e
    go (gt i) (eq e) k = is_parity e
    go (lt i) (lt j) (inl k) = is_spare (omega (arith, p.sum, p.parity_lt))
    go (lt i) (lt j) (inr k) = is_spare (omega (arith, p.sum, p.general_lt))
    go (lt i) (gt j) k = is_spare (omega (arith, p.sum, p.general_lt))
    go (gt i) (lt j) k = is_spare (omega (arith, p.sum, p.parity_lt))
    go (gt i) (gt j) (inl k) = is_spare (omega (arith, p.sum, h))
    go (gt i) (gt j) (inr k) = is_spare (omega (arith, p.sum, h))

-- ---- what decides
pub strongest_is : (a : ℕ → ℕ) (s : ℕ) → s < 3 → ((y : ℕ) → y < 3 → y ≢ s → a y < a s) → strongest a ≡ s
strongest_is a zero h w =
    let p = w 1 (omega arith) (λ e. omega arith) in
    let q = w 2 (omega arith) (λ e. omega arith) in
    rw (le-leb (a 1) (a 0) (omega (arith, p)), le-leb (a 2) (a 0) (omega (arith, q))) refl
strongest_is a (suc zero) h w =
    let p = w 0 (omega arith) (λ e. omega arith) in
    let q = w 2 (omega arith) (λ e. omega arith) in
    rw (lt-leb (a 1) (a 0) p, le-leb (a 2) (a 1) (omega (arith, q))) refl
strongest_is a (suc (suc zero)) h w =
    let p = w 0 (omega arith) (λ e. omega arith) in
    let q = w 1 (omega arith) (λ e. omega arith) in
    rw (lt-leb (a 2) (a 0) p, and_false (leb (a 1) (a 0)), lt-leb (a 2) (a 1) q) refl
strongest_is a (suc (suc (suc s))) h w = absurd (omega (arith, h))

-- ---- FIRM: drive d of v has the roles r, whatever a cut keeps
pub record Firm (g : Geometry) (v : Device) (d : ℕ) (r : Roles) : Type 0 where
  pub proper : Proper r
  pub general_firm : (k : ℕ) → (v d r.general).durable ≤ k
      → (strength g d false r.general (take k (v d r.general).sectors) ≡ r.general_claim) × (strength g d true r.general (take k (v d r.general).sectors) ≡ 0)
  pub parity_firm : (k : ℕ) → (v d r.parity).durable ≤ k
      → (strength g d true r.parity (take k (v d r.parity).sectors) ≡ r.parity_claim) × (strength g d false r.parity (take k (v d r.parity).sectors) ≡ 0)
  pub spare_loses : (k : ℕ) → (strength g d false r.spare (take k (v d r.spare).sectors) < r.general_claim) × (strength g d true r.spare (take k (v d r.spare).sectors) < r.parity_claim)

module _ (g : Geometry) (v : Device) (d : ℕ) (r : Roles) (f : Firm g v d r) where
  whole : (y : ℕ) → take ((v d y).durable + length (v d y).sectors) (v d y).sectors ≡ (v d y).sectors
  whole y = take_all ((v d y).durable + length (v d y).sectors) (v d y).sectors (omega arith)

  now_general : (strength g d false r.general (v d r.general).sectors ≡ r.general_claim) × (strength g d true r.general (v d r.general).sectors ≡ 0)
  now_general = rw (whole r.general) at (f.general_firm ((v d r.general).durable + length (v d r.general).sectors) (omega arith))

  now_parity : (strength g d true r.parity (v d r.parity).sectors ≡ r.parity_claim) × (strength g d false r.parity (v d r.parity).sectors ≡ 0)
  now_parity = rw (whole r.parity) at (f.parity_firm ((v d r.parity).durable + length (v d r.parity).sectors) (omega arith))

  now_spare : (strength g d false r.spare (v d r.spare).sectors < r.general_claim) × (strength g d true r.spare (v d r.spare).sectors < r.parity_claim)
  now_spare = rw (whole r.spare) at (f.spare_loses ((v d r.spare).durable + length (v d r.spare).sectors))

  general_wins : (y : ℕ) → y < 3 → y ≢ r.general → strength g d false y (v d y).sectors < strength g d false r.general (v d r.general).sectors
  general_wins y h n = go (role_of r f.proper y h)
    where
      go : RoleOf r y → strength g d false y (v d y).sectors < strength g d false r.general (v d r.general).sectors
      go (is_general e) = absurd (n e)
      go (is_parity e) = rw (e, now_parity.1, now_general.0) (omega (arith, now_spare.0))
      go (is_spare e) = rw (e, now_general.0) now_spare.0

  parity_wins : (y : ℕ) → y < 3 → y ≢ r.parity → strength g d true y (v d y).sectors < strength g d true r.parity (v d r.parity).sectors
  parity_wins y h n = go (role_of r f.proper y h)
    where
      go : RoleOf r y → strength g d true y (v d y).sectors < strength g d true r.parity (v d r.parity).sectors
      go (is_general e) = rw (e, now_general.1, now_parity.0) (omega (arith, now_spare.1))
      go (is_parity e) = absurd (n e)
      go (is_spare e) = rw (e, now_parity.0) now_spare.1

  claims_general : eqb r.general_claim 0 ≡ false
  claims_general = ne_eqb r.general_claim 0 (λ e. omega (arith, now_spare.0, e))

  claims_parity : eqb r.parity_claim 0 ≡ false
  claims_parity = ne_eqb r.parity_claim 0 (λ e. omega (arith, now_spare.1, e))

  -- THE ROLES ARE THESE
  pub firm_roles : roles g v d ≡ r
  unfolding roles_in
  firm_roles =
      let a : ℕ → ℕ = λ y. strength g d false y (v d y).sectors in
      let b : ℕ → ℕ = λ y. strength g d true y (v d y).sectors in
      let s : strongest a ≡ r.general = strongest_is a r.general f.proper.general_lt general_wins in
      let t : strongest b ≡ r.parity = strongest_is b r.parity f.proper.parity_lt parity_wins in
      let c : eqb (strength g d false r.general (v d r.general).sectors) 0 ≡ false = rw now_general.0 claims_general in
      let n : eqb r.parity r.general ≡ false = ne_eqb r.parity r.general (λ e. (proper_apart r f.proper).0 (sym e)) in
      let q : 3 - (r.general + r.parity) ≡ r.spare = omega (arith, f.proper.sum) in
      rw (s, t, c, n) (λ i. record { general = r.general; parity = r.parity; spare = q i; general_claim = now_general.0 i; parity_claim = now_parity.0 i })

  -- and the device is seen by them
  pub firm_seen : (y : ℕ) → by_roles g v d y ≡ v d (zone_of_role r y)
  unfolding drive_by_roles
  firm_seen y = ap (λ (q : Roles). seen_as q (v d) y) firm_roles ∙ rw (claims_general, claims_parity, and_false (eqb y 0), and_false (eqb y 1)) refl

-- ---- what keeps them
-- zone y, then b for a: whatever a cut keeps of b claims what something that a cut keeps of a does; every beginning, what a beginning does
pub record Alike (g : Geometry) (d y : ℕ) (a b : ZoneView) : Type 0 where
  pub cuts : (k : ℕ) → b.durable ≤ k → (i : ℕ) × (a.durable ≤ i) × ((par : Bool) → strength g d par y (take k b.sectors) ≡ strength g d par y (take i a.sectors))
  pub fronts : (k : ℕ) → (i : ℕ) × ((par : Bool) → strength g d par y (take k b.sectors) ≡ strength g d par y (take i a.sectors))

-- THE LAW: every zone is like what it was
pub firm_alike : (g : Geometry) (v w : Device) (d : ℕ) (r : Roles) → Firm g v d r → ((y : ℕ) → y < 3 → Alike g d y (v d y) (w d y)) → Firm g w d r
firm_alike g v w d r f k =
    let a = k r.general f.proper.general_lt in
    let b = k r.parity f.proper.parity_lt in
    let c = k r.spare (proper_apart r f.proper).3 in
    record {
      proper = f.proper;
      general_firm = λ j h. let (i, l, e) = a.cuts j h in rw (e false, e true) (f.general_firm i l);
      parity_firm = λ j h. let (i, l, e) = b.cuts j h in rw (e true, e false) (f.parity_firm i l);
      spare_loses = λ j. let (i, e) = c.fronts j in rw (e false, e true) (f.spare_loses i);
    }

pub alike_self : (g : Geometry) (d y : ℕ) (a : ZoneView) → Alike g d y a a
alike_self g d y a = record { cuts = λ k h. (k, h, λ par. refl); fronts = λ k. (k, λ par. refl) }

-- the first three zones being the same
pub firm_same : (g : Geometry) (v w : Device) (d : ℕ) (r : Roles) → Firm g v d r → ((y : ℕ) → y < 3 → w d y ≡ v d y) → Firm g w d r
firm_same g v w d r f s = firm_alike g v w d r f (λ y h. rw (s y h) (alike_self g d y (v d y)))

take_of_take : {A : Type 0} (j k : ℕ) (xs : List A) → take j (take k xs) ≡ take (min j k) xs
take_of_take j k xs = go (dec_lt j k)
  where
    go : Dec (j < k) → take j (take k xs) ≡ take (min j k) xs
    go (yes h) = let e : min j k ≡ j = omega arith in rw e (take-take j k xs (omega arith))
    go (no h) = let e : min j k ≡ k = omega arith in rw e (take_all j (take k xs) (rw length-take (omega arith)))

-- a cut
pub alike_cut : (g : Geometry) (d y : ℕ) (a b : ZoneView) → ZoneCut a b → Alike g d y a b
alike_cut g d y a b c = rw c.is (record {
  cuts = λ k h. (min k c.kept, omega (arith, h, c.least), λ par. rw (take_of_take k c.kept a.sectors) refl);
  fronts = λ k. (min k c.kept, λ par. rw (take_of_take k c.kept a.sectors) refl);
})

-- so a cut keeps them
pub firm_cut : (g : Geometry) (x : ℕ) (v w : Device) (d : ℕ) (r : Roles) → d ≢ x → Cut x v w → Firm g v d r → Firm g w d r
firm_cut g x v w d r n c f = firm_alike g v w d r f (λ y h. alike_cut g d y (v d y) (w d y) (cut_at x v w c d y n))

-- ---- THE DEVICE BY ITS ROLES
-- the zones of each drive by its roles now
abbrev pub places : Geometry → Device → ℕ → ℕ → ℕ
places g v = placed_by (roles g v)

-- a cut of a device with firm roles is a cut of the device by its roles
pub by_roles_cut : (g : Geometry) (x : ℕ) (v w : Device) (r : ℕ → Roles) → ((d : ℕ) → d ≢ x → Firm g v d (r d)) → Cut x v w → Cut x (by_roles g v) (by_roles g w)
unfolding Cut
by_roles_cut g x v w r f c d y n =
    rw (firm_seen g v d (r d) (f d n) y, firm_seen g w d (r d) (firm_cut g x v w d (r d) n c (f d n)) y) (c d (zone_of_role (r d) y) n)
