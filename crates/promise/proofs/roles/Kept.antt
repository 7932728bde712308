-- After a stopped call only a cut may follow; and a stopped emptying leaves two devices in one, by the old roles or the new, as the cut will have it. So
-- what holds then is said of every device that a cut may leave (Kept), of the present drives' zones: of places outside the geometry nothing is known.
use Rattle.std.specs.Prelude.{◌≡◌, refl, ◌≢◌, ◌⊎◌, ℕ, zero, suc, ◌≤◌, ◌<◌, List, [], ◌∷◌, length, eqb}
use Rattle.std.proofs.Common.{sym, ap, ◌∙◌, zero-le, le_refl, arith, length-append, eq-eqb, ne_eqb}
use Rattle.std.proofs.Math.Decide.{dec_lt, ℕ_discrete}
use Rattle.std.proofs.Math.Seq.{take-length}
use Rattle.tables.specs.meaning.Basics.{pick}
use Rattle.tables.specs.meaning.Device.{ZoneView, Device, Store, appended, flushed, blank_zone, apply_all, ZoneCut, Cut, Loss}
use Rattle.tables.specs.laws.Device.{cut_at, loss_at}
use Rattle.tables.specs.laws.Local.{LocalStore, append_here, reset_here, flush_here, apply_all_here, local_stores, local_is}
use Rattle.tables.specs.meaning.Drives.{no_drive}
use Rattle.tables.specs.laws.Drives.{present_not, present_below, present_other}
use Rattle.tables.specs.declared.Geometry.{Geometry}
use Rattle.tables.specs.meaning.Geometry.{Valid, physical_zones}
use Rattle.volume.specs.meaning.Roles.{Roles, zone_of_role, by_roles}
use Rattle.volume.specs.laws.Firm.{Proper, proper_apart, RoleOf, is_general, is_parity, is_spare, role_of, Firm, firm_seen, firm_alike, alike_cut}
use Rattle.promise.specs.meaning.Ledger.{Ledger}
use Rattle.promise.proofs.invariant.Invariant.{Ghost, Here, LogsOk, LogGenerations}
use Rattle.promise.proofs.invariant.Obligations.{Invs}
use Rattle.promise.proofs.invariant.StoppedCall.{inv_part}
use Rattle.promise.proofs.invariant.CrashKeeps.{cut_part, present_before}
use Rattle.promise.proofs.roles.Roled.{Standing}

-- no zone of a present drive has more durable sectors than sectors
abbrev pub Lasting : Geometry → ℕ → Device → Type 0
Lasting g x v = (d y : ℕ) → Here g x d → y < physical_zones g → (v d y).durable ≤ length (v d y).sectors

-- w is what a cut of v may keep
abbrev pub Kept : Geometry → ℕ → Device → Device → Type 0
Kept g x v w = (d y : ℕ) → Here g x d → y < physical_zones g → ZoneCut (v d y) (w d y)

-- ---- stores keep a zone's durable sectors among its sectors
pub here_lasting : (os : List LocalStore) (a : ZoneView) → a.durable ≤ length a.sectors → (apply_all_here os a).durable ≤ length (apply_all_here os a).sectors
here_lasting [] a h = h
here_lasting (append_here s ∷ os) a h = here_lasting os (appended s a) (rw length-append (omega arith))
here_lasting (reset_here ∷ os) a h = here_lasting os blank_zone zero-le
here_lasting (flush_here ∷ os) a h = here_lasting os (flushed a) (le_refl (length a.sectors))

pub lasting_stores : (g : Geometry) (x : ℕ) (xs : List Store) (v : Device) → Lasting g x v → Lasting g x (apply_all xs v)
lasting_stores g x xs v h d y a b = rw (local_is d y xs v) (here_lasting (local_stores d y xs) (v d y) (h d y a b))

-- ---- what is kept
pub cut_kept : (g : Geometry) (x : ℕ) (v w : Device) → Cut x v w → Kept g x v w
cut_kept g x v w c d y a h = cut_at x v w c d y (present_not g x d a)

-- all of it
abbrev pub all_kept : Device → Device
all_kept v d y = flushed (v d y)

pub whole_cut : (a : ZoneView) → a.durable ≤ length a.sectors → ZoneCut a (flushed a)
whole_cut a h = record { kept = length a.sectors; least = h; most = le_refl (length a.sectors); is = λ i. record { sectors = sym (take-length a.sectors) i; durable = length a.sectors } }

pub all_kept_lem : (g : Geometry) (x : ℕ) (v : Device) → Lasting g x v → Kept g x v (all_kept v)
all_kept_lem g x v h d y a b = whole_cut (v d y) (h d y a b)

-- ---- the zones of the geometry, by their roles
pub role_below : (g : Geometry) (r : Roles) → Proper r → (i : ℕ) → i < physical_zones g → zone_of_role r i < physical_zones g
role_below g r p zero h = omega (arith, p.general_lt)
role_below g r p (suc zero) h = omega (arith, p.parity_lt)
role_below g r p (suc (suc zero)) h = let n = (proper_apart r p).3 in omega (arith, n)
role_below g r p (suc (suc (suc i))) h = h

pub role_zone : (g : Geometry) (r : Roles) → Proper r → (y : ℕ) → y < physical_zones g → (i : ℕ) × (i < physical_zones g) × (zone_of_role r i ≡ y)
role_zone g r p y h = go (dec_lt y 3)
  where
    first : RoleOf r y → (i : ℕ) × (i < physical_zones g) × (zone_of_role r i ≡ y)
    first (is_general e) = (0, omega arith, sym e)
    first (is_parity e) = (1, omega arith, sym e)
    first (is_spare e) = (2, omega arith, sym e)

    later : (z : ℕ) → 3 ≤ z → z < physical_zones g → (i : ℕ) × (i < physical_zones g) × (zone_of_role r i ≡ z)
    later zero k l = absurd (omega (arith, k))
    later (suc zero) k l = absurd (omega (arith, k))
    later (suc (suc zero)) k l = absurd (omega (arith, k))
    later (suc (suc (suc z))) k l = (suc (suc (suc z)), l, refl)

    go : Dec (y < 3) → (i : ℕ) × (i < physical_zones g) × (zone_of_role r i ≡ y)
    go (yes l) = first (role_of r p y l)
    go (no l) = later y (omega (arith, l)) h

module _ (g : Geometry) (x : ℕ) (v : Device) (c : LogGenerations) (s : Standing g x v c) where
  -- a zone of the device is one of the device by its roles
  pub standing_place : (d y : ℕ) → Here g x d → y < physical_zones g → (i : ℕ) × (i < physical_zones g) × (v d y ≡ by_roles g v d i)
  standing_place d y a h =
      let (i, l, e) = role_zone g (s.roles d) (s.firm d a).proper y h in
      (i, l, ap (v d) (sym e) ∙ sym (firm_seen g v d (s.roles d) (s.firm d a) i))

  module _ (γ : Ghost) (lg : LogsOk g x (by_roles g v) γ) where
    pub standing_lasting : Lasting g x v
    standing_lasting d y a h = let (i, l, e) = standing_place d y a h in rw e (lg.lasting d i a l)

    pub standing_fits : (d y : ℕ) → Here g x d → y < physical_zones g → length (v d y).sectors ≤ g.capacity
    standing_fits d y a h = let (i, l, e) = standing_place d y a h in rw e (lg.place_fits d i a l)

  -- WHAT A CUT KEEPS has the roles, and the invariant by them
  pub standing_kept : (w : Device) (l : Ledger) → Invs c g x (by_roles g v) l → Kept g x v w → Standing g x w c × Invs c g x (by_roles g w) l
  standing_kept w l (γ, i, q) k =
      let firm' : (e : ℕ) → Here g x e → Firm g w e (s.roles e) = λ e a. firm_alike g v w e (s.roles e) (s.firm e a) (λ y h. alike_cut g e y (v e y) (w e y) (k e y a (omega (arith, h)))) in
      let (δ, j, p) = inv_part g x (by_roles g v) (by_roles g w) l γ i (λ e y a h. let z = zone_of_role (s.roles e) y in
      rw (firm_seen g v e (s.roles e) (s.firm e a) y, firm_seen g w e (s.roles e) (firm' e a) y) (cut_part (v e z) (w e z) (k e z a (role_below g (s.roles e) (s.firm e a).proper y h)))) in
      (record { roles = s.roles; firm = firm'; general_claim_lem = s.general_claim_lem; parity_claim_lem = s.parity_claim_lem }, (δ, j, p ∙ q))

-- ---- the loss of drive y (x: lost before, if any)
module _ (g : Geometry) (ok : Valid g) (x y : ℕ) (v w : Device) (one : (x ≡ no_drive) ⊎ (x ≡ y)) (lo : Loss y v w) (h : Lasting g x v) where
  pub lasting_loss : Lasting g y w
  lasting_loss d z a b = rw (loss_at y v w lo d z (present_not g y d a)) (h d z (present_before g ok x y one d a) b)

  -- what a cut keeps after the loss is the loss of what a cut keeps
  pub kept_loss : (t : Device) → Kept g y w t → (u : Device) × Kept g x v u × Loss y u t
  unfolding Loss
  kept_loss t k = (u, (λ d z a b. side d z a b (ℕ_discrete d y)), λ d z n. rw (ne_eqb d y n) refl)
    where
      u : Device
      u d z = pick (eqb d y) (flushed (v d z)) (t d z)

      side : (d z : ℕ) → Here g x d → z < physical_zones g → Dec (d ≡ y) → ZoneCut (v d z) (u d z)
      side d z a b (yes q) = rw (eq-eqb d y q) (whole_cut (v d z) (h d z a b))
      side d z a b (no q) = rw (ne_eqb d y q, ← lo d z q) (k d z (still d a q) b)
        where
          still : (d : ℕ) → Here g x d → d ≢ y → Here g y d
          still d a q = present_other g y d (present_below g x d a) q
