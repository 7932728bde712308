-- Two geometries of one volume that differ at most in where each drive's logs lie: what is read goes by the one, what is stored by the other.
use Rattle.std.specs.Prelude.{◌≡◌, Bool, true, not, ℕ, ◌+◌, ◌*◌, ◌≤◌, ◌<◌, List, length, eqb}
use Rattle.std.proofs.Math.Path.{refl}
use Rattle.std.proofs.Common.{ap, sym, subst, arith, ne_eqb}
use Rattle.tables.specs.declared.Geometry.{Geometry}
use Rattle.tables.specs.meaning.Geometry.{Valid, physical_zones, cells, total_bytes, stripe_sectors, zone_sectors, data_zone}
use Rattle.volume.specs.laws.LogPlaces.{with_logs, valid_with_logs}
use Rattle.logs.specs.meaning.Entry.{spare_zone, Header, label, counters, zone_reset, partial_parity, seal, closing, encode, label_bytes}

-- the zones of a drive that are no spare, by their role
abbrev pub not_spare : ℕ → Bool
not_spare y = not (eqb y spare_zone)

pub data_not_spare : (z : ℕ) → not_spare (data_zone z) ≡ true
data_not_spare z = rw (ne_eqb (data_zone z) spare_zone (λ e. omega (arith, e))) refl

pub record SameShape (g h : Geometry) : Type 0 where
  pub drives_same : h.drives ≡ g.drives
  pub sector_same : h.sector ≡ g.sector
  pub unit_same : h.unit ≡ g.unit
  pub zones_same : h.zones ≡ g.zones
  pub capacity_same : h.capacity ≡ g.capacity

pub shape_refl : (g : Geometry) → SameShape g g
shape_refl g = record { drives_same = refl; sector_same = refl; unit_same = refl; zones_same = refl; capacity_same = refl }

pub shape_with : (g : Geometry) (logs : ℕ) → SameShape g (with_logs g logs)
shape_with g logs = record { drives_same = refl; sector_same = refl; unit_same = refl; zones_same = refl; capacity_same = refl }

same_numbers : (d b u z c d' b' u' z' c' l : ℕ) → d ≡ d' → b ≡ b' → u ≡ u' → z ≡ z' → c ≡ c'
    → ◌≡◌ {A = Geometry} (record { drives = d; sector = b; unit = u; zones = z; capacity = c; logs = l }) (record { drives = d'; sector = b'; unit = u'; zones = z'; capacity = c'; logs = l })
same_numbers d b u z c d' b' u' z' c' l p q r s t = rw (p, q, r, s, t) refl

module _ (g h : Geometry) (same : SameShape g h) where
  pub shape_is : h ≡ with_logs g h.logs
  shape_is = same_numbers h.drives h.sector h.unit h.zones h.capacity g.drives g.sector g.unit g.zones g.capacity h.logs same.drives_same same.sector_same same.unit_same same.zones_same same.capacity_same

  -- what holds of one that differs in its logs alone holds of it
  pub by_shape : (P : Geometry → Type 0) → P (with_logs g h.logs) → P h
  by_shape P p = subst P (sym shape_is) p

  pub shape_valid : Valid g → Valid h
  shape_valid ok = by_shape Valid (valid_with_logs g h.logs ok)

  pub shape_zones : physical_zones h ≡ physical_zones g
  shape_zones = ap (λ (n : ℕ). n + 3) same.zones_same

  pub shape_cells : cells h ≡ cells g
  shape_cells = by_shape (λ (x : Geometry). cells x ≡ cells g) refl

  pub shape_bytes : total_bytes h ≡ total_bytes g
  shape_bytes = by_shape (λ (x : Geometry). total_bytes x ≡ total_bytes g) refl

  -- a header's bytes are the same
  pub encode_same : (d : ℕ) (e : Header) → encode h d e ≡ encode g d e
  encode_same d e = by_shape (λ (x : Geometry). encode x d e ≡ encode g d e) (go e)
    where
      go : (e : Header) → encode (with_logs g h.logs) d e ≡ encode g d e
      go (label x a) = unfold encode label_bytes in refl
      go (counters cs) = unfold encode in refl
      go (zone_reset z n) = unfold encode zone_sectors in refl
      go (partial_parity z s f n) = unfold encode zone_sectors in refl
      go (seal z p n) = unfold encode zone_sectors in refl
      go (closing kind gen) = unfold encode in refl

  -- what an append asks for, by the one where it is known by the other
  pub append_placed : (xs ws src : List ℕ) (d y : ℕ) → Valid g → d < g.drives → y < physical_zones g → length xs ≡ total_bytes g → length ws ≡ cells g → length src ≡ g.sector
      → Valid h × (((d < h.drives) × (y < physical_zones h)) × ((length xs ≡ total_bytes h) × (length ws ≡ cells h) × (length src ≡ h.sector)))
  append_placed xs ws src d y ok hd hy lx lw ls = (shape_valid ok, by_shape (λ (x : Geometry). ((d < x.drives) × (y < physical_zones x)) × ((length xs ≡ total_bytes x) × (length ws ≡ cells x) × (length src ≡ x.sector))) ((hd, hy), (lx, lw, ls)))

  -- and the header of a partial parity entry
  pub partial_placed : (xs ws : List ℕ) (d z s fill : ℕ) → Valid g → d < g.drives → z < g.zones → s * stripe_sectors g + fill ≤ zone_sectors g → length xs ≡ total_bytes g → length ws ≡ cells g
      → Valid h × ((d < h.drives) × (z < h.zones) × (s * stripe_sectors h + fill ≤ zone_sectors h) × (length xs ≡ total_bytes h) × (length ws ≡ cells h))
  unfolding zone_sectors
  partial_placed xs ws d z s fill ok hd hz he lx lw =
      (shape_valid ok, by_shape (λ (x : Geometry). (d < x.drives) × (z < x.zones) × (s * stripe_sectors x + fill ≤ zone_sectors x) × (length xs ≡ total_bytes x) × (length ws ≡ cells x)) (hd, hz, he, lx, lw))
