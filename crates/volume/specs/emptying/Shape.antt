-- Two geometries of one shape: they differ at most in where each drive's logs lie. What a header is, and how long things are, is the same in both.
use Rattle.std.specs.Prelude.{◌≡◌, refl, ℕ}
use Rattle.std.proofs.Common.{sym, ap, ◌∙◌, subst}
use Rattle.tables.specs.declared.Geometry.{Geometry}
use Rattle.tables.specs.meaning.Geometry.{Valid, zone_sectors, cells, total_bytes}
use Rattle.volume.specs.laws.LogPlaces.{with_logs, valid_with_logs}
use Rattle.logs.specs.meaning.Entry.{Header, label, counters, zone_reset, partial_parity, seal, closing, encode, label_bytes}

pub record SameShape (g h : Geometry) : Type 0 where
  pub drives : h.drives ≡ g.drives
  pub sector : h.sector ≡ g.sector
  pub unit : h.unit ≡ g.unit
  pub zones : h.zones ≡ g.zones
  pub capacity : h.capacity ≡ g.capacity

pub relaid_shape : (g : Geometry) (l : ℕ) → SameShape g (with_logs g l)
relaid_shape g l = record { drives = refl; sector = refl; unit = refl; zones = refl; capacity = refl }

module _ (g h : Geometry) (s : SameShape g h) where
  pub shape_is : h ≡ with_logs g h.logs
  shape_is = λ i. record { drives = s.drives i; sector = s.sector i; unit = s.unit i; zones = s.zones i; capacity = s.capacity i; logs = h.logs }

  pub shape_valid : Valid g → Valid h
  shape_valid v = subst Valid (sym shape_is) (valid_with_logs g h.logs v)

  pub shape_cells : cells h ≡ cells g
  shape_cells = ap cells shape_is

  pub shape_bytes : total_bytes h ≡ total_bytes g
  shape_bytes = ap total_bytes shape_is

-- ---- headers
relaid_encode : (g : Geometry) (l d : ℕ) (x : Header) → encode (with_logs g l) d x ≡ encode g d x
unfolding encode label_bytes zone_sectors
relaid_encode g l d (label x a) = refl
relaid_encode g l d (counters cs) = refl
relaid_encode g l d (zone_reset z n) = refl
relaid_encode g l d (partial_parity z s f n) = refl
relaid_encode g l d (seal z p n) = refl
relaid_encode g l d (closing kind gen) = refl

pub shape_encode : (g h : Geometry) → SameShape g h → (d : ℕ) (x : Header) → encode h d x ≡ encode g d x
shape_encode g h s d x = ap (λ (k : Geometry). encode k d x) (shape_is g h s) ∙ relaid_encode g h.logs d x
