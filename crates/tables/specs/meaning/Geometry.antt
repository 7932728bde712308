-- The geometry of a volume, its bounds (document 01, "The shelf and its tables"; refusal 1), and the sizes that follow from it.
-- The record itself is the code's struct: drives (D), sector (B, in bytes), unit (U, in sectors), zones (L), capacity (C, in sectors), and the physical
-- zones of each drive's logs in one number (Tables' `zone_place`).
use Rattle.std.specs.Prelude.{◌≡◌, ℕ, suc, ◌+◌, ◌-◌, ◌*◌, ◌^◌, ◌≤◌, leb}
use Rattle.tables.specs.meaning.Greatest.{greatest}
use Rattle.tables.specs.declared.Geometry.{Geometry}
use Rattle.tables.specs.meaning.Placement.{stripe_length, parity_drive, unit_drive}

-- the geometry of five numbers, with each drive's logs at their first places: the general log in physical zone 0, the parity log in 1
abbrev pub geometry_of : ℕ → ℕ → ℕ → ℕ → ℕ → Geometry
geometry_of d b u l c = record { drives = d; sector = b; unit = u; zones = l; capacity = c; logs = 0 }

-- the exponent of the greatest power of two that is at most b
unfoldable pub log2 : ℕ → ℕ
log2 b = greatest (λ k. leb (2 ^ suc k) b) 16

-- at most so many drives, and so many zones of a volume
abbrev pub max_drives : ℕ
max_drives = 8

abbrev pub max_zones : ℕ
max_zones = 16

-- document 01's bounds on a geometry
pub record Valid (g : Geometry) : Type 0 where
  pub drives_least : 3 ≤ g.drives
  pub drives_most : g.drives ≤ max_drives
  pub sector : g.sector ≡ 2 ^ log2 g.sector
  pub sector_least : 64 ≤ g.sector
  pub sector_most : g.sector ≤ 4096
  pub unit_least : 1 ≤ g.unit
  pub unit_most : g.unit ≤ 16
  pub zones_least : 1 ≤ g.zones
  pub zones_most : g.zones ≤ max_zones
  pub counters_fit : 32 + 8 * g.zones ≤ g.sector
  pub units : ℕ  -- units in a physical zone
  pub whole_units : g.capacity ≡ units * g.unit
  pub zone_most : g.capacity ≤ 65536
  pub logs_fit : g.zones * (1 + g.unit) + 2 * g.unit + 1 ≤ g.capacity
  pub general_fits : g.zones + 6 ≤ g.capacity

-- ---- sizes
-- K: the data sectors of a stripe
abbrev pub stripe_sectors : Geometry → ℕ
stripe_sectors g = stripe_length g.drives g.unit

-- the sectors of a logical zone: zone z starts at z times that
unfoldable pub zone_sectors : Geometry → ℕ
zone_sectors g = (g.drives - 1) * g.capacity

-- two logs and a spare zone come before the logical zones; Z: the physical zones of a drive
abbrev pub log_zones : ℕ
log_zones = 3

abbrev pub physical_zones : Geometry → ℕ
physical_zones g = g.zones + log_zones

-- logical zone z lies in this physical zone of every drive
abbrev pub data_zone : ℕ → ℕ
data_zone z = log_zones + z

-- the cells of a table of pointers, and the bytes of all sectors
abbrev pub cells : Geometry → ℕ
cells g = g.drives * physical_zones g

abbrev pub total_bytes : Geometry → ℕ
total_bytes g = g.drives * physical_zones g * g.capacity * g.sector

-- ---- drives of a stripe, by the geometry
abbrev pub parity_drive_of : Geometry → ℕ → ℕ → ℕ
parity_drive_of g z s = parity_drive g.drives z s

-- the drive of the first unit of stripe 0
abbrev pub first_drive_of : Geometry → ℕ → ℕ
first_drive_of g z = unit_drive g.drives (parity_drive g.drives z 0) 0
