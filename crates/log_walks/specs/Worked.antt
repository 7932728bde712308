-- The geometry of document 01's worked cases: D 4, U 2, C 32, B 64, L 2.
use Rattle.std.specs.Prelude.{◌≡◌, refl}
use Rattle.tables.specs.declared.Geometry.{Geometry}
use Rattle.tables.specs.meaning.Geometry.{Valid, geometry_of, log2, stripe_sectors, zone_sectors, physical_zones, total_bytes}
use Rattle.tables.specs.meaning.GeometryTest.{is_valid}
use Rattle.tables.specs.laws.GeometryTest.{valid_if_test}
use Rattle.tables.specs.meaning.Placement.{stripe_length}

pub record Worked (g : Geometry) : Type 0 where
  pub valid : Valid g
  pub drives : g.drives ≡ 4
  pub sector : g.sector ≡ 64
  pub zones : g.zones ≡ 2
  pub capacity : g.capacity ≡ 32
  pub physical : physical_zones g ≡ 5
  pub in_zone_lem : zone_sectors g ≡ 96
  pub in_stripe : stripe_sectors g ≡ 6
  pub bytes : total_bytes g ≡ 40960

abbrev pub worked_geometry : Geometry
worked_geometry = geometry_of 4 64 2 2 32

pub worked : Worked worked_geometry
unfolding is_valid zone_sectors stripe_length log2
worked = record { valid = valid_if_test worked_geometry refl; drives = refl; sector = refl; zones = refl; capacity = refl; physical = refl; in_zone_lem = refl; in_stripe = refl; bytes = refl }
