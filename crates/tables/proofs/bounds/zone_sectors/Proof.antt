use native.Mathlib.Omega.{arith}
use mathlib.Core.Path.{refl}
use Rattle.tables.specs.laws.Sizes.{zone_small}
use Rattle.tables.specs.meaning.Geometry.{zone_sectors}
use Rattle.tables.proofs.bounds.zone_sectors.Statement.{statement}
use Rattle.tables.proofs.bounds.zone_sectors.Tie as tie

sub-result : tie.Need-overflow_sub-result
sub-result c = omega (arith, c.requires.drives_least)

mul-result : tie.Need-overflow_mul-result
unfolding zone_sectors
mul-result c = omega (arith, zone_small c.args.g c.requires)

returns : tie.Need-returns
unfolding zone_sectors
returns c = let z = zone_small c.args.g c.requires in (refl, z.0, z.1)

pub zone_sectors_spec : {M : Type 1} → statement M
zone_sectors_spec = tie.close (tie.spec sub-result mul-result returns)
