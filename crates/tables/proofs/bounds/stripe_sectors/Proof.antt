use native.Mathlib.Omega.{arith}
use mathlib.Core.Path.{refl}
use Rattle.tables.specs.laws.Sizes.{stripe_small}
use Rattle.tables.specs.meaning.Placement.{stripe_length}
use Rattle.tables.proofs.bounds.stripe_sectors.Statement.{statement}
use Rattle.tables.proofs.bounds.stripe_sectors.Tie as tie

sub-result : tie.Need-overflow_sub-result
sub-result c = omega (arith, c.requires.drives_least)

mul-result : tie.Need-overflow_mul-result
unfolding stripe_length
mul-result c = omega (arith, stripe_small c.args.g c.requires)

returns : tie.Need-returns
unfolding stripe_length
returns c = let z = stripe_small c.args.g c.requires in (refl, z.0, z.1)

pub stripe_sectors_spec : {M : Type 1} → statement M
stripe_sectors_spec = tie.close (tie.spec sub-result mul-result returns)
