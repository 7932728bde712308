use mathlib.Core.Path.{refl}
use native.Mathlib.Omega.{arith}
use native.Mathlib.Nat.{div-add-mod'}
use Rattle.tables.specs.laws.Sizes.{zone_small}
use Rattle.tables.specs.laws.Placement.{stripe_begin}
use Rattle.volume.specs.looking.Knowing.{stripe_end}
use borrow.Author.Rules.{rules}
use Rattle.volume.proofs.knowing.stripe_end.Statement.{statement}
use Rattle.volume.proofs.knowing.stripe_end.Tie as tie

stripe-sectors-requires : tie.Need-stripe_sectors-k-requires
stripe-sectors-requires c κs = search rules

div-result : tie.Need-nonzero_div-result
div-result c = search rules

mul-result : tie.Need-overflow_mul-result
mul-result c =
    let s = c.before in
    let m = div-add-mod' s.args.a c.stripe_sectors-k.result in
    omega (arith, m, s.requires.1, (zone_small s.args.g s.requires.0).1)

add-result : tie.Need-overflow_add-result
add-result c =
    let s = c.before in
    let m = div-add-mod' s.args.a c.stripe_sectors-k.result in
    omega (arith, m, s.requires.1, (zone_small s.args.g s.requires.0).1, c.stripe_sectors-k.ensures.2)

returns : tie.Need-returns
unfolding stripe_end
returns c =
    let s = c.before in
    let m = div-add-mod' s.args.a c.stripe_sectors-k.result in
    (rw (stripe_begin s.args.g.drives s.args.g.unit s.args.a c.stripe_sectors-k.result c.stripe_sectors-k.ensures.0, c.stripe_sectors-k.ensures.0) refl, omega (arith, m, s.requires.1, (zone_small s.args.g s.requires.0).1, c.stripe_sectors-k.ensures.2))

pub stripe_end_spec : {M : Type 1} → statement M
stripe_end_spec =
    tie.close (tie.spec stripe-sectors-requires div-result mul-result add-result returns)
