use mathlib.Core.Path.{refl}
use native.Mathlib.Omega.{arith}
use Rattle.grouped.specs.laws.Segment.{cell_in, total_small}
use Rattle.grouped.proofs.places.cell_of.Statement.{statement}
use Rattle.grouped.proofs.places.cell_of.Tie as tie

mul-result : tie.Need-overflow_mul-result
mul-result c = omega (arith, total_small c.args.s c.requires.0, cell_in c.args.s c.args.d c.args.i c.requires.1.0 c.requires.1.1)

add-result : tie.Need-overflow_add-result
add-result c = omega (arith, total_small c.args.s c.requires.0, cell_in c.args.s c.args.d c.args.i c.requires.1.0 c.requires.1.1)

returns : tie.Need-returns
returns c =
    let h = cell_in c.args.s c.args.d c.args.i c.requires.1.0 c.requires.1.1 in
    (refl, h, omega (arith, total_small c.args.s c.requires.0))

pub cell_of_spec : {M : Type 1} → statement M
cell_of_spec = tie.close (tie.spec mul-result add-result returns)
