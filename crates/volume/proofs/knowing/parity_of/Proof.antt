use Prim.Native.Nat.{◌-◌, ◌*◌}
use mathlib.Core.Path.{sym}
use native.Mathlib.Omega.{arith}
use Rattle.tables.specs.laws.Sizes.{striped}
use Rattle.tables.specs.laws.Placement.{stripe_length_lem, stripe_quotient}
use borrow.Author.Rules.{rules}
use Rattle.volume.proofs.knowing.parity_of.Statement.{statement}
use Rattle.volume.proofs.knowing.parity_of.Tie as tie

sub-k : tie.Need-overflow_sub-k
sub-k c = search rules

mul-k : tie.Need-overflow_mul-k
mul-k c = omega (arith, (striped c.args.g c.args.a c.requires.0 (omega (arith, c.requires.1.1))).short)

div-parity-drive : tie.Need-nonzero_div-a
div-parity-drive c = (striped c.args.g c.args.a c.requires.0 (omega (arith, c.requires.1.1))).long

parity-drive-requires : tie.Need-parity_drive-requires
parity-drive-requires c κs =
    let p = c.requires in
    (omega (arith, p.0.drives_least), p.0.drives_most, omega (arith, p.0.zones_most, p.1.0), (striped c.args.g c.args.a p.0 (omega (arith, p.1.1))).stripes)

returns : tie.Need-returns
returns c = let g = c.args.g in rw (stripe_quotient g.drives g.unit c.args.a ((g.drives - 1) * g.unit) (sym (stripe_length_lem g.drives g.unit))) at c.parity_drive.ensures

pub parity_of_spec : {M : Type 1} → statement M
parity_of_spec = tie.close (tie.spec sub-k mul-k div-parity-drive parity-drive-requires returns)
