use native.Mathlib.Omega.{arith}
use Rattle.tables.specs.laws.Placement.{unit_quotient, unit_index_below}
use borrow.Author.Rules.{rules}
use Rattle.volume.proofs.knowing.unit_index.Statement.{statement}
use Rattle.volume.proofs.knowing.unit_index.Tie as tie

stripe-sectors-requires : tie.Need-stripe_sectors-n-requires
stripe-sectors-requires c κs = search rules

rem-result : tie.Need-nonzero_rem-result
rem-result c = search rules

div-result : tie.Need-nonzero_div-result
div-result c = search rules

returns : tie.Need-returns
returns c =
    let s = c.before in
    let g = s.args.g in
    let e = unit_quotient g.drives g.unit s.args.a c.stripe_sectors-n.result c.stripe_sectors-n.ensures.0 in
    (e, rw e (omega (arith, unit_index_below g.drives g.unit 0 (omega (arith, s.requires.0.drives_least)) s.requires.0.unit_least s.args.a)))

pub unit_index_spec : {M : Type 1} → statement M
unit_index_spec = tie.close (tie.spec stripe-sectors-requires rem-result div-result returns)
