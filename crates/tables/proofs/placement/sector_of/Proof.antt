use Rattle.tables.specs.laws.Sizes.{sector_small, Striped, striped}
use Rattle.tables.specs.meaning.Placement.{stripe_length, stripe_of, row_index, sector_of}
use mathlib.Core.Path.{refl}
use native.Mathlib.Omega.{arith}
use borrow.Author.Rules.{rules}
use Rattle.tables.proofs.placement.sector_of.Statement.{statement}
use Rattle.tables.proofs.placement.sector_of.Tie as tie

known : (c : tie.Start) → Striped c.args.g c.args.a
known c = striped _ _ c.requires.0 c.requires.1

mul-k : tie.Need-overflow_mul-k
mul-k c = omega (arith, (known c).short)

div-result : tie.Need-nonzero_div-result
div-result c = (known c).long

mul-result : tie.Need-overflow_mul-result
mul-result c = omega (arith, (known c).rows)

rem-result : tie.Need-nonzero_rem-result
rem-result c = (known c).long

add-result : tie.Need-overflow_add-result
add-result c = omega (arith, sector_small c.args.g c.args.a c.requires.0 c.requires.1)

returns : tie.Need-returns
unfolding sector_of stripe_of row_index stripe_length
returns c = refl

pub sector_of_spec : {M : Type 1} → statement M
sector_of_spec =
    tie.close
    (tie.spec (λ c. search rules) mul-k div-result mul-result rem-result (λ c. search rules) add-result returns)
