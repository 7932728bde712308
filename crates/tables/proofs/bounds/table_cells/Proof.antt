use Rattle.tables.specs.laws.Sizes.{cells_small}
use mathlib.Core.Path.{refl}
use native.Mathlib.Omega.{arith}
use borrow.Author.Rules.{rules}
use Rattle.tables.proofs.bounds.table_cells.Statement.{statement}
use Rattle.tables.proofs.bounds.table_cells.Tie as tie

mul-result : tie.Need-overflow_mul-result
mul-result c = omega (arith, cells_small c.args.g c.requires)

returns : tie.Need-returns
returns c = (refl, cells_small c.args.g c.requires)

pub table_cells_spec : {M : Type 1} → statement M
table_cells_spec = tie.close (tie.spec (λ c. search rules) mul-result returns)
