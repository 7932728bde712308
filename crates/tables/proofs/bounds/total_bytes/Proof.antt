use Rattle.tables.specs.laws.Sizes.{bytes_small}
use mathlib.Core.Path.{refl}
use native.Mathlib.Omega.{arith}
use borrow.Author.Rules.{rules}
use Rattle.tables.proofs.bounds.total_bytes.Statement.{statement}
use Rattle.tables.proofs.bounds.total_bytes.Tie as tie

mul-result : tie.Need-overflow_mul-result
mul-result c = rw c.table_cells-n.ensures.0 (omega (arith, bytes_small c.before.args.g c.before.requires))

mul-result-2 : tie.Need-overflow_mul-result-2
mul-result-2 c = rw c.table_cells-n.ensures.0 (omega (arith, bytes_small c.before.args.g c.before.requires))

returns : tie.Need-returns
returns c = rw c.table_cells-n.ensures.0 refl

pub total_bytes_spec : {M : Type 1} → statement M
total_bytes_spec = tie.close (tie.spec (λ c κs. search rules) mul-result mul-result-2 returns)
