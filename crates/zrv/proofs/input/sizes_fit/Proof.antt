use mathlib.Core.Path.{refl}
use Rattle.zrv.specs.meaning.EdgeCalls.{sizes_fit}
use borrow.Author.Rules.{rules}
use Rattle.zrv.proofs.input.sizes_fit.Statement.{statement}
use Rattle.zrv.proofs.input.sizes_fit.Tie as tie

table-cells-requires : tie.Need-table_cells-n-requires
table-cells-requires c κs = search rules

mul-m : tie.Need-overflow_mul-m
mul-m c = search rules

returns : tie.Need-returns
unfolding sizes_fit
returns c = rw c.table_cells-n.ensures.0 refl

pub sizes_fit_spec : {M : Type 1} → statement M
sizes_fit_spec = tie.close (tie.spec table-cells-requires mul-m returns)
