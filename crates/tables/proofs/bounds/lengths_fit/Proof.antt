use mathlib.Core.Path.{refl}
use Rattle.tables.specs.meaning.Tables.{lengths_fit}
use Rattle.tables.proofs.bounds.lengths_fit.Statement.{statement}
use Rattle.tables.proofs.bounds.lengths_fit.Tie as tie

table-cells-requires : tie.Need-table_cells-n-requires
table-cells-requires c κs = c.requires

total-bytes-requires : tie.Need-total_bytes-m-requires
total-bytes-requires c κs = c.before.requires

returns : tie.Need-returns
unfolding lengths_fit
returns c = rw (c.total_bytes-m.ensures, c.before.table_cells-n.ensures.0) refl

pub lengths_fit_spec : {M : Type 1} → statement M
lengths_fit_spec = tie.close (tie.spec table-cells-requires total-bytes-requires returns)
