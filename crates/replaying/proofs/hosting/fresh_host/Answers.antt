use Rattle.std.proofs.Common.{sym, ◌∙◌}
use Rattle.tables.specs.laws.GeometryTest.{valid_if_test}
use Rattle.replaying.proofs.hosting.fresh_host.Goals as goal

-- the geometry has passed the test
pub total_bytes-bytes-requires : goal.total_bytes-bytes-requires
total_bytes-bytes-requires c = valid_if_test _ (sym c.valid-ok.ensures ∙ c.if-not-ok.false)

pub table_cells-cells-requires : goal.table_cells-cells-requires
table_cells-cells-requires c = valid_if_test _ (sym c.valid-ok.ensures ∙ c.if-not-ok.false)
