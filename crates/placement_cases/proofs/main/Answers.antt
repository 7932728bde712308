use Rattle.std.proofs.Common.{sym, ◌∙◌}
use Rattle.tables.specs.laws.GeometryTest.{valid_if_test}
use Rattle.placement_cases.proofs.main.Goals as goal

-- what `valid` answered is the test that the geometry passes
pub all-requires : goal.all-requires
all-requires c = valid_if_test _ (sym c.valid-ok.ensures ∙ c.if-ok.true)
