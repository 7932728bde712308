use Rattle.std.proofs.Common.{sym, ◌∙◌}
use Rattle.tables.specs.laws.GeometryTest.{valid_if_test}
use Rattle.replaying.proofs.showing.zone_start.Goals as goal

-- the geometry has passed the test
pub zone_sectors-requires : goal.zone_sectors-requires
zone_sectors-requires c = valid_if_test _ (sym c.valid-ok.ensures ∙ c.if-not-ok.false)
