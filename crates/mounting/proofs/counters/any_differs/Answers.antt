use Rattle.std.proofs.Common.{rules, tests}
use Rattle.mounting.proofs.Ranges.{any_below-from_range}
use Rattle.mounting.proofs.counters.any_differs.Goals as goal

pub returns : goal.returns
returns c = any_below-from_range _ _ _ _ _ c.any.ensures.ran (λ x b q k. search (rules, tests))
