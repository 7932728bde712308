use Rattle.std.proofs.Common.{rules, tests}
use Rattle.mounting.proofs.Ranges.{all_below-from_range}
use Rattle.mounting.proofs.counters.same_generations.Goals as goal

pub returns : goal.returns
returns c = all_below-from_range _ _ _ _ _ c.all.ensures.ran (λ x b q k. search (rules, tests))
