use Rattle.std.proofs.Common.{rules, tests}
use Rattle.volume.specs.meaning.Mount.{counters_differ}
use Rattle.mounting.proofs.Ranges.{any_below-from_range}
use Rattle.mounting.proofs.counters.counters_differ.Goals as goal

pub returns : goal.returns
unfolding counters_differ
returns c = any_below-from_range _ _ _ _ _ c.any.ensures.ran (λ x b q k. search (rules, tests))
