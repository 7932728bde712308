use Rattle.std.proofs.Common.{rules, tests}
use Rattle.volume.proofs.Ranges.{all_below-from_range}
use Rattle.volume.proofs.checks.pointers_within.Goals as goal

pub returns : goal.returns
returns c = all_below-from_range _ _ _ _ _ c.all.ensures.ran (λ x b q k. search (rules, tests))
