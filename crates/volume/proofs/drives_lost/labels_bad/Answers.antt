use Rattle.std.proofs.Common.{rules, tests}
use Rattle.volume.specs.meaning.Refusals.{bad_labels}
use Rattle.volume.proofs.Ranges.{any_below-from_range}
use Rattle.volume.proofs.drives_lost.labels_bad.Goals as goal

pub returns : goal.returns
unfolding bad_labels
returns c = any_below-from_range _ _ _ _ _ c.any.ensures.ran (λ x b q k. search (rules, tests))
