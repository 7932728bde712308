use Rattle.std.proofs.Common.{rules, ◌+◌, true, ◌∙◌}
use Rattle.tables.specs.meaning.Basics.{pick}
use Rattle.logs.specs.code.Query.{log_heads}
use Rattle.logs.specs.code.Answers.{partial_answer}
use Rattle.logs.specs.code.Folding.{within_found}
use Rattle.logs.specs.code.WalkCode.{log_sectors}
use Rattle.logs.specs.laws.Places.{last_place_most}
use Rattle.logs.specs.laws.Heads.{ends_within}
use Rattle.tables.specs.laws.Below.{length_tabulate}
use Rattle.logs.proofs.folds.last_partial.Goals as goal

pub returns : goal.returns
returns c =
    let a = c.args in
    let e = c.fold_log.ensures (λ x p f. pick (within_found a.g a.z a.generation a.low a.high f) (p + 1) x) (λ x p f y l s e. search rules) ∙ partial_answer a.g a.z a.generation a.low a.high 0 0 (log_heads a.g a.log.drive true a.log.zone a.log.written a.sectors.now) in
    (e, rw e (rw length_tabulate at (last_place_most a.g a.log.drive true (log_sectors a.g a.log.drive a.log.zone a.sectors.now a.log.written) (ends_within a.g a.z a.generation a.low a.high))))
