use Rattle.std.proofs.Common.{rules, ◌+◌, false, ◌∙◌}
use Rattle.tables.specs.meaning.Basics.{pick}
use Rattle.logs.specs.code.Query.{log_heads}
use Rattle.logs.specs.code.Answers.{counters_answer}
use Rattle.logs.specs.code.Folding.{counters_found}
use Rattle.logs.specs.code.WalkCode.{log_sectors}
use Rattle.logs.specs.laws.Places.{last_place_most}
use Rattle.logs.specs.laws.Heads.{is_counters}
use Rattle.tables.specs.laws.Below.{length_tabulate}
use Rattle.logs.proofs.folds.last_counters.Goals as goal

pub returns : goal.returns
returns c =
    let a = c.args in
    let e = c.fold_log.ensures (λ x p f. pick (counters_found f) (p + 1) x) (λ x p f y l s e. search rules) ∙ counters_answer a.g 0 0 (log_heads a.g a.log.drive false a.log.zone a.log.written a.sectors.now) in
    (e, rw e (rw length_tabulate at (last_place_most a.g a.log.drive false (log_sectors a.g a.log.drive a.log.zone a.sectors.now a.log.written) is_counters)))
