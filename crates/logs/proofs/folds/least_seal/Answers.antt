use Rattle.std.proofs.Common.{rules, false, ◌∙◌}
use Rattle.logs.specs.code.Query.{log_heads}
use Rattle.logs.specs.code.Answers.{least_answer}
use Rattle.logs.specs.code.Folding.{least_found}
use Rattle.logs.specs.laws.HeadLaws.{least_seal_most}
use Rattle.logs.proofs.folds.least_seal.Goals as goal

pub returns : goal.returns
returns c =
    let a = c.args in
    let e = c.fold_log.ensures (λ x p f. least_found a.z a.generation x f) (λ x p f y l s e. search rules) ∙ least_answer a.g a.z a.generation 0 a.most (log_heads a.g a.log.drive false a.log.zone a.log.written a.sectors.now) in
    (e, rw e (least_seal_most a.z a.generation a.most (log_heads a.g a.log.drive false a.log.zone a.log.written a.sectors.now)))
