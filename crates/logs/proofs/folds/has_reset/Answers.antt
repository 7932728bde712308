use Rattle.std.proofs.Common.{rules, ◌||◌, false, ◌∙◌}
use Rattle.logs.specs.code.Query.{log_heads}
use Rattle.logs.specs.code.Answers.{reset_answer}
use Rattle.logs.specs.code.Folding.{reset_found}
use Rattle.logs.proofs.folds.has_reset.Goals as goal

pub returns : goal.returns
returns c =
    let a = c.args in
    c.fold_log.ensures (λ b p f. b || reset_found a.z a.generation f) (λ x p f y l s e. search rules) ∙ reset_answer a.g a.z a.generation 0 false (log_heads a.g a.log.drive false a.log.zone a.log.written a.sectors.now)
