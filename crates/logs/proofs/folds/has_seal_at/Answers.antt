use Rattle.std.proofs.Common.{rules, ◌||◌, false, ◌∙◌}
use Rattle.logs.specs.code.Query.{log_heads}
use Rattle.logs.specs.code.Answers.{seal_at_answer}
use Rattle.logs.specs.code.Folding.{seal_at_found}
use Rattle.logs.proofs.folds.has_seal_at.Goals as goal

pub returns : goal.returns
returns c =
    let a = c.args in
    c.fold_log.ensures (λ b p f. b || seal_at_found a.z a.generation a.pointer f) (λ x p f y l s e. search rules) ∙ seal_at_answer a.g a.z a.generation a.pointer 0 false (log_heads a.g a.log.drive false a.log.zone a.log.written a.sectors.now)
