use Rattle.std.proofs.Common.{rules, false, ◌∙◌}
use Rattle.logs.specs.code.Query.{log_heads}
use Rattle.logs.specs.code.Answers.{lost_answer, lost_names}
use Rattle.logs.specs.code.Folding.{lost_found}
use Rattle.logs.specs.code.WalkCode.{log_sectors}
use Rattle.logs.proofs.folds.last_lost.Goals as goal

pub returns : goal.returns
returns c =
    let a = c.args in
    let e = c.fold_log.ensures (λ x p f. lost_found x f) (λ x p f y l s e. search rules) ∙ lost_answer a.g 0 255 (log_heads a.g a.log.drive false a.log.zone a.log.written a.sectors.now) in
    (e, rw e (lost_names a.g a.log.drive (log_sectors a.g a.log.drive a.log.zone a.sectors.now a.log.written)))
