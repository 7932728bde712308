use Rattle.std.proofs.Common.{rules, false, ◌∙◌}
use Rattle.logs.specs.code.Query.{log_heads}
use Rattle.logs.specs.code.KeptLabel.{later_label, last_label_fold}
use Rattle.logs.specs.declared.Found.TheVariants.{Bad}
use Rattle.logs.proofs.folds.last_label.Goals as goal

pub returns : goal.returns
returns c =
    let a = c.args in
    c.fold_log.ensures (λ l p f. later_label f l) (λ x p f y l s e. search rules) ∙ last_label_fold a.g 0 Bad (log_heads a.g a.log.drive false a.log.zone a.log.written a.sectors.now)
