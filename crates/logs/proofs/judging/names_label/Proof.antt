use Rattle.logs.specs.code.JudgeMore.{label_same}
use borrow.Author.Rules.{rules}
use Rattle.logs.proofs.judging.names_label.Statement.{statement}
use Rattle.logs.proofs.judging.names_label.Tie as tie

returns : tie.Need-returns
unfolding label_same
returns c = (cc)

pub names_label_spec : {M : Type 1} → statement M
names_label_spec =
    tie.close
    (tie.spec (λ c κs. search rules) (λ c. search rules) (λ c κs. search rules) (λ c. search rules) (λ c κs. search rules) (λ c. search rules)
    (λ c κs. search rules) (λ c. search rules) (λ c κs. search rules) (λ c. search rules) (λ c. search rules) (λ c. search rules) (λ c. search rules)
    returns)
