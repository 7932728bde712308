use borrow.Author.Rules.{rules}
use Rattle.zrv.proofs.input.number_of.Statement.{statement}
use Rattle.zrv.proofs.input.number_of.Tie as tie

pub number_of_spec : {M : Type 1} → statement M
number_of_spec = tie.close (tie.spec (λ c κs. search rules) (λ c. search rules) (λ c. search rules))
