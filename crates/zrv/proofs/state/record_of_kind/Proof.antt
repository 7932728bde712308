use borrow.Author.Rules.{rules}
use Rattle.zrv.proofs.state.record_of_kind.Statement.{statement}
use Rattle.zrv.proofs.state.record_of_kind.Tie as tie

returns : tie.Need-returns
returns c = cc

pub record_of_kind_spec : {M : Type 1} → statement M
record_of_kind_spec = tie.close (tie.spec (λ c. search rules) (λ c κs. search rules) (λ c. search rules) (λ c κs. search rules) returns)
