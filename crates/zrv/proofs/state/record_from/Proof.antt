use Rattle.zrv.specs.meaning.Bytes.{record_from}
use borrow.Author.Rules.{rules}
use Rattle.zrv.proofs.state.record_from.Statement.{statement}
use Rattle.zrv.proofs.state.record_from.Tie as tie

returns : tie.Need-returns
unfolding record_from
returns c = cc

pub record_from_spec : {M : Type 1} → statement M
record_from_spec = tie.close (tie.spec (λ c κs. search rules) (λ c. search rules) (λ c κs. search rules) (λ c. search rules) (λ c κs. search rules) (λ c κs. search rules) returns)
