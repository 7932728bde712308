use Rattle.logs.specs.code.Lays.{head_same}
use borrow.Author.Rules.{rules}
use Rattle.logs.proofs.judging.is_frame.Statement.{statement}
use Rattle.logs.proofs.judging.is_frame.Tie as tie

returns : tie.Need-returns
unfolding head_same
returns c = (cc)

pub is_frame_spec : {M : Type 1} → statement M
is_frame_spec =
    tie.close
    (tie.spec (λ c κs. search rules) (λ c κs. search rules) (λ c κs. search rules) (λ c κs. search rules) returns)
