use mathlib.Core.Path.{refl}
use borrow.Author.Rules.{rules}
use Rattle.zrv.specs.meaning.EdgeCalls.{unread_state}
use Rattle.zrv.proofs.input.unread_state.Statement.{statement}
use Rattle.zrv.proofs.input.unread_state.Tie as tie

returns : tie.Need-returns
unfolding unread_state
returns c = rw c.blank_record-blank.ensures refl

pub unread_state_spec : {M : Type 1} → statement M
unread_state_spec = tie.close (tie.spec (λ c κs. search rules) returns)
