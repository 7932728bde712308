use mathlib.Core.Path.{refl}
use borrow.Author.Rules.{rules}
use Rattle.volume.proofs.log_room.kind_lacks.Statement.{statement}
use Rattle.volume.proofs.log_room.kind_lacks.Tie as tie

returns : tie.Need-returns-then-parity
returns c = rw c.if-parity.true refl

returns-2 : tie.Need-returns
returns-2 c = rw c.if-parity.false refl

pub kind_lacks_spec : {M : Type 1} → statement M
kind_lacks_spec = tie.close (tie.spec (λ c. search rules) returns (λ c. search rules) returns-2)
