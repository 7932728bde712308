use mathlib.Core.Path.{refl}
use borrow.Author.Rules.{rules}
use Rattle.compacting.proofs.compact_asks.Statement.{statement}
use Rattle.compacting.proofs.compact_asks.Tie as tie

returns : tie.Need-returns
returns c = rw c.reserve_of-limit.ensures refl

pub compact_asks_spec : {M : Type 1} → statement M
compact_asks_spec = tie.close (tie.spec (λ c. search rules) (λ c. search rules) (λ c κs. search rules) returns)
