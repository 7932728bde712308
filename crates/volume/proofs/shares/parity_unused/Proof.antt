use mathlib.Core.Path.{refl}
use native.Mathlib.Omega.{arith}
use borrow.Author.Rules.{rules}
use Rattle.volume.proofs.shares.parity_unused.Statement.{statement}
use Rattle.volume.proofs.shares.parity_unused.Tie as tie

returns : tie.Need-returns-then-lacks
returns c = (rw c.if-lacks.true refl, omega arith)

returns-2 : tie.Need-returns
returns-2 c = (rw (c.if-lacks.false, c.zone_pointer-n.ensures.0) refl, omega arith)

pub parity_unused_spec : {M : Type 1} → statement M
parity_unused_spec = tie.close (tie.spec (λ c. search rules) returns (λ c κs. search rules) (λ c. search rules) returns-2)
