use mathlib.Core.Path.{refl}
use native.Mathlib.Omega.{arith}
use borrow.Author.Rules.{rules}
use Rattle.zrv.proofs.input.place_of.Statement.{statement}
use Rattle.zrv.proofs.input.place_of.Tie as tie

returns : tie.Need-returns
returns c = (refl, omega arith)

pub place_of_spec : {M : Type 1} → statement M
place_of_spec = tie.close (tie.spec (λ c. search rules) (λ c. search rules) (λ c. search rules) (λ c. search rules) returns)
