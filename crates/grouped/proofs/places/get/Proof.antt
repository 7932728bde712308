use mathlib.Core.Path.{◌∙◌}
use native.Mathlib.Omega.{arith}
use borrow.Author.Rules.{rules}
use Rattle.grouped.specs.laws.Words.{word}
use Rattle.grouped.proofs.places.get.Statement.{statement}
use Rattle.grouped.proofs.places.get.Tie as tie

returns : tie.Need-returns
unfolding word
returns c = (c.widen.ensures ∙ c.read_u32-w.ensures, omega arith)

pub get_spec : {M : Type 1} → statement M
get_spec = tie.close (tie.spec (λ c. search rules) (λ c κs. search rules) (λ c κs. search rules) returns)
