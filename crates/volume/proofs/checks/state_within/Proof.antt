use mathlib.Core.Path.{refl}
use Rattle.volume.specs.meaning.Refusals.{state_within}
use borrow.Author.Rules.{rules}
use Rattle.volume.proofs.checks.state_within.Statement.{statement}
use Rattle.volume.proofs.checks.state_within.Tie as tie

returns : tie.Need-returns
unfolding state_within
returns c = rw c.pointers_within-ok.ensures refl

pub state_within_spec : {M : Type 1} → statement M
state_within_spec = tie.close (tie.spec (λ c κs. search rules) returns)
