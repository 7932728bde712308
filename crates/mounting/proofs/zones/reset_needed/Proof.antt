use mathlib.Core.Path.{refl}
use borrow.Author.Rules.{rules}
use Rattle.mounting.proofs.zones.reset_needed.Statement.{statement}
use Rattle.mounting.proofs.zones.reset_needed.Tie as tie

pub reset_needed_spec : {M : Type 1} → statement M
reset_needed_spec = tie.close (tie.spec (λ c. search rules) (λ c. search rules) (λ c κs. search rules) (λ c. rw c.is_worn-worn.ensures refl))
