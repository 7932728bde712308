use mathlib.Core.Path.{refl}
use Rattle.mounting.specs.MountHeaders.{reset_due}
use borrow.Author.Rules.{rules}
use Rattle.mounting.proofs.log_headers.reset_due.Statement.{statement}
use Rattle.mounting.proofs.log_headers.reset_due.Tie as tie

returns : tie.Need-returns
unfolding reset_due
returns c = rw (c.first_drive-first.ensures.0, c.parity_drive-parity.ensures.0) refl

pub reset_due_spec : {M : Type 1} → statement M
reset_due_spec =
    tie.close
    (tie.spec (λ c. search rules) (λ c. search rules) (λ c κs. search rules) (λ c κs. search rules) returns)
