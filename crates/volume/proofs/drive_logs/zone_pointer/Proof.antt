use mathlib.Core.Path.{refl, ◌∙◌}
use native.Mathlib.Omega.{arith}
use borrow.Author.Rules.{rules}
use Rattle.volume.proofs.drive_logs.zone_pointer.Statement.{statement}
use Rattle.volume.proofs.drive_logs.zone_pointer.Tie as tie

returns : tie.Need-returns
returns c = (c.min.ensures ∙ rw (c.widen-n.ensures, c.cell_of-at.ensures.0) refl, omega (arith, c.min.ensures))

pub zone_pointer_spec : {M : Type 1} → statement M
zone_pointer_spec =
    tie.close
    (tie.spec (λ c κs. search rules) (λ c. search rules) (λ c. search rules) (λ c κs. search rules) (λ c κs. search rules) returns)
