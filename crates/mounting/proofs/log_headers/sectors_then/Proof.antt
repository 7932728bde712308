use mathlib.Core.Path.{refl, ◌∙◌}
use native.Mathlib.Omega.{arith}
use borrow.Author.Rules.{rules}
use Rattle.mounting.proofs.log_headers.sectors_then.Statement.{statement}
use Rattle.mounting.proofs.log_headers.sectors_then.Tie as tie

returns : tie.Need-returns
returns c =
    let e = c.min.ensures in
    (e ∙ rw (c.widen-n.ensures, c.cell_of-at.ensures.0) refl, omega (arith, e))

pub sectors_then_spec : {M : Type 1} → statement M
sectors_then_spec =
    tie.close
    (tie.spec (λ c κs. search rules) (λ c. search rules) (λ c. search rules) (λ c κs. search rules) (λ c κs. search rules) returns)
