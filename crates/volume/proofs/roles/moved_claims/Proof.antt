use mathlib.Core.Path.{refl}
use borrow.Author.Rules.{rules}
use Rattle.volume.proofs.roles.moved_claims.Statement.{statement}
use Rattle.volume.proofs.roles.moved_claims.Tie as tie

returns : tie.Need-returns
returns c = rw (c.claim_of-parity_in_first.ensures, c.claim_of-general_in_second.ensures, c.claim_of-general_in_third.ensures, c.claim_of-parity_in_third.ensures) refl

pub moved_claims_spec : {M : Type 1} → statement M
moved_claims_spec =
    tie.close (tie.spec (λ c κs. search rules) (λ c κs. search rules) (λ c κs. search rules) (λ c κs. search rules) returns)
