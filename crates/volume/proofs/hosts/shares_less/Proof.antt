use mathlib.Core.Path.{refl}
use borrow.Author.Rules.{rules}
use Rattle.volume.proofs.hosts.shares_less.Statement.{statement}
use Rattle.volume.proofs.hosts.shares_less.Tie as tie

returns : tie.Need-returns
returns c = rw (c.share_left.ensures, c.share_place-at.ensures.0) refl

pub shares_less_spec : {M : Type 1} → statement M
shares_less_spec =
    tie.close
    (tie.spec (λ c κs. search rules) (λ c. search rules) (λ c. search rules) (λ c. search rules) (λ c κs. search rules) (λ c. search rules) (λ c. search rules) returns)
