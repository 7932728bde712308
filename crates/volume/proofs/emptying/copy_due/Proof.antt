use borrow.Author.Rules.{rules}
use Rattle.volume.proofs.emptying.copy_due.Statement.{statement}
use Rattle.volume.proofs.emptying.copy_due.Tie as tie

pub copy_due_spec : {M : Type 1} → statement M
copy_due_spec =
    tie.close
    (tie.spec (λ c. search rules) (λ c κs. search rules) (λ c. search rules) (λ c κs. search rules)
    (λ c. rw c.in-Seal.is c.has_seal.ensures) (λ c. rw c.in-Reset.is c.has_reset.ensures))
