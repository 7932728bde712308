use borrow.Author.Rules.{rules}
use Rattle.mounting.proofs.log_headers.header_due.Statement.{statement}
use Rattle.mounting.proofs.log_headers.header_due.Tie as tie

pub header_due_spec : {M : Type 1} → statement M
header_due_spec =
    tie.close
    (tie.spec (λ c. search rules) (λ c κs. search rules) (λ c. search rules) (λ c κs. search rules) (λ c. search rules) (λ c κs. search rules)
    (λ c. rw c.in-Label.is c.label_due.ensures) (λ c. rw c.in-Reset.is c.reset_due.ensures)
    (λ c. rw c.in-Seal.is c.seal_due.ensures))
