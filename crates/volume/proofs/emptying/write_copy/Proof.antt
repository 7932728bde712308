use borrow.Author.Rules.{rules}
use Rattle.volume.proofs.emptying.write_copy.Statement.{statement}
use Rattle.volume.proofs.emptying.write_copy.Tie as tie

returns : tie.Need-returns-in-Seal
returns c = rw c.in-Seal.is c.write_seal_copy.ensures

returns-2 : tie.Need-returns-in-Reset
returns-2 c = rw c.in-Reset.is c.write_reset.ensures

pub write_copy_spec : {M : Type 1} → statement M
write_copy_spec =
    tie.close
    (tie.spec (λ c. search rules) (λ c κs. search rules) (λ c. search rules) (λ c κs. search rules) (λ c. search rules) returns (λ c. search rules)
    returns-2)
