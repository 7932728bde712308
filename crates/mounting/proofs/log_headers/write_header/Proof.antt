use borrow.Author.Rules.{rules}
use Rattle.mounting.proofs.log_headers.write_header.Statement.{statement}
use Rattle.mounting.proofs.log_headers.write_header.Tie as tie

write-seal-requires : tie.Need-write_seal-requires
write-seal-requires c κs = let s = c.before.before.before.before.before in (s.requires.0, (s.requires.1.2, s.requires.1.1, s.requires.1.3.pointer_most s.args.z s.requires.1.1))

returns : tie.Need-returns-in-Label
returns c = rw c.in-Label.is c.write_label.ensures

returns-2 : tie.Need-returns-in-Reset
returns-2 c = rw c.in-Reset.is c.write_reset.ensures

returns-3 : tie.Need-returns-in-Seal
returns-3 c = rw c.in-Seal.is c.write_seal.ensures

pub write_header_spec : {M : Type 1} → statement M
write_header_spec =
    tie.close
    (tie.spec (λ c. search rules) (λ c. search rules) (λ c. search rules) (λ c κs. search rules) (λ c. search rules) (λ c κs. search rules)
    (λ c. search rules) write-seal-requires (λ c. search rules) returns (λ c. search rules) returns-2 (λ c. search rules) returns-3)
