use borrow.Author.Rules.{rules}
use Rattle.volume.proofs.roles.find_parity.Statement.{statement}
use Rattle.volume.proofs.roles.find_parity.Tie as tie

parity-log-requires : tie.Need-parity_log-requires
parity-log-requires c κs =
    let s = c.before.before.before.before.before in
    (s.requires.0, (s.requires.1.0, s.requires.1.1, record { in_first_lem = c.claim_of-parity_in_first.ensures; in_second = c.claim_of-general_in_second.ensures; in_third = c.claim_of-parity_in_third.ensures }))

returns : tie.Need-returns
returns c = c.parity_log.ensures

pub find_parity_spec : {M : Type 1} → statement M
find_parity_spec = tie.close (tie.spec (λ c κs. search rules) (λ c κs. search rules) (λ c κs. search rules) parity-log-requires returns)
