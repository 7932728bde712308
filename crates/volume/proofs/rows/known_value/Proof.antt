use borrow.Author.Rules.{rules}
use Rattle.volume.proofs.rows.known_value.Statement.{statement}
use Rattle.volume.proofs.rows.known_value.Tie as tie

sector-value-requires : tie.Need-sector_value-requires
sector-value-requires c κs =
    let s = c.before.before.before.before.before in
    let k = s.requires.1.0 in
    (s.requires.0, (k.0, k.1, k.2, k.3, s.requires.1.1))

pub known_value_spec : {M : Type 1} → statement M
known_value_spec = tie.close (tie.spec sector-value-requires (λ c. search rules) (λ c. search rules))
