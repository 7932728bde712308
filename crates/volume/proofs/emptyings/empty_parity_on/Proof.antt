use Rattle.volume.specs.emptying.ParityEmptyings.{known_ready}
use borrow.Author.Rules.{rules}
use Rattle.volume.proofs.emptyings.empty_parity_on.Statement.{statement}
use Rattle.volume.proofs.emptyings.empty_parity_on.Tie as tie

empty-parity-at-requires : tie.Need-empty_parity_at-requires
empty-parity-at-requires c κs =
    let s = c.before.before.before.before.before.before.before.before.before in
    let a = s.args in
    (s.requires.0, known_ready a.all a.generations.now a.points.now a.pointers.now a.sectors.now a.written.now a.durable.now a.drive s.requires.1.0 s.requires.1.1)

pub empty_parity_on_spec : {M : Type 1} → statement M
empty_parity_on_spec = tie.close (tie.spec empty-parity-at-requires (λ c. search rules) (λ c. search rules) (λ c. search rules) (λ c. c.empty_parity_at.ensures))
