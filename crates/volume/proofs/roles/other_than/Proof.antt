use mathlib.Core.Path.{refl}
use borrow.Author.Tests.{eq-eqb, ne_eqb}
use Rattle.volume.proofs.roles.other_than.Statement.{statement}
use Rattle.volume.proofs.roles.other_than.Tie as tie

returns : tie.Need-returns-then-y-eq0
returns c = rw (eq-eqb c.args.y 0 c.if-y-eq0.true) refl

returns-2 : tie.Need-returns-else-y-eq0
returns-2 c = rw (ne_eqb c.args.y 0 c.if-y-eq0.false) refl

pub other_than_spec : {M : Type 1} → statement M
other_than_spec = tie.close (tie.spec returns returns-2)
