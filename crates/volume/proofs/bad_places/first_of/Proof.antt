use mathlib.Core.Path.{refl}
use borrow.Author.Tests.{eq-eqb, ne_eqb}
use Rattle.volume.proofs.bad_places.first_of.Statement.{statement}
use Rattle.volume.proofs.bad_places.first_of.Tie as tie

returns : tie.Need-returns-then-number-eq0
returns c = rw (eq-eqb _ 0 c.if-number-eq0.true) refl

returns-2 : tie.Need-returns
returns-2 c = rw (ne_eqb _ 0 c.if-number-eq0.false) refl

pub first_of_spec : {M : Type 1} → statement M
first_of_spec = tie.close (tie.spec returns returns-2)
