use mathlib.Core.Path.{refl}
use borrow.Author.Tests.{eq-eqb, ne_eqb}
use Rattle.zrv.specs.meaning.EdgeCalls.{state_bad}
use borrow.Author.Rules.{rules}
use Rattle.zrv.proofs.input.state_bad.Statement.{statement}
use Rattle.zrv.proofs.input.state_bad.Tie as tie

returns : tie.Need-returns-then-bytes-ne-STATE_BYTES
unfolding state_bad
returns c = rw (ne_eqb _ _ c.if-bytes-ne-STATE_BYTES.true) refl

returns-2 : tie.Need-returns
unfolding state_bad
returns-2 c = rw (eq-eqb _ _ c.if-bytes-ne-STATE_BYTES.false, c.state_fits-fits.ensures) refl

pub state_bad_spec : {M : Type 1} → statement M
state_bad_spec = tie.close (tie.spec returns (λ c κs. search rules) returns-2)
