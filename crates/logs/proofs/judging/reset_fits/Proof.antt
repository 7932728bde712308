use Rattle.logs.specs.code.Judge.{and_false}
use mathlib.Core.Bool.{not}
use borrow.Author.Tests.{lt-ltb, le-ltb}
use mathlib.Core.Path.{refl, sym}
use borrow.Author.Rules.{rules}
use Rattle.logs.proofs.judging.reset_fits.Statement.{statement}
use Rattle.logs.proofs.judging.reset_fits.Tie as tie

returns : tie.Need-returns-then-l-z
returns c = let a = c.args in rw (le-ltb a.z a.g.zones c.if-l-z.true) (sym (and_false (not a.parity)))

returns-2 : tie.Need-returns
returns-2 c = let a = c.args in rw (lt-ltb a.z a.g.zones c.if-l-z.false, c.first_drive-f.ensures.0, c.parity_drive-p.ensures.0) refl

pub reset_fits_spec : {M : Type 1} → statement M
reset_fits_spec = tie.close (tie.spec returns (λ c κs. search rules) (λ c κs. search rules) returns-2)
