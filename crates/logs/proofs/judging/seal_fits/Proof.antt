use mathlib.Core.Path.{refl}
use borrow.Author.Rules.{rules}
use Rattle.logs.proofs.judging.seal_fits.Statement.{statement}
use Rattle.logs.proofs.judging.seal_fits.Tie as tie

returns : tie.Need-returns
returns c = rw c.zone_sectors-q.ensures.0 refl

pub seal_fits_spec : {M : Type 1} → statement M
seal_fits_spec = tie.close (tie.spec (λ c κs. search rules) returns)
