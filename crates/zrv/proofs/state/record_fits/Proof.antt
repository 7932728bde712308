use mathlib.Core.Path.{refl}
use Rattle.zrv.specs.laws.StateForm.{record_fits}
use borrow.Author.Rules.{rules}
use Rattle.zrv.proofs.state.record_fits.Statement.{statement}
use Rattle.zrv.proofs.state.record_fits.Tie as tie

returns : tie.Need-returns
unfolding record_fits
returns c = rw (c.widen-n.ensures, c.read_u32-pointer.ensures, c.read_u32-kind.ensures) refl

pub record_fits_spec : {M : Type 1} → statement M
record_fits_spec =
    tie.close
    (tie.spec (λ c. search rules) (λ c κs. search rules) (λ c. search rules) (λ c κs. search rules) (λ c κs. search rules) returns)
