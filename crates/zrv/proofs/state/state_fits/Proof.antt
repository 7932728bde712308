use mathlib.Core.Path.{refl}
use borrow.Author.Rules.{rules}
use Rattle.zrv.specs.laws.StateForm.{state_test}
use Rattle.zrv.proofs.state.state_fits.Statement.{statement}
use Rattle.zrv.proofs.state.state_fits.Tie as tie

returns : tie.Need-returns
returns c =
    let s = c.before.before.before.before.before.before in
    let a = s.args in
    rw (c.zeros_between-none.ensures, c.zeros_between-past.ensures, c.records_fit-records.ensures, c.read_u64-lost.ensures, c.zone_sectors-most.ensures.0)
    (state_test a.g a.bytes.now s.requires.0 (λ i. (c.shared_slice_known-1.given i).fits) s.requires.1)

pub state_fits_spec : {M : Type 1} → statement M
state_fits_spec =
    tie.close
    (tie.spec (λ c. search rules) (λ c κs. search rules) (λ c κs. search rules) (λ c κs. search rules) (λ c. search rules) (λ c. search rules) (λ c κs. search rules)
    (λ c. search rules) (λ c. search rules) (λ c κs. search rules) returns)
