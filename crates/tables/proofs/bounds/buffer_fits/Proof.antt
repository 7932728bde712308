use borrow.Author.Rules.{rules}
use native.Mathlib.Omega.{arith}
use Rattle.tables.specs.laws.Sizes.{exact_division}
use Rattle.tables.specs.meaning.Tables.{buffer_fits}
use Rattle.tables.proofs.bounds.buffer_fits.Statement.{statement}
use Rattle.tables.proofs.bounds.buffer_fits.Tie as tie

returns : tie.Need-returns
unfolding buffer_fits
returns c = exact_division c.args.bytes c.args.g.sector c.args.count (omega (arith, c.requires.sector_least))

pub buffer_fits_spec : {M : Type 1} → statement M
buffer_fits_spec = tie.close (tie.spec (λ c. search rules) (λ c. search rules) returns)
