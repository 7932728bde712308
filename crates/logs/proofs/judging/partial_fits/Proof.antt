use Rattle.tables.specs.laws.Sizes.{zone_small}
use Rattle.logs.specs.code.Judge.{and_false, stripes_fit}
use borrow.Author.Tests.{lt-ltb, le-ltb}
use mathlib.Core.Path.{refl, sym}
use native.Mathlib.Omega.{arith}
use borrow.Author.Rules.{rules}
use Rattle.logs.proofs.judging.partial_fits.Statement.{statement}
use Rattle.logs.proofs.judging.partial_fits.Tie as tie

returns : tie.Need-returns-then-l-z
returns c = let a = c.args in rw (le-ltb a.z a.g.zones c.if-l-z.true) (sym (and_false a.parity))

parity-drive-requires : tie.Need-parity_drive-p-requires
parity-drive-requires c κs = let s = c.before.before.before in let p = s.requires.0 in (omega (arith, p.drives_least), p.drives_most, omega arith, stripes_fit s.args.g s.args.t p s.requires.1)

mul-result : tie.Need-overflow_mul-result
mul-result c = let s = c.before.before.before.before in let z = (zone_small s.args.g s.requires.0).1 in rw c.stripe_sectors-k.ensures.0 (omega (arith, s.requires.1, z))

returns-2 : tie.Need-returns
returns-2 c = let a = c.args in rw (lt-ltb a.z a.g.zones c.if-l-z.false, c.stripe_sectors-k.ensures.0, c.zone_sectors-q.ensures.0, c.parity_drive-p.ensures.0) refl

pub partial_fits_spec : {M : Type 1} → statement M
partial_fits_spec =
    tie.close
    (tie.spec returns (λ c κs. search rules) (λ c κs. search rules) parity-drive-requires mul-result returns-2)
