use mathlib.Core.Path.{◌≡◌, refl}
use native.Mathlib.Omega.{arith}
use Rattle.tables.specs.meaning.Placement.{stripe_of, stripe_length}
use Rattle.tables.specs.laws.Sizes.{Striped, striped}
use borrow.Author.Rules.{rules}
use Rattle.tables.proofs.placement.stripe_at.Statement.{statement}
use Rattle.tables.proofs.placement.stripe_at.Tie as tie

known : (c : tie.Start) → Striped c.args.g c.args.n
known c = striped _ _ c.requires.0 c.requires.1.1

mul-k : tie.Need-overflow_mul-k
mul-k c = omega (arith, (known c).short)

div-stripe : tie.Need-nonzero_div-stripe
div-stripe c = (known c).long

rem-fill : tie.Need-nonzero_rem-fill
rem-fill c = (known c).long

parity-drive-requires : tie.Need-parity_drive-parity-requires
parity-drive-requires c κs = let p = c.requires in (omega (arith, p.0.drives_least), p.0.drives_most, omega (arith, p.0.zones_most, p.1.0), (known c).stripes)

returns : tie.Need-returns
unfolding stripe_of stripe_length
returns c = rw c.parity_drive-parity.ensures.0 refl

pub stripe_at_spec : {M : Type 1} → statement M
stripe_at_spec = tie.close (tie.spec (λ c. search rules) mul-k div-stripe rem-fill parity-drive-requires returns)
