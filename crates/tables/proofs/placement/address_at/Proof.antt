use Prim.Native.Nat.{zero}
use mathlib.Core.Path.{refl}
use native.Mathlib.Omega.{arith}
use borrow.Author.Rules.{rules}
use Rattle.tables.specs.meaning.Placement.{address_at, stripe_length}
use Rattle.tables.specs.laws.Sizes.{SmallAddress, small_address, address_within}
use Rattle.tables.proofs.placement.address_at.Statement.{statement}
use Rattle.tables.proofs.placement.address_at.Tie as tie

parity-drive-requires : tie.Need-parity_drive-p-requires
parity-drive-requires c κs =
    let v = c.requires.0 in
    omega (arith, (small_address c.args.g zero c.args.x v (omega (arith, v.drives_least)) c.requires.1.2).stripes, v.drives_least, v.drives_most, v.zones_most)

known : (c : tie.After-unit_of-j) → SmallAddress c.before.before.args.g c.unit_of-j.result c.before.before.args.x
known c = let s = c.before.before in small_address s.args.g c.unit_of-j.result s.args.x s.requires.0 c.unit_of-j.ensures.1 s.requires.1.2

mul-result : tie.Need-overflow_mul-result
mul-result c = let k = known c in omega arith

mul-result-2 : tie.Need-overflow_mul-result-2
mul-result-2 c = let k = known c in omega arith

mul-result-3 : tie.Need-overflow_mul-result-3
mul-result-3 c = let k = known c in omega arith

add-result : tie.Need-overflow_add-result
add-result c = let k = known c in omega arith

add-result-2 : tie.Need-overflow_add-result-2
add-result-2 c = let k = known c in omega arith

returns : tie.Need-returns
unfolding address_at stripe_length
returns c =
    let s = c.before.before in
    let p = c.before.parity_drive-p.ensures.0 in
    (rw (c.unit_of-j.ensures.0, p) refl, rw (c.unit_of-j.ensures.0, p) (address_within s.args.g s.args.zone s.args.drive s.args.x s.requires.0 s.requires.1.1 s.requires.1.3 s.requires.1.2))

pub address_at_spec : {M : Type 1} → statement M
address_at_spec =
    tie.close
    (tie.spec (λ c. search rules) parity-drive-requires (λ c κs. search rules) (λ c. search rules) mul-result mul-result-2 mul-result-3
    (λ c. search rules) add-result add-result-2 returns)
