use mathlib.Core.Path.{refl}
use Rattle.tables.specs.laws.Tables.{cell_in, SmallPlace, small_place}
use native.Mathlib.Omega.{arith}
use Prim.Native.Nat.{zero, zero-le}
use borrow.Author.Rules.{rules}
use Rattle.tables.proofs.stores.cell_of.Statement.{statement}
use Rattle.tables.proofs.stores.cell_of.Tie as tie

known : (c : tie.Start) → SmallPlace c.args.g c.args.drive c.args.zone zero
known c = small_place _ _ _ _ c.requires.0 c.requires.1.0 c.requires.1.1 zero-le

mul-result : tie.Need-overflow_mul-result
mul-result c = omega (arith, (known c.before).row)

add-result-2 : tie.Need-overflow_add-result-2
add-result-2 c = let s = c.before in omega (arith, (known s).row, (known s).cell_most, c.zone_place-place.ensures)

returns : tie.Need-returns
returns c = let s = c.before in rw c.zone_place-place.ensures (refl, cell_in s.args.g s.args.drive s.args.zone s.requires.1.0 s.requires.1.1)

pub cell_of_spec : {M : Type 1} → statement M
cell_of_spec = tie.close (tie.spec (λ c κs. search rules) (λ c. search rules) mul-result add-result-2 returns)
