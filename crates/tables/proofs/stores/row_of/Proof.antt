use native.Mathlib.Omega.{arith}
use Prim.Native.Nat.{zero, zero-le}
use Rattle.tables.specs.laws.Tables.{SmallPlace, small_place, row_in}
use borrow.Author.Rules.{rules}
use Rattle.tables.proofs.stores.row_of.Statement.{statement}
use Rattle.tables.proofs.stores.row_of.Tie as tie

known : (c : tie.Start) → SmallPlace c.args.g c.args.drive zero zero
known c = small_place _ _ _ _ c.requires.0 c.requires.1 (omega arith) zero-le

mul-result : tie.Need-overflow_mul-result
mul-result c = omega (arith, (known c).row)

returns : tie.Need-returns
returns c = let h = row_in c.args.g c.args.drive c.requires.1 in (omega arith, omega (arith, h))

pub row_of_spec : {M : Type 1} → statement M
row_of_spec = tie.close (tie.spec (λ c. search rules) mul-result returns)
