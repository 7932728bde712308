use mathlib.Core.Path.{refl}
use native.Mathlib.Omega.{arith}
use Rattle.tables.specs.laws.Tables.{SmallPlace, small_place, sector_in}
use borrow.Author.Rules.{rules}
use Rattle.tables.proofs.stores.byte_at.Statement.{statement}
use Rattle.tables.proofs.stores.byte_at.Tie as tie

known : (c : tie.After-cell_of-at) → SmallPlace c.before.args.g c.before.args.drive c.before.args.zone c.before.args.n
known c = let p = c.before.requires in small_place _ _ _ _ p.0 p.1.0 p.1.1 (omega (arith, p.1.2))

mul-result : tie.Need-overflow_mul-result
mul-result c = let k = known c in omega (arith, rw (← c.cell_of-at.ensures.0) at k.start)

add-result : tie.Need-overflow_add-result
add-result c = let k = known c in omega (arith, rw (← c.cell_of-at.ensures.0) at k.place)

mul-result-2 : tie.Need-overflow_mul-result-2
mul-result-2 c = let k = known c in omega (arith, rw (← c.cell_of-at.ensures.0) at k.byte)

returns : tie.Need-returns
returns c = let s = c.before in let p = s.requires in rw c.cell_of-at.ensures.0 (refl, sector_in s.args.g s.args.drive s.args.zone s.args.n p.1.0 p.1.1 p.1.2)

pub byte_at_spec : {M : Type 1} → statement M
byte_at_spec = tie.close (tie.spec (λ c κs. search rules) mul-result add-result mul-result-2 returns)
