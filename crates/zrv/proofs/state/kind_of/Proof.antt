use native.Mathlib.Omega.{arith}
use borrow.Author.Rules.{rules}
use Rattle.zrv.specs.laws.RoundTrips.{condition_few, owner_few}
use Rattle.zrv.proofs.state.kind_of.Statement.{statement}
use Rattle.zrv.proofs.state.kind_of.Tie as tie

mul-result : tie.Need-overflow_mul-result
mul-result c = omega (arith, c.owner_number-high.ensures, owner_few c.args.r.owner)

add-result : tie.Need-overflow_add-result
add-result c = omega (arith, c.owner_number-high.ensures, c.condition_number-low.ensures, condition_few c.args.r.condition, owner_few c.args.r.owner)

returns : tie.Need-returns
returns c = cc

pub kind_of_spec : {M : Type 1} → statement M
kind_of_spec = tie.close (tie.spec (λ c κs. search rules) (λ c κs. search rules) mul-result add-result returns)
