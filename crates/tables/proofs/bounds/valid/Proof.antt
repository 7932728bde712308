use native.Mathlib.Omega.{arith}
use native.Mathlib.Nat.{mul-le-mul}
use mathlib.Core.Bool.{◌&&◌, Bool, true}
use mathlib.Core.Path.{◌≡◌, sym, ◌∙◌, ap}
use borrow.Author.Tests.{not-false, not-true}
use Prim.Native.Nat.{◌+◌, ◌*◌, ◌≤◌}
use Rattle.tables.specs.meaning.GeometryTest.{is_valid, all, bound_tests, fits}
use Rattle.tables.specs.laws.GeometryTest.{Ranged, ranged}
use borrow.Author.Rules.{rules}
use Rattle.tables.proofs.bounds.valid.Statement.{statement}
use Rattle.tables.proofs.bounds.valid.Tie as tie

returns : tie.Need-returns-then-not-ok
unfolding is_valid
returns c = ap (λ (b : Bool). b && all (fits c.before.before.args.g)) (sym (not-true _ c.if-not-ok.true-raw) ∙ c.before.in_ranges-ok.ensures)

-- past the test the fields lie in their ranges
passed : (c : tie.Else-not-ok) → true ≡ all (bound_tests c.before.before.args.g)
passed c = sym (not-false _ c.if-not-ok.false-raw) ∙ c.before.in_ranges-ok.ensures

known : (c : tie.Else-not-ok) → Ranged c.before.before.args.g
known c = ranged _ (sym (passed c))

product : (c : tie.Else-not-ok) → c.before.before.args.g.zones * (1 + c.before.before.args.g.unit) ≤ 16 * 17
product c = let k = known c in mul-le-mul {n₂ = 16} {m₂ = 17} k.zones_high (omega arith)

mul-result : tie.Need-overflow_mul-result
mul-result c = let k = known c in omega arith

add-result : tie.Need-overflow_add-result
add-result c = let k = known c in omega arith

rem-result : tie.Need-nonzero_rem-result
rem-result c = let k = known c in omega arith

add-result-2 : tie.Need-overflow_add-result-2
add-result-2 c = let k = known c in omega arith

mul-result-2 : tie.Need-overflow_mul-result-2
mul-result-2 c = let k = known c in omega (arith, product c)

mul-result-3 : tie.Need-overflow_mul-result-3
mul-result-3 c = let k = known c in omega arith

add-result-3 : tie.Need-overflow_add-result-3
add-result-3 c = let k = known c in omega (arith, product c)

add-result-4 : tie.Need-overflow_add-result-4
add-result-4 c = let k = known c in omega (arith, product c)

add-result-5 : tie.Need-overflow_add-result-5
add-result-5 c = let k = known c in omega arith

returns-2 : tie.Need-returns
unfolding is_valid
returns-2 c = ap (λ (b : Bool). b && all (fits c.before.before.args.g)) (passed c)

pub valid_spec : {M : Type 1} → statement M
valid_spec =
    tie.close
    (tie.spec (λ c κs. search rules) returns mul-result add-result rem-result add-result-2 mul-result-2 mul-result-3 add-result-3 add-result-4
    add-result-5 returns-2)
