use mathlib.Core.Path.{◌≡◌, sym, ◌∙◌, ap}
use mathlib.Core.Bool.{Bool, true, ◌&&◌}
use Prim.Native.Nat.{◌%◌}
use native.Mathlib.Omega.{arith}
use lib.Dec.{eqb}
use borrow.Author.Tests.{not-false, not-true}
use borrow.Author.Rules.{rules}
use Rattle.tables.specs.meaning.GeometryTest.{all}
use Rattle.grouped.specs.meaning.Segment.{is_segment, segment_bounds}
use Rattle.grouped.specs.laws.Segment.{ranged}
use Rattle.grouped.proofs.checks.valid.Statement.{statement}
use Rattle.grouped.proofs.checks.valid.Tie as tie

returns : tie.Need-returns-then-not-ok
unfolding is_segment
returns c =
    let s = c.args.s in
    ap (λ (b : Bool). b && eqb (s.blocks % s.group) 0) (sym (not-true _ c.if-not-ok.true-raw) ∙ c.in_ranges-ok.ensures)

-- past the test the numbers lie in their ranges
passed : (c : tie.Else-not-ok) → true ≡ all (segment_bounds c.args.s)
passed c = sym (not-false _ c.if-not-ok.false-raw) ∙ c.in_ranges-ok.ensures

rem-result : tie.Need-nonzero_rem-result
rem-result c = omega (arith, (ranged c.args.s (sym (passed c))).group_least)

returns-2 : tie.Need-returns
unfolding is_segment
returns-2 c =
    let s = c.args.s in
    ap (λ (b : Bool). b && eqb (s.blocks % s.group) 0) (passed c)

pub valid_spec : {M : Type 1} → statement M
valid_spec = tie.close (tie.spec (λ c κs. search rules) returns rem-result returns-2)
