use Prim.Native.Nat.{◌+◌, ◌-◌, ◌<◌}
use mathlib.Core.Path.{◌≡◌, sym, ◌∙◌}
use mathlib.Core.Bool.{true}
use native.Mathlib.Omega.{arith}
use lib.Dec.{ltb}
use borrow.Author.Tests.{ltb-true, not-true, not-false}
use Rattle.tables.specs.laws.Basics.{and_split}
use Rattle.volume.specs.looking.RowOthers.{is_other, others_skipped, others_more, others_two}
use borrow.Author.Rules.{rules}
use Rattle.volume.proofs.row_others.xor_next.Statement.{statement}
use Rattle.volume.proofs.row_others.xor_next.Tie as tie

-- unit k is left out
returns : tie.Need-returns-then-not-other
returns c =
    let s = c.before.before.before.before in
    let a = s.args in
    let f = c.is_other-other in (
      omega arith,
      s.requires.1.1,
      λ zs e. others_skipped a.g a.sectors.now a.row a.k zs a.out.now e (sym f.ensures ∙ not-true f.result c.if-not-other.true-raw),
    )

-- or it is among the others
other : (c : tie.Else-not-other) → let a = c.args in is_other a.g a.row a.k ≡ true
other c = sym c.is_other-other.ensures ∙ not-false c.is_other-other.result c.if-not-other.false-raw

-- with the next
both : (c : tie.Then-k-n) → let a = c.args in (a.k + 1 < a.g.drives - 1) × (is_other a.g a.row (a.k + 1) ≡ true)
both c =
    let a = c.args in
    let f = c.is_other-more in
    let (p, q) = and_split (ltb (a.k + 1) (a.g.drives - 1)) f.result c.if-k-n.true in
    (ltb-true (a.k + 1) (a.g.drives - 1) p, sym f.ensures ∙ q)

returns-2 : tie.Need-returns-then-k-n
returns-2 c =
    let t = c.before.before.before.before in
    let a = c.args in (
      omega arith,
      omega (arith, (both t).0),
      λ zs e. c.xor_pair.ensures ∙ others_two a.g a.sectors.now a.row a.k zs a.out.now e (other t.before.before.before) (both t).1,
    )

returns-3 : tie.Need-returns
returns-3 c =
    let t = c.before.before.before.before in
    let s = c.before.before.before.before.before.before.before.before.before.before.before in
    let a = s.args in (
      omega arith,
      s.requires.1.1,
      λ zs e. c.xor_unit.ensures ∙ others_more a.g a.sectors.now a.row a.k zs a.out.now e (other t.before.before.before),
    )

pub xor_next_spec : {M : Type 1} → statement M
xor_next_spec =
    tie.close
    (tie.spec (λ c κs. search rules) (λ c. search rules) returns (λ c. search rules) (λ c. search rules) (λ c κs. search rules) (λ c. search rules)
    (λ c κs. search rules) (λ c. search rules) (λ c. search rules) returns-2 (λ c κs. search rules) (λ c. search rules) (λ c. search rules) returns-3)
