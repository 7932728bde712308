use Prim.Native.Nat.{◌≤◌}
use mathlib.Core.Path.{◌≡◌, sym, ◌∙◌}
use mathlib.Core.Bool.{true, false}
use native.Mathlib.Omega.{arith}
use lib.ListN.{length}
use borrow.Author.Tests.{not-true, not-false}
use Rattle.tables.specs.meaning.GeometryTest.{is_valid}
use Rattle.tables.specs.laws.GeometryTest.{valid_if_test}
use Rattle.tables.specs.meaning.Tables.{lengths_fit, pointers_bad}
use Rattle.tables.specs.laws.TablesFrame.{lengths_are}
use Rattle.volume.specs.storing.Formatting.{format_1, format_2, format_3, format_4, format_0}
use borrow.Author.Rules.{rules}
use Rattle.volume.proofs.formatting.format_refusal.Statement.{statement}
use Rattle.volume.proofs.formatting.format_refusal.Tie as tie

-- what has been found out so far
valid : (c : tie.Else-not-valid) → is_valid c.args.g ≡ true
valid c = sym c.before.valid.ensures ∙ not-false c.before.valid.result c.if-not-valid.false-raw

fits : (c : tie.Else-not-lengths_fit) → lengths_fit c.args.g c.args.sectors (length c.args.written.now) (length c.args.durable.now) ≡ true
fits c = sym c.lengths_fit.ensures ∙ not-false c.lengths_fit.result c.if-not-lengths_fit.false-raw

good : (c : tie.Else-pointers_bad) → pointers_bad c.args.g c.args.named c.args.written.now c.args.durable.now ≡ false
good c = sym c.pointers_bad.ensures ∙ c.if-pointers_bad.false

returns : tie.Need-returns-then-not-valid
returns c =
    let a = c.args in
    format_1 a.g a.named a.sectors a.written.now a.durable.now (sym c.before.valid.ensures ∙ not-true c.before.valid.result c.if-not-valid.true-raw)

lengths-fit-requires : tie.Need-lengths_fit-requires
lengths-fit-requires c κs = valid_if_test _ (valid c)

returns-2 : tie.Need-returns-then-not-lengths_fit
returns-2 c =
    let a = c.args in
    format_2 a.g a.named a.sectors a.written.now a.durable.now (valid c.before.before) (sym c.lengths_fit.ensures ∙ not-true c.lengths_fit.result c.if-not-lengths_fit.true-raw)

pointers-bad-requires : tie.Need-pointers_bad-requires
pointers-bad-requires c κs =
    let a = c.args in
    let l = lengths_are a.g a.sectors (length a.written.now) (length a.durable.now) (fits c) in
    (valid_if_test _ (valid c.before.before), (l.1, l.2))

returns-3 : tie.Need-returns-then-pointers_bad
returns-3 c =
    let a = c.args in
    format_3 a.g a.named a.sectors a.written.now a.durable.now (valid c.before.before.before.before) (fits c.before.before) (sym c.pointers_bad.ensures ∙ c.if-pointers_bad.true)

count-absent-requires : tie.Need-count_absent-requires
count-absent-requires c κs = valid_if_test _ (valid c.before.before.before.before)

returns-4 : tie.Need-returns-then-count_absent-gt1
returns-4 c =
    let a = c.args in
    format_4 a.g a.named a.sectors a.written.now a.durable.now (valid c.before.before.before.before.before.before) (fits c.before.before.before.before) (good c.before.before) (rw c.count_absent.ensures at c.if-count_absent-gt1.true)

returns-5 : tie.Need-returns
returns-5 c =
    let a = c.args in
    let h : c.count_absent.result ≤ 1 = omega arith in
    format_0 a.g a.named a.sectors a.written.now a.durable.now (valid c.before.before.before.before.before.before) (fits c.before.before.before.before) (good c.before.before) (rw c.count_absent.ensures at h)

pub format_refusal_spec : {M : Type 1} → statement M
format_refusal_spec =
    tie.close
    (tie.spec (λ c κs. search rules) returns lengths-fit-requires returns-2 pointers-bad-requires returns-3 count-absent-requires returns-4 returns-5)
