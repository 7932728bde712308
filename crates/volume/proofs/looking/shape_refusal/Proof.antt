use mathlib.Core.Path.{◌≡◌, sym, ◌∙◌}
use mathlib.Core.Bool.{true}
use lib.ListN.{length}
use borrow.Author.Tests.{not-true, not-false}
use Rattle.tables.specs.meaning.Tables.{lengths_fit}
use Rattle.tables.specs.meaning.GeometryTest.{is_valid}
use Rattle.tables.specs.laws.GeometryTest.{valid_if_test}
use Rattle.tables.specs.laws.TablesFrame.{lengths_are}
use Rattle.volume.specs.looking.Looking.{shape_1, shape_2, shape_3, shape_0}
use borrow.Author.Rules.{rules}
use Rattle.volume.proofs.looking.shape_refusal.Statement.{statement}
use Rattle.volume.proofs.looking.shape_refusal.Tie as tie

valid : (c : tie.Else-not-valid) → is_valid c.args.g ≡ true
valid c = sym c.before.valid.ensures ∙ not-false c.before.valid.result c.if-not-valid.false-raw

fits : (c : tie.Else-not-lengths_fit) → lengths_fit c.args.g c.args.sectors (length c.args.written.now) (length c.args.durable.now) ≡ true
fits c = sym c.lengths_fit.ensures ∙ not-false c.lengths_fit.result c.if-not-lengths_fit.false-raw

returns : tie.Need-returns-then-not-valid
returns c = let a = c.args in shape_1 a.g a.named a.sectors a.written.now a.durable.now (sym c.before.valid.ensures ∙ not-true c.before.valid.result c.if-not-valid.true-raw)

lengths-fit-requires : tie.Need-lengths_fit-requires
lengths-fit-requires c κs = valid_if_test _ (valid c)

returns-2 : tie.Need-returns-then-not-lengths_fit
returns-2 c = let a = c.args in shape_2 a.g a.named a.sectors a.written.now a.durable.now (valid c.before.before) (sym c.lengths_fit.ensures ∙ not-true c.lengths_fit.result c.if-not-lengths_fit.true-raw)

pointers-bad-requires : tie.Need-pointers_bad-requires
pointers-bad-requires c κs =
    let a = c.args in
    let (x, y, z) = lengths_are a.g a.sectors (length a.written.now) (length a.durable.now) (fits c) in
    (valid_if_test _ (valid c.before.before), (y, z))

returns-3 : tie.Need-returns-then-pointers_bad
returns-3 c = let a = c.args in shape_3 a.g a.named a.sectors a.written.now a.durable.now (valid c.before.before.before.before) (fits c.before.before) (sym c.pointers_bad.ensures ∙ c.if-pointers_bad.true)

returns-4 : tie.Need-returns
returns-4 c = let a = c.args in shape_0 a.g a.named a.sectors a.written.now a.durable.now (valid c.before.before.before.before) (fits c.before.before) (sym c.pointers_bad.ensures ∙ c.if-pointers_bad.false)

pub shape_refusal_spec : {M : Type 1} → statement M
shape_refusal_spec =
    tie.close
    (tie.spec (λ c κs. search rules) returns lengths-fit-requires returns-2 pointers-bad-requires returns-3 returns-4)
