use Rattle.std.proofs.Common.{◌≡◌, refl, sym, ◌∙◌, arith, true, false}
use Rattle.replaying.specs.Damaging.{may_append}
use Rattle.tables.specs.meaning.GeometryTest.{is_valid}
use Rattle.tables.specs.laws.GeometryTest.{valid_if_test}
use Rattle.replaying.proofs.damaging.may_append.Goals as goal

pub returns-then-not-ok : goal.returns-then-not-ok
unfolding may_append
returns-then-not-ok c = let e : is_valid c.args.g ≡ false = sym c.valid-ok.ensures ∙ c.if-not-ok.true in rw e refl

pub lengths_fit-fit-requires : goal.lengths_fit-fit-requires
lengths_fit-fit-requires c = valid_if_test _ (sym c.valid-ok.ensures ∙ c.if-not-ok.false)

pub overflow_add-result : goal.overflow_add-result
overflow_add-result c = let v = valid_if_test c.args.g (sym c.valid-ok.ensures ∙ c.if-not-ok.false) in omega arith

pub returns : goal.returns
unfolding may_append
returns c =
    let e : is_valid c.args.g ≡ true = sym c.valid-ok.ensures ∙ c.if-not-ok.false in
    rw (e, c.lengths_fit-fit.ensures) refl
