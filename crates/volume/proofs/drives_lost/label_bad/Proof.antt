use mathlib.Core.Path.{refl}
use borrow.Author.Tests.{not-true, not-false}
use borrow.Author.Rules.{rules}
use Rattle.volume.specs.meaning.CallContracts.{is_set}
use Rattle.volume.proofs.drives_lost.label_bad.Statement.{statement}
use Rattle.volume.proofs.drives_lost.label_bad.Tie as tie

returns-2 : tie.Need-returns
returns-2 c =
    let e = c.before.before.before in
    let a = e.args in
    rw (not-false (is_set a.here a.d) e.if-not-present.false-raw, c.begins_labelled-labelled.ensures, c.other_array-other.ensures, c.first_array-a.ensures) refl

pub label_bad_spec : {M : Type 1} → statement M
label_bad_spec =
    tie.close
    (tie.spec (λ c. search rules) (λ c. rw (not-true (is_set c.args.here c.args.d) c.if-not-present.true-raw) refl)
    (λ c κs. search rules) (λ c κs. search rules) (λ c κs. search rules) returns-2)
