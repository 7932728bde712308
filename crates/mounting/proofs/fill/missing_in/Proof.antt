use mathlib.Core.Path.{◌≡◌, refl}
use mathlib.Core.Bool.{true, false}
use borrow.Author.Tests.{not-true, not-false}
use Rattle.volume.specs.meaning.CallContracts.{is_set}
use borrow.Author.Rules.{rules}
use Rattle.mounting.proofs.fill.missing_in.Statement.{statement}
use Rattle.mounting.proofs.fill.missing_in.Tie as tie

-- the drive is not here
returns : tie.Need-returns-then-not-present
returns c =
    let a = c.args in
    let absent : is_set a.basis.here a.drive ≡ false = not-true (is_set a.basis.here a.drive) c.if-not-present.true-raw in
    record { pointer_is = refl; from_is = rw absent refl; to_is = rw absent refl }

sectors-needed-requires : tie.Need-sectors_needed-to-requires
sectors-needed-requires c κs = let s = c.before.before.before.before.before.before.before in (s.requires.0, (s.requires.1.1, s.requires.1.3.pointer_most s.args.z s.requires.1.1, s.requires.1.0))

returns-2 : tie.Need-returns
returns-2 c =
    let a = c.args in
    let present : is_set a.basis.here a.drive ≡ true = not-false (is_set a.basis.here a.drive) c.if-not-present.false-raw in
    record { pointer_is = refl; from_is = rw present c.sectors_then-from.ensures.0; to_is = rw present c.sectors_needed-to.ensures.0 }

pub missing_in_spec : {M : Type 1} → statement M
missing_in_spec =
    tie.close
    (tie.spec (λ c. search rules) (λ c. search rules) (λ c. search rules) returns (λ c. search rules) (λ c κs. search rules) sectors-needed-requires returns-2)
