use Prim.Native.Nat.{suc}
use mathlib.Core.Path.{◌≡◌, ◌∙◌, refl}
use mathlib.Core.Logic.{◌≢◌}
use native.Mathlib.Omega.{arith}
use native.Mathlib.Numerals.{add-one}
use borrow.Author.Rules.{rules}
use borrow.Author.Tests.{ne_eqb, eq-eqb}
use Rattle.grouped.specs.places.Places.{Noted, noted_drive, noted_missing, lacks_wrong}
use Rattle.grouped.proofs.places.place_present.Statement.{statement}
use Rattle.grouped.proofs.places.place_present.Tie as tie

returns : tie.Need-returns-then-d-missing
returns c =
    let s = c.before.before.before in
    let a = s.args in
    let l = s.requires.0 in
    let e : a.d ≡ a.missing = omega arith in
    (rw (eq-eqb a.d a.missing e) refl, rw add-one (noted_missing a.s a.metadata.now l.valid l.whole a.d s.requires.1.0 a.missing a.work.now e s.requires.1.1))

returns-2 : tie.Need-returns
returns-2 c =
    let s = c.before.before.before.before.before.before.before.before in
    let a = s.args in
    let l = s.requires.0 in
    let f = c.place_drive in
    let ne : a.d ≢ a.missing = omega arith in
    let o : Noted a.s a.metadata.now a.missing (suc a.d) f.new.work =
    rw f.ensures (noted_drive a.s a.metadata.now l.valid l.whole a.d s.requires.1.0 a.missing a.work.now s.requires.1.1) in (
      c.drive_lacks.ensures ∙ lacks_wrong a.s a.metadata.now l.valid l.whole a.d s.requires.1.0 a.missing f.new.work ne o ∙ rw (ne_eqb a.d a.missing ne) refl,
      rw add-one o,
    )

pub place_present_spec : {M : Type 1} → statement M
place_present_spec = tie.close (tie.spec returns (λ c κs. search rules) (λ c κs. search rules) (λ c. search rules) returns-2)
