use mathlib.Core.Path.{◌≡◌, refl, sym, ap, ◌∙◌}
use mathlib.Core.Bool.{◌||◌, false}
use Prim.Native.Nat.{ℕ, ◌+◌}
use native.Mathlib.Omega.{arith}
use lib.Dec.{ltb, eqb}
use borrow.Author.Rules.{rules}
use borrow.Author.Tests.{lt-ltb, le-ltb}
use Rattle.volume.specs.meaning.State.{pointer_in}
use Rattle.volume.specs.meaning.Refusals.{bad_run}
use Rattle.volume.specs.meaning.CallContracts.{is_set}
use Rattle.volume.specs.checks.ZoneChecks.{stale_on}
use Rattle.volume.specs.reading.Reading.{late_number}
use Rattle.volume.proofs.reading.run_refusal.Statement.{statement}
use Rattle.volume.proofs.reading.run_refusal.Tie as tie

abbrev to_start : tie.Else-stale → tie.Start
to_start c = c.before.before.before.before.before

returns : tie.Need-returns-then-stale
unfolding late_number
returns c = rw (sym c.is_stale-stale.ensures ∙ c.if-stale.true) refl

fresh : (c : tie.Else-stale) → let a = (to_start c).args in stale_on a.zone.geometry (is_set a.zone.here) a.written.now a.c a.zone.number ≡ false
fresh c = sym c.is_stale-stale.ensures ∙ c.if-stale.false

run-bad : (c : tie.After-zone_sectors-most) → let a = (to_start c.before.before).args in eqb a.count 0 || ltb c.zone_sectors-most.result (a.offset + a.count) ≡ bad_run a.zone.geometry a.offset a.count
run-bad c = let a = (to_start c.before.before).args in ap (λ (m : ℕ). eqb a.count 0 || ltb m (a.offset + a.count)) c.zone_sectors-most.ensures.0

returns-2 : tie.Need-returns-then-count-most
unfolding late_number
returns-2 c = rw (fresh c.before.before.before, sym (run-bad c.before) ∙ c.if-count-most.true) refl

returns-3 : tie.Need-returns-then-pointer-end
unfolding late_number
returns-3 c =
    let m = c.before.before.before in
    let a = (to_start m.before.before).args in
    rw (fresh m.before.before, sym (run-bad m) ∙ c.if-count-most.false, lt-ltb (pointer_in a.c) (a.offset + a.count) (omega (arith, c.pointer_of-pointer.ensures, c.if-pointer-end.true))) refl

returns-4 : tie.Need-returns
unfolding late_number
returns-4 c =
    let m = c.before.before.before in
    let a = (to_start m.before.before).args in
    rw (fresh m.before.before, sym (run-bad m) ∙ c.if-count-most.false, le-ltb (pointer_in a.c) (a.offset + a.count) (omega (arith, c.pointer_of-pointer.ensures, c.if-pointer-end.false))) refl

pub run_refusal_spec : {M : Type 1} → statement M
run_refusal_spec =
    tie.close
    (tie.spec (λ c κs. search rules) returns (λ c κs. search rules) (λ c. search rules) returns-2 (λ c κs. search rules) returns-3 returns-4)
