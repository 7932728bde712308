use mathlib.Core.Path.{◌≡◌, refl, sym, ◌∙◌}
use mathlib.Core.Bool.{false}
use Prim.Native.Nat.{◌+◌}
use native.Mathlib.Omega.{arith}
use borrow.Author.Rules.{rules}
use borrow.Author.Tests.{lt-ltb, le-ltb}
use Rattle.tables.specs.laws.Basics.{not_true, not_not}
use Rattle.tables.specs.laws.Sizes.{zone_small}
use Rattle.volume.specs.meaning.State.{pointer_in}
use Rattle.volume.specs.meaning.CallContracts.{is_set}
use Rattle.volume.specs.checks.ZoneChecks.{stale_on}
use Rattle.volume.specs.reading.Peeking.{place_number_on}
use Rattle.volume.proofs.reading.place_refusal.Statement.{statement}
use Rattle.volume.proofs.reading.place_refusal.Tie as tie

returns : tie.Need-returns-then-stale
unfolding place_number_on
returns c = rw (sym c.is_stale-stale.ensures ∙ c.if-stale.true) refl

fresh : (c : tie.Else-stale) → let a = c.args in stale_on a.g (is_set a.here) a.written.now a.c a.z ≡ false
fresh c = sym c.is_stale-stale.ensures ∙ c.if-stale.false

returns-2 : tie.Need-returns-then-pointer-offset
unfolding place_number_on
returns-2 c =
    let f = c.before.before in
    let a = f.args in
    rw (fresh f, lt-ltb (pointer_in a.c) (a.offset + 1) (omega (arith, c.pointer_of-pointer.ensures, c.if-pointer-offset.true))) refl

returns-3 : tie.Need-returns-then-not-held
unfolding place_number_on
returns-3 c =
    let p = c.before.before.before in
    let f = p.before in
    let a = f.args in
    rw (fresh f, le-ltb (pointer_in a.c) (a.offset + 1) (omega (arith, p.pointer_of-pointer.ensures, c.if-pointer-offset.false)), sym c.own_held-held.ensures ∙ not_true c.own_held-held.result c.if-not-held.true-raw) refl

returns-4 : tie.Need-returns
unfolding place_number_on
returns-4 c =
    let p = c.before.before.before in
    let f = p.before in
    let a = f.args in
    rw (fresh f, le-ltb (pointer_in a.c) (a.offset + 1) (omega (arith, p.pointer_of-pointer.ensures, c.if-pointer-offset.false)), sym c.own_held-held.ensures ∙ not_not c.own_held-held.result c.if-not-held.false-raw) refl

add-if2 : tie.Need-overflow_add-offset
add-if2 c = let s = c.before.before.before.before in omega (arith, s.requires.1.3, (zone_small s.args.g s.requires.0).1)

pub place_refusal_spec : {M : Type 1} → statement M
place_refusal_spec =
    tie.close
    (tie.spec (λ c κs. search rules) returns (λ c κs. search rules) add-if2 returns-2 (λ c κs. search rules) returns-3 returns-4)
