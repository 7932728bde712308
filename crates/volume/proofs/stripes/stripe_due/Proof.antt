use native.Mathlib.Nat.{mul-le-mul}
use mathlib.Core.Path.{sym, ◌∙◌}
use native.Mathlib.Omega.{arith}
use Rattle.tables.specs.laws.Sizes.{zone_small}
use Rattle.volume.specs.stripes.StripeDue.{due_short, due_not, due_room}
use borrow.Author.Rules.{rules}
use Rattle.volume.proofs.stripes.stripe_due.Statement.{statement}
use Rattle.volume.proofs.stripes.stripe_due.Tie as tie

returns : tie.Need-returns-then-end-a
returns c =
    let a = c.args in
    let k = c.stripe_sectors-k in
    sym (due_short a.known a.written.now a.a a.budget k.result k.ensures.0 c.if-end-a.true)

returns-2 : tie.Need-returns-then-not-alone
returns-2 c =
    let a = c.args in
    let k = c.stripe_sectors-k in
    sym (due_not a.known a.written.now a.a a.budget k.result k.ensures.0 c.if-not-alone.true-raw)

returns-3 : tie.Need-returns
returns-3 c =
    let a = c.args in
    let k = c.stripe_sectors-k in
    c.room_for_units.ensures ∙ sym (due_room a.known a.written.now a.a a.budget k.result k.ensures.0 c.if-end-a.false c.if-not-alone.false-raw)

pub stripe_due_spec : {M : Type 1} → statement M
stripe_due_spec =
    tie.close
    (tie.spec (λ c κs. search rules) (λ c. let s = c.before.before in omega (arith, s.requires.1.2, s.requires.1.1, (zone_small s.args.known.to s.requires.0).1, c.stripe_sectors-k.ensures.2)) returns
    (λ c. let s = c.before.before.before.before in omega (arith, mul-le-mul {n₂ = 8} {m₂ = 16} s.requires.0.drives_most s.requires.0.unit_most)) (λ c. search rules) returns-2 (λ c. search rules) (λ c κs. search rules) returns-3)
