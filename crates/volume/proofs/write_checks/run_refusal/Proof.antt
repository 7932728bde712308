use mathlib.Core.Path.{◌≡◌, refl, sym, ◌∙◌}
use mathlib.Core.Logic.{◌≢◌}
use mathlib.Core.Bool.{true, false}
use lib.Dec.{eqb}
use borrow.Author.Rules.{rules}
use borrow.Author.Tests.{eq-eqb, ne_eqb}
use Rattle.volume.specs.writing.WriteChecks.{run_number}
use Rattle.volume.specs.meaning.State.{pointer_in, is_sealed, is_worn}
use Rattle.volume.specs.meaning.Refusals.{bad_run}
use Rattle.volume.proofs.write_checks.run_refusal.Statement.{statement}
use Rattle.volume.proofs.write_checks.run_refusal.Tie as tie

-- what has been found out so far
run-good : (c : tie.Else-count-most) → bad_run c.args.g c.args.offset c.args.count ≡ false
run-good c = rw c.zone_sectors-most.ensures.0 at c.if-count-most.false

in_order : (c : tie.Else-offset-n) → eqb c.args.offset (pointer_in c.args.c) ≡ true
in_order c =
    let s = c.before.before.before.before in
    eq-eqb s.args.offset (pointer_in s.args.c) (rw c.pointer_of-n.ensures at c.if-offset-n.false)

not-sealed : (c : tie.Else-sealed) → is_sealed c.args.c ≡ false
not-sealed c = sym c.is_sealed-sealed.ensures ∙ c.if-sealed.false

returns : tie.Need-returns-then-count-most
unfolding run_number
returns c = let e : bad_run c.args.g c.args.offset c.args.count ≡ true = rw c.zone_sectors-most.ensures.0 at c.if-count-most.true in rw e refl

returns-2 : tie.Need-returns-then-offset-n
unfolding run_number
returns-2 c =
    let s = c.before.before.before.before in
    let n : s.args.offset ≢ pointer_in s.args.c = rw c.pointer_of-n.ensures at c.if-offset-n.true in
    rw (run-good c.before.before, ne_eqb s.args.offset (pointer_in s.args.c) n) refl

returns-3 : tie.Need-returns-then-sealed
unfolding run_number
returns-3 c = let e : is_sealed c.args.c ≡ true = sym c.is_sealed-sealed.ensures ∙ c.if-sealed.true in rw (run-good c.before.before.before.before, in_order c.before.before, e) refl

returns-4 : tie.Need-returns-then-worn
unfolding run_number
returns-4 c = let e : is_worn c.args.c ≡ true = sym c.is_worn-worn.ensures ∙ c.if-worn.true in rw (run-good c.before.before.before.before.before.before, in_order c.before.before.before.before, not-sealed c.before.before, e) refl

returns-5 : tie.Need-returns
unfolding run_number
returns-5 c = let e : is_worn c.args.c ≡ false = sym c.is_worn-worn.ensures ∙ c.if-worn.false in rw (run-good c.before.before.before.before.before.before, in_order c.before.before.before.before, not-sealed c.before.before, e) refl

pub run_refusal_spec : {M : Type 1} → statement M
run_refusal_spec =
    tie.close
    (tie.spec (λ c κs. search rules) (λ c. search rules) returns (λ c κs. search rules) returns-2 (λ c κs. search rules) returns-3
    (λ c κs. search rules) returns-4 returns-5)
