use mathlib.Core.Path.{◌≡◌, refl, sym, ◌∙◌}
use mathlib.Core.Bool.{◌||◌, true, false}
use lib.Dec.{leb}
use borrow.Author.Rules.{rules}
use Rattle.logs.specs.meaning.Entry.{worn_generation}
use Rattle.volume.specs.meaning.State.{is_worn}
use Rattle.volume.specs.meaning.CallContracts.{is_set}
use Rattle.volume.specs.checks.ZoneChecks.{stale_on}
use Rattle.volume.specs.storing.Resetting.{reset_7, reset_12, reset_0}
use Rattle.volume.proofs.resetting.zone_refusal.Statement.{statement}
use Rattle.volume.proofs.resetting.zone_refusal.Tie as tie

returns : tie.Need-returns-then-is_stale
returns c = let a = c.args in reset_7 a.g (is_set a.here) a.r a.z a.written.now (sym c.is_stale.ensures ∙ c.if-is_stale.true)

-- what has been found out so far
fresh : (c : tie.Else-is_stale) → let a = c.args in stale_on a.g (is_set a.here) a.written.now a.r.condition a.z ≡ false
fresh c = sym c.is_stale.ensures ∙ c.if-is_stale.false

worn-is : (c : tie.After-is_worn) → let r = c.args.r in c.is_worn.result || leb 18446744073709551615 r.generation ≡ is_worn r.condition || leb worn_generation r.generation
unfolding worn_generation
worn-is c = rw c.is_worn.ensures refl

returns-2 : tie.Need-returns-then-is_worn-generation
returns-2 c =
    let a = c.args in
    let worn : c.is_worn.result || leb 18446744073709551615 a.r.generation ≡ true = c.if-is_worn-generation.true in
    reset_12 a.g (is_set a.here) a.r a.z a.written.now (fresh c.before.before) (sym (worn-is c.before) ∙ worn)

returns-3 : tie.Need-returns
returns-3 c =
    let w = c.before in
    let a = w.args in
    reset_0 a.g (is_set a.here) a.r a.z a.written.now (fresh w.before) (sym (worn-is w) ∙ c.if-is_worn-generation.false)

pub zone_refusal_spec : {M : Type 1} → statement M
zone_refusal_spec = tie.close (tie.spec (λ c κs. search rules) returns (λ c κs. search rules) returns-2 returns-3)
