use mathlib.Core.Path.{◌≡◌, sym, ◌∙◌}
use lib.ListN.{length}
use Rattle.mounting.specs.MountSteps.{no_steps, steps_then}
use borrow.Author.Rules.{rules}
use Rattle.mounting.proofs.steps.restore_steps.Statement.{statement}
use Rattle.mounting.proofs.steps.restore_steps.Tie as tie

-- from the place after a step to that after the one before
abbrev to_start : tie.After-restore_zones-rest → tie.Start
to_start c = c.before.before.before.before.before.before.before.before

abbrev to-zones : tie.After-header_step-rest → tie.After-restore_zones-rest
to-zones c = c.before.before.before.before.before.before.before.before.before.before

abbrev to-seal : tie.After-torn_row_step-rest → tie.After-header_step-rest
to-seal c = c.before.before.before.before.before.before.before.before.before.before

abbrev to-torn-row : tie.After-fill_step → tie.After-torn_row_step-rest
to-torn-row c = c.before.before.before.before.before.before.before.before.before.before

header-step-requires : tie.Need-header_step-rest-requires
header-step-requires c κs = let f = c.before.before.before.before.before.before.before.before.before in ((to_start f).requires.0, f.restore_zones-rest.ensures.restoring)

torn-row-step-requires : tie.Need-torn_row_step-rest-requires
torn-row-step-requires c κs = let f = c.before.before.before.before.before.before.before.before.before in ((to_start (to-zones f)).requires.0, f.header_step-rest.ensures.restoring)

fill-step-requires : tie.Need-fill_step-requires
fill-step-requires c κs = let f = c.before.before.before.before.before.before.before.before.before in ((to_start (to-zones (to-seal f))).requires.0, f.torn_row_step-rest.ensures.restoring)

-- where they began
abbrev begun : tie.After-fill_step → tie.Start
begun c = to_start (to-zones (to-seal (to-torn-row c)))

-- no step changes a length
lengths : (c : tie.After-fill_step) → let a = (begun c).args in let f = c.fill_step.new in (length f.sectors ≡ length a.sectors.now) × (length f.written ≡ length a.written.now) × (length f.durable ≡ length a.durable.now)
lengths c =
    let p = (begun c).requires.1 in
    let r = c.fill_step.ensures.restoring in
    (r.logging.sectors_long ∙ sym p.logging.sectors_long, r.logging.written_long ∙ sym p.logging.written_long, r.durable_long ∙ sym p.durable_long)

-- the steps in a row
returns : tie.Need-returns
returns c =
    let fill = c.before.before.before.before.before.before in
    let torn = to-torn-row fill in
    let seal = to-seal torn in
    record {
      steps = (to-zones seal).restore_zones-rest.ensures.steps (steps_then seal.header_step-rest.ensures (steps_then torn.torn_row_step-rest.ensures (steps_then fill.fill_step.ensures no_steps)));
      restoring = fill.fill_step.ensures.restoring;
    }

pub restore_steps_spec : {M : Type 1} → statement M
restore_steps_spec =
    tie.close
    (tie.spec (λ c κs. search rules) header-step-requires torn-row-step-requires fill-step-requires (λ c. (lengths c.before.before.before.before.before.before).0) (λ c. (lengths c.before.before.before.before.before.before).1)
    (λ c. (lengths c.before.before.before.before.before.before).2) returns)
