use mathlib.Core.Path.{◌≡◌, sym, ◌∙◌}
use lib.ListN.{length}
use Rattle.tables.specs.meaning.Tables.{tables_of}
use Rattle.mounting.specs.MountSteps.{zone_resets_by, counters_by, StepMade, steps_then}
use borrow.Author.Rules.{rules}
use Rattle.mounting.proofs.steps.restore_zones.Statement.{statement}
use Rattle.mounting.proofs.steps.restore_zones.Tie as tie

-- from the place after a step to that after the one before
abbrev to_start : tie.After-header_step-rest → tie.Start
to_start c = c.before.before.before.before.before.before.before.before

abbrev to-label : tie.After-header_step-rest-2 → tie.After-header_step-rest
to-label c = c.before.before.before.before.before.before.before.before.before.before

abbrev to-reset-entry : tie.After-zone_reset_step-rest → tie.After-header_step-rest-2
to-reset-entry c = c.before.before.before.before.before.before.before.before.before

abbrev to-zone-reset : tie.After-counter_step → tie.After-zone_reset_step-rest
to-zone-reset c = c.before.before.before.before.before.before.before.before

-- the resets of zones are handed no sectors: they are those that the step before has left
zones-reset : (c : tie.After-zone_reset_step-rest) → let s = to_start (to-label (to-reset-entry c)) in let a = s.args in let f = (to-reset-entry c).header_step-rest-2 in let h = c.zone_reset_step-rest in
    StepMade a.basis.geometry a.basis.here a.basis.look a.pointers.now f.result h.result (zone_resets_by a.basis.geometry a.basis.look) (tables_of f.new.sectors f.new.written f.new.durable) (tables_of f.new.sectors h.new.written h.new.durable)
zones-reset c =
    let s = to_start (to-label (to-reset-entry c)) in
    let f = (to-reset-entry c).header_step-rest-2 in
    c.zone_reset_step-rest.ensures.step s.args.pointers.now f.new.sectors f.ensures.restoring

-- the counters are handed no pointers
counted : (c : tie.After-counter_step) → let s = to_start (to-label (to-reset-entry (to-zone-reset c))) in let a = s.args in let f = (to-reset-entry (to-zone-reset c)).header_step-rest-2 in let h = (to-zone-reset c).zone_reset_step-rest in let r = c.counter_step in
    StepMade a.basis.geometry a.basis.here a.basis.look a.pointers.now h.result r.result (counters_by a.basis.geometry a.basis.look a.basis.differ) (tables_of f.new.sectors h.new.written h.new.durable) (tables_of r.new.sectors r.new.written r.new.durable)
counted c =
    let s = to_start (to-label (to-reset-entry (to-zone-reset c))) in
    c.counter_step.ensures.step s.args.pointers.now (zones-reset (to-zone-reset c)).restoring

header-step-requires-2 : tie.Need-header_step-rest-requires-2
header-step-requires-2 c κs = let f = c.before.before.before.before.before.before.before.before.before in ((to_start f).requires.0, f.header_step-rest.ensures.restoring)

zone-reset-step-requires : tie.Need-zone_reset_step-rest-requires
zone-reset-step-requires c κs =
    let f = c.before.before.before.before.before.before.before.before in
    let r = f.header_step-rest-2.ensures.restoring in
    ((to_start (to-label f)).requires.0, (r.logging.written_long, r.durable_long))

counter-step-requires : tie.Need-counter_step-requires
counter-step-requires c κs =
    let f = c.before.before.before.before.before.before.before in
    let r = (zones-reset f).restoring in
    ((to_start (to-label (to-reset-entry f))).requires.0, (record { sectors_long = r.logging.sectors_long; written_long = r.logging.written_long; within = r.logging.within }, r.durable_long))

-- no step changes a length
lengths : (c : tie.After-counter_step) → let a = (to_start (to-label (to-reset-entry (to-zone-reset c)))).args in let f = c.counter_step.new in
    (length f.sectors ≡ length a.sectors.now) × (length f.written ≡ length a.written.now) × (length f.durable ≡ length a.durable.now)
lengths c =
    let p = (to_start (to-label (to-reset-entry (to-zone-reset c)))).requires.1 in
    let r = (counted c).restoring in
    (r.logging.sectors_long ∙ sym p.logging.sectors_long, r.logging.written_long ∙ sym p.logging.written_long, r.durable_long ∙ sym p.durable_long)

-- the steps in a row
returns : tie.Need-returns
returns c =
    let count = c.before.before.before.before.before.before in
    let reset = to-zone-reset count in
    let entry = to-reset-entry reset in
    record {
      steps = λ more. steps_then (to-label entry).header_step-rest.ensures (steps_then entry.header_step-rest-2.ensures (steps_then (zones-reset reset) (steps_then (counted count) more)));
      restoring = (counted count).restoring;
    }

pub restore_zones_spec : {M : Type 1} → statement M
restore_zones_spec =
    tie.close
    (tie.spec (λ c κs. search rules) header-step-requires-2 zone-reset-step-requires counter-step-requires (λ c. (lengths c.before.before.before.before.before.before).0) (λ c. (lengths c.before.before.before.before.before.before).1)
    (λ c. (lengths c.before.before.before.before.before.before).2) returns)
