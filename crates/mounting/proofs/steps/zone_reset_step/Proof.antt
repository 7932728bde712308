use Rattle.tables.specs.meaning.Tables.{tables_of}
use Rattle.volume.specs.looking.Knowing.{read_device}
use Rattle.mounting.specs.MountSteps.{zone_resets_by, step_made, resets_in}
use borrow.Author.Rules.{rules}
use Rattle.mounting.proofs.steps.zone_reset_step.Statement.{statement}
use Rattle.mounting.proofs.steps.zone_reset_step.Tie as tie

returns : tie.Need-returns
returns c =
    let at-reset-zones = c.before.before.before.before.before.before.before.before.before in
    let s = at-reset-zones.before.before.before.before.before.before in
    let a = s.args in
    let f = at-reset-zones.reset_zones-rest in
    record {
      step = λ ps xs r.
          let w = read_device a.basis.geometry xs ps in
          let t = tables_of xs a.written.now a.durable.now in
          step_made a.basis.geometry a.basis.here a.basis.look ps a.budget _ (zone_resets_by a.basis.geometry a.basis.look) t _ r (resets_in a.basis.geometry a.basis.look w s.requires.0)
          (c.flush_after.ensures.made xs (zone_resets_by a.basis.geometry a.basis.look w) t (f.ensures.made xs));
    }

pub zone_reset_step_spec : {M : Type 1} → statement M
zone_reset_step_spec =
    tie.close
    (tie.spec (λ c κs. search rules) (λ c κs. search rules) (λ c. search rules) (λ c. search rules) returns)
