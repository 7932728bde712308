use mathlib.Core.Path.{◌∙◌}
use Rattle.tables.specs.meaning.Tables.{tables_of}
use Rattle.volume.specs.looking.Knowing.{read_device}
use Rattle.mounting.specs.MountSteps.{counters_by, step_made, counter_step_in}
use borrow.Author.Rules.{rules}
use Rattle.mounting.proofs.steps.counter_step.Statement.{statement}
use Rattle.mounting.proofs.steps.counter_step.Tie as tie

flush-after-requires : tie.Need-flush_after-requires
flush-after-requires c κs =
    let s = c.before.before.before.before.before.before.before.before.before.before.before.before.before in
    (s.requires.0, (c.store_counters-rest.auto.written ∙ s.requires.1.0.written_long, s.requires.1.1))

returns : tie.Need-returns
returns c =
    let at-store-counters = c.before.before.before.before.before.before.before.before.before in
    let s = c.before.before.before.before.before.before.before.before.before.before.before.before.before.before.before.before in
    let a = s.args in
    let b = a.basis in
    let f = at-store-counters.store_counters-rest in
    let t = tables_of a.sectors.now a.written.now a.durable.now in
    record {
      step = λ ps r. let w = read_device b.geometry a.sectors.now ps in
          step_made b.geometry b.here b.look ps a.budget _ (counters_by b.geometry b.look b.differ) t _ r (counter_step_in b.geometry b.look w s.requires.0 b.differ)
          (c.flush_after.ensures.made f.new.sectors (counters_by b.geometry b.look b.differ w) t (f.ensures.made a.durable.now));
    }

pub counter_step_spec : {M : Type 1} → statement M
counter_step_spec =
    tie.close
    (tie.spec (λ c κs. search rules) flush-after-requires (λ c. search rules) (λ c. search rules) (λ c. search rules) returns)
