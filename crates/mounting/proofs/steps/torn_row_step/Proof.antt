use mathlib.Core.Path.{◌∙◌}
use Rattle.tables.specs.meaning.Tables.{tables_of}
use Rattle.volume.specs.looking.Knowing.{read_device}
use Rattle.mounting.specs.MountValues.{shown_in}
use Rattle.mounting.specs.MountTornLogs.{torn_steps, torn_rows_in}
use Rattle.mounting.specs.MountRestoring.{filling}
use Rattle.mounting.specs.MountSteps.{torn_rows_by, step_made}
use borrow.Author.Rules.{rules}
use Rattle.mounting.proofs.steps.torn_row_step.Statement.{statement}
use Rattle.mounting.proofs.steps.torn_row_step.Tie as tie

complete-logs-requires : tie.Need-complete_logs-rest-requires
complete-logs-requires c κs =
    let s = c.before.before.before.before.before.before.before in
    let a = s.args in
    (s.requires.0, (filling a.basis.geometry a.basis.here a.basis.look a.pointers.now (tables_of a.sectors.now a.written.now a.durable.now) s.requires.1))

flush-after-requires : tie.Need-flush_after-requires
flush-after-requires c κs =
    let at-complete-logs = c.before.before.before.before.before.before in
    let s = c.before.before.before.before.before.before.before.before.before.before.before.before.before.before in
    (s.requires.0, (at-complete-logs.complete_logs-rest.auto.written ∙ s.requires.1.logging.written_long, s.requires.1.durable_long))

returns : tie.Need-returns
returns c =
    let at-complete-logs = c.before.before.before.before.before.before.before.before.before in
    let s = c.before.before.before.before.before.before.before.before.before.before.before.before.before.before.before.before.before in
    let a = s.args in
    let f = at-complete-logs.complete_logs-rest in
    let t = tables_of a.sectors.now a.written.now a.durable.now in
    let ps = a.pointers.now in
    let w = read_device a.basis.geometry a.sectors.now ps in
    step_made a.basis.geometry a.basis.here a.basis.look ps a.budget _ (torn_rows_by a.basis.geometry a.basis.here a.basis.look) t _ s.requires.1 (torn_rows_in a.basis.geometry a.basis.here a.basis.look ps a.sectors.now a.written.now s.requires.0 (filling a.basis.geometry a.basis.here a.basis.look ps t s.requires.1))
    (c.flush_after.ensures.made f.new.sectors (torn_rows_by a.basis.geometry a.basis.here a.basis.look w) t (rw (torn_steps a.basis.geometry (shown_in a.basis.geometry a.basis.here a.basis.look w) w) (f.ensures.made a.durable.now)))

pub torn_row_step_spec : {M : Type 1} → statement M
torn_row_step_spec =
    tie.close
    (tie.spec complete-logs-requires flush-after-requires (λ c. search rules) (λ c. search rules) (λ c. search rules) returns)
