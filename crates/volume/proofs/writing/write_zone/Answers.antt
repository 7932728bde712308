use mathlib.Core.Path.{sym, ap, ap₂, ◌∙◌, subst}
use Prim.Native.Nat.{ℕ}
use mathlib.Core.List.{List}
use Rattle.tables.specs.meaning.Tables.{tables_of}
use Rattle.volume.specs.meaning.CallContracts.{record_at, Result}
use Rattle.volume.specs.looking.DriveLogs.{Sized}
use Rattle.volume.specs.writing.WriteRun.{RunReady, write_zone_on}
use Rattle.volume.specs.writing.WriteTried.{tried_refused, tried_left, made_ready, tried_made}
use Rattle.std.specs.Prelude.{Option, Ok}
use Rattle.volume.specs.declared.write_directly.WriteMade.{WriteMade}
use Rattle.volume.specs.writing.WriteDirectly.{TriedOn}
use Rattle.volume.proofs.writing.write_zone.Goals as goal

pub returns-in-Err : goal.returns-in-Err
returns-in-Err c = λ ds.
    let a = c.args in
    let w = c.write_alone in
    let (x, y) = tried_refused a.run (record_at a.state a.run.zone.number).condition a.state a.count a.buffer.now a.sectors.now a.written.now w.new.sectors w.new.written c.requires.valid c.requires.run_asked.0 c.requires.run_asked.1 c.in-Err.refusal (c.in-Err.ensures) ds in
    (c.refused.ensures ∙ x, y)

pub write_by_roles-requires-clause-sized : goal.write_by_roles-requires-clause-sized
write_by_roles-requires-clause-sized c =
    let a = c.args in
    let g = a.run.zone.geometry in
    let w = c.write_alone in
    let k = tried_left a.run (record_at a.state a.run.zone.number).condition a.state a.count a.buffer.now a.sectors.now a.written.now w.new.sectors w.new.written c.requires.valid c.requires.run_asked.0 c.requires.run_asked.1 (subst (λ (o : Option WriteMade). TriedOn a.run (record_at a.state a.run.zone.number).condition a.count a.buffer.now a.sectors.now a.written.now w.new.sectors w.new.written (Ok o)) c.in-Ok-None.field-0-is c.in-Ok-None.ensures) in
    let sized = subst (λ (y : List ℕ). Sized g y w.new.written) (sym k.same_sectors_lem) (subst (λ (v : List ℕ). Sized g a.sectors.now v) (sym k.same_written) c.requires.run_asked.0.sized) in
    (sized, c.requires.run_asked.0.logs_first, subst (λ (v : List ℕ). RunReady a.run a.state v a.buffer.now) (sym k.same_written) k.ready)

pub returns-in-Ok-None : goal.returns-in-Ok-None
returns-in-Ok-None c = λ ds.
    let a = c.args in
    let w = c.write_alone in
    let r = c.write_by_roles in
    let k = tried_left a.run (record_at a.state a.run.zone.number).condition a.state a.count a.buffer.now a.sectors.now a.written.now w.new.sectors w.new.written c.requires.valid c.requires.run_asked.0 c.requires.run_asked.1 (subst (λ (o : Option WriteMade). TriedOn a.run (record_at a.state a.run.zone.number).condition a.count a.buffer.now a.sectors.now a.written.now w.new.sectors w.new.written (Ok o)) c.in-Ok-None.field-0-is c.in-Ok-None.ensures) in
    let on : List ℕ → List ℕ → Result = λ y v. write_zone_on a.run a.state a.buffer.now a.count (tables_of y v ds) in
    let e = ap₂ on k.same_sectors_lem k.same_written ∙ k.same_call a.count ds in
    ((r.ensures ds).0 ∙ ap (λ (x : Result). x.outcome) e, (r.ensures ds).1 ∙ ap (λ (x : Result). x.tables) e)

pub outcome-requires-clause-number_lt_zones : goal.outcome-requires-clause-number_lt_zones
outcome-requires-clause-number_lt_zones c =
    let a = c.args in
    let w = c.write_alone in
    let h = made_ready a.run (record_at a.state a.run.zone.number).condition a.state a.count a.buffer.now a.sectors.now a.written.now w.new.sectors w.new.written c.requires.valid c.requires.run_asked.0 c.requires.run_asked.1 c.in-Ok-Some.made (subst (λ (o : Option WriteMade). TriedOn a.run (record_at a.state a.run.zone.number).condition a.count a.buffer.now a.sectors.now a.written.now w.new.sectors w.new.written (Ok o)) c.in-Ok-Some.field-0-is c.in-Ok-Some.ensures) in
    (h.placed.zone_in_lem, h.generation_is, h.placed.inside, h.host_in)

pub returns-in-Ok-Some : goal.returns-in-Ok-Some
returns-in-Ok-Some c = λ ds.
    let a = c.args in
    let w = c.write_alone in
    let (x, y) = tried_made a.run (record_at a.state a.run.zone.number).condition a.state a.count a.buffer.now a.sectors.now a.written.now w.new.sectors w.new.written c.requires.valid c.requires.run_asked.0 c.requires.run_asked.1 c.in-Ok-Some.made (subst (λ (o : Option WriteMade). TriedOn a.run (record_at a.state a.run.zone.number).condition a.count a.buffer.now a.sectors.now a.written.now w.new.sectors w.new.written (Ok o)) c.in-Ok-Some.field-0-is c.in-Ok-Some.ensures) ds in
    (c.outcome.ensures ∙ x, y)
