use Rattle.std.proofs.Common.{◌≡◌, ◌∙◌, arith, add-one}
use Rattle.tables.specs.meaning.Below.{each_below}
use Rattle.tables.specs.meaning.Phases.{on_present}
use Rattle.volume.specs.meaning.CallContracts.{is_set}
use Rattle.volume.specs.laws.CallContracts.{appends_append}
use Rattle.volume.specs.storing.Formatting.{drive_entries, entries_if, entries_more}
use Rattle.volume.proofs.formatting.label_drives.Goals as goal

pub loop-d-preserved : goal.loop-d-preserved
loop-d-preserved c =
    let a = c.args in
    let l = c.loop-d in
    let f = c.label_drive-rest in
    let p = is_set a.here in (
      f.auto.sectors ∙ l.invariant.0,
      f.auto.written ∙ l.invariant.1,
      rw (add-one, entries_more a.g p a.lost a.array l.d) (appends_append a.g a.budget l.rest f.result (on_present p (each_below (drive_entries a.g a.lost a.array) l.d)) (entries_if a.g (p l.d) a.lost a.array l.d) a.sectors.now a.written.now l.sectors l.written f.new.sectors f.new.written l.invariant.2 f.ensures),
    )

pub returns : goal.returns
returns c = let e : c.loop-d.d ≡ c.args.g.drives = omega arith in rw e at c.loop-d.invariant.2
