use Rattle.std.proofs.Common.{◌≡◌, ◌∙◌, arith, add-one}
use Rattle.tables.specs.meaning.Below.{each_below}
use Rattle.tables.specs.meaning.Geometry.{physical_zones}
use Rattle.tables.specs.meaning.Phases.{on_present}
use Rattle.volume.specs.meaning.CallContracts.{is_set}
use Rattle.volume.specs.laws.CallContracts.{pointers_append}
use Rattle.volume.specs.storing.Formatting.{drive_resets, resets_if, resets_more}
use Rattle.volume.proofs.formatting.reset_drives.Goals as goal

pub loop-d-preserved : goal.loop-d-preserved
loop-d-preserved c =
    let a = c.args in
    let l = c.loop-d in
    let f = c.reset_drive-rest in
    let p = is_set a.here in (
      f.auto.written ∙ l.invariant.0,
      f.auto.durable ∙ l.invariant.1,
      rw (add-one, resets_more a.g p l.d) (pointers_append a.g a.budget l.rest f.result (on_present p (each_below (drive_resets a.g) l.d)) (resets_if (p l.d) l.d (physical_zones a.g)) a.written.now a.durable.now l.written l.durable f.new.written f.new.durable l.invariant.2 f.ensures),
    )

pub returns : goal.returns
returns c = let e : c.loop-d.d ≡ c.args.g.drives = omega arith in rw e at c.loop-d.invariant.2
