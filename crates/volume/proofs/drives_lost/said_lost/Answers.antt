use Rattle.std.proofs.Common.{◌<◌, arith, add-one}
use Rattle.tables.specs.meaning.Drives.{no_drive}
use Rattle.volume.specs.laws.FilledArrays.{fill_more}
use Rattle.volume.specs.looking.DrivesLost.{said_by}
use Rattle.volume.specs.looking.Knowing.{read_device}
use Rattle.volume.proofs.drives_lost.said_lost.Goals as goal

pub loop-d-preserved : goal.loop-d-preserved
loop-d-preserved c =
    let a = c.args in
    let h : c.loop-d.d < 8 = omega arith in
    rw (c.loop-d.invariant, c.said_by.ensures, add-one) (fill_more (said_by a.g a.named (read_device a.g a.sectors.now a.written.now)) no_drive 8 c.loop-d.d h)
