use Rattle.std.proofs.Common.{◌<◌, false, arith, add-one}
use Rattle.volume.specs.laws.FilledArrays.{fill_more}
use Rattle.volume.specs.looking.DrivesLost.{present_of}
use Rattle.volume.proofs.drives_lost.look_present.Goals as goal

pub loop-d-preserved : goal.loop-d-preserved
loop-d-preserved c =
    let h : c.loop-d.d < 8 = omega arith in
    rw (c.loop-d.invariant, c.is_said-lost.ensures, add-one) (fill_more (present_of c.args.g c.args.named c.said_lost-said.result) false 8 c.loop-d.d h)
