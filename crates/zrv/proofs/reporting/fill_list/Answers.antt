use Rattle.std.proofs.Common.{◌∙◌, add-one}
use Rattle.volume.specs.meaning.CallContracts.{view_state}
use Rattle.zrv.specs.laws.Report.{told_start, told_more}
use Rattle.zrv.proofs.reporting.fill_list.Goals as goal

pub loop-z-init : goal.loop-z-init
loop-z-init c = told_start _ _ _

pub loop-z-preserved : goal.loop-z-preserved
loop-z-preserved c =
    let a = c.args in
    c.descriptor_to.ensures ∙ rw (c.describe-d.ensures, c.loop-z.invariant, add-one) (told_more a.g (view_state a.state).condition c.loop-z.z a.list.now)
