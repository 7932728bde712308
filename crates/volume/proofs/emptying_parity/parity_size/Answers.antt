use Rattle.std.proofs.Common.{◌≡◌, suc, ◌∙◌, ap, arith, add-one}
use Rattle.volume.specs.emptying.ParityCopies.{size_is}
use Rattle.volume.proofs.emptying_parity.parity_size.Goals as goal

pub returns : goal.returns
returns c =
    let a = c.args in
    let e : c.loop-z.z ≡ a.g.zones = omega arith in
    add-one c.loop-z.total ∙ ap suc (rw e at c.loop-z.invariant.1) ∙ size_is a.g a.drive a.points.now
