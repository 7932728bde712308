use Rattle.std.proofs.Common.{◌<◌, ◌∙◌, arith}
use Rattle.volume.specs.checks.LogRoom.{parity_room_at, answered}
use Rattle.volume.proofs.log_room.parity_room.Goals as goal

pub loop-d-preserved : goal.loop-d-preserved
loop-d-preserved c =
    let a = c.args in
    let h : c.loop-d.d < 8 = omega arith in
    c.with_answer-all.ensures ∙ answered (parity_room_at a.asked a.points.now a.sectors.now a.written.now a.pointers.now) c.loop-d.d c.loop-d.all c.parity_on-room.result h c.parity_on-room.ensures c.loop-d.invariant
