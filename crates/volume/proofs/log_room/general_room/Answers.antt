use Rattle.std.proofs.Common.{◌<◌, ◌∙◌, arith}
use Rattle.volume.specs.checks.LogRoom.{general_room_at, answered}
use Rattle.volume.proofs.log_room.general_room.Goals as goal

pub loop-d-preserved : goal.loop-d-preserved
loop-d-preserved c =
    let a = c.args in
    let h : c.loop-d.d < 8 = omega arith in
    c.with_answer-all.ensures ∙ answered (general_room_at a.asked a.generations.now a.sectors.now a.written.now a.pointers.now) c.loop-d.d c.loop-d.all c.general_on-room.result h c.general_on-room.ensures c.loop-d.invariant
