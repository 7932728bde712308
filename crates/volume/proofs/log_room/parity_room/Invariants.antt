use Rattle.std.proofs.Common.{◌≡◌}
use Rattle.volume.specs.checks.LogRoom.{parity_room_at, room_of}
use Rattle.volume.proofs.log_room.parity_room.Given as goal

abbrev pub invariant-loop-d : goal.invariant-loop-d
invariant-loop-d l = l.all ≡ room_of (parity_room_at l.asked l.points l.sectors l.written l.pointers) l.d
