use Rattle.std.proofs.Common.{◌≡◌}
use Rattle.volume.specs.checks.LogRoom.{general_room_at, room_of}
use Rattle.volume.proofs.log_room.general_room.Given as goal

abbrev pub invariant-loop-d : goal.invariant-loop-d
invariant-loop-d l = l.all ≡ room_of (general_room_at l.asked l.generations l.sectors l.written l.pointers) l.d
