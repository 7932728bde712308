use Rattle.std.proofs.Common.{◌≡◌}
use Rattle.grouped.specs.places.Places.{placed_drive}
use Rattle.grouped.proofs.places.place_drive.Given as goal

abbrev pub invariant-loop-i : goal.invariant-loop-i
invariant-loop-i l = l.work ≡ placed_drive l.s l.metadata l.d l.i l.fn.work
