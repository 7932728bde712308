use Rattle.std.proofs.Common.{◌<◌}
use Rattle.replaying.proofs.stream.cut.Given as goal

abbrev pub invariant-loop-w : goal.invariant-loop-w
invariant-loop-w l = l.x < 2147483648
