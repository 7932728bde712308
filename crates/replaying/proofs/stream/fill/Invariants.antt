use Rattle.std.proofs.Common.{◌<◌}
use Rattle.replaying.proofs.stream.fill.Given as goal

abbrev pub invariant-loop-byte : goal.invariant-loop-byte
invariant-loop-byte l = l.x < 2147483648
