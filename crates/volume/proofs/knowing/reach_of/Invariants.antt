use Rattle.std.proofs.Common.{◌≡◌}
use Rattle.volume.specs.looking.Knowing.{reach_below}
use Rattle.volume.proofs.knowing.reach_of.Given as goal

abbrev pub invariant-loop-k : goal.invariant-loop-k
invariant-loop-k l = l.reach ≡ reach_below l.g l.here l.written l.z l.a l.k
