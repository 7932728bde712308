use Rattle.std.proofs.Common.{◌≡◌}
use Rattle.grouped.specs.reading.Blocks.{sum_so_far}
use Rattle.grouped.proofs.reading.rebuild.Given as goal

abbrev pub invariant-loop-d : goal.invariant-loop-d
invariant-loop-d l = l.answer ≡ sum_so_far l.s l.blocks l.missing l.work l.n l.d
