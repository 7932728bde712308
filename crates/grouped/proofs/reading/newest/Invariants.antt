use Rattle.std.proofs.Common.{◌≡◌}
use Rattle.grouped.specs.meaning.Reading.{newest_below}
use Rattle.grouped.proofs.reading.newest.Given as goal

abbrev pub invariant-loop-c : goal.invariant-loop-c
invariant-loop-c l = l.found ≡ newest_below l.s l.metadata l.missing l.address l.c
