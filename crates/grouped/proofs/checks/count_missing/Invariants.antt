use Rattle.std.proofs.Common.{◌≡◌}
use Rattle.tables.specs.meaning.Below.{count_below}
use Rattle.grouped.specs.meaning.Segment.{is_missing}
use Rattle.grouped.proofs.checks.count_missing.Given as goal

abbrev pub invariant-loop-d : goal.invariant-loop-d
invariant-loop-d l = l.k ≡ count_below (is_missing l.named) l.d
