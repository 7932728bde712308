use Rattle.std.proofs.Common.{◌≡◌}
use Rattle.tables.specs.meaning.Drives.{find_below}
use Rattle.grouped.specs.meaning.Segment.{is_missing}
use Rattle.grouped.proofs.checks.missing_drive.Given as goal

abbrev pub invariant-loop-d : goal.invariant-loop-d
invariant-loop-d l = l.x ≡ find_below (is_missing l.named) l.d
