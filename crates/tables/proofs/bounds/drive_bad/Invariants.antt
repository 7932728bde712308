use Rattle.std.proofs.Common.{◌≡◌}
use Rattle.tables.specs.meaning.Below.{any_below}
use Rattle.tables.specs.meaning.Tables.{pointer_bad}
use Rattle.tables.proofs.bounds.drive_bad.Given as goal

abbrev pub invariant-loop-y : goal.invariant-loop-y
invariant-loop-y l = l.bad ≡ any_below (pointer_bad l.g l.written l.durable l.d) l.y
