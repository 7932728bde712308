use Rattle.std.proofs.Common.{◌≡◌}
use Rattle.tables.specs.meaning.Below.{any_below}
use Rattle.zrv.specs.laws.ByRecord.{bad_in_bytes}
use Rattle.zrv.proofs.words.drive_bad.Given as goal

abbrev pub invariant-loop-y : goal.invariant-loop-y
invariant-loop-y l = l.bad ≡ any_below (bad_in_bytes l.g.capacity l.written l.durable l.row) l.y
