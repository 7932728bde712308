use Rattle.std.proofs.Common.{◌≡◌, ◌≤◌, false, length}
use Rattle.logs.specs.code.Query.{log_heads}
use Rattle.volume.specs.emptying.GeneralCopies.{copies_below}
use Rattle.volume.proofs.emptying.count_copies.Given as goal

abbrev pub invariant-loop-z : goal.invariant-loop-z
invariant-loop-z l = (l.count ≤ l.z) × (l.count ≡ length (copies_below l.g l.kind l.generations (log_heads l.g l.log.drive false l.log.zone l.log.written l.sectors) l.z))
