use Rattle.std.proofs.Common.{◌≡◌, ◌≤◌, ◌-◌}
use Rattle.logs.specs.code.Steps.{sectors_of_log}
use Rattle.logs.specs.code.WalkCode.{left_at}
use Rattle.logs.specs.code.Query.{heads_of, log_heads}
use Rattle.logs.specs.code.Folding.{fold_heads, Runs}
use Rattle.logs.proofs.asking.fold_log.Given as goal

-- what is left at p, folded on from x, gives what the whole log does
abbrev pub invariant-loop-f : goal.invariant-loop-f
invariant-loop-f g l = record {
  within : l.p ≤ l.log.written;
  same : (run : _) → Runs l.g (goal.F-post g l.step) run → fold_heads l.g run l.p l.x (heads_of (left_at l.g l.log.drive l.parity (sectors_of_log l.g l.log l.sectors) l.p)) ≡ fold_heads l.g run 0 l.fn.start (log_heads l.g l.log.drive l.parity l.log.zone l.log.written l.sectors);
}

abbrev pub decreases-loop-f : goal.decreases-loop-f
decreases-loop-f g l = l.log.written - l.p
