use Rattle.std.proofs.Common.{◌≡◌, ◌≤◌, ◌-◌}
use Rattle.logs.specs.code.WalkCode.{left_at}
use Rattle.logs.specs.code.Steps.{sectors_of_log}
use Rattle.logs.specs.code.Query.{heads_of, log_heads}
use Rattle.logs.specs.meaning.Heads.{first_closing}
use Rattle.logs.proofs.folds.first_closing.Given as goal

-- the first closing entry of what is left at p is that of the log
abbrev pub invariant-loop-f : goal.invariant-loop-f
invariant-loop-f l = record {
  within : l.p ≤ l.log.written;
  same : first_closing (heads_of (left_at l.g l.log.drive l.parity (sectors_of_log l.g l.log l.sectors) l.p)) ≡ first_closing (log_heads l.g l.log.drive l.parity l.log.zone l.log.written l.sectors);
}

abbrev pub decreases-loop-f : goal.decreases-loop-f
decreases-loop-f l = l.log.written - l.p
