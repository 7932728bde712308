use Rattle.std.proofs.Common.{◌≡◌}
use Rattle.volume.specs.looking.MovedLogs.{is_emptied, moved_logs}
use Rattle.volume.proofs.roles.move_logs.Given as goal

abbrev pub invariant-loop-d : goal.invariant-loop-d
invariant-loop-d l = l.logs ≡ moved_logs l.g l.parity (is_emptied l.emptied) l.d
