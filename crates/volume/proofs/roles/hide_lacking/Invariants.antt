use Rattle.std.proofs.Common.{◌≡◌}
use Rattle.volume.specs.looking.HiddenLogs.{hidden_logs}
use Rattle.volume.proofs.roles.hide_lacking.Given as goal

abbrev pub invariant-loop-d : goal.invariant-loop-d
invariant-loop-d l = l.pointers ≡ hidden_logs l.places l.written l.d
