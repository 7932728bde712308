use Rattle.std.proofs.Common.{length}
use Rattle.grouped_replay.proofs.replay.Given as goal

-- each command's text is at least its letter
abbrev pub decreases-loop-c : goal.decreases-loop-c
decreases-loop-c g l = length l.rest
