use Rattle.std.proofs.Common.{◌≡◌, ◌≤◌, ◌-◌}
use Rattle.logs.specs.code.ZoneWalk.{sectors_in}
use Rattle.logs.specs.code.WalkCode.{walk_end_of, left_at}
use Rattle.logs.specs.meaning.Walk.{walk_log}
use Rattle.logs.proofs.walking.walk_zone.Given as goal

-- what is left to walk ends as the whole walk does
abbrev pub invariant-loop-q : goal.invariant-loop-q
invariant-loop-q l = record {
  within : l.p ≤ l.written;
  same : walk_end_of (left_at l.g l.drive l.parity (sectors_in l.g.sector l.bytes l.written) l.p) ≡ walk_end_of (walk_log l.g l.drive l.parity (sectors_in l.g.sector l.bytes l.written));
}

abbrev pub decreases-loop-q : goal.decreases-loop-q
decreases-loop-q l = l.written - l.p
