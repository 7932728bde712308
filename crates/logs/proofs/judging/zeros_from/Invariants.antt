use Rattle.std.proofs.Common.{◌≡◌, ◌+◌, ◌&&◌, eqb}
use Rattle.logs.specs.code.Lays.{zeros_from}
use Rattle.logs.proofs.judging.zeros_from.Given as goal

abbrev pub invariant-loop-x : goal.invariant-loop-x
invariant-loop-x l = zeros_from l.s l.at ≡ eqb l.any 0 && zeros_from l.s (l.at + l.x-index)
