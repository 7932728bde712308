use Rattle.std.proofs.Common.{◌≡◌}
use Rattle.tables.specs.laws.Xor.{xor_part}
use Rattle.tables.proofs.sectors.xor_into.Given as goal

abbrev pub invariant-loop-i : goal.invariant-loop-i
invariant-loop-i l = l.acc ≡ xor_part l.fn.acc l.src l.i
