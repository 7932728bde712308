use Rattle.std.proofs.Common.{◌≡◌}
use Rattle.tables.specs.meaning.Xor.{xor_bytes}
use Rattle.tables.specs.laws.Xor.{xor_part}
use Rattle.tables.proofs.sectors.xor_three.Given as goal

abbrev pub invariant-loop-i : goal.invariant-loop-i
invariant-loop-i l = l.acc ≡ xor_part l.fn.acc (xor_bytes (xor_bytes l.a l.b) l.c) l.i
