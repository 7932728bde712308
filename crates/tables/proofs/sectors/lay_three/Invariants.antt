use Rattle.tables.specs.laws.Lists.{Copied}
use Rattle.tables.specs.meaning.Xor.{xor_bytes}
use Rattle.tables.proofs.sectors.lay_three.Given as goal

abbrev pub invariant-loop-i : goal.invariant-loop-i
invariant-loop-i l = Copied l.fn.acc 0 (xor_bytes (xor_bytes l.a l.b) l.c) l.i l.acc
