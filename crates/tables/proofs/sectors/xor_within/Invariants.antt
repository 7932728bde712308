use Rattle.std.proofs.Common.{take, drop}
use Rattle.tables.specs.laws.Lists.{Copied}
use Rattle.tables.specs.meaning.Xor.{xor_bytes}
use Rattle.tables.proofs.sectors.xor_within.Given as goal

abbrev pub invariant-loop-i : goal.invariant-loop-i
invariant-loop-i l = Copied l.fn.bytes l.to (xor_bytes (take l.n (drop l.to l.fn.bytes)) (take l.n (drop l.from l.fn.bytes))) l.i l.bytes
