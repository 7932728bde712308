use Rattle.std.proofs.Common.{length, take, drop}
use Rattle.tables.specs.laws.Lists.{Copied}
use Rattle.tables.specs.meaning.Xor.{xor_bytes}
use Rattle.tables.proofs.sectors.lay_with.Given as goal

abbrev pub invariant-loop-i : goal.invariant-loop-i
invariant-loop-i l = Copied l.fn.bytes l.to (xor_bytes (take (length l.src) (drop l.from l.fn.bytes)) l.src) l.i l.bytes
