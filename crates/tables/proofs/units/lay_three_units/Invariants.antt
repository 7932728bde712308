use Rattle.std.proofs.Common.{length}
use Rattle.tables.specs.laws.Overlays.{PartsLaid, unit_parts}
use Rattle.tables.specs.meaning.Xor.{xor_bytes}
use Rattle.tables.proofs.units.lay_three_units.Given as goal

abbrev pub invariant-loop-i : goal.invariant-loop-i
invariant-loop-i l = PartsLaid l.fn.bytes (length l.a) (unit_parts l.parts.first l.parts.second l.parts.third l.parts.row l.a l.b l.c (xor_bytes (xor_bytes l.a l.b) l.c)) l.i l.bytes
