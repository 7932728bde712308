use Rattle.std.proofs.Common.{[], ◌∷◌, length, take, drop}
use Rattle.tables.specs.laws.Overlays.{PartsLaid}
use Rattle.tables.specs.meaning.Xor.{xor_bytes}
use Rattle.tables.proofs.units.add_unit.Given as goal

abbrev pub invariant-loop-i : goal.invariant-loop-i
invariant-loop-i l = PartsLaid l.fn.bytes (length l.a) ((l.to, l.a) ∷ (l.row, xor_bytes (take (length l.a) (drop l.row l.fn.bytes)) l.a) ∷ []) l.i l.bytes
