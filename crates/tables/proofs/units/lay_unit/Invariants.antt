use Rattle.std.proofs.Common.{[], ◌∷◌, length}
use Rattle.tables.specs.laws.Overlays.{PartsLaid}
use Rattle.tables.proofs.units.lay_unit.Given as goal

abbrev pub invariant-loop-i : goal.invariant-loop-i
invariant-loop-i l = PartsLaid l.fn.bytes (length l.a) ((l.to, l.a) ∷ (l.row, l.a) ∷ []) l.i l.bytes
