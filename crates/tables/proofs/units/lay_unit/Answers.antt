use Rattle.std.proofs.Common.{refl, length, arith, [], ◌∷◌}
use Rattle.tables.specs.laws.Overlays.{parts_next}
use Rattle.tables.proofs.units.lay_unit.Goals as goal

pub loop-i-preserved : goal.loop-i-preserved
loop-i-preserved c =
    let s = c.args in
    parts_next s.bytes.now (length s.a.now) ((s.to, s.a.now) ∷ (s.row, s.a.now) ∷ []) c.loop-i.i c.loop-i.bytes
    (refl, c.requires.0, (c.requires.2, tt), (refl, c.requires.1, tt, tt)) c.loop-i.invariant (omega arith)
