use Rattle.std.proofs.Common.{refl, length, arith}
use Rattle.tables.specs.meaning.Xor.{xor_bytes}
use Rattle.tables.specs.laws.Overlays.{parts_next, parts_all, unit_parts, units_fit}
use Rattle.tables.proofs.Three.{three_long, three_at}
use Rattle.tables.proofs.units.lay_three_units.Goals as goal

pub loop-i-preserved : goal.loop-i-preserved
loop-i-preserved c =
    let s = c.args in
    let p = s.parts in
    let sum = xor_bytes (xor_bytes s.a.now s.b.now) s.c.now in
    let f = units_fit (length s.bytes.now) (length s.a.now) p s.a.now s.b.now s.c.now sum c.requires.2 refl c.requires.0 c.requires.1 (three_long s.a.now s.b.now s.c.now c.requires.0 c.requires.1) in
    let e = three_at s.a.now s.b.now s.c.now c.loop-i.i c.requires.0 c.requires.1 (omega arith) in
    rw (← e) at (parts_next s.bytes.now (length s.a.now) (unit_parts p.first p.second p.third p.row s.a.now s.b.now s.c.now sum) c.loop-i.i c.loop-i.bytes f c.loop-i.invariant (omega arith))

pub returns : goal.returns
returns c =
    let s = c.args in
    let p = s.parts in
    let sum = xor_bytes (xor_bytes s.a.now s.b.now) s.c.now in
    let f = units_fit (length s.bytes.now) (length s.a.now) p s.a.now s.b.now s.c.now sum c.requires.2 refl c.requires.0 c.requires.1 (three_long s.a.now s.b.now s.c.now c.requires.0 c.requires.1) in
    parts_all s.bytes.now (length s.a.now) (unit_parts p.first p.second p.third p.row s.a.now s.b.now s.c.now sum) c.loop-i.i c.loop-i.bytes f c.loop-i.invariant (omega arith)
