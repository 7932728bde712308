use Rattle.std.proofs.Common.{◌≡◌, ◌+◌, ◌∙◌, arith}
use Rattle.tables.specs.meaning.Xor.{xor_bytes}
use Rattle.tables.specs.laws.Lists.{copied_next, copied_all, overlay_all}
use Rattle.tables.proofs.Three.{three_long, three_at}
use Rattle.tables.proofs.sectors.lay_three.Goals as goal

pub loop-i-preserved : goal.loop-i-preserved
loop-i-preserved c =
    let s = c.args in
    let l = three_long s.a.now s.b.now s.c.now (omega arith) (omega arith) in
    let z : 0 + c.loop-i.i ≡ c.loop-i.i = omega arith in
    rw (three_at s.a.now s.b.now s.c.now c.loop-i.i (omega arith) (omega arith) (omega arith))
    (rw z at (copied_next s.acc.now 0 (xor_bytes (xor_bytes s.a.now s.b.now) s.c.now) c.loop-i.i c.loop-i.acc (omega arith) (omega arith) c.loop-i.invariant))

pub returns : goal.returns
returns c =
    let s = c.args in
    let l = three_long s.a.now s.b.now s.c.now (omega arith) (omega arith) in
    let sum = xor_bytes (xor_bytes s.a.now s.b.now) s.c.now in
    copied_all s.acc.now 0 sum c.loop-i.i c.loop-i.acc (omega arith) c.loop-i.invariant ∙ overlay_all s.acc.now sum (omega arith)
