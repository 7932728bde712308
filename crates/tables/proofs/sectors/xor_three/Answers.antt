use Rattle.std.proofs.Common.{◌≡◌, length, get_or, set, sym, ap, ◌∙◌, add-one, arith}
use Rattle.std.proofs.Math.Seq.{take-length}
use Rattle.std.specs.Int.Bits.{bit_xor}
use Rattle.tables.specs.meaning.Xor.{xor_bytes}
use Rattle.tables.specs.laws.Xor.{xor_nil, xor_bytes_assoc, xor_part_suc}
use Rattle.tables.proofs.Three.{three_long, three_at}
use Rattle.tables.proofs.sectors.xor_three.Goals as goal

pub loop-i-init : goal.loop-i-init
loop-i-init c = sym (xor_nil c.args.acc.now)

pub loop-i-preserved : goal.loop-i-preserved
loop-i-preserved c =
    let s = c.args in
    let l = three_long s.a.now s.b.now s.c.now (omega arith) (omega arith) in
    ap (λ x. set c.loop-i.acc c.loop-i.i (bit_xor (get_or c.loop-i.acc c.loop-i.i 0) x)) (three_at s.a.now s.b.now s.c.now c.loop-i.i (omega arith) (omega arith) (omega arith))
    ∙ rw (c.loop-i.invariant, add-one) (xor_part_suc s.acc.now (xor_bytes (xor_bytes s.a.now s.b.now) s.c.now) c.loop-i.i (omega arith) (omega arith))

pub returns : goal.returns
returns c =
    let s = c.args in
    let e : c.loop-i.i ≡ length (xor_bytes (xor_bytes s.a.now s.b.now) s.c.now) = omega (arith, three_long s.a.now s.b.now s.c.now (omega arith) (omega arith)) in
    c.loop-i.invariant ∙ rw (e, take-length) (simp xor_bytes_assoc)
