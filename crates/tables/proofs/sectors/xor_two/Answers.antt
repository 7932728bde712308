use Rattle.std.proofs.Common.{◌≡◌, length, sym, ◌∙◌, add-one, arith}
use Rattle.std.proofs.Math.Seq.{take-length}
use Rattle.tables.specs.meaning.Xor.{xor_bytes}
use Rattle.tables.specs.laws.Xor.{xor_nil, xor_bytes_assoc, length_xor, get_d_xor, xor_part_suc}
use Rattle.tables.proofs.sectors.xor_two.Goals as goal

pub loop-i-init : goal.loop-i-init
loop-i-init c = sym (xor_nil c.args.acc.now)

pub loop-i-preserved : goal.loop-i-preserved
loop-i-preserved c =
    let a = c.args.a.now in
    let b = c.args.b.now in
    let l = length_xor a b (omega arith) in
    rw (← get_d_xor a b c.loop-i.i (omega arith) (omega arith), c.loop-i.invariant, add-one) (xor_part_suc c.args.acc.now (xor_bytes a b) c.loop-i.i (omega arith) (omega arith))

pub returns : goal.returns
returns c =
    let a = c.args.a.now in
    let b = c.args.b.now in
    let e : c.loop-i.i ≡ length (xor_bytes a b) = omega (arith, length_xor a b (omega arith)) in
    c.loop-i.invariant ∙ rw (e, take-length) (sym (xor_bytes_assoc c.args.acc.now a b))
