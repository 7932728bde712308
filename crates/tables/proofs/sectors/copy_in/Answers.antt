use Rattle.std.proofs.Common.{◌+◌, set, ap, ◌∙◌, add-one, arith}
use Rattle.std.proofs.Math.Seq.{paste-suc}
use Rattle.tables.proofs.sectors.copy_in.Goals as goal

pub loop-i-preserved : goal.loop-i-preserved
loop-i-preserved g c =
    let s = c.args in
    let x = c.index-src-i.result in
    ap (λ y. set c.loop-i.dst (s.at + c.loop-i.i) y) c.index-src-i.is
    ∙ rw (c.loop-i.invariant, add-one) (paste-suc s.dst.now s.at s.src.now c.loop-i.i x (omega arith) (omega arith))
