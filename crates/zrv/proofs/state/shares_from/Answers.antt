use Rattle.std.proofs.Common.{ℕ, ◌+◌, ◌*◌, add-one, arith}
use Rattle.tables.specs.meaning.LittleEndian.{read_le}
use Rattle.volume.specs.laws.FilledArrays.{fill_more}
use Rattle.zrv.proofs.state.shares_from.Goals as goal

pub loop-i-preserved : goal.loop-i-preserved
loop-i-preserved c =
    let l = c.loop-i in
    rw (l.invariant, c.share_at.ensures, add-one) (fill_more (λ (j : ℕ). read_le 4 c.args.bytes.now (264 + j * 4)) 0 16 l.i (omega arith))
