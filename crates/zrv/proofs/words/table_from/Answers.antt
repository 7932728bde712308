use Rattle.std.proofs.Common.{◌≡◌, ℕ, ◌*◌, length, ap, ◌∙◌, add-one, arith}
use Rattle.tables.specs.meaning.Below.{tabulate}
use Rattle.tables.specs.meaning.LittleEndian.{read_le}
use Rattle.zrv.specs.meaning.Bytes.{table_from}
use Rattle.zrv.specs.laws.Bytes.{fill_slice, filled}
use Rattle.zrv.proofs.words.table_from.Goals as goal

pub loop-i-preserved : goal.loop-i-preserved
loop-i-preserved c =
    let l = c.loop-i in
    rw (l.invariant, c.read_u32.ensures, add-one) (fill_slice (λ (j : ℕ). read_le 4 c.args.bytes.now (j * 4)) c.args.table.now l.i (omega arith))

pub returns : goal.returns
unfolding table_from
returns c =
    let l = c.loop-i in
    let a = c.args in
    let e : l.i ≡ length a.table.now = omega arith in
    l.invariant ∙ filled (tabulate (λ (j : ℕ). read_le 4 a.bytes.now (j * 4)) l.i) a.table.now l.i e ∙ ap (tabulate (λ (j : ℕ). read_le 4 a.bytes.now (j * 4))) e
