use Rattle.std.proofs.Common.{◌≡◌, ℕ, ◌*◌, length, ap, ◌∙◌, add-one, arith}
use Rattle.zrv.specs.meaning.Bytes.{table_to, words_to}
use Rattle.zrv.specs.laws.Bytes.{words_more, filled}
use Rattle.zrv.proofs.words.table_to.Goals as goal

pub loop-i-preserved : goal.loop-i-preserved
loop-i-preserved c =
    let l = c.loop-i in
    c.write_u32.ensures ∙ rw (l.invariant, add-one) (words_more l.i c.args.table.now c.args.bytes.now)

pub returns : goal.returns
unfolding table_to
returns c =
    let l = c.loop-i in
    let a = c.args in
    let e : l.i ≡ length a.table.now = omega arith in
    let f : l.i * 4 ≡ length a.bytes.now = omega arith in
    l.invariant ∙ filled (words_to l.i a.table.now) a.bytes.now (l.i * 4) f ∙ ap (λ (k : ℕ). words_to k a.table.now) e
