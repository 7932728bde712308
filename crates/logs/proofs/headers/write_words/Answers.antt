use Rattle.std.proofs.Common.{◌∙◌, arith}
use Rattle.logs.specs.code.Lays.{words_none, words_more}
use Rattle.logs.proofs.headers.write_words.Goals as goal

pub loop-i-init : goal.loop-i-init
loop-i-init c = words_none c.args.out.now c.args.numbers.now

pub loop-i-preserved : goal.loop-i-preserved
loop-i-preserved c = c.write_u64.ensures ∙ rw c.loop-i.invariant (words_more c.args.out.now c.args.numbers.now c.loop-i.i (omega arith) (omega arith))
