use Rattle.std.proofs.Common.{◌≡◌, ◌*◌, ◌++◌, drop}
use Rattle.zrv.specs.meaning.Bytes.{words_to}
use Rattle.zrv.proofs.words.table_to.Given as goal

abbrev pub invariant-loop-i : goal.invariant-loop-i
invariant-loop-i l = l.bytes ≡ words_to l.i l.table ++ drop (l.i * 4) l.fn.bytes
