use Rattle.std.proofs.Common.{◌≡◌, take}
use Rattle.tables.specs.meaning.Lists.{overlay}
use Rattle.tables.specs.meaning.LittleEndian.{words_le}
use Rattle.logs.proofs.headers.write_words.Given as goal

abbrev pub invariant-loop-i : goal.invariant-loop-i
invariant-loop-i l = l.out ≡ overlay l.fn.out 32 (words_le (take l.i l.numbers))
