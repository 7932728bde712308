use Rattle.replaying.specs.Adler.{Small}
use Rattle.replaying.proofs.checksum.sum_words.Given as goal

abbrev pub invariant-loop-pointer : goal.invariant-loop-pointer
invariant-loop-pointer l = Small l.t
