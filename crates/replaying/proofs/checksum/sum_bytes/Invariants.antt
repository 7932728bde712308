use Rattle.replaying.specs.Adler.{Small}
use Rattle.replaying.proofs.checksum.sum_bytes.Given as goal

abbrev pub invariant-loop-byte : goal.invariant-loop-byte
invariant-loop-byte l = Small l.t
