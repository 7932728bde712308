use Rattle.replaying.specs.Adler.{Small}
use Rattle.replaying.proofs.listing.list_sum.Given as goal

abbrev pub invariant-loop-z : goal.invariant-loop-z
invariant-loop-z l = Small l.s
