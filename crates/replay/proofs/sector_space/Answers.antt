use Rattle.std.proofs.Common.{sym, ℕ}
use Rattle.std.proofs.lemmas.List.{length-replicate}
use Rattle.replay.proofs.sector_space.Goals as goal

-- by the law, since the list is too long to be written out
pub returns : goal.returns
returns c = sym (length-replicate {0} {A = ℕ} 524288 0)
