use Rattle.std.proofs.Common.{◌≡◌, ℕ, ◌+◌, get_or, eqb}
use Rattle.tables.specs.meaning.Below.{all_below}
use Rattle.zrv.proofs.state.zeros_between.Given as goal

abbrev pub invariant-loop-byte : goal.invariant-loop-byte
invariant-loop-byte l = l.zeros ≡ all_below (λ (k : ℕ). eqb 0 (get_or l.bytes (l.at + k) 0)) l.byte-index
