use Rattle.std.proofs.Common.{◌≡◌, ℕ, ◌+◌, ◌*◌}
use Rattle.tables.specs.meaning.LittleEndian.{read_le}
use Rattle.zrv.specs.meaning.Bytes.{shares_below}
use Rattle.zrv.proofs.state.shares_from.Given as goal

abbrev pub invariant-loop-i : goal.invariant-loop-i
invariant-loop-i l = l.shares ≡ shares_below (λ (j : ℕ). read_le 4 l.bytes (264 + j * 4)) l.i
