use Rattle.std.proofs.Common.{◌≡◌, ℕ, ◌*◌, ◌++◌, drop}
use Rattle.tables.specs.meaning.Below.{tabulate}
use Rattle.tables.specs.meaning.LittleEndian.{read_le}
use Rattle.zrv.proofs.words.table_from.Given as goal

abbrev pub invariant-loop-i : goal.invariant-loop-i
invariant-loop-i l = l.table ≡ tabulate (λ (j : ℕ). read_le 4 l.bytes (j * 4)) l.i ++ drop l.i l.fn.table
