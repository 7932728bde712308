use Rattle.std.proofs.Common.{◌≡◌, ◌≤◌, ◌-◌}
use Rattle.tables.specs.meaning.Xor.{xor_bytes}
use Rattle.volume.specs.looking.RowOthers.{others_below}
use Rattle.volume.proofs.row_others.xor_row.Given as goal

-- the others below k are added
abbrev pub invariant-loop-k : goal.invariant-loop-k
invariant-loop-k l = record { within : l.k ≤ l.n; added : l.out ≡ xor_bytes l.fn.out (others_below l.g l.sectors l.row l.k) }

abbrev pub decreases-loop-k : goal.decreases-loop-k
decreases-loop-k l = l.n - l.k
