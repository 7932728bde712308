use Rattle.std.proofs.Common.{◌≤◌, ◌-◌}
use Rattle.volume.specs.rows.RowsInPlace.{RowBuilt}
use Rattle.volume.proofs.rows.build_row.Given as goal

-- the members below k are in the row
abbrev pub invariant-loop-k : goal.invariant-loop-k
invariant-loop-k l = record { within : l.k ≤ l.n; built : RowBuilt l.known l.fn.sectors l.pointers l.buffer l.start l.to l.k l.sectors }

abbrev pub decreases-loop-k : goal.decreases-loop-k
decreases-loop-k l = l.n - l.k
