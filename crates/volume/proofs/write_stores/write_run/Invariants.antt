use Rattle.std.proofs.Common.{◌≤◌, ◌-◌}
use Rattle.tables.specs.meaning.Phases.{on_present}
use Rattle.tables.specs.laws.Made.{MadeAppends}
use Rattle.volume.specs.meaning.Calls.{data_stores}
use Rattle.volume.specs.meaning.CallContracts.{is_set}
use Rattle.volume.specs.looking.Knowing.{read_device}
use Rattle.volume.specs.rows.RowsInPlace.{content_of}
use Rattle.volume.proofs.write_stores.write_run.Given as goal

-- the stores of the addresses below a are made
abbrev pub invariant-loop-a : goal.invariant-loop-a
invariant-loop-a l = let g = l.known.geometry in record {
  after : l.known.below ≤ l.a;
  within : l.a ≤ l.known.end;
  made : MadeAppends l.known.to l.budget l.rest
      (on_present (is_set l.known.here) (data_stores g.drives g.unit l.known.zone (content_of l.known (read_device g l.fn.sectors l.pointers) l.buffer) l.known.below (l.a - l.known.below)))
      l.fn.sectors l.fn.written l.sectors l.written;
}

abbrev pub decreases-loop-a : goal.decreases-loop-a
decreases-loop-a l = l.known.end - l.a
