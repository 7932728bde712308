use Rattle.std.proofs.Common.{take}
use Rattle.tables.specs.meaning.Below.{each_below}
use Rattle.tables.specs.meaning.Phases.{on_present}
use Rattle.tables.specs.laws.Made.{MadeAppends}
use Rattle.volume.specs.meaning.CallContracts.{is_set}
use Rattle.volume.specs.storing.Resetting.{counters_at}
use Rattle.volume.proofs.resetting.log_counters.Given as goal

-- the stores of the drives so far are made
abbrev pub invariant-loop-d : goal.invariant-loop-d
invariant-loop-d l = MadeAppends l.g l.budget l.rest (on_present (is_set l.here) (each_below (counters_at l.g (take l.g.zones l.generations)) l.d)) l.fn.sectors l.fn.written l.sectors l.written
