use Rattle.tables.specs.meaning.Below.{each_below}
use Rattle.tables.specs.meaning.Phases.{on_present}
use Rattle.tables.specs.laws.Made.{MadePointers}
use Rattle.volume.specs.meaning.CallContracts.{is_set}
use Rattle.volume.specs.storing.Resetting.{zone_reset_at}
use Rattle.volume.proofs.resetting.reset_zones.Given as goal

-- the zones of the drives so far are reset
abbrev pub invariant-loop-d : goal.invariant-loop-d
invariant-loop-d l = MadePointers l.g l.budget l.rest (on_present (is_set l.here) (each_below (zone_reset_at l.z) l.d)) l.fn.written l.fn.durable l.written l.durable
