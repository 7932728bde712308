use Rattle.tables.specs.meaning.Below.{each_below}
use Rattle.tables.specs.meaning.Phases.{on_present}
use Rattle.tables.specs.laws.Made.{MadePointers}
use Rattle.volume.specs.meaning.CallContracts.{is_set}
use Rattle.mounting.specs.MountResets.{zone_resets}
use Rattle.mounting.proofs.zones.reset_zones.Given as goal

abbrev pub invariant-loop-d : goal.invariant-loop-d
invariant-loop-d l =
    MadePointers l.g l.budget l.rest (on_present (is_set l.here) (each_below (λ e. zone_resets l.look e l.g.zones) l.d)) l.fn.written l.fn.durable l.written l.durable
