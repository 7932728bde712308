use Rattle.tables.specs.meaning.Phases.{on_present}
use Rattle.tables.specs.laws.Made.{MadePointers}
use Rattle.volume.specs.meaning.CallContracts.{is_set}
use Rattle.mounting.specs.MountResets.{zone_resets}
use Rattle.mounting.proofs.zones.reset_drive.Given as goal

abbrev pub invariant-loop-z : goal.invariant-loop-z
invariant-loop-z l =
    MadePointers l.g l.budget l.rest (on_present (is_set l.here) (zone_resets l.look l.drive l.z)) l.fn.written l.fn.durable l.written l.durable
