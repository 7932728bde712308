use Rattle.std.proofs.Common.{◌≡◌, ◌-◌, ◌++◌, ℕ, replicate}
use Rattle.tables.specs.meaning.Below.{tabulate}
use Rattle.volume.specs.meaning.CallContracts.{is_set, zone_look_of}
use Rattle.volume.specs.meaning.Rules.{zone_shown}
use Rattle.volume.specs.looking.Knowing.{read_device}
use Rattle.volume.specs.checks.Records.{blank_look}
use Rattle.volume.proofs.looking.look_zones.Given as goal

abbrev pub invariant-loop-z : goal.invariant-loop-z
invariant-loop-z l = l.zones ≡ tabulate (λ (i : ℕ). zone_look_of (zone_shown l.g (is_set l.here) (read_device l.g l.sectors l.written) i)) l.z ++ replicate (16 - l.z) blank_look
