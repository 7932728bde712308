use Rattle.std.proofs.Common.{◌≡◌}
use Rattle.volume.specs.meaning.Mount.{next_generation}
use Rattle.mounting.specs.MountLook.{shown_by}
use Rattle.mounting.specs.MountGenerations.{filled}
use Rattle.mounting.proofs.counters.next_generations.Given as goal

abbrev pub invariant-loop-z : goal.invariant-loop-z
invariant-loop-z l = l.next ≡ filled (next_generation (shown_by l.look)) l.z
