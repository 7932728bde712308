use Rattle.std.proofs.Common.{add-one, arith}
use Rattle.volume.specs.meaning.Mount.{next_generation}
use Rattle.mounting.specs.MountLook.{shown_by}
use Rattle.mounting.specs.MountGenerations.{filled_more}
use Rattle.mounting.proofs.counters.next_generations.Goals as goal

pub loop-z-preserved : goal.loop-z-preserved
loop-z-preserved c = rw (c.loop-z.invariant, add-one, c.next_generation.ensures) (filled_more (next_generation (shown_by c.args.look)) c.loop-z.z (omega arith))
