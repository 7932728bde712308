use Rattle.std.proofs.Common.{◌≡◌, ◌-◌, ◌++◌, replicate, false}
use Rattle.tables.specs.meaning.Below.{tabulate}
use Rattle.volume.specs.looking.DrivesLost.{present_of}
use Rattle.volume.proofs.drives_lost.look_present.Given as goal

abbrev pub invariant-loop-d : goal.invariant-loop-d
invariant-loop-d l = l.here ≡ tabulate (present_of l.g l.named l.said) l.d ++ replicate (8 - l.d) false
