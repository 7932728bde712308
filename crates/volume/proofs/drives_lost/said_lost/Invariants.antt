use Rattle.std.proofs.Common.{◌≡◌, ◌-◌, ◌++◌, replicate}
use Rattle.tables.specs.meaning.Below.{tabulate}
use Rattle.tables.specs.meaning.Drives.{no_drive}
use Rattle.volume.specs.looking.DrivesLost.{said_by}
use Rattle.volume.specs.looking.Knowing.{read_device}
use Rattle.volume.proofs.drives_lost.said_lost.Given as goal

abbrev pub invariant-loop-d : goal.invariant-loop-d
invariant-loop-d l = l.said ≡ tabulate (said_by l.g l.named (read_device l.g l.sectors l.written)) l.d ++ replicate (8 - l.d) no_drive
