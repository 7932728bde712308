use Rattle.std.proofs.Common.{◌≡◌, ◌*◌, take}
use Rattle.tables.specs.meaning.Below.{tabulate_from}
use Rattle.tables.specs.meaning.Lists.{concat}
use Rattle.volume.specs.meaning.Rules.{value_at}
use Rattle.volume.specs.meaning.CallContracts.{is_set}
use Rattle.volume.specs.looking.Knowing.{read_device}
use Rattle.volume.proofs.reading.read_values.Given as goal

-- the first i values are there
abbrev pub invariant-loop-i : goal.invariant-loop-i
invariant-loop-i l = take (l.i * l.zone.geometry.sector) l.out
    ≡ concat (tabulate_from (value_at l.zone.geometry (is_set l.zone.here) (read_device l.zone.geometry l.sectors l.written) l.zone.number l.zone.generation) l.offset l.i)
