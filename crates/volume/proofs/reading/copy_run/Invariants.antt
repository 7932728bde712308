use Rattle.std.proofs.Common.{◌≡◌, ◌*◌, take}
use Rattle.tables.specs.meaning.Below.{tabulate_from}
use Rattle.tables.specs.meaning.Lists.{concat}
use Rattle.volume.specs.looking.Knowing.{own_sector}
use Rattle.volume.proofs.reading.copy_run.Given as goal

-- the first i sectors are copied
abbrev pub invariant-loop-i : goal.invariant-loop-i
invariant-loop-i l = take (l.i * l.g.sector) l.out ≡ concat (tabulate_from (own_sector l.g l.sectors l.z) l.offset l.i)
