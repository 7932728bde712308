use Rattle.std.proofs.Common.{◌≡◌, true}
use Rattle.tables.specs.meaning.Below.{all_below}
use Rattle.volume.specs.meaning.CallContracts.{is_set}
use Rattle.volume.specs.looking.ZoneLooking.{known_at}
use Rattle.volume.specs.looking.Knowing.{read_device}
use Rattle.volume.proofs.zone_looking.known_prefix.Given as goal

abbrev pub invariant-loop-a : goal.invariant-loop-a
invariant-loop-a l = all_below (known_at l.zone.geometry (is_set l.zone.here) (read_device l.zone.geometry l.sectors l.written) l.zone.number l.zone.generation) l.a ≡ true
