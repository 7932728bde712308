use Rattle.std.proofs.Common.{◌≡◌, ◌≤◌}
use Rattle.tables.specs.meaning.Geometry.{zone_sectors}
use Rattle.volume.specs.meaning.Rules.{seal_limit_below}
use Rattle.volume.specs.meaning.CallContracts.{is_set}
use Rattle.volume.specs.looking.Knowing.{read_device}
use Rattle.volume.proofs.knowing.seal_limit.Given as goal

abbrev pub invariant-loop-d : goal.invariant-loop-d
invariant-loop-d l = (l.limit ≡ seal_limit_below l.zone.geometry (is_set l.zone.here) (read_device l.zone.geometry l.sectors l.written) l.zone.number l.zone.generation l.d) × (l.limit ≤ zone_sectors l.zone.geometry)
