use mathlib.Core.Path.{refl}
use native.Mathlib.Nat.{mod-lt}
use Rattle.tables.specs.laws.Sizes.{zone_small}
use borrow.Author.Rules.{rules}
use Rattle.volume.proofs.reading.offset_of.Statement.{statement}
use Rattle.volume.proofs.reading.offset_of.Tie as tie

zone-sectors-requires : tie.Need-zone_sectors-size-requires
zone-sectors-requires c κs = search rules

rem-result : tie.Need-nonzero_rem-result
rem-result c = search rules

returns : tie.Need-returns
returns c = (rw c.zone_sectors-size.ensures.0 refl, rw c.zone_sectors-size.ensures.0 (mod-lt c.args.address (zone_small c.args.g c.requires).0))

pub offset_of_spec : {M : Type 1} → statement M
offset_of_spec = tie.close (tie.spec zone-sectors-requires rem-result returns)
