use mathlib.Core.Path.{refl}
use borrow.Author.Rules.{rules}
use Rattle.volume.proofs.reading.zone_of.Statement.{statement}
use Rattle.volume.proofs.reading.zone_of.Tie as tie

zone-sectors-requires : tie.Need-zone_sectors-size-requires
zone-sectors-requires c κs = search rules

div-result : tie.Need-nonzero_div-result
div-result c = search rules

returns : tie.Need-returns
returns c = rw c.zone_sectors-size.ensures.0 refl

pub zone_of_spec : {M : Type 1} → statement M
zone_of_spec = tie.close (tie.spec zone-sectors-requires div-result returns)
