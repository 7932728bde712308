use mathlib.Core.Path.{sym}
use Rattle.tables.specs.meaning.Tables.{zone_place}
use Rattle.tables.specs.laws.ZonePlaces.{place_of_other}
use borrow.Author.Rules.{rules}
use Rattle.tables.proofs.stores.zone_place.Statement.{statement}
use Rattle.tables.proofs.stores.zone_place.Tie as tie

returns : tie.Need-returns-then-zone-ge-DATA_ZONES
returns c = let s = c.before in sym (place_of_other s.args.g s.args.drive s.args.zone c.if-zone-ge-DATA_ZONES.true)

returns-2 : tie.Need-returns
unfolding zone_place
returns-2 c = c.log_place.ensures

pub zone_place_spec : {M : Type 1} → statement M
zone_place_spec = tie.close (tie.spec returns (λ c. search rules) (λ c. search rules) (λ c κs. search rules) returns-2)
