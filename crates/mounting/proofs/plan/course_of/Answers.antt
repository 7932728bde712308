use mathlib.Core.Path.{sym, subst}
use Rattle.tables.specs.meaning.Geometry.{Valid}
use Rattle.volume.specs.declared.roles.LogPlaces.{LogPlaces}
use Rattle.volume.specs.laws.LogPlaces.{valid_with_logs}
use Rattle.mounting.proofs.plan.course_of.Goals as goal

-- the places after the first emptyings
pub places_after-end-requires : goal.places_after-end-requires
places_after-end-requires c = subst (λ (x : LogPlaces). Valid x.geometry) (sym c.places_after-middle.ensures) (valid_with_logs _ _ c.requires)
