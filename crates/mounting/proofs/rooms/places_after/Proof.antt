use mathlib.Core.Path.{refl}
use borrow.Author.Rules.{rules}
use Rattle.mounting.proofs.rooms.places_after.Statement.{statement}
use Rattle.mounting.proofs.rooms.places_after.Tie as tie

returns : tie.Need-returns
returns c = rw c.move_logs-geometry.ensures refl

pub places_after_spec : {M : Type 1} → statement M
places_after_spec = tie.close (tie.spec (λ c κs. search rules) returns)
