use mathlib.Core.Path.{refl}
use borrow.Author.Rules.{rules}
use Rattle.tables.proofs.stores.has_room.Statement.{statement}
use Rattle.tables.proofs.stores.has_room.Tie as tie

returns : tie.Need-returns
returns c = rw (c.widen-n.ensures, c.before.before.cell_of-at.ensures.0) refl

pub has_room_spec : {M : Type 1} → statement M
has_room_spec =
    tie.close (tie.spec (λ c κs. search rules) (λ c. search rules) (λ c. search rules) (λ c κs. search rules) returns)
