use mathlib.Core.Path.{refl}
use Rattle.tables.proofs.stores.due.Statement.{statement}
use Rattle.tables.proofs.stores.due.Tie as tie

pub due_spec : {M : Type 1} → statement M
due_spec = tie.close (tie.spec (λ c. refl))
