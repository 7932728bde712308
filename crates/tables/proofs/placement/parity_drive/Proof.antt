use native.Mathlib.Nat.{mod-lt}
use mathlib.Core.Path.{refl}
use Rattle.tables.specs.meaning.Placement.{parity_drive}
use borrow.Author.Rules.{rules}
use Rattle.tables.proofs.placement.parity_drive.Statement.{statement}
use Rattle.tables.proofs.placement.parity_drive.Tie as tie

returns : tie.Need-returns
unfolding parity_drive
returns c = (refl, mod-lt _ c.requires.0)

pub parity_drive_spec : {M : Type 1} → statement M
parity_drive_spec = tie.close (tie.spec (λ c. search rules) (λ c. search rules) (λ c. search rules) (λ c. search rules) returns)
