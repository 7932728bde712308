use native.Mathlib.Omega.{arith}
use mathlib.Core.Path.{refl, ◌∙◌}
use Rattle.tables.proofs.placement.first_drive.Statement.{statement}
use Rattle.tables.proofs.placement.first_drive.Tie as tie

parity-drive-requires : tie.Need-parity_drive-p-requires
parity-drive-requires c κs = let p = c.requires in (omega (arith, p.0.drives_least), p.0.drives_most, omega (arith, p.0.zones_most, p.1), omega arith)

unit-drive-requires : tie.Need-unit_drive-requires
unit-drive-requires c κs = let p = c.before.requires in (omega (arith, p.0.drives_least), p.0.drives_most, c.parity_drive-p.ensures.1, omega (arith, p.0.drives_least))

returns : tie.Need-returns
returns c = (c.unit_drive.ensures.0 ∙ rw c.before.parity_drive-p.ensures.0 refl, c.unit_drive.ensures.1)

pub first_drive_spec : {M : Type 1} → statement M
first_drive_spec = tie.close (tie.spec parity-drive-requires unit-drive-requires returns)
