use Rattle.tables.specs.laws.Sizes.{unit_small, Striped, striped}
use Rattle.tables.specs.meaning.Placement.{stripe_length, stripe_of, unit_index, drive_of}
use mathlib.Core.Path.{◌∙◌, refl}
use native.Mathlib.Omega.{arith}
use borrow.Author.Rules.{rules}
use Rattle.tables.proofs.placement.drive_of.Statement.{statement}
use Rattle.tables.proofs.placement.drive_of.Tie as tie

known : (c : tie.Start) → Striped c.args.g c.args.a
known c = striped _ _ c.requires.0 c.requires.1.1

mul-k : tie.Need-overflow_mul-k
mul-k c = omega (arith, (known c).short)

div-parity-drive : tie.Need-nonzero_div-a
div-parity-drive c = (known c).long

parity-drive-requires : tie.Need-parity_drive-p-requires
parity-drive-requires c κs = let p = c.requires in (omega (arith, p.0.drives_least), p.0.drives_most, omega (arith, p.0.zones_most, p.1.0), (known c).stripes)

rem-unit-drive : tie.Need-nonzero_rem-a
rem-unit-drive c = (known c.before).long

unit-drive-requires : tie.Need-unit_drive-requires
unit-drive-requires c κs = let s = c.before in let p = s.requires.0 in (omega (arith, p.drives_least), p.drives_most, c.parity_drive-p.ensures.1, unit_small s.args.g s.args.a p)

returns : tie.Need-returns
unfolding drive_of stripe_of unit_index stripe_length
returns c = (c.unit_drive.ensures.0 ∙ rw c.before.parity_drive-p.ensures.0 refl, c.unit_drive.ensures.1)

pub drive_of_spec : {M : Type 1} → statement M
drive_of_spec =
    tie.close
    (tie.spec (λ c. search rules) mul-k div-parity-drive parity-drive-requires rem-unit-drive (λ c. search rules) unit-drive-requires returns)
