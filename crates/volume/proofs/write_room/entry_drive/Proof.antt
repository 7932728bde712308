use mathlib.Core.Path.{refl}
use native.Mathlib.Nat.{div-add-mod'}
use native.Mathlib.Omega.{arith}
use Rattle.tables.specs.meaning.Placement.{stripe_of}
use Rattle.tables.specs.laws.Sizes.{stripes_most, zone_small}
use borrow.Author.Rules.{rules}
use Rattle.volume.proofs.write_room.entry_drive.Statement.{statement}
use Rattle.volume.proofs.write_room.entry_drive.Tie as tie

parity-drive-requires : tie.Need-parity_drive-drive-requires
unfolding stripe_of
parity-drive-requires c κs =
    let s = c.before in
    (omega (arith, s.requires.0.drives_least), s.requires.0.drives_most, omega (arith, s.requires.1.0, s.requires.0.zones_most), rw c.stripe_sectors-k.ensures.0 (omega (arith, stripes_most s.args.g s.args.end s.requires.0 s.requires.1.1, s.requires.0.zone_most)))

mul-inside : tie.Need-overflow_mul-inside
mul-inside c = let s = c.before.before in omega (arith, div-add-mod' s.args.end c.stripe_sectors-k.result, s.requires.1.1, zone_small s.args.g s.requires.0)

returns : tie.Need-returns
unfolding stripe_of
returns c = (rw (c.parity_drive-drive.ensures.0, c.stripe_sectors-k.ensures.0) refl, c.parity_drive-drive.ensures.1)

pub entry_drive_spec : {M : Type 1} → statement M
entry_drive_spec = tie.close (tie.spec (λ c κs. search rules) (λ c. search rules) parity-drive-requires mul-inside returns)
