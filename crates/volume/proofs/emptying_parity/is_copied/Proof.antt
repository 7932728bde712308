use Prim.Native.Nat.{ℕ, ◌*◌, ◌/◌}
use mathlib.Core.Path.{ap, ◌∙◌}
use mathlib.Core.Bool.{◌&&◌}
use native.Mathlib.Nat.{div-add-mod'}
use native.Mathlib.Omega.{arith}
use lib.Dec.{ltb, eqb}
use Rattle.tables.specs.meaning.Placement.{stripe_of, parity_drive}
use Rattle.tables.specs.laws.Sizes.{stripes_most, zone_small}
use borrow.Author.Rules.{rules}
use Rattle.volume.proofs.emptying_parity.is_copied.Statement.{statement}
use Rattle.volume.proofs.emptying_parity.is_copied.Tie as tie

parity-drive-requires : tie.Need-parity_drive-parity-requires
unfolding stripe_of
parity-drive-requires c κs =
    let s = c.before in
    let a = s.args in
    (omega (arith, s.requires.0.drives_least), s.requires.0.drives_most, omega (arith, s.requires.1.0, s.requires.0.zones_most), rw c.stripe_sectors-k.ensures.0 (omega (arith, stripes_most a.g a.pointer s.requires.0 s.requires.1.1, s.requires.0.zone_most)))

mul-result : tie.Need-overflow_mul-result
mul-result c = let s = c.before.before in omega (arith, div-add-mod' s.args.pointer c.stripe_sectors-k.result, s.requires.1.1, (zone_small s.args.g s.requires.0).1)

returns : tie.Need-returns
unfolding stripe_of
returns c =
    let a = c.args in
    ap (λ (d : ℕ). ltb (a.pointer / c.stripe_sectors-k.result * c.stripe_sectors-k.result) a.pointer && eqb a.drive d) c.parity_drive-parity.ensures.0
    ∙ ap (λ (k : ℕ). ltb (a.pointer / k * k) a.pointer && eqb a.drive (parity_drive a.g.drives a.z (a.pointer / k))) c.stripe_sectors-k.ensures.0

pub is_copied_spec : {M : Type 1} → statement M
is_copied_spec = tie.close (tie.spec (λ c κs. search rules) (λ c. search rules) parity-drive-requires mul-result returns)
