use Prim.Native.Nat.{◌-◌, ◌≤◌}
use native.Mathlib.Nat.{mul-le-mul}
use mathlib.Core.Path.{◌≡◌, refl, ap, ◌∙◌}
use native.Mathlib.Omega.{arith}
use Rattle.tables.specs.meaning.Placement.{stripe_of, parity_drive}
use Rattle.tables.specs.laws.Placement.{stripe_quotient}
use Rattle.tables.specs.laws.Sizes.{stripes_most, zone_small}
use borrow.Author.Rules.{rules}
use Rattle.volume.proofs.stripes.stripe_at.Statement.{statement}
use Rattle.volume.proofs.stripes.stripe_at.Tie as tie

parity-drive-requires : tie.Need-parity_drive-parity-requires
parity-drive-requires c κs =
    let s = c.before in
    let g = s.args.known.to in
    let k = c.stripe_sectors-k in
    (omega (arith, s.requires.0.drives_least), s.requires.0.drives_most, omega (arith, s.requires.1.0, s.requires.0.zones_most), rw (stripe_quotient g.drives g.unit s.args.a k.result k.ensures.0) (omega (arith, stripes_most g s.args.a s.requires.0 s.requires.1.1, s.requires.0.zone_most)))

returns : tie.Need-returns
returns c =
    let s = c.before.before.before.before.before in
    let a = s.args in
    let g = a.known.to in
    let k = c.stripe_sectors-k in
    let e : c.parity_drive-parity.result ≡ parity_drive g.drives a.known.zone (stripe_of g.drives g.unit a.a) =
    c.parity_drive-parity.ensures.0 ∙ ap (parity_drive g.drives a.known.zone) (stripe_quotient g.drives g.unit a.a k.result k.ensures.0) in
    rw e refl

pub stripe_at_spec : {M : Type 1} → statement M
stripe_at_spec =
    tie.close
    (tie.spec (λ c κs. search rules) (λ c. search rules) parity-drive-requires (λ c. search rules) (λ c. search rules)
    (λ c. let s = c.before.before.before.before.before in let h : s.args.a - s.args.known.below ≤ 458752 = omega (arith, s.requires.1.1, (zone_small s.args.known.to s.requires.0).1) in omega (arith, mul-le-mul {n₂ = 458752} {m₂ = 4096} h s.requires.0.sector_most)) returns)
