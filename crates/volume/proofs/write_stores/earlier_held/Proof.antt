use Prim.Native.Nat.{ℕ, ◌*◌, ◌/◌, ◌-◌, ◌≤◌}
use mathlib.Core.Path.{ap, ◌∙◌}
use native.Mathlib.Nat.{div-add-mod'}
use native.Mathlib.Omega.{arith}
use Rattle.tables.specs.laws.Placement.{stripe_begin}
use Rattle.tables.specs.laws.Sizes.{zone_small}
use Rattle.volume.specs.looking.Knowing.{all_held}
use borrow.Author.Rules.{rules}
use Rattle.volume.proofs.write_stores.earlier_held.Statement.{statement}
use Rattle.volume.proofs.write_stores.earlier_held.Tie as tie

-- the stripe begins at or below the pointer
start-most : (c : tie.After-stripe_sectors-k) → let a = c.args in a.n / c.stripe_sectors-k.result * c.stripe_sectors-k.result ≤ a.n
start-most c = omega (arith, div-add-mod' c.args.n c.stripe_sectors-k.result)

returns : tie.Need-returns
returns c =
    let a = c.args in
    c.all_held.ensures ∙ ap (λ (start : ℕ). all_held a.zone.geometry a.zone.here a.written.now a.zone.number start (a.n - start)) (stripe_begin a.zone.geometry.drives a.zone.geometry.unit a.n c.stripe_sectors-k.result c.stripe_sectors-k.ensures.0)

pub earlier_held_spec : {M : Type 1} → statement M
earlier_held_spec =
    tie.close
    (tie.spec (λ c κs. search rules) (λ c. search rules) (λ c. let s = c.before.before.before in omega (arith, start-most c, s.requires.1.2, (zone_small s.args.zone.geometry s.requires.0).1)) (λ c. start-most c.before)
    (λ c κs. let s = c.before.before.before in (s.requires.0, (s.requires.1.0, s.requires.1.1, omega (arith, start-most c.before, s.requires.1.2)))) returns)
