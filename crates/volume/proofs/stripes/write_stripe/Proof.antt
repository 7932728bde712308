use Prim.Native.Nat.{◌-◌}
use native.Mathlib.Nat.{mul-le-mul}
use mathlib.Core.Path.{◌≡◌, refl, ap, ◌∙◌}
use native.Mathlib.Omega.{arith}
use Rattle.tables.specs.meaning.Geometry.{Valid}
use Rattle.tables.specs.meaning.Placement.{unit_drive}
use Rattle.volume.specs.declared.stripes.Stripe.{Stripe}
use Rattle.volume.specs.stripes.UnitStores.{units_passed}
use Rattle.volume.specs.stripes.StripeDue.{Fitting, stripe_at, laid_of, due_fits, due_covered, due_end, due_made}
use borrow.Author.Rules.{rules}
use Rattle.volume.proofs.stripes.write_stripe.Statement.{statement}
use Rattle.volume.proofs.stripes.write_stripe.Tie as tie

-- the stripe fits
fits : (s : tie.Start) → let a = s.args in Fitting (stripe_at a.known a.a) a.sectors.now a.written.now a.buffer.now
fits s = let a = s.args in due_fits a.known s.requires.0 a.sectors.now a.written.now a.buffer.now a.a s.requires.1.0 a.budget s.requires.1.1

stripe-at-requires : tie.Need-stripe_at-s-requires
stripe-at-requires c κs =
    let s = c.before.before.before in
    let a = s.args in
    let e = due_end a.known s.requires.0 a.sectors.now a.written.now a.buffer.now a.a s.requires.1.0 a.budget s.requires.1.1 in
    (s.requires.0, (s.requires.1.0.zone_in_lem, omega (arith, e, s.requires.1.0.end_most), s.requires.1.0.below_most))

-- as code names it
named : (s : tie.Start) (r : Stripe) → let a = s.args in r ≡ stripe_at a.known a.a → Valid r.geometry × Fitting r a.sectors.now a.written.now a.buffer.now
named s r e = rw e (s.requires.0, fits s)

lay-stripe-requires : tie.Need-lay_stripe-requires
lay-stripe-requires c κs = let at = c.stripe_at-s in named c.before.before.before.before.before at.result at.ensures

pass-units-requires : tie.Need-pass_units-requires
pass-units-requires c κs =
    let at = c.stripe_at-s in
    let (ok, f) = named c.before.before.before.before.before.before.before.before.before at.result at.ensures in
    (ok, (f.fit.zone_in_lem, f.parity_in, f.fit.written_long, f.fit.room))

returns : tie.Need-returns
returns c =
    let s = c.before.before.before.before.before.before.before.before.before.before.before.before.before in
    let a = s.args in
    let at = c.stripe_at-s in
    let xs = a.sectors.now in
    let ws = a.written.now in
    due_made a.known s.requires.0 xs ws a.buffer.now a.a s.requires.1.0 a.budget s.requires.1.1 _ _ _ refl
    (c.lay_stripe.ensures ∙ ap (λ (r : Stripe). laid_of r ws a.buffer.now xs (r.geometry.drives - 1)) at.ensures)
    (c.pass_units.ensures ∙ ap (λ (r : Stripe). units_passed r.geometry r.zone (unit_drive r.geometry.drives r.parity) ws r.geometry.drives) at.ensures)

pub write_stripe_spec : {M : Type 1} → statement M
write_stripe_spec =
    tie.close
    (tie.spec stripe-at-requires lay-stripe-requires pass-units-requires (λ c. let s = c.before.before.before.before.before.before.before.before.before.before.before.before.before in omega (arith, mul-le-mul {n₂ = 8} {m₂ = 16} s.requires.0.drives_most s.requires.0.unit_most))
    (λ c. let s = c.before.before.before.before.before.before.before.before.before.before.before.before.before in let a = s.args in omega (arith, due_covered a.known s.requires.0 a.sectors.now a.written.now a.buffer.now a.a s.requires.1.0 a.budget s.requires.1.1)) (λ c. search rules) (λ c. search rules) returns)
