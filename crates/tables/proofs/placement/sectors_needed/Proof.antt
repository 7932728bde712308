use mathlib.Core.Path.{◌≡◌, ◌∙◌, refl}
use Rattle.tables.specs.laws.Sizes.{needed_fits}
use Rattle.tables.specs.laws.StripeAt.{needed_at, stripe_at_fits}
use borrow.Author.Rules.{rules}
use Rattle.tables.proofs.placement.sectors_needed.Statement.{statement}
use Rattle.tables.proofs.placement.sectors_needed.Tie as tie

needed-of-requires : tie.Need-needed_of-requires
needed-of-requires c κs =
    let s = c.before in
    let a = s.args in
    let f = stripe_at_fits a.g s.requires.0 a.zone a.n s.requires.1.1 in
    (s.requires.0, rw c.stripe_at-at.ensures (f.0, f.1, s.requires.1.2))

returns : tie.Need-returns
returns c =
    let s = c.before.before in
    let a = s.args in
    let e = c.needed_of.ensures ∙ rw c.before.stripe_at-at.ensures refl ∙ needed_at a.g.drives a.g.unit a.zone a.n a.drive in
    (e, rw e (needed_fits a.g s.requires.0 a.zone a.n a.drive s.requires.1.1))

pub sectors_needed_spec : {M : Type 1} → statement M
sectors_needed_spec = tie.close (tie.spec (λ c κs. search rules) needed-of-requires returns)
