use mathlib.Core.Path.{◌≡◌, sym, ◌∙◌}
use mathlib.Core.Bool.{not}
use Prim.Native.Nat.{ℕ, ◌+◌, ◌*◌, ◌≤◌}
use native.Mathlib.Omega.{arith}
use Rattle.tables.specs.laws.Placement.{stripe_below}
use Rattle.tables.specs.meaning.Placement.{stripe_of}
use Rattle.tables.specs.meaning.Geometry.{stripe_sectors}
use Rattle.tables.specs.meaning.Below.{count_below}
use Rattle.volume.specs.meaning.CallContracts.{is_set}
use Rattle.volume.specs.meaning.Content.{fill_of}
use Rattle.volume.specs.reading.ReadingHeld.{run_held}
use borrow.Author.Rules.{rules}
use Rattle.volume.proofs.write_directly.earlier_held.Statement.{statement}
use Rattle.volume.proofs.write_directly.earlier_held.Tie as tie

returns : tie.Need-returns-then-absent-eq0
returns c =
    let s = c.before.before.before.before in
    let z = s.args.zone in
    let g = z.geometry in
    let n = s.args.n in
    let none : count_below (λ (d : ℕ). not (is_set z.here d)) g.drives ≡ 0 = sym c.count_absent-absent.ensures ∙ c.if-absent-eq0.true in
    let whole : stripe_of g.drives g.unit n * stripe_sectors g + fill_of g n ≤ n = omega (arith, stripe_below g.drives g.unit z.number (omega (arith, s.requires.0.drives_least)) s.requires.0.unit_least n) in
    sym (run_held g s.requires.0 z.here s.args.written.now z.number n s.requires.1.3 (stripe_of g.drives g.unit n * stripe_sectors g) (fill_of g n) none whole)

pub earlier_held_spec : {M : Type 1} → statement M
earlier_held_spec = tie.close (tie.spec (λ c κs. search rules) returns (λ c κs. search rules) (λ c. search rules))
