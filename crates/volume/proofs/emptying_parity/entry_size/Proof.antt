use Prim.Native.Nat.{ℕ, ◌-◌, ◌*◌, ◌/◌, min}
use mathlib.Core.Path.{◌≡◌, ap, ◌∙◌}
use native.Mathlib.Nat.{div-add-mod'}
use native.Mathlib.Omega.{arith}
use Rattle.tables.specs.meaning.Placement.{stripe_of}
use Rattle.tables.specs.laws.Sizes.{zone_small}
use Rattle.volume.specs.meaning.Content.{fill_of}
use borrow.Author.Rules.{rules}
use Rattle.volume.proofs.emptying_parity.entry_size.Statement.{statement}
use Rattle.volume.proofs.emptying_parity.entry_size.Tie as tie

mul-min : tie.Need-overflow_mul-s
mul-min c = let s = c.before in omega (arith, div-add-mod' s.args.pointer c.stripe_sectors-k.result, s.requires.1, (zone_small s.args.g s.requires.0).1)

sub-min : tie.Need-overflow_sub-pointer
sub-min c = omega (arith, div-add-mod' c.args.pointer c.stripe_sectors-k.result)

returns : tie.Need-returns
unfolding stripe_of
returns c =
    let s = c.before.before in
    let a = s.args in
    let e : c.min-rows.result ≡ min (fill_of a.g a.pointer) a.g.unit = c.min-rows.ensures ∙ ap (λ (k : ℕ). min (a.pointer - a.pointer / k * k) a.g.unit) c.stripe_sectors-k.ensures.0 in
    (rw e (omega arith), rw e (omega (arith, s.requires.0.unit_most)))

pub entry_size_spec : {M : Type 1} → statement M
entry_size_spec = tie.close (tie.spec (λ c κs. search rules) (λ c. search rules) mul-min sub-min (λ c κs. search rules) (λ c. search rules) returns)
