use mathlib.Core.Path.{ap₂, ◌∙◌}
use Prim.Native.Nat.{ℕ}
use Rattle.volume.specs.looking.Knowing.{held_on}
use borrow.Author.Rules.{rules}
use Rattle.volume.proofs.knowing.own_held.Statement.{statement}
use Rattle.volume.proofs.knowing.own_held.Tie as tie

drive-of-requires : tie.Need-drive_of-d-requires
drive-of-requires c κs = search rules

sector-of-requires : tie.Need-sector_of-x-requires
sector-of-requires c κs = search rules

is-held-requires : tie.Need-is_held-requires
is-held-requires c κs = search rules

returns : tie.Need-returns
returns c =
    let a = c.args in
    c.is_held.ensures ∙ ap₂ (λ (d x : ℕ). held_on a.g a.here a.written.now a.z d x) c.drive_of-d.ensures.0 c.sector_of-x.ensures

pub own_held_spec : {M : Type 1} → statement M
own_held_spec = tie.close (tie.spec drive-of-requires sector-of-requires is-held-requires returns)
