use mathlib.Core.Path.{ap₂, ◌∙◌}
use mathlib.Core.Bool.{Bool, ◌&&◌}
use Prim.Native.Nat.{ℕ}
use lib.Dec.{leb}
use Rattle.volume.specs.looking.Knowing.{held_on}
use borrow.Author.Rules.{rules}
use Rattle.volume.proofs.knowing.row_complete.Statement.{statement}
use Rattle.volume.proofs.knowing.row_complete.Tie as tie

returns : tie.Need-returns
returns c =
    let a = c.args in
    ap₂ (λ (p q : Bool). p && q) (c.is_held-held.ensures ∙ ap₂ (λ (d x : ℕ). held_on a.g a.here a.written.now a.z d x) c.parity_of-p.ensures.0 c.sector_of-x.ensures)
    (ap₂ (λ (e f : ℕ). leb e f) c.stripe_end-end.ensures.0 c.reach_of-reach.ensures)

pub row_complete_spec : {M : Type 1} → statement M
row_complete_spec =
    tie.close
    (tie.spec (λ c κs. search rules) (λ c κs. search rules) (λ c κs. search rules) (λ c κs. search rules) (λ c κs. search rules) returns)
