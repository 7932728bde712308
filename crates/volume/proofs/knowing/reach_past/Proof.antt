use mathlib.Core.Path.{◌≡◌, sym, ap, ap₂, ◌∙◌}
use mathlib.Core.Bool.{Bool, ◌||◌}
use Prim.Native.Nat.{ℕ, min}
use lib.Dec.{eqb}
use Rattle.tables.specs.meaning.Basics.{pick}
use Rattle.tables.specs.meaning.Placement.{unit_drive}
use Rattle.volume.specs.meaning.Rules.{row_address}
use Rattle.volume.specs.looking.Knowing.{held_on, row_held}
use borrow.Author.Rules.{rules}
use Rattle.volume.proofs.knowing.reach_past.Statement.{statement}
use Rattle.volume.proofs.knowing.reach_past.Tie as tie

-- the test is whether unit k is a's own or held
tested : (c : tie.After-is_held-held) → eqb c.args.k c.unit_index-own.result || c.is_held-held.result ≡ row_held c.args.g c.args.here c.args.written.now c.args.z c.args.a c.args.k
tested c =
    let a = c.args in
    ap₂ (λ (u : ℕ) (b : Bool). eqb a.k u || b) c.unit_index-own.ensures.0
    (c.is_held-held.ensures ∙ ap₂ (λ (d x : ℕ). held_on a.g a.here a.written.now a.z d x) (c.unit_drive-d.ensures.0 ∙ ap (λ (p : ℕ). unit_drive a.g.drives p a.k) c.parity_of-p.ensures.0) c.sector_of-x.ensures)

returns : tie.Need-returns-then-k-own
returns c =
    let a = c.args in
    sym (ap (λ (b : Bool). pick b a.reach (min a.reach (row_address a.g.drives a.g.unit a.a a.k))) (sym (tested c.before) ∙ c.if-k-own.true))

returns-2 : tie.Need-returns
returns-2 c =
    let a = c.args in
    c.min.ensures ∙ ap (λ (b : ℕ). min a.reach b) c.row_address-b.ensures
    ∙ sym (ap (λ (b : Bool). pick b a.reach (min a.reach (row_address a.g.drives a.g.unit a.a a.k))) (sym (tested c.before.before.before) ∙ c.if-k-own.false))

pub reach_past_spec : {M : Type 1} → statement M
reach_past_spec =
    tie.close
    (tie.spec (λ c κs. search rules) (λ c κs. search rules) (λ c κs. search rules) (λ c κs. search rules) (λ c κs. search rules) returns
    (λ c κs. search rules) (λ c κs. search rules) returns-2)
