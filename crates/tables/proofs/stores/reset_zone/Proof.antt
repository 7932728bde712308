use Prim.Native.Nat.{ℕ}
use mathlib.Core.Path.{ap}
use lib.ListN.{set}
use Rattle.tables.specs.meaning.Tables.{pointers_after_reset}
use borrow.Author.Rules.{rules}
use Rattle.tables.proofs.stores.reset_zone.Statement.{statement}
use Rattle.tables.proofs.stores.reset_zone.Tie as tie

returns : tie.Need-returns
unfolding pointers_after_reset
returns c =
    let a = c.before.before.before.args in
    let e = c.cell_of-at.ensures.0 in
    (ap (λ (at : ℕ). set a.written.now at 0) e, ap (λ (at : ℕ). set a.durable.now at 0) e)

pub reset_zone_spec : {M : Type 1} → statement M
reset_zone_spec =
    tie.close
    (tie.spec (λ c κs. search rules) (λ c. search rules) (λ c. search rules) (λ c. search rules) (λ c. search rules) (λ c. search rules)
    (λ c. search rules) returns)
