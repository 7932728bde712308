use native.Mathlib.Omega.{arith}
use mathlib.Core.Path.{refl}
use Prim.Native.Nat.{◌+◌, ◌≤◌}
use lib.ListN.{get_or}
use borrow.Author.Rules.{rules}
use Rattle.tables.proofs.stores.advance_by.Statement.{statement}
use Rattle.tables.proofs.stores.advance_by.Tie as tie

add-next : tie.Need-overflow_add-next
add-next c =
    let s = c.before.before.before in
    let room : get_or s.args.written.now c.before.cell_of-at.result 0 + s.args.n ≤ s.args.g.capacity = rw c.before.cell_of-at.ensures.0 s.requires.1.3 in
    omega (arith, room, s.requires.0.zone_most)

returns : tie.Need-returns
returns c = rw c.before.cell_of-at.ensures.0 refl

pub advance_by_spec : {M : Type 1} → statement M
advance_by_spec =
    tie.close
    (tie.spec (λ c κs. search rules) (λ c. search rules) (λ c. search rules) (λ c. search rules) add-next (λ c. search rules) (λ c. search rules) (λ c. search rules) returns)
