use mathlib.Core.Path.{◌≡◌, refl, ap, ◌∙◌}
use Prim.Native.Nat.{ℕ}
use lib.ListN.{get_or}
use lib.Dec.{ltb}
use borrow.Author.Tests.{not-true, not-false}
use Rattle.tables.specs.meaning.Tables.{cell}
use Rattle.volume.specs.meaning.CallContracts.{is_set}
use borrow.Author.Rules.{rules}
use Rattle.volume.proofs.knowing.is_held.Statement.{statement}
use Rattle.volume.proofs.knowing.is_held.Tie as tie
use Rattle.tables.specs.meaning.Geometry.{data_zone}

returns-2 : tie.Need-returns
returns-2 c =
    let e = c.before.before.before in
    let a = e.args in
    let n : c.widen-n.result ≡ get_or a.written.now (cell a.g a.d (data_zone a.z)) 0 = c.widen-n.ensures ∙ rw c.cell_of-at.ensures.0 refl in
    rw (not-false (is_set a.here a.d) e.if-not-present.false-raw) (ap (λ (n : ℕ). ltb a.x n) n)

pub is_held_spec : {M : Type 1} → statement M
is_held_spec =
    tie.close
    (tie.spec (λ c. search rules) (λ c. rw (not-true (is_set c.args.here c.args.d) c.if-not-present.true-raw) refl)
    (λ c. search rules) (λ c κs. search rules) (λ c. search rules) (λ c. search rules) (λ c κs. search rules) returns-2)
