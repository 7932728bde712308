use native.Mathlib.Omega.{arith}
use Rattle.tables.specs.laws.LittleEndian.{stores}
use mathlib.Core.List.{[], ◌∷◌}
use lib.ListN.{length-set}
use borrow.Author.Rules.{rules}
use Rattle.logs.proofs.headers.write_mark.Statement.{statement}
use Rattle.logs.proofs.headers.write_mark.Tie as tie

returns : tie.Need-returns
returns c = stores c.args.out.now 0 90 (82 ∷ 86 ∷ c.args.kind ∷ 1 ∷ 0 ∷ 0 ∷ 0 ∷ []) c.requires

pub write_mark_spec : {M : Type 1} → statement M
write_mark_spec =
    tie.close
    (tie.spec (λ c. search rules) (λ c. search rules) (λ c. search rules) (λ c. simp length-set (omega arith)) (λ c. search rules)
    (λ c. simp length-set (omega arith)) (λ c. simp length-set (omega arith)) (λ c. simp length-set (omega arith))
    (λ c. simp length-set (omega arith)) (λ c. simp length-set (omega arith)) (λ c. simp length-set (omega arith)) (λ c. simp length-set) returns)
