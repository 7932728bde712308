use Rattle.tables.specs.laws.LittleEndian.{stores}
use Rattle.tables.specs.meaning.Geometry.{log2}
use mathlib.Core.List.{[], ◌∷◌}
use lib.ListN.{length-set}
use native.Mathlib.Omega.{arith}
use borrow.Author.Rules.{rules}
use Rattle.logs.proofs.headers.write_label_start.Statement.{statement}
use Rattle.logs.proofs.headers.write_label_start.Tie as tie

returns : tie.Need-returns
returns c = let s = c.before.before in let a = s.args in rw c.size_power-p.ensures (stores a.out.now 32 a.g.drives (a.g.unit ∷ log2 a.g.sector ∷ a.drive ∷ a.lost ∷ 0 ∷ 0 ∷ 0 ∷ []) s.requires.1.0)

pub write_label_start_spec : {M : Type 1} → statement M
write_label_start_spec =
    tie.close
    (tie.spec (λ c κs. search rules) (λ c. search rules) (λ c. search rules) (λ c. search rules) (λ c. simp length-set (omega arith))
    (λ c. simp length-set (omega arith)) (λ c. search rules) (λ c. simp length-set (omega arith)) (λ c. search rules)
    (λ c. simp length-set (omega arith)) (λ c. simp length-set (omega arith)) (λ c. simp length-set (omega arith))
    (λ c. simp length-set (omega arith)) (λ c. search rules) returns)
