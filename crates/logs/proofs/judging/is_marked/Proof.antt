use mathlib.Core.Path.{sym}
use Rattle.logs.specs.code.Lays.{marked_same}
use borrow.Author.Rules.{rules}
use Rattle.logs.proofs.judging.is_marked.Statement.{statement}
use Rattle.logs.proofs.judging.is_marked.Tie as tie

returns : tie.Need-returns
returns c = let s = c.before.before.before.before.before in sym (marked_same s.args.s.now s.requires)

pub is_marked_spec : {M : Type 1} → statement M
is_marked_spec =
    tie.close
    (tie.spec (λ c. search rules) (λ c. search rules) (λ c. search rules) (λ c. search rules) (λ c. search rules) (λ c. search rules)
    (λ c. search rules) (λ c. search rules) returns)
