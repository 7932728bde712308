use borrow.Author.Rules.{rules}
use mathlib.Core.Path.{refl, sym, ◌∙◌}
use Rattle.logs.proofs.judging.fault_of.Statement.{statement}
use Rattle.logs.proofs.judging.fault_of.Tie as tie

returns : tie.Need-returns-then-marked
returns c = rw (sym c.is_marked-marked.ensures ∙ c.if-marked.true) refl

returns-2 : tie.Need-returns
returns-2 c = rw (sym c.is_marked-marked.ensures ∙ c.if-marked.false) refl

pub fault_of_spec : {M : Type 1} → statement M
fault_of_spec = tie.close (tie.spec (λ c κs. search rules) returns returns-2)
