use mathlib.Core.Path.{refl, ◌∙◌}
use borrow.Author.Rules.{rules}
use Rattle.volume.proofs.stripes.put_unit.Statement.{statement}
use Rattle.volume.proofs.stripes.put_unit.Tie as tie

returns : tie.Need-returns-then-first
returns c = c.lay_unit.ensures ∙ rw c.if-first.true refl

returns-2 : tie.Need-returns
returns-2 c = c.add_unit.ensures ∙ rw c.if-first.false refl

pub put_unit_spec : {M : Type 1} → statement M
put_unit_spec = tie.close (tie.spec (λ c κs. search rules) (λ c. search rules) returns (λ c κs. search rules) (λ c. search rules) returns-2)
