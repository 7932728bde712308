use mathlib.Core.Path.{refl, ◌∙◌}
use Rattle.volume.specs.looking.DrivesLost.{no_array}
use borrow.Author.Rules.{rules}
use Rattle.volume.proofs.drives_lost.look_array.Statement.{statement}
use Rattle.volume.proofs.drives_lost.look_array.Tie as tie

returns : tie.Need-returns-then-n-d
returns c = let s = c.before.before.before.before in let a = s.args in rw (← c.last_present-d.ensures) (no_array a.g a.sectors.now a.written.now c.last_present-d.result c.if-n-d.true)

pub look_array_spec : {M : Type 1} → statement M
look_array_spec = tie.close (tie.spec (λ c κs. search rules) returns (λ c κs. search rules) (λ c. c.first_array.ensures ∙ rw c.last_present-d.ensures refl))
