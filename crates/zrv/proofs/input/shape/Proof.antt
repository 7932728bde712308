use borrow.Author.Rules.{rules}
use Rattle.zrv.specs.meaning.EdgeCalls.{shape_of}
use Rattle.zrv.proofs.input.shape.Statement.{statement}
use Rattle.zrv.proofs.input.shape.Tie as tie

returns : tie.Need-returns
unfolding shape_of
returns c = c.geometry_of.ensures

pub shape_spec : {M : Type 1} → statement M
shape_spec = tie.close (tie.spec (λ c κs. search rules) returns)
