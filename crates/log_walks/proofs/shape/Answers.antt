use Rattle.log_walks.specs.Worked.{worked}
use Rattle.log_walks.proofs.shape.Goals as goal

pub returns : goal.returns
returns c = rw c.geometry_of.ensures worked
