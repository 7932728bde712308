use mathlib.Core.Path.{refl}
use Rattle.zrv.specs.meaning.GroupedEdge.{segment_of}
use Rattle.zrv.proofs.segments.segment.Statement.{statement}
use Rattle.zrv.proofs.segments.segment.Tie as tie

returns : tie.Need-returns
unfolding segment_of
returns c = refl

pub segment_spec : {M : Type 1} → statement M
segment_spec = tie.close (tie.spec returns)
