use Rattle.std.proofs.Common.{◌≡◌, ◌∙◌, refl, arith}
use Rattle.volume.specs.meaning.Rules.{generation_of}
use Rattle.volume.proofs.zone_looking.generation_of.Goals as goal

pub returns : goal.returns
unfolding generation_of
returns c = let e : c.loop-d.d ≡ c.args.g.drives = omega arith in c.loop-d.invariant ∙ rw e refl
