use Rattle.std.proofs.Common.{◌∙◌, ℕ, eqb, arith}
use Rattle.volume.proofs.Ranges.{any_below-from_take}
use Rattle.volume.proofs.drives_lost.is_said.Goals as goal

pub returns : goal.returns
returns c = c.contains.ensures.value ∙ any_below-from_take (λ (x : ℕ). eqb x c.args.d) c.args.said c.args.g.drives (omega arith)
