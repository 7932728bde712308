use Rattle.std.proofs.Common.{ℕ}
use Rattle.volume.specs.checks.Records.{zone_look}
use Rattle.volume.specs.laws.FilledArrays.{FilledTo}
use Rattle.volume.proofs.records.generations_shown.Given as goal

abbrev pub invariant-loop-z : goal.invariant-loop-z
invariant-loop-z l = FilledTo (λ (y : ℕ). (zone_look l.look y).generation) 16 l.z l.generations
