use Rattle.std.proofs.Common.{◌≡◌, ℕ, not}
use Rattle.tables.specs.meaning.Drives.{find_below}
use Rattle.volume.specs.meaning.CallContracts.{is_set}
use Rattle.volume.proofs.checks.left_out.Given as goal

abbrev pub invariant-loop-d : goal.invariant-loop-d
invariant-loop-d l = l.x ≡ find_below (λ (i : ℕ). not (is_set l.here i)) l.d
