use Rattle.std.proofs.Common.{◌≡◌, ◌≤◌, ◌*◌, ℕ, get_or}
use Rattle.tables.specs.meaning.Below.{sum_below}
use Rattle.volume.specs.emptying.ParityCopies.{size_at}
use Rattle.volume.proofs.emptying_parity.parity_size.Given as goal

abbrev pub invariant-loop-z : goal.invariant-loop-z
invariant-loop-z l = (l.total ≤ l.z * 17) × (l.total ≡ sum_below (λ (i : ℕ). size_at l.g l.drive i (get_or l.points i 0)) l.z)
