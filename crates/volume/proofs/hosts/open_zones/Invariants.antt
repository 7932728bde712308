use Rattle.std.proofs.Common.{◌≡◌, ◌≤◌, ℕ}
use Rattle.tables.specs.meaning.Below.{count_below}
use Rattle.volume.specs.meaning.CallContracts.{record_at}
use Rattle.volume.specs.writing.Allowances.{counts_within, counts_at}
use Rattle.volume.proofs.hosts.open_zones.Given as goal

abbrev pub invariant-loop-z : goal.invariant-loop-z
invariant-loop-z l =
    (l.own ≤ l.z) × (l.all ≤ l.z)
    × (l.own ≡ count_below (λ (i : ℕ). counts_at l.most l.host (record_at l.state i)) l.z) × (l.all ≡ count_below (λ (i : ℕ). counts_within l.most (record_at l.state i).condition) l.z)
