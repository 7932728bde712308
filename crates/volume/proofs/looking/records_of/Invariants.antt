use Rattle.std.proofs.Common.{◌≡◌, ℕ, get_or}
use Rattle.volume.specs.meaning.CallContracts.{records_below}
use Rattle.volume.specs.checks.Records.{blank_look}
use Rattle.volume.specs.looking.Looking.{record_of}
use Rattle.volume.proofs.looking.records_of.Given as goal

abbrev pub invariant-loop-z : goal.invariant-loop-z
invariant-loop-z l = l.zones ≡ records_below (λ (i : ℕ). record_of (get_or l.shown i blank_look)) l.z
