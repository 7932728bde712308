use Rattle.std.proofs.Common.{◌≡◌, ℕ, ◌+◌, ◌*◌}
use Rattle.tables.specs.meaning.Below.{all_below}
use Rattle.zrv.specs.laws.StateForm.{record_fits}
use Rattle.zrv.proofs.state.records_fit.Given as goal

abbrev pub invariant-loop-z : goal.invariant-loop-z
invariant-loop-z l = l.ok ≡ all_below (λ (i : ℕ). record_fits l.most l.bytes (8 + 16 * i)) l.z
