use Rattle.std.proofs.Common.{◌≡◌, ◌++◌}
use Rattle.zrv.specs.meaning.Bytes.{records_part, shares_part}
use Rattle.zrv.proofs.state.put_records.Given as goal

abbrev pub invariant-loop-z : goal.invariant-loop-z
invariant-loop-z l = l.bytes ≡ records_part l.z l.state ++ shares_part 0 l.state
