use Rattle.std.proofs.Common.{◌≡◌, ◌++◌, take}
use Rattle.zrv.specs.meaning.Bytes.{shares_part}
use Rattle.zrv.proofs.state.put_shares.Given as goal

abbrev pub invariant-loop-i : goal.invariant-loop-i
invariant-loop-i l = l.bytes ≡ take 264 l.fn.bytes ++ shares_part l.i l.state
