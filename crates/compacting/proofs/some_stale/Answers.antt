use Rattle.std.proofs.Common.{arith}
use Rattle.volume.specs.checks.ZoneChecks.{pointer_within}
use Rattle.compacting.proofs.some_stale.Goals as goal

pub is_stale-stale-requires-clause-written_len : goal.is_stale-stale-requires-clause-written_len
is_stale-stale-requires-clause-written_len c =
    let r = c.requires.written_len in
    (r.0, omega arith, pointer_within c.args.g c.args.state c.loop-z.z r.1 (omega arith))
