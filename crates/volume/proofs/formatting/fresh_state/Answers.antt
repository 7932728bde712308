use Rattle.std.proofs.Common.{◌<◌, arith, add-one}
use Rattle.volume.specs.meaning.CallContracts.{record_seen}
use Rattle.volume.specs.meaning.Calls.{format_state}
use Rattle.volume.specs.laws.StateHeld.{records_more}
use Rattle.volume.proofs.formatting.fresh_state.Goals as goal

pub loop-z-preserved : goal.loop-z-preserved
loop-z-preserved c =
    let h : c.loop-z.z < 16 = omega arith in
    rw (c.loop-z.invariant, add-one) (records_more (record_seen (format_state c.args.lost)) c.loop-z.z h)
