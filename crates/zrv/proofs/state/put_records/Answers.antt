use Rattle.std.proofs.Common.{◌∙◌, add-one, arith}
use Rattle.zrv.specs.meaning.Bytes.{shares_part}
use Rattle.zrv.specs.laws.Bytes.{records_more}
use Rattle.zrv.proofs.state.put_records.Goals as goal

pub loop-z-preserved : goal.loop-z-preserved
loop-z-preserved c =
    let s = c.args.state in
    let l = c.loop-z in
    c.record_to.ensures ∙ rw (l.invariant, add-one) (records_more l.z s (shares_part 0 s) (omega arith))
