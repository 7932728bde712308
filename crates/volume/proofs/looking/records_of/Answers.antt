use Rattle.std.proofs.Common.{ℕ, ◌<◌, get_or, arith, add-one}
use Rattle.volume.specs.checks.Records.{blank_look}
use Rattle.volume.specs.laws.StateHeld.{records_more}
use Rattle.volume.specs.looking.Looking.{record_of}
use Rattle.volume.proofs.looking.records_of.Goals as goal

pub loop-z-preserved : goal.loop-z-preserved
loop-z-preserved c =
    let h : c.loop-z.z < 16 = omega arith in
    rw (c.loop-z.invariant, add-one) (records_more (λ (i : ℕ). record_of (get_or c.args.shown i blank_look)) c.loop-z.z h)
