use Rattle.std.proofs.Common.{◌≡◌, ℕ, ◌+◌, ◌*◌, refl, add-one, arith}
use Rattle.volume.specs.laws.StateHeld.{records_none, records_more}
use Rattle.zrv.specs.meaning.Bytes.{record_from, state_from}
use Rattle.zrv.proofs.state.state_from.Goals as goal

pub loop-z-init : goal.loop-z-init
loop-z-init c = rw c.blank_record-zones.ensures (records_none (λ (i : ℕ). record_from c.args.bytes.now (8 + 16 * i)))

pub loop-z-preserved : goal.loop-z-preserved
loop-z-preserved c =
    let l = c.loop-z in
    rw (l.invariant, c.record_from.ensures, add-one) (records_more (λ (i : ℕ). record_from c.args.bytes.now (8 + 16 * i)) l.z (omega arith))

pub returns : goal.returns
unfolding state_from
returns c =
    let l = c.loop-z in
    let e : l.z ≡ c.args.g.zones = omega arith in
    rw (c.read_u64-lost.ensures, c.shares_from-shares.ensures, l.invariant, e) refl
