use Rattle.std.proofs.Common.{◌≡◌, Err, true, false, ℕ, ◌<◌, List, length, sym, ap, ◌∙◌, arith}
use Rattle.tables.specs.laws.Below.{length_tabulate}
use Rattle.logs.specs.declared.Fault.{Fault}
use Rattle.logs.specs.declared.WalkEnd.TheVariants.{NoEntry}
use Rattle.logs.specs.code.Steps.{step_end, step_bad, step_past, step_torn, step_whole}
use Rattle.logs.specs.code.WalkCode.{bad_seen}
use Rattle.logs.specs.code.ZoneWalk.{step_in_zone, sectors_in}
use Rattle.logs.proofs.walking.step_in_zone.Goals as goal

low : (B : ℕ) (xs : List ℕ) (n p : ℕ) → p < n → p < length (sectors_in B xs n)
low B xs n p h = rw length_tabulate h

pub returns-then-written-p : goal.returns-then-written-p
unfolding step_in_zone
returns-then-written-p c =
    let a = c.args in
    let e : a.p ≡ a.written = omega (arith, c.requires.1.1, c.if-written-p.true) in
    step_end a.g a.drive a.parity (sectors_in a.g.sector a.bytes.now a.written) a.p (rw length_tabulate e)

pub returns-then-bad : goal.returns-then-bad
unfolding step_in_zone
returns-then-bad c =
    let a = c.args in
    let j = c.judge_in_zone-f in
    let b : bad_seen j.result ≡ true = sym c.is_bad-bad.ensures ∙ c.if-bad.true in
    ap (λ (f : Fault). Err (NoEntry a.p f)) c.fault_in_zone-fault.ensures
    ∙ step_bad a.g a.drive a.parity (sectors_in a.g.sector a.bytes.now a.written) a.p j.result (low a.g.sector a.bytes.now a.written a.p (omega arith)) j.ensures b

pub returns-then-c-q : goal.returns-then-c-q
unfolding step_in_zone
returns-then-c-q c =
    let a = c.args in
    let j = c.judge_in_zone-f in
    let b : bad_seen j.result ≡ false = sym c.is_bad-bad.ensures ∙ c.if-bad.false in
    step_past a.g a.drive a.parity (sectors_in a.g.sector a.bytes.now a.written) a.p j.result (low a.g.sector a.bytes.now a.written a.p (omega arith)) j.ensures b (rw (← c.rows_of-rows.ensures.0) c.if-c-q.true)

pub returns-then-written-q : goal.returns-then-written-q
unfolding step_in_zone
returns-then-written-q c =
    let a = c.args in
    let j = c.judge_in_zone-f in
    let r = c.rows_of-rows.ensures.0 in
    let b : bad_seen j.result ≡ false = sym c.is_bad-bad.ensures ∙ c.if-bad.false in
    step_torn a.g a.drive a.parity (sectors_in a.g.sector a.bytes.now a.written) a.p j.result (low a.g.sector a.bytes.now a.written a.p (omega arith)) j.ensures b (rw (← r) c.if-c-q.false) (rw (← r, length_tabulate) c.if-written-q.true)

pub returns : goal.returns
unfolding step_in_zone
returns c =
    let a = c.args in
    let j = c.judge_in_zone-f in
    let r = c.rows_of-rows.ensures.0 in
    let b : bad_seen j.result ≡ false = sym c.is_bad-bad.ensures ∙ c.if-bad.false in
    rw r (step_whole a.g a.drive a.parity (sectors_in a.g.sector a.bytes.now a.written) a.p j.result (low a.g.sector a.bytes.now a.written a.p (omega arith)) j.ensures b (rw (← r) c.if-c-q.false) (rw (← r, length_tabulate) c.if-written-q.false))
