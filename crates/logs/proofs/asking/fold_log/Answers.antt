use Rattle.std.proofs.Common.{sym, ◌∙◌, arith}
use Rattle.logs.specs.code.QueryLaws.{whole_small}
use Rattle.logs.specs.code.Folding.{fold_left, fold_whole}
use Rattle.logs.specs.code.Steps.{sectors_of_log, low_in_log, climbs_in_log}
use Rattle.logs.proofs.asking.fold_log.Goals as goal

pub step-x-requires : goal.step-x-requires
step-x-requires g c =
    let a = c.args in
    let l = c.loop-f in
    let k = climbs_in_log a.g a.log a.parity a.sectors.now l.p l.invariant.within c.in-Ok.f c.in-Ok.q (sym c.in-Ok.ensures) in
    c.requires.callable l.x l.p c.in-Ok.f
    (omega (arith, k.0, k.1, c.requires.in_log.short, c.requires.valid.zone_most))
    (whole_small a.g a.log.drive a.parity (sectors_of_log a.g a.log a.sectors.now) l.p (low_in_log a.g a.log a.sectors.now l.p l.invariant.within) c.in-Ok.f c.in-Ok.q (sym c.in-Ok.ensures))

pub loop-f-smaller : goal.loop-f-smaller
loop-f-smaller g c =
    let a = c.args in
    let k = climbs_in_log a.g a.log a.parity a.sectors.now c.loop-f.p c.loop-f.invariant.within c.in-Ok.f c.in-Ok.q (sym c.in-Ok.ensures) in
    omega (arith, k.0, k.1)

pub loop-f-preserved : goal.loop-f-preserved
loop-f-preserved g c =
    let a = c.args in
    let l = c.loop-f in
    let ss = sectors_of_log a.g a.log a.sectors.now in
    let low = low_in_log a.g a.log a.sectors.now l.p l.invariant.within in
    let k = climbs_in_log a.g a.log a.parity a.sectors.now l.p l.invariant.within c.in-Ok.f c.in-Ok.q (sym c.in-Ok.ensures) in
    record {
      within = k.1;
      same = λ run runs.
          let small = whole_small a.g a.log.drive a.parity ss l.p low c.in-Ok.f c.in-Ok.q (sym c.in-Ok.ensures) in
          let e = fold_whole a.g a.log.drive a.parity ss run l.p l.x low c.in-Ok.f c.in-Ok.q (sym c.in-Ok.ensures) in
          let y = runs l.x l.p c.in-Ok.f c.step-x.result (omega (arith, k.0, k.1, c.requires.in_log.short, c.requires.valid.zone_most)) small c.step-x.ensures in
          rw (← y) at (sym e) ∙ l.invariant.same run runs;
    }

pub returns : goal.returns
returns g c = λ run runs.
    let a = c.args in
    let l = c.loop-f in
    sym (fold_left a.g a.log.drive a.parity (sectors_of_log a.g a.log a.sectors.now) run l.p l.x (low_in_log a.g a.log a.sectors.now l.p l.invariant.within) c.in_default.field-0 (sym c.in_default.ensures)) ∙ l.invariant.same run runs
