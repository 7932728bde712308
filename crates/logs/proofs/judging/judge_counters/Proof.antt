use Rattle.logs.specs.code.JudgeMore.{as_counters, fields_counters, counters_fit}
use Rattle.logs.specs.code.Judge.{judged_unfit, judged_other, judged_legal}
use borrow.Author.Tests.{not-true, not-false}
use mathlib.Core.Bool.{not}
use mathlib.Core.Path.{◌∙◌, sym, ap}
use borrow.Author.Rules.{rules}
use Rattle.logs.proofs.judging.judge_counters.Statement.{statement}
use Rattle.logs.proofs.judging.judge_counters.Tie as tie

returns : tie.Need-returns-then-parity
returns c =
    let s = c.before.before in
    let a = s.args in
    judged_unfit a.g a.drive a.parity a.s.now (as_counters a.g a.s.now) (fields_counters a.g a.s.now s.requires.1.1) (counters_fit a.g a.s.now a.drive a.parity ∙ ap not c.if-parity.true)

returns-2 : tie.Need-returns-then-not-ok
returns-2 c =
    let p = c.before in
    let s = p.before.before.before in
    let a = s.args in
    judged_other a.g a.drive a.parity a.s.now (as_counters a.g a.s.now) (fields_counters a.g a.s.now s.requires.1.1) (sym p.is_counters-ok.ensures ∙ not-true p.is_counters-ok.result c.if-not-ok.true-raw)

returns-3 : tie.Need-returns
returns-3 c =
    let p = c.before in
    let s = p.before.before.before in
    let a = s.args in
    judged_legal a.g a.drive a.parity a.s.now (as_counters a.g a.s.now) (fields_counters a.g a.s.now s.requires.1.1) (sym p.is_counters-ok.ensures ∙ not-false p.is_counters-ok.result c.if-not-ok.false-raw) (counters_fit a.g a.s.now a.drive a.parity ∙ ap not p.if-parity.false)

pub judge_counters_spec : {M : Type 1} → statement M
judge_counters_spec = tie.close (tie.spec returns (λ c κs. search rules) returns-2 returns-3)
