use Rattle.logs.specs.code.JudgeMore.{fields_label}
use Rattle.logs.specs.code.Judge.{judged_unfit, judged_other, judged_legal}
use Rattle.logs.specs.meaning.Entry.{Header, fits_log, read_fields, label}
use borrow.Author.Tests.{not-true, not-false}
use mathlib.Core.Path.{◌≡◌, ◌∙◌, sym}
use borrow.Author.Rules.{rules}
use Rattle.logs.proofs.judging.judge_label.Statement.{statement}
use Rattle.logs.proofs.judging.judge_label.Tie as tie

abbrev start : tie.After-read_u64-array → tie.Start
start p = p.before.before.before.before

-- the header that the code has read
abbrev header : tie.After-read_u64-array → Header
header p = label p.byte_value-lost.result p.read_u64-array.result

read_is : (p : tie.After-read_u64-array) → read_fields (start p).args.g (start p).args.s.now ≡ header p
read_is p =
    let s = start p in
    let k = s.requires.1.1 in
    fields_label s.args.g s.args.s.now k.0 k.1 k.2 k.3 k.4 ∙ cc (p.byte_value-lost.ensures.0, p.read_u64-array.ensures)

returns : tie.Need-returns-then-not-fit
returns c =
    let p = c.before in
    let a = (start p).args in
    judged_unfit a.g a.drive a.parity a.s.now (header p) (read_is p) (not-true (fits_log a.g a.drive a.parity (header p)) c.if-not-fit.true-raw)

returns-2 : tie.Need-returns-then-not-ok
returns-2 c =
    let p = c.before.before.before in
    let a = (start p).args in
    judged_other a.g a.drive a.parity a.s.now (header p) (read_is p) (sym c.is_label-ok.ensures ∙ not-true c.is_label-ok.result c.if-not-ok.true-raw)

returns-3 : tie.Need-returns
returns-3 c =
    let p = c.before.before.before in
    let a = (start p).args in
    judged_legal a.g a.drive a.parity a.s.now (header p) (read_is p) (sym c.is_label-ok.ensures ∙ not-false c.is_label-ok.result c.if-not-ok.false-raw) (not-false (fits_log a.g a.drive a.parity (header p)) c.if-not-fit.false-raw)

pub judge_label_spec : {M : Type 1} → statement M
judge_label_spec =
    tie.close
    (tie.spec (λ c. search rules) (λ c κs. search rules) (λ c κs. search rules) returns (λ c κs. search rules) returns-2 returns-3)
