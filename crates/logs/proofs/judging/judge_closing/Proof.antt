use Rattle.logs.specs.code.Judge.{judged_unfit, judged_other, judged_legal, fields_closing}
use Rattle.logs.specs.meaning.Entry.{Header, closing, encode, fits_log, read_fields}
use Rattle.tables.specs.meaning.LittleEndian.{same_bytes}
use mathlib.Core.Bool.{Bool, ◌&&◌}
use mathlib.Core.Path.{◌≡◌, ◌∙◌, refl, sym, ap}
use Prim.Native.Nat.{ℕ}
use lib.Dec.{eqb, ltb}
use borrow.Author.Tests.{not-true, not-false}
use borrow.Author.Rules.{rules}
use Rattle.logs.proofs.judging.judge_closing.Statement.{statement}
use Rattle.logs.proofs.judging.judge_closing.Tie as tie

abbrev start : tie.After-read_u64-generation → tie.Start
start p = p.before.before.before.before

-- the header that the code has read
abbrev header : tie.After-read_u64-generation → Header
header p = closing p.read_u64-kind.result p.read_u64-generation.result

read_is : (p : tie.After-read_u64-generation) → read_fields (start p).args.g (start p).args.s.now ≡ header p
read_is p = let s = start p in fields_closing s.args.g s.args.s.now s.requires.1.1 ∙ cc (p.read_u64-kind.ensures, p.read_u64-generation.ensures)

-- what the code has tested of its numbers
abbrev tested : tie.After-read_u64-generation → Bool
tested p = eqb p.read_u64-kind.result p.kind_of_log-own.result && ltb 0 p.read_u64-generation.result

fit_is : (p : tie.After-read_u64-generation) → fits_log (start p).args.g (start p).args.drive (start p).args.parity (header p) ≡ tested p
fit_is p = ap (λ (k : ℕ). eqb p.read_u64-kind.result k && ltb 0 p.read_u64-generation.result) (sym p.kind_of_log-own.ensures)

span-is : (c : tie.After-is_span-ok) → c.is_span-ok.result ≡ same_bytes (encode (start c.before.before).args.g (start c.before.before).args.drive (header c.before.before)) (start c.before.before).args.s.now
unfolding encode
span-is c = c.is_span-ok.ensures ∙ rw (start c.before.before).requires.1.0 refl

returns : tie.Need-returns-then-not-fit
returns c =
    let p = c.before in
    let a = (start p).args in
    judged_unfit a.g a.drive a.parity a.s.now (header p) (read_is p) (fit_is p ∙ not-true (tested p) c.if-not-fit.true-raw)

returns-2 : tie.Need-returns-then-not-ok
returns-2 c =
    let p = c.before.before.before in
    let a = (start p).args in
    judged_other a.g a.drive a.parity a.s.now (header p) (read_is p) (sym (span-is c.before) ∙ not-true c.is_span-ok.result c.if-not-ok.true-raw)

returns-3 : tie.Need-returns
returns-3 c =
    let p = c.before.before.before in
    let a = (start p).args in
    judged_legal a.g a.drive a.parity a.s.now (header p) (read_is p) (sym (span-is c.before) ∙ not-false c.is_span-ok.result c.if-not-ok.false-raw) (fit_is p ∙ not-false (tested p) c.if-not-fit.false-raw)

pub judge_closing_spec : {M : Type 1} → statement M
judge_closing_spec =
    tie.close
    (tie.spec (λ c κs. search rules) (λ c κs. search rules) (λ c κs. search rules) returns (λ c κs. search rules) returns-2 returns-3)
