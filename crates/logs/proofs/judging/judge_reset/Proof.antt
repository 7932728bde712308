use Rattle.logs.specs.code.Judge.{judged_unfit, judged_other, judged_legal, start_small, fields_reset, reset_small}
use Rattle.logs.specs.meaning.Entry.{Header, encode, fits_log, read_fields, zone_reset}
use Rattle.tables.specs.meaning.LittleEndian.{same_bytes}
use mathlib.Core.Bool.{true}
use mathlib.Core.Path.{◌≡◌, ◌∙◌, sym}
use Prim.Native.Nat.{ℕ, ◌*◌, ◌/◌, ◌≤◌}
use borrow.Author.Tests.{not-true, not-false}
use native.Mathlib.Omega.{arith}
use borrow.Author.Rules.{rules}
use Rattle.logs.proofs.judging.judge_reset.Statement.{statement}
use Rattle.logs.proofs.judging.judge_reset.Tie as tie

abbrev start : tie.After-reset_fits-fit → tie.Start
start p = p.before.before.before.before.before

-- the header that the code has read
abbrev zone : tie.After-reset_fits-fit → ℕ
zone p = p.read_u64.result / p.zone_sectors-q.result

abbrev header : tie.After-reset_fits-fit → Header
header p = zone_reset (zone p) p.read_u64-generation.result

read_is : (p : tie.After-reset_fits-fit) → read_fields (start p).args.g (start p).args.s.now ≡ header p
read_is p = let s = start p in fields_reset s.args.g s.args.s.now s.requires.1.1 ∙ cc (p.zone_sectors-q.ensures.0, p.read_u64.ensures, p.read_u64-generation.ensures)

fit-true : (c : tie.Else-not-fit) → fits_log (start c.before).args.g (start c.before).args.drive (start c.before).args.parity (header c.before) ≡ true
fit-true c = sym c.reset_fits-fit.ensures ∙ not-false c.reset_fits-fit.result c.if-not-fit.false-raw

-- its zone's first sector has a small number
product : (c : tie.Else-not-fit) → zone c.before * c.zone_sectors-q.result ≤ 7340032
product c =
    let s = start c.before in
    let h = reset_small s.args.g s.args.drive s.args.parity (zone c.before) c.read_u64-generation.result (fit-true c) in
    start_small s.args.g (zone c.before) c.zone_sectors-q.result s.requires.0 h c.zone_sectors-q.ensures.2

span-is : (c : tie.After-is_span-ok) → c.is_span-ok.result ≡ same_bytes (encode (start c.before.before).args.g (start c.before.before).args.drive (header c.before.before)) (start c.before.before).args.s.now
unfolding encode
span-is c = let p = c.before.before in c.is_span-ok.ensures ∙ cc (p.zone_sectors-q.ensures.0, (start p).requires.1.0)

returns : tie.Need-returns-then-not-fit
returns c =
    let p = c.before in
    let a = (start p).args in
    judged_unfit a.g a.drive a.parity a.s.now (header p) (read_is p) (sym p.reset_fits-fit.ensures ∙ not-true p.reset_fits-fit.result c.if-not-fit.true-raw)

add-end : tie.Need-overflow_add-end
add-end c = omega (arith, product c, c.zone_sectors-q.ensures.2)

returns-2 : tie.Need-returns-then-not-ok
returns-2 c =
    let p = c.before.before.before in
    let a = (start p).args in
    judged_other a.g a.drive a.parity a.s.now (header p) (read_is p) (sym (span-is c.before) ∙ not-true c.is_span-ok.result c.if-not-ok.true-raw)

returns-3 : tie.Need-returns
returns-3 c =
    let p = c.before.before.before in
    let a = (start p).args in
    judged_legal a.g a.drive a.parity a.s.now (header p) (read_is p) (sym (span-is c.before) ∙ not-false c.is_span-ok.result c.if-not-ok.false-raw) (fit-true c.before.before)

pub judge_reset_spec : {M : Type 1} → statement M
judge_reset_spec =
    tie.close
    (tie.spec (λ c κs. search rules) (λ c κs. search rules) (λ c. search rules) (λ c κs. search rules) (λ c κs. search rules) returns
    (λ c. omega (arith, product c)) add-end (λ c κs. search rules) returns-2 returns-3)
