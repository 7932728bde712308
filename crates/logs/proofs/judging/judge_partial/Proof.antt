use Rattle.tables.specs.laws.Sizes.{zone_small, stripe_small}
use Rattle.logs.specs.code.Judge.{judged_unfit, judged_other, judged_legal, start_small, fields_partial, partial_small, stripe_within}
use Rattle.logs.specs.meaning.Entry.{Header, encode, fits_log, read_fields, partial_parity}
use Rattle.tables.specs.meaning.LittleEndian.{same_bytes}
use mathlib.Core.Bool.{true}
use mathlib.Core.Path.{◌≡◌, ◌∙◌, sym, subst}
use Prim.Native.Nat.{ℕ, ◌*◌, ◌/◌, ◌%◌, ◌≤◌}
use borrow.Author.Tests.{not-true, not-false}
use native.Mathlib.Omega.{arith}
use borrow.Author.Rules.{rules}
use Rattle.logs.proofs.judging.judge_partial.Statement.{statement}
use Rattle.logs.proofs.judging.judge_partial.Tie as tie

abbrev start : tie.After-partial_fits-fit → tie.Start
start p = p.before.before.before.before.before.before.before.before

-- the header that the code has read
abbrev zone : tie.After-partial_fits-fit → ℕ
zone p = p.read_u64-first.result / p.zone_sectors-q.result

abbrev stripe : tie.After-partial_fits-fit → ℕ
stripe p = p.read_u64-first.result % p.zone_sectors-q.result / p.stripe_sectors-k.result

abbrev fill : tie.After-partial_fits-fit → ℕ
fill p = p.saturating_sub-f.result

abbrev header : tie.After-partial_fits-fit → Header
header p = partial_parity (zone p) (stripe p) (fill p) p.read_u64-generation.result

read_is : (p : tie.After-partial_fits-fit) → read_fields (start p).args.g (start p).args.s.now ≡ header p
read_is p = let s = start p in fields_partial s.args.g s.args.s.now s.requires.1.1 ∙ cc (p.zone_sectors-q.ensures.0, p.stripe_sectors-k.ensures.0, p.saturating_sub-f.ensures, p.read_u64-first.ensures, p.read_u64.ensures, p.read_u64-generation.ensures)

fit-true : (c : tie.Else-not-fit) → fits_log (start c.before).args.g (start c.before).args.drive (start c.before).args.parity (header c.before) ≡ true
fit-true c = sym c.partial_fits-fit.ensures ∙ not-false c.partial_fits-fit.result c.if-not-fit.false-raw

-- its numbers are small
small : (c : tie.Else-not-fit) → (zone c.before * c.zone_sectors-q.result ≤ 7340032) × (stripe c.before * c.stripe_sectors-k.result ≤ 458752) × (fill c.before ≤ 112)
small c =
    let s = start c.before in
    let h = partial_small s.args.g s.args.drive s.args.parity (zone c.before) (stripe c.before) (fill c.before) c.read_u64-generation.result (fit-true c) in (
      start_small s.args.g (zone c.before) c.zone_sectors-q.result s.requires.0 h.0 c.zone_sectors-q.ensures.2,
      subst (λ (m : ℕ). stripe c.before * m ≤ 458752) (sym c.stripe_sectors-k.ensures.0) (omega (arith, h.1, (zone_small s.args.g s.requires.0).1)),
      omega (arith, h.2, stripe_small s.args.g s.requires.0),
    )

span-is : (c : tie.After-is_span-ok) → c.is_span-ok.result ≡ same_bytes (encode (start c.before.before).args.g (start c.before.before).args.drive (header c.before.before)) (start c.before.before).args.s.now
unfolding encode
span-is c = let p = c.before.before in c.is_span-ok.ensures ∙ cc (p.zone_sectors-q.ensures.0, p.stripe_sectors-k.ensures.0, (start p).requires.1.0)

returns : tie.Need-returns-then-not-fit
returns c =
    let p = c.before in
    let a = (start p).args in
    judged_unfit a.g a.drive a.parity a.s.now (header p) (read_is p) (sym p.partial_fits-fit.ensures ∙ not-true p.partial_fits-fit.result c.if-not-fit.true-raw)

partial-fits-requires : tie.Need-partial_fits-fit-requires
partial-fits-requires c κs =
    let s = c.before.before.before.before.before.before.before in
    (s.requires.0, rw (c.zone_sectors-q.ensures.0, c.stripe_sectors-k.ensures.0) (stripe_within s.args.g c.read_u64-first.result s.requires.0))

returns-2 : tie.Need-returns-then-not-ok
returns-2 c =
    let p = c.before.before.before in
    let a = (start p).args in
    judged_other a.g a.drive a.parity a.s.now (header p) (read_is p) (sym (span-is c.before) ∙ not-true c.is_span-ok.result c.if-not-ok.true-raw)

returns-3 : tie.Need-returns
returns-3 c =
    let p = c.before.before.before in
    let a = (start p).args in
    judged_legal a.g a.drive a.parity a.s.now (header p) (read_is p) (sym (span-is c.before) ∙ not-false c.is_span-ok.result c.if-not-ok.false-raw) (fit-true c.before.before)

pub judge_partial_spec : {M : Type 1} → statement M
judge_partial_spec =
    tie.close
    (tie.spec (λ c κs. search rules) (λ c κs. search rules) (λ c κs. search rules) (λ c. search rules) (λ c. search rules) (λ c. search rules)
    (λ c κs. search rules) (λ c κs. search rules) (λ c κs. search rules) partial-fits-requires returns (λ c. omega (arith, (small c).0))
    (λ c. omega (arith, (small c).1)) (λ c. let k = small c in omega (arith, k.0, k.1)) (λ c. let k = small c in omega (arith, k.0, k.1, k.2))
    (λ c κs. search rules) returns-2 returns-3)
