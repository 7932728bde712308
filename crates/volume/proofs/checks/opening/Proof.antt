use mathlib.Core.Path.{◌≡◌, refl, sym, ap, ◌∙◌}
use mathlib.Core.Bool.{true, ◌&&◌}
use lib.ListN.{length}
use lib.Dec.{eqb}
use borrow.Author.Tests.{not-true, not-false, eqb-true}
use Rattle.tables.specs.laws.Basics.{and_split}
use Rattle.tables.specs.meaning.Geometry.{Valid, cells}
use Rattle.volume.specs.checks.CheckLaws.{opened_from, opened_from_lem, opening_1, opening_2, lengths_differ}
use Rattle.volume.proofs.checks.opening.Statement.{statement}
use Rattle.volume.proofs.checks.opening.Tie as tie

abbrev to_start : tie.Else-not-within → tie.Start
to_start c = c.before.before.before

returns : tie.Need-returns-then-not-within
returns c =
    let a = c.args in
    opening_1 a.g a.named a.within a.lost a.sizes.count a.sizes.bytes a.sizes.sectors a.written.now a.durable.now (not-true a.within c.if-not-within.true-raw)

within : (c : tie.Else-not-within) → (to_start c).args.within ≡ true
within c = not-false (to_start c).args.within c.if-not-within.false-raw

valid : (c : tie.Else-not-within) → Valid (to_start c).args.g
valid c = (to_start c).requires.valid (within c)

-- the lengths of the tables of pointers
fit_is : (c : tie.After-table_cells-n) → let a = (to_start c.before).args in
    eqb (length a.written.now) c.table_cells-n.result && eqb (length a.durable.now) c.table_cells-n.result ≡ eqb (length a.written.now) (cells a.g) && eqb (length a.durable.now) (cells a.g)
fit_is c = rw c.table_cells-n.ensures.0 refl

returns-2 : tie.Need-returns-then-not-fit
returns-2 c =
    let n = c.before in
    let a = (to_start n.before).args in
    opening_2 a.g a.named a.within a.lost a.sizes.count a.sizes.bytes a.sizes.sectors a.written.now a.durable.now (within n.before)
    (lengths_differ a.g a.sizes.sectors a.sizes.count a.sizes.bytes a.written.now a.durable.now (sym (fit_is n) ∙ not-true _ c.if-not-fit.true-raw))

sized : (c : tie.Else-not-fit) → let a = (to_start c.before.before).args in (length a.written.now ≡ cells a.g) × (length a.durable.now ≡ cells a.g)
sized c =
    let n = c.before in
    let a = (to_start n.before).args in
    let (x, y) = and_split (eqb (length a.written.now) (cells a.g)) (eqb (length a.durable.now) (cells a.g)) (sym (fit_is n) ∙ not-false _ c.if-not-fit.false-raw) in
    (eqb-true (length a.written.now) (cells a.g) x, eqb-true (length a.durable.now) (cells a.g) y)

returns-3 : tie.Need-returns
returns-3 c =
    let l = c.before.before in
    let e = l.before.before in
    let a = (to_start e).args in
    let (x, y) = sized l in
    c.opened.ensures
    ∙ ap (opened_from a.g a.named a.lost a.sizes.count a.sizes.bytes a.sizes.sectors) c.pointers_bad-bad.ensures
    ∙ opened_from_lem a.g a.named a.within a.lost a.sizes.count a.sizes.bytes a.sizes.sectors a.written.now a.durable.now (within e) x y

pub opening_spec : {M : Type 1} → statement M
opening_spec = tie.close (tie.spec returns (λ c κs. valid c) returns-2 (λ c κs. (valid c.before.before, sized c)) (λ c κs. valid c.before.before.before) returns-3)
