use Prim.Native.Nat.{ℕ, ◌≤◌}
use mathlib.Core.Path.{◌≡◌, refl, sym, ap₂, ◌∙◌}
use mathlib.Core.Bool.{Bool, true, ◌&&◌, not}
use native.Mathlib.Omega.{arith}
use lib.Dec.{eqb}
use borrow.Author.Tests.{not-true, not-false, lt-ltb, le-ltb}
use borrow.Author.Rules.{rules}
use Rattle.tables.specs.meaning.Below.{count_below}
use Rattle.tables.specs.meaning.Geometry.{total_bytes}
use Rattle.tables.specs.meaning.Tables.{buffer_fits}
use Rattle.volume.specs.meaning.CallContracts.{is_set}
use Rattle.volume.specs.checks.CheckLaws.{present_list, opened_from}
use Rattle.volume.proofs.checks.opened.Statement.{statement}
use Rattle.volume.proofs.checks.opened.Tie as tie

abbrev to_start : tie.After-buffer_fits-buffer → tie.Start
to_start c = c.before.before

fit_is : (c : tie.After-buffer_fits-buffer) → let a = (to_start c).args in eqb a.sizes.sectors c.total_bytes-total.result && c.buffer_fits-buffer.result ≡ eqb a.sizes.sectors (total_bytes a.g) && buffer_fits a.g a.sizes.count a.sizes.bytes
fit_is c = ap₂ (λ (n : ℕ) (b : Bool). eqb (to_start c).args.sizes.sectors n && b) c.total_bytes-total.ensures c.buffer_fits-buffer.ensures

returns : tie.Need-returns-then-not-fit
unfolding opened_from
returns c = let e = sym (fit_is c.before) ∙ not-true _ c.if-not-fit.true-raw in rw e refl

fits : (c : tie.Else-not-fit) → let a = (to_start c.before).args in eqb a.sizes.sectors (total_bytes a.g) && buffer_fits a.g a.sizes.count a.sizes.bytes ≡ true
fits c = sym (fit_is c.before) ∙ not-false _ c.if-not-fit.false-raw

returns-2 : tie.Need-returns-then-bad
unfolding opened_from
returns-2 c = rw (fits c.before, c.if-bad.true) refl

absent : (c : tie.After-count_absent-absent) → let a = (to_start c.before.before.before.before).args in c.count_absent-absent.result ≡ count_below (λ (d : ℕ). not (is_set (present_list a.g a.named a.lost) d)) a.g.drives
absent c = c.count_absent-absent.ensures ∙ rw c.present_drives-here.ensures refl

returns-3 : tie.Need-returns-then-absent-gt1
unfolding opened_from
returns-3 c =
    let n = c.before in
    let l = n.before.before in
    let a = (to_start l.before.before).args in
    let e = lt-ltb 1 (count_below (λ (d : ℕ). not (is_set (present_list a.g a.named a.lost) d)) a.g.drives) (rw (absent n) at c.if-absent-gt1.true) in
    rw (fits l.before, l.if-bad.false, e) refl

returns-4 : tie.Need-returns
unfolding opened_from
returns-4 c =
    let n = c.before in
    let l = n.before.before in
    let a = (to_start l.before.before).args in
    let h : n.count_absent-absent.result ≤ 1 = omega arith in
    let e = le-ltb 1 (count_below (λ (d : ℕ). not (is_set (present_list a.g a.named a.lost) d)) a.g.drives) (rw (absent n) at h) in
    rw (fits l.before, l.if-bad.false, e) refl

pub opened_spec : {M : Type 1} → statement M
opened_spec = tie.close (tie.spec (λ c κs. search rules) (λ c κs. search rules) returns returns-2 (λ c κs. search rules) (λ c κs. search rules) returns-3 returns-4)
