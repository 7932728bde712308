use Rattle.logs.specs.code.JudgeMore.{counters_same}
use Rattle.logs.specs.code.Lays.{zeros_from}
use mathlib.Core.Bool.{Bool, ◌&&◌}
use Prim.Native.Nat.{◌+◌, ◌*◌}
use borrow.Author.Tests.{not-true, not-false}
use mathlib.Core.Path.{◌∙◌, sym, ap}
use native.Mathlib.Omega.{arith}
use borrow.Author.Rules.{rules}
use Rattle.logs.proofs.judging.is_counters.Statement.{statement}
use Rattle.logs.proofs.judging.is_counters.Tie as tie

returns : tie.Need-returns-then-not-a
returns c =
    let p = c.before in
    let s = p.before.before in
    let a = s.args in
    sym (counters_same a.g a.s.now a.drive (λ i. (p.shared_slice_known-1.given i).fits) s.requires.1 (omega (arith, s.requires.1, s.requires.0.sector_least, s.requires.0.zones_most)) ∙ ap (λ (b : Bool). b && zeros_from a.s.now (32 + 8 * a.g.zones)) (sym p.is_frame-a.ensures ∙ not-true p.is_frame-a.result c.if-not-a.true-raw))

returns-2 : tie.Need-returns
returns-2 c =
    let p = c.before.before in
    let s = p.before.before in
    let a = s.args in
    c.zeros_from.ensures ∙ sym (counters_same a.g a.s.now a.drive (λ i. (p.shared_slice_known-1.given i).fits) s.requires.1 (omega (arith, s.requires.1, s.requires.0.sector_least, s.requires.0.zones_most)) ∙ ap (λ (b : Bool). b && zeros_from a.s.now (32 + 8 * a.g.zones)) (sym p.is_frame-a.ensures ∙ not-false p.is_frame-a.result c.if-not-a.false-raw))

pub is_counters_spec : {M : Type 1} → statement M
is_counters_spec =
    tie.close
    (tie.spec (λ c κs. search rules) returns (λ c. search rules) (λ c. search rules) (λ c κs. search rules) returns-2)
