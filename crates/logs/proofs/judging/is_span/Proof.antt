use Prim.Native.Nat.{◌-◌}
use lib.ListN.{length, replicate}
use mathlib.Core.Bool.{Bool, ◌&&◌}
use mathlib.Core.Path.{◌∙◌, sym, ap}
use Rattle.logs.specs.code.Lays.{zeros_from, frame_same}
use borrow.Author.Tests.{not-true, not-false}
use borrow.Author.Rules.{rules}
use Rattle.logs.proofs.judging.is_span.Statement.{statement}
use Rattle.logs.proofs.judging.is_span.Tie as tie

returns : tie.Need-returns-then-not-a
returns c =
    let p = c.before in
    let a = p.args in
    sym (frame_same a.kind a.start a.end a.generation (replicate (length a.s.now - 32) 0) a.s.now ∙ ap (λ (b : Bool). b && zeros_from a.s.now 32) (sym p.is_frame-a.ensures ∙ not-true p.is_frame-a.result c.if-not-a.true-raw))

returns-2 : tie.Need-returns
returns-2 c =
    let p = c.before.before in
    let a = p.args in
    c.zeros_from.ensures ∙ sym (frame_same a.kind a.start a.end a.generation (replicate (length a.s.now - 32) 0) a.s.now ∙ ap (λ (b : Bool). b && zeros_from a.s.now 32) (sym p.is_frame-a.ensures ∙ not-false p.is_frame-a.result c.if-not-a.false-raw))

pub is_span_spec : {M : Type 1} → statement M
is_span_spec = tie.close (tie.spec (λ c κs. search rules) returns (λ c κs. search rules) returns-2)
