use mathlib.Core.Path.{sym, ap, ◌∙◌}
use mathlib.Core.Bool.{Bool, ◌&&◌}
use lib.Dec.{eqb}
use lib.ListN.{get_or}
use Rattle.logs.specs.code.Lays.{mark_marked}
use borrow.Author.Rules.{rules}
use Rattle.logs.proofs.judging.is_mark.Statement.{statement}
use Rattle.logs.proofs.judging.is_mark.Tie as tie

returns : tie.Need-returns
returns c =
    let m = c.before.before.before in
    let s = m.before.before in
    let a = s.args in
    ap (λ (b : Bool). b && (eqb a.kind (get_or a.s.now 3 0) && (eqb 0 (get_or a.s.now 6 0) && eqb 0 (get_or a.s.now 7 0)))) m.is_marked-marked.ensures
    ∙ sym (mark_marked a.kind a.s.now s.requires)

pub is_mark_spec : {M : Type 1} → statement M
is_mark_spec =
    tie.close
    (tie.spec (λ c κs. search rules) (λ c. search rules) (λ c. search rules) (λ c. search rules) returns)
