use mathlib.Core.Path.{◌≡◌, sym, ◌∙◌}
use native.Mathlib.Omega.{arith}
use Rattle.zrv.specs.laws.EdgeCalls.{state_kept, state_new}
use borrow.Author.Rules.{rules}
use Rattle.zrv.proofs.input.hand_back.Statement.{statement}
use Rattle.zrv.proofs.input.hand_back.Tie as tie

number-of-requires : tie.Need-number_of-n-requires
number-of-requires c κs = search rules

returns : tie.Need-returns-then-n-ne0
returns c =
    let a = c.args in
    let e = c.number_of-n.ensures in
    (e, state_kept a.g a.outcome a.bytes.now (λ h. c.if-n-ne0.true (e ∙ h)))

state-to-requires : tie.Need-state_to-requires
state-to-requires c κs = search rules

same_length : tie.Need-shape_of-bytes
same_length c = search rules

returns-2 : tie.Need-returns
returns-2 c =
    let a = c.args in
    let e = c.number_of-n.ensures in
    let z : c.number_of-n.result ≡ 0 = omega arith in
    (e, c.state_to.ensures ∙ state_new a.g a.outcome a.bytes.now (sym e ∙ z))

pub hand_back_spec : {M : Type 1} → statement M
hand_back_spec =
    tie.close (tie.spec number-of-requires returns state-to-requires same_length returns-2)
