use mathlib.Core.Path.{ap, ◌∙◌}
use Prim.Native.Nat.{ℕ, ◌<◌}
use native.Mathlib.Omega.{arith}
use lib.Dec.{eqb}
use Rattle.tables.specs.meaning.Basics.{pick}
use Rattle.tables.specs.meaning.Geometry.{max_zones}
use Rattle.volume.specs.declared.Answer.TheVariants.{Finished, Unfinished}
use Rattle.volume.specs.declared.Outcome.{Outcome}
use Rattle.volume.specs.declared.State.{State}
use Rattle.volume.specs.meaning.Calls.{reset_state}
use Rattle.volume.specs.meaning.CallContracts.{view_state, state_held}
use Rattle.volume.specs.laws.StateHeld.{Sixteen, held_reset}
use borrow.Author.Rules.{rules}
use Rattle.volume.proofs.resetting.outcome.Statement.{statement}
use Rattle.volume.proofs.resetting.outcome.Tie as tie

returns : tie.Need-returns
returns c =
    let s = c.before.before.before.before.before.before.before in
    let a = s.args in
    let x = c.before.before.before.before.before.left_out-lost in
    let long : Sixteen a.state = record { records = s.well_formed.1.0.1.1.1.0.1.0.1; shares = s.well_formed.1.0.1.1.1.1.0.1.0.1 } in
    let h : a.zone.number < 16 = omega (arith, s.requires.1.0, s.requires.0.zones_most) in
    let ending : State → Outcome = λ t. pick (eqb a.rest 0) (record { answer = Unfinished; state = a.state }) (record { answer = Finished; state = t }) in
    c.ended.ensures ∙ ap ending (rw c.reset_record.ensures (held_reset a.state x.result a.zone.number long h) ∙ ap (λ (y : ℕ). state_held max_zones (reset_state y (view_state a.state) a.zone.number)) x.ensures)

pub outcome_spec : {M : Type 1} → statement M
outcome_spec =
    tie.close
    (tie.spec (λ c κs. search rules) (λ c. search rules) (λ c. search rules) (λ c κs. search rules) (λ c. search rules) (λ c. search rules) (λ c κs. search rules) returns)
