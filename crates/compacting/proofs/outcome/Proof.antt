use mathlib.Core.Path.{ap, ap₂, ◌∙◌}
use Prim.Native.Nat.{ℕ}
use mathlib.Core.List.{List}
use native.Mathlib.Omega.{arith}
use lib.Dec.{eqb}
use Rattle.tables.specs.meaning.Basics.{pick}
use Rattle.volume.specs.declared.State.{State}
use Rattle.volume.specs.declared.Outcome.{Outcome}
use Rattle.volume.specs.declared.Answer.TheVariants.{Finished, Unfinished}
use Rattle.volume.specs.laws.StateHeld.{Sixteen}
use Rattle.compacting.specs.Compacting.{renewed_list, ended_with, ended_state}
use borrow.Author.Rules.{rules}
use Rattle.compacting.proofs.outcome.Statement.{statement}
use Rattle.compacting.proofs.outcome.Tie as tie

sixteen : (s : tie.Start) → Sixteen s.args.state
sixteen s = record { records = s.well_formed.1.0.1.1.1.0.1.0.1; shares = s.well_formed.1.0.1.1.1.1.0.1.0.1 }

returns : tie.Need-returns
unfolding ended_with
returns c =
    let s = c.before.before.before.before.before.before.before.before in
    let a = s.args in
    let next : ℕ → List ℕ → State = λ x ns. record { lost = x; zones = a.state.zones; shares = ns } in
    let ended : State → Outcome = λ t. pick (eqb a.rest 0) (record { answer = Unfinished; state = a.state }) (record { answer = Finished; state = t }) in
    let shares = c.renewed-shares.ensures ∙ ap (renewed_list a.state.shares a.job.drive) c.new_share-share.ensures in
    c.ended.ensures ∙ ap ended (ap₂ next c.left_out-lost.ensures shares ∙ ended_state a.job a.state (sixteen s) (omega (arith, s.requires.1.0, s.requires.0.drives_most)))

pub outcome_spec : {M : Type 1} → statement M
outcome_spec = tie.close (tie.spec (λ c κs. search rules) (λ c κs. search rules) (λ c κs. search rules) (λ c κs. search rules) returns)
