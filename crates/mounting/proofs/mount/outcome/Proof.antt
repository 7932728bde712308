use mathlib.Core.Path.{refl, ap}
use Rattle.volume.specs.declared.State.{State}
use Rattle.volume.specs.declared.Answer.TheVariants.{Finished}
use borrow.Author.Rules.{rules}
use Rattle.mounting.proofs.mount.outcome.Statement.{statement}
use Rattle.mounting.proofs.mount.outcome.Tie as tie

returns : tie.Need-returns-then-rest-eq0
returns c = record { unfinished = λ z. refl; finished = λ h. absurd (h c.if-rest-eq0.true) }

returns-2 : tie.Need-returns
returns-2 c =
    let r = c.shown_now-state in
    record {
      unfinished = λ z. absurd (c.if-rest-eq0.false z);
      finished = λ h ds. ap (λ (s : State). record { answer = Finished; state = s }) (r.ensures.shown ds);
    }

pub outcome_spec : {M : Type 1} → statement M
outcome_spec = tie.close (tie.spec returns (λ c κs. search rules) (λ c. search rules) returns-2)
