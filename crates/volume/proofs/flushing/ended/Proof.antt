use mathlib.Core.Path.{sym, ap}
use mathlib.Core.Bool.{Bool}
use borrow.Author.Tests.{eq-eqb, ne_eqb}
use Rattle.tables.specs.meaning.Basics.{pick}
use Rattle.volume.specs.declared.Outcome.{Outcome}
use Rattle.volume.specs.declared.Answer.TheVariants.{Finished, Unfinished}
use Rattle.volume.proofs.flushing.ended.Statement.{statement}
use Rattle.volume.proofs.flushing.ended.Tie as tie

abbrev ending : tie.Start → Bool → Outcome
ending s b = pick b (record { answer = Unfinished; state = s.args.old }) (record { answer = Finished; state = s.args.next })

returns : tie.Need-returns-then-rest-eq0
returns c = sym (ap (ending c.before) (eq-eqb c.args.rest 0 c.if-rest-eq0.true))

returns-2 : tie.Need-returns
returns-2 c = sym (ap (ending c.before) (ne_eqb c.args.rest 0 c.if-rest-eq0.false))

pub ended_spec : {M : Type 1} → statement M
ended_spec = tie.close (tie.spec returns returns-2)
