use Rattle.logs.specs.meaning.Entry.{kind_of}
use borrow.Author.Rules.{rules}
use Rattle.logs.proofs.judging.judge.Statement.{statement}
use Rattle.logs.proofs.judging.judge.Tie as tie

judge-counters-requires : tie.Need-judge_counters-requires
unfolding kind_of
judge-counters-requires c κs = let s = c.before.before.before in (s.requires.0, (s.requires.1, c.if-kind-eq2.true))

judge-reset-requires : tie.Need-judge_reset-requires
unfolding kind_of
judge-reset-requires c κs = let s = c.before.before.before.before in (s.requires.0, (s.requires.1, c.if-kind-eq3.true))

judge-partial-requires : tie.Need-judge_partial-requires
unfolding kind_of
judge-partial-requires c κs = let s = c.before.before.before.before.before in (s.requires.0, (s.requires.1, c.if-kind-eq4.true))

judge-seal-requires : tie.Need-judge_seal-requires
unfolding kind_of
judge-seal-requires c κs = let s = c.before.before.before.before.before.before in (s.requires.0, (s.requires.1, c.if-kind-eq5.true))

judge-closing-requires : tie.Need-judge_closing-requires
unfolding kind_of
judge-closing-requires c κs = let s = c.before.before.before.before.before.before.before in (s.requires.0, (s.requires.1, c.if-kind-eq6.true))

judge-label-requires : tie.Need-judge_label-requires
unfolding kind_of
judge-label-requires c κs =
    let s = c.before.before.before.before.before.before.before in
    (s.requires.0, (s.requires.1, (c.if-kind-eq2.false, c.if-kind-eq3.false, c.if-kind-eq4.false, c.if-kind-eq5.false, c.if-kind-eq6.false)))

pub judge_spec : {M : Type 1} → statement M
judge_spec =
    tie.close
    (tie.spec (λ c. search rules) judge-counters-requires (λ c. search rules) judge-reset-requires (λ c. search rules) judge-partial-requires
    (λ c. search rules) judge-seal-requires (λ c. search rules) judge-closing-requires (λ c. search rules) judge-label-requires (λ c. search rules))
