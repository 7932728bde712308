use mathlib.Core.Path.{◌∙◌}
use Rattle.mounting.specs.EntriesMade.{hiding_at, ready_at, ends_stopped, entering_at, ends_made}
use borrow.Author.Rules.{rules}
use Rattle.mounting.proofs.ends.restore_ends.Statement.{statement}
use Rattle.mounting.proofs.ends.restore_ends.Tie as tie

-- from the place after a call to that after the one before
abbrev to_start : tie.After-hide_lacking → tie.Start
to_start c = c.before.before.before.before.before.before.before.before

abbrev to-starts : tie.After-parity_step-rest → tie.After-hide_lacking
to-starts c = c.before.before.before.before.before.before.before.before

abbrev to-parity : tie.After-entry_step → tie.After-parity_step-rest
to-parity c = c.before.before.before.before.before.before.before.before.before.before.before.before.before.before

hide-lacking-requires : tie.Need-hide_lacking-requires
hide-lacking-requires c κs = let s = c.before.before.before.before.before.before.before in hiding_at _ s.requires.0 _ _ _ s.requires.1.0 _ s.requires.1.1.1 s.args.starts.now s.requires.1.1.0

parity-step-requires : tie.Need-parity_step-rest-requires
parity-step-requires c κs =
    let h = c.before.before.before.before.before.before.before in
    let s = to_start h in
    ready_at _ s.requires.0 _ _ _ s.requires.1.0 _ s.requires.1.1.1 _ h.hide_lacking.ensures

-- the budget ended with step 10
returns : tie.Need-returns-then-rest-eq0
returns c =
    let f = c.before.before.before.before.before.before.before in
    let h = to-starts f in
    let s = to_start h in
    ends_stopped _ s.requires.0 _ _ _ s.requires.1.0 _ s.requires.1.1.1 _ h.hide_lacking.ensures _ _ _ f.parity_step-rest.ensures c.if-rest-eq0.true

entry-step-requires : tie.Need-entry_step-requires
entry-step-requires c κs =
    let f = c.before.before.before.before.before.before.before.before.before.before.before.before.before in
    let h = to-starts f in
    let s = to_start h in
    entering_at _ s.requires.0 _ _ _ s.requires.1.0 _ s.requires.1.1.1 _ h.hide_lacking.ensures _ _ _ f.parity_step-rest.ensures h.hide_lacking.new.pointers (h.hide_lacking.auto.pointers ∙ s.requires.1.1.0)

-- both steps
returns-2 : tie.Need-returns
returns-2 c =
    let n = c.before.before.before.before.before.before.before.before in
    let f = to-parity n in
    let h = to-starts f in
    let s = to_start h in
    ends_made _ s.requires.0 _ _ _ s.requires.1.0 _ s.requires.1.1.1 _ h.hide_lacking.ensures _ _ _ f.parity_step-rest.ensures _ _ n.entry_step.ensures

pub restore_ends_spec : {M : Type 1} → statement M
restore_ends_spec =
    tie.close
    (tie.spec hide-lacking-requires parity-step-requires (λ c. search rules) (λ c. search rules) (λ c. search rules) (λ c. search rules) returns
    entry-step-requires (λ c. search rules) (λ c. search rules) (λ c. search rules) (λ c. search rules) returns-2)
