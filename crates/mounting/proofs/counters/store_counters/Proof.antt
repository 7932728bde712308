use mathlib.Core.Path.{◌≡◌, sym, ◌∙◌}
use mathlib.Core.Bool.{true, false}
use borrow.Author.Tests.{not-true, not-false}
use Rattle.volume.specs.meaning.Mount.{next_generation}
use Rattle.volume.specs.laws.CallContracts.{appends_nil}
use Rattle.mounting.specs.MountLook.{shown_by}
use Rattle.mounting.specs.MountGenerations.{counters_due, counter_steps, filled_take, filled_long}
use borrow.Author.Rules.{rules}
use Rattle.mounting.proofs.counters.store_counters.Statement.{statement}
use Rattle.mounting.proofs.counters.store_counters.Tie as tie

returns : tie.Need-returns-then-not-due
returns c =
    let a = c.args in
    let b = a.basis in
    let e : counters_due b.geometry b.look b.differ ≡ false = sym c.counters_due-due.ensures ∙ not-true c.counters_due-due.result c.if-not-due.true-raw in
    rw (counter_steps b.geometry b.look b.differ, e) (appends_nil b.geometry a.budget a.sectors.now a.written.now)

next-generations-requires : tie.Need-next_generations-next-requires
next-generations-requires c κs = let s = c.before.before.before.before.before in (s.requires.0, s.requires.1.within)

log-counters-requires : tie.Need-log_counters-requires
log-counters-requires c κs =
    let s = c.before.before.before.before.before.before.before.before.before in
    let l = s.requires.1 in
    (s.requires.0, (rw c.next_generations-next.ensures (filled_long (next_generation (shown_by s.args.basis.look)) s.args.basis.geometry.zones), l.sectors_long, l.written_long))

returns-2 : tie.Need-returns
returns-2 c =
    let at-next-generations = c.before.before.before.before.before.before.before.before in
    let at-counters-due = c.before.before.before.before.before.before.before.before.before.before in
    let s = c.before.before.before.before.before.before.before.before.before.before.before.before.before.before in
    let a = s.args in
    let b = a.basis in
    let e : counters_due b.geometry b.look b.differ ≡ true = sym at-counters-due.counters_due-due.ensures ∙ not-false at-counters-due.counters_due-due.result c.if-not-due.false-raw in
    rw (counter_steps b.geometry b.look b.differ, e) (rw (at-next-generations.next_generations-next.ensures, filled_take (next_generation (shown_by b.look)) b.geometry.zones) at c.log_counters.ensures)

pub store_counters_spec : {M : Type 1} → statement M
store_counters_spec =
    tie.close
    (tie.spec (λ c κs. search rules) returns next-generations-requires (λ c. search rules) log-counters-requires (λ c. search rules)
    (λ c. search rules) returns-2)
