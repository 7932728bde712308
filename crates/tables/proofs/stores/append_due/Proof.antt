use mathlib.Core.Path.{refl, sym, ◌∙◌}
use borrow.Author.Tests.{not-true, not-false}
use borrow.Author.Rules.{rules}
use Rattle.tables.proofs.stores.append_due.Statement.{statement}
use Rattle.tables.proofs.stores.append_due.Tie as tie

returns : tie.Need-returns-then-not-wanted
returns c = rw (sym c.before.due-wanted.ensures ∙ not-true c.before.due-wanted.result c.if-not-wanted.true-raw) refl

returns-2 : tie.Need-returns
returns-2 c = rw (c.has_room.ensures, sym c.before.before.due-wanted.ensures ∙ not-false c.before.before.due-wanted.result c.before.if-not-wanted.false-raw) refl

pub append_due_spec : {M : Type 1} → statement M
append_due_spec = tie.close (tie.spec (λ c κs. search rules) returns (λ c κs. search rules) returns-2)
