use mathlib.Core.Path.{refl, sym}
use native.Mathlib.Nat.{sub-zero}
use borrow.Author.Tests.{not-true, not-false}
use borrow.Author.Rules.{rules}
use Rattle.tables.proofs.stores.left_after.Statement.{statement}
use Rattle.tables.proofs.stores.left_after.Tie as tie

returns : tie.Need-returns-then-not-here
returns c = rw (not-true c.before.args.here c.if-not-here.true-raw) (sym (sub-zero _))

returns-3 : tie.Need-returns
returns-3 c = rw (not-false c.before.before.args.here c.before.if-not-here.false-raw) refl

pub left_after_spec : {M : Type 1} → statement M
left_after_spec = tie.close (tie.spec returns (λ c. search rules) (λ c. search rules) returns-3)
