use mathlib.Core.Path.{refl, ◌∙◌}
use borrow.Author.Tests.{not-true, not-false}
use borrow.Author.Rules.{rules}
use Rattle.volume.proofs.drives_lost.said_by.Statement.{statement}
use Rattle.volume.proofs.drives_lost.said_by.Tie as tie

returns-2 : tie.Need-returns
returns-2 c = let a = c.args in c.says_lost.ensures ∙ rw (not-false a.named c.if-not-named.false-raw) refl

pub said_by_spec : {M : Type 1} → statement M
said_by_spec = tie.close (tie.spec (λ c. rw (not-true c.args.named c.if-not-named.true-raw) refl) (λ c κs. search rules) returns-2)
