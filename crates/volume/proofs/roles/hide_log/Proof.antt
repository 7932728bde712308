use mathlib.Core.Path.{refl}
use Rattle.tables.specs.meaning.Tables.{pointers_after_reset}
use borrow.Author.Tests.{not-true, not-false}
use borrow.Author.Rules.{rules}
use Rattle.volume.proofs.roles.hide_log.Statement.{statement}
use Rattle.volume.proofs.roles.hide_log.Tie as tie

returns : tie.Need-returns-then-not-lacks
returns c = rw (not-true c.args.lacks c.if-not-lacks.true-raw) refl

returns-2 : tie.Need-returns
unfolding pointers_after_reset
returns-2 c = let s = c.before.before.before in rw (not-false s.args.lacks c.if-not-lacks.false-raw, c.cell_of-at.ensures.0) refl

pub hide_log_spec : {M : Type 1} → statement M
hide_log_spec =
    tie.close (tie.spec returns (λ c κs. search rules) (λ c. search rules) (λ c. search rules) (λ c. search rules) returns-2)
