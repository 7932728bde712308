use mathlib.Core.Path.{sym, ap, ◌∙◌}
use Rattle.zrv.specs.meaning.EdgeCalls.{place_number}
use borrow.Author.Rules.{rules}
use Rattle.zrv.proofs.input.place_number.Statement.{statement}
use Rattle.zrv.proofs.input.place_number.Tie as tie

returns-4 : tie.Need-returns-in-BadLog
returns-4 c = let e = c.place_of.ensures in (e.0 ∙ sym (ap place_number c.in-BadLog.is), e.1)

pub place_number_spec : {M : Type 1} → statement M
place_number_spec =
    tie.close
    (tie.spec (λ c. search rules) (λ c. search rules) (λ c. search rules) (λ c. search rules) (λ c κs. search rules) (λ c. search rules) (λ c. search rules) (λ c. search rules) returns-4)
