use Rattle.logs.specs.meaning.Entry.{encode}
use mathlib.Core.Path.{◌∙◌, refl}
use borrow.Author.Rules.{rules}
use Rattle.logs.proofs.headers.write_closing.Statement.{statement}
use Rattle.logs.proofs.headers.write_closing.Tie as tie

returns : tie.Need-returns
unfolding encode
returns c = let k = c.before.before.before.before in c.write_span.ensures ∙ rw (k.kind_of_log-kind.ensures, k.requires.1) refl

pub write_closing_spec : {M : Type 1} → statement M
write_closing_spec = tie.close (tie.spec (λ c κs. search rules) (λ c κs. search rules) (λ c. search rules) returns)
