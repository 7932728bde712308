use Rattle.logs.specs.code.Lays.{drop_replicate}
use lib.ListN.{length}
use mathlib.Core.Path.{◌∙◌, refl}
use borrow.Author.Rules.{rules}
use Rattle.logs.proofs.headers.write_span.Statement.{statement}
use Rattle.logs.proofs.headers.write_span.Tie as tie

returns : tie.Need-returns
returns c = c.write_frame.ensures ∙ rw (c.before.before.before.before.before.before.clear.ensures, drop_replicate 32 (length c.args.out.now) 0) refl

pub write_span_spec : {M : Type 1} → statement M
write_span_spec = tie.close (tie.spec (λ c κs. search rules) (λ c κs. search rules) (λ c. search rules) returns)
