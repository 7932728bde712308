use Rattle.zrv.specs.laws.Bytes.{record_laid}
use mathlib.Core.Path.{◌∙◌}
use borrow.Author.Rules.{rules}
use Rattle.zrv.proofs.state.record_to.Statement.{statement}
use Rattle.zrv.proofs.state.record_to.Tie as tie

returns : tie.Need-returns
returns c =
    let s = c.before.before.before.before.before.before.before.before.before.before.before.before.before.before.before in
    let xs = s.args.bytes.now in
    let w3 = c.write_u32-2 in
    w3.ensures ∙ cc (record_laid xs s.args.at s.args.r s.requires)

pub record_to_spec : {M : Type 1} → statement M
record_to_spec =
    tie.close
    (tie.spec (λ c κs. search rules) (λ c κs. search rules) (λ c. search rules) (λ c κs. search rules) (λ c. search rules) (λ c κs. search rules)
    (λ c. search rules) (λ c κs. search rules) (λ c. search rules) returns)
