use Rattle.zrv.specs.laws.Report.{descriptor_laid}
use mathlib.Core.Path.{◌∙◌}
use borrow.Author.Rules.{rules}
use Rattle.zrv.proofs.reporting.descriptor_to.Statement.{statement}
use Rattle.zrv.proofs.reporting.descriptor_to.Tie as tie

returns : tie.Need-returns
returns c =
    let s = c.before.before.before.before.before.before.before.before.before.before.before.before.before.before.before.before.before.before in
    c.write_u64-4.ensures ∙ cc (descriptor_laid s.args.bytes.now s.args.at s.args.d s.requires)

pub descriptor_to_spec : {M : Type 1} → statement M
descriptor_to_spec =
    tie.close
    (tie.spec (λ c κs. search rules) (λ c κs. search rules) (λ c. search rules) (λ c κs. search rules) (λ c. search rules) (λ c κs. search rules)
    (λ c. search rules) (λ c κs. search rules) (λ c. search rules) returns)
