use Rattle.logs.specs.code.Lays.{label_laid}
use mathlib.Core.Path.{◌∙◌}
use native.Mathlib.Omega.{arith}
use borrow.Author.Rules.{rules}
use Rattle.logs.proofs.headers.write_label.Statement.{statement}
use Rattle.logs.proofs.headers.write_label.Tie as tie

returns : tie.Need-returns
returns c =
    let k5 = c.before.before in
    let k4 = k5.before.before.before.before in
    let k3 = k4.before.before.before.before in
    let k2 = k3.before.before.before.before in
    let k1 = k2.before.before.before.before in
    let s = k1.before.before.before in
    let a = s.args in
    k5.write_u64.ensures ∙ rw (k4.write_u32-2.ensures, k3.write_u32.ensures, k2.write_label_start.ensures, k1.write_span.ensures, s.requires.1.0) (label_laid a.g a.drive a.lost a.array (omega (arith, s.requires.0.sector_least)))

pub write_label_spec : {M : Type 1} → statement M
write_label_spec =
    tie.close
    (tie.spec (λ c κs. search rules) (λ c κs. search rules) (λ c. search rules) (λ c κs. search rules) (λ c. search rules) (λ c. search rules)
    (λ c κs. search rules) (λ c κs. search rules) (λ c. search rules) returns)
