use Rattle.logs.specs.code.Lays.{frame_laid}
use mathlib.Core.Path.{◌∙◌}
use borrow.Author.Rules.{rules}
use Rattle.logs.proofs.headers.write_frame.Statement.{statement}
use Rattle.logs.proofs.headers.write_frame.Tie as tie

returns : tie.Need-returns
returns c =
    let k4 = c.before.before in
    let k3 = k4.before.before.before.before in
    let k2 = k3.before.before.before.before in
    let k1 = k2.before.before.before.before in
    let s = k1.before.before.before in
    let a = s.args in
    k4.write_u64-3.ensures ∙ rw (k3.write_u64-2.ensures, k2.write_u64.ensures, k1.write_mark.ensures) (frame_laid a.out.now a.kind a.start a.end a.generation s.requires)

pub write_frame_spec : {M : Type 1} → statement M
write_frame_spec =
    tie.close
    (tie.spec (λ c κs. search rules) (λ c κs. search rules) (λ c κs. search rules) (λ c κs. search rules) (λ c. search rules) returns)
