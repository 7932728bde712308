use Rattle.logs.specs.code.WalkCode.{log_sectors}
use mathlib.Core.Path.{◌≡◌, ◌∙◌, sym}
use Rattle.logs.specs.code.Generations.{no_generation, generation_there}
use Prim.Native.Nat.{◌+◌, ◌-◌}
use native.Mathlib.Omega.{arith}
use borrow.Author.Rules.{rules}
use Rattle.logs.proofs.folds.last_generation.Statement.{statement}
use Rattle.logs.proofs.folds.last_generation.Tie as tie

returns : tie.Need-returns-then-place-eq0
returns c =
    let a = c.args in
    no_generation a.g a.log.drive (log_sectors a.g a.log.drive a.log.zone a.sectors.now a.log.written) a.z (sym c.last_counters-place.ensures.0 ∙ c.if-place-eq0.true)

returns-2 : tie.Need-returns
returns-2 c =
    let s = c.before.before.before.before in
    let a = s.args in
    let r = c.last_counters-place in
    let e : r.result ≡ (r.result - 1) + 1 = omega arith in
    c.generation_at.ensures ∙ generation_there a.g a.log.drive (log_sectors a.g a.log.drive a.log.zone a.sectors.now a.log.written) (r.result - 1) a.z (sym r.ensures.0 ∙ e) s.requires.1.1

pub last_generation_spec : {M : Type 1} → statement M
last_generation_spec =
    tie.close
    (tie.spec (λ c κs. search rules) returns (λ c. search rules) (λ c κs. search rules) returns-2)
