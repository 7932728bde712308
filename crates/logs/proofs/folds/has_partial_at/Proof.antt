use Rattle.logs.specs.code.Ends.{at_by_place}
use Rattle.logs.specs.laws.Places.{last_place}
use Rattle.logs.specs.laws.Heads.{ends_within}
use Rattle.logs.specs.meaning.Heads.{ends_at}
use Rattle.logs.specs.code.Query.{log_heads}
use Rattle.logs.specs.code.WalkCode.{log_sectors}
use Rattle.tables.specs.meaning.Lists.{any_of}
use mathlib.Core.Path.{◌≡◌, ◌∙◌, sym, ap}
use mathlib.Core.Bool.{true}
use Prim.Native.Nat.{ℕ, suc, ◌-◌}
use native.Mathlib.Omega.{arith}
use lib.Dec.{ltb}
use borrow.Author.Rules.{rules}
use Rattle.logs.proofs.folds.has_partial_at.Statement.{statement}
use Rattle.logs.proofs.folds.has_partial_at.Tie as tie

returns : tie.Need-returns
returns c =
    let s = c.before.before in
    let a = s.args in
    let e : a.pointer ≡ suc (a.pointer - 1) = omega (arith, s.requires.1.1) in
    ap (λ (x : ℕ). ltb 0 x) c.last_partial.ensures.0 ∙ ap (λ (y : ℕ). ltb 0 (last_place a.g (ends_within a.g a.z a.generation (a.pointer - 1) y) 0 0 (log_heads a.g a.log.drive true a.log.zone a.log.written a.sectors.now))) e
    ∙ at_by_place a.g a.log.drive true (log_sectors a.g a.log.drive a.log.zone a.sectors.now a.log.written) a.z a.generation (a.pointer - 1) ∙ ap (λ (y : ℕ). any_of (ends_at a.g a.z a.generation y) (log_heads a.g a.log.drive true a.log.zone a.log.written a.sectors.now)) (sym e)

pub has_partial_at_spec : {M : Type 1} → statement M
has_partial_at_spec = tie.close (tie.spec (λ c. search rules) (λ c κs. search rules) returns)
