use Prim.Native.Nat.{◌≤◌}
use native.Mathlib.Omega.{arith}
use native.Mathlib.Nat.{mul-le-mul}
use borrow.Author.Rules.{rules}
use Rattle.volume.specs.meaning.CallContracts.{record_at}
use Rattle.volume.specs.reading.Reporting.{described}
use Rattle.volume.proofs.reporting.describe.Statement.{statement}
use Rattle.volume.proofs.reporting.describe.Tie as tie

mul-start : tie.Need-overflow_mul-start
mul-start c =
    let s = c.before.before.before in
    let h₁ : s.args.z ≤ 16 = omega (arith, s.requires.0.zones_most, s.requires.1) in
    omega (arith, mul-le-mul {n₂ = 16} {m₂ = 458752} h₁ s.zone_sectors-sectors.ensures.2)

returns : tie.Need-returns
returns c =
    let a = c.args in
    described a.g a.z (record_at a.state a.z).condition c.zone_sectors-sectors.ensures.0 c.pointer_of-pointer.ensures c.told_of-told.ensures

pub describe_spec : {M : Type 1} → statement M
describe_spec = tie.close (tie.spec (λ c κs. search rules) (λ c. search rules) (λ c. search rules) (λ c κs. search rules) (λ c κs. search rules) mul-start returns)
