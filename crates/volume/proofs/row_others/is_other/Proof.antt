use Prim.Native.Nat.{◌*◌, ◌≤◌}
use native.Mathlib.Nat.{mul-le-mul}
use native.Mathlib.Omega.{arith}
use borrow.Author.Rules.{rules}
use Rattle.volume.proofs.row_others.is_other.Statement.{statement}
use Rattle.volume.proofs.row_others.is_other.Tie as tie

-- a unit's place in the stripe
unit-small : (c : tie.Start) → c.args.k * c.args.g.unit ≤ 128
unit-small c =
    let h : c.args.k * c.args.g.unit ≤ 8 * 16 = mul-le-mul {n₂ = 8} {m₂ = 16} (omega (arith, c.requires.1.1, c.requires.0.drives_most)) c.requires.0.unit_most in
    omega arith

pub is_other_spec : {M : Type 1} → statement M
is_other_spec = tie.close (tie.spec (λ c. omega (arith, unit-small c)) (λ c. omega (arith, unit-small c, c.requires.1.0.start_small)) (λ c. search rules))
