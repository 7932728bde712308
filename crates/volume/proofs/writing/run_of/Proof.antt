use Prim.Native.Nat.{◌+◌, ◌<◌, ◌^◌}
use mathlib.Core.Path.{refl}
use native.Mathlib.Omega.{arith}
use Rattle.tables.specs.laws.Sizes.{zone_small}
use borrow.Author.Rules.{rules}
use Rattle.volume.proofs.writing.run_of.Statement.{statement}
use Rattle.volume.proofs.writing.run_of.Tie as tie

add-allowance-of : tie.Need-overflow_add-offset
add-allowance-of c =
    let s = c.before.before in
    let h : s.args.offset + s.args.count < 2 ^ 64 = omega (arith, s.requires.1.1, s.requires.1.2, (zone_small s.args.g s.requires.0).1) in
    record { fits = h }

returns : tie.Need-returns
returns c = rw c.allowance_of-allowance.ensures refl

pub run_of_spec : {M : Type 1} → statement M
run_of_spec =
    tie.close
    (tie.spec (λ c. search rules) (λ c. search rules) add-allowance-of (λ c κs. search rules) returns)
