use Prim.Native.Nat.{suc, ◌+◌}
use mathlib.Core.Path.{◌≡◌, refl}
use native.Mathlib.Omega.{arith}
use borrow.Author.Tests.{eq-eqb, ne_eqb}
use Rattle.logs.specs.meaning.Entry.{worn_generation}
use Rattle.volume.proofs.resetting.reset_record.Statement.{statement}
use Rattle.volume.proofs.resetting.reset_record.Tie as tie

add-generation : tie.Need-overflow_add-generation
unfolding worn_generation
add-generation c = omega (arith, c.requires)

returns : tie.Need-returns-then-generation
unfolding worn_generation
returns c =
    let n = c.args.r.generation in
    let e : suc n ≡ n + 1 = omega arith in
    rw (e, eq-eqb (n + 1) worn_generation c.if-generation.true) refl

returns-2 : tie.Need-returns
unfolding worn_generation
returns-2 c =
    let n = c.args.r.generation in
    let e : suc n ≡ n + 1 = omega arith in
    rw (e, ne_eqb (n + 1) worn_generation c.if-generation.false) refl

pub reset_record_spec : {M : Type 1} → statement M
reset_record_spec = tie.close (tie.spec add-generation returns returns-2)
