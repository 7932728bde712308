use Prim.Native.Nat.{◌+◌, ◌-◌}
use mathlib.Core.Path.{◌≡◌, refl, ◌∙◌}
use native.Mathlib.Omega.{arith}
use lib.ListN.{length}
use Rattle.tables.specs.laws.Within.{part_long, part_changed}
use borrow.Author.Rules.{rules}
use Rattle.volume.proofs.rows.put.Statement.{statement}
use Rattle.volume.proofs.rows.put.Tie as tie

returns : tie.Need-returns-then-first
returns c = c.copy_in.ensures ∙ rw c.if-first.true refl

returns-2 : tie.Need-returns
returns-2 c =
    let s = c.before.before.before.before.before.before.before in
    let a = s.args in
    let f = c.xor_into in
    let n = length a.src.now in
    let e : a.to + n - a.to ≡ n = omega arith in
    part_changed a.sectors.now f.new.acc a.to (a.to + n - a.to) (f.auto.acc ∙ part_long a.sectors.now a.to (a.to + n - a.to) (omega (arith, s.requires))) ∙ rw (f.ensures, e, c.if-first.false) refl

pub put_spec : {M : Type 1} → statement M
put_spec =
    tie.close
    (tie.spec (λ c κs. search rules) (λ c. search rules) returns (λ c. search rules) (λ c. search rules) (λ c. search rules) (λ c. search rules)
    (λ c κs. search rules) (λ c. search rules) returns-2)
