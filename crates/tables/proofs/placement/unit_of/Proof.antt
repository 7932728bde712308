use native.Mathlib.Nat.{mod-eq_of_lt, mod-eq-sub-mod}
use native.Mathlib.Omega.{arith}
use mathlib.Core.Path.{◌≡◌, sym, ap, ◌∙◌}
use Prim.Native.Nat.{ℕ, ◌+◌, ◌-◌, ◌%◌, ◌<◌, ◌≤◌}
use Rattle.tables.specs.meaning.Placement.{unit_of}
use borrow.Author.Rules.{rules}
use Rattle.tables.proofs.placement.unit_of.Statement.{statement}
use Rattle.tables.proofs.placement.unit_of.Tie as tie

returns : tie.Need-returns-then-p-drive
unfolding unit_of
returns c =
    let a = c.before.args in
    let h : a.d ≤ a.drive + a.d - (a.p + 1) = omega arith in
    let e : a.drive + a.d - (a.p + 1) - a.d ≡ a.drive - (a.p + 1) = omega arith in
    let l : a.drive - (a.p + 1) < a.d = omega arith in
    (sym (mod-eq-sub-mod h ∙ ap (λ (n : ℕ). n % a.d) e ∙ mod-eq_of_lt l), l)

returns-2 : tie.Need-returns-else-p-drive
unfolding unit_of
returns-2 c = let a = c.before.args in let l : a.drive + a.d - (a.p + 1) < a.d = omega arith in (sym (mod-eq_of_lt l), l)

pub unit_of_spec : {M : Type 1} → statement M
unit_of_spec = tie.close (tie.spec (λ c. search rules) (λ c. search rules) (λ c. search rules) (λ c. search rules) (λ c. search rules) returns returns-2)
