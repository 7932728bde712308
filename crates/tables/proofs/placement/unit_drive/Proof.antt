use native.Mathlib.Nat.{mod-eq_of_lt, mod-eq-sub-mod}
use native.Mathlib.Omega.{arith}
use mathlib.Core.Path.{◌≡◌, sym, ◌∙◌}
use Prim.Native.Nat.{◌+◌, ◌-◌, ◌<◌, ◌≤◌}
use Rattle.tables.specs.meaning.Placement.{unit_drive}
use borrow.Author.Rules.{rules}
use Rattle.tables.proofs.placement.unit_drive.Statement.{statement}
use Rattle.tables.proofs.placement.unit_drive.Tie as tie

returns : tie.Need-returns-then-n-d
unfolding unit_drive
returns c = let a = c.before.args in let h : a.p + 1 + a.j < a.d = omega arith in (sym (mod-eq_of_lt h), h)

-- the sum is below twice the drives
returns-2 : tie.Need-returns-else-n-d
unfolding unit_drive
returns-2 c =
    let a = c.before.args in
    let h : a.d ≤ a.p + 1 + a.j = omega arith in
    let l : a.p + 1 + a.j - a.d < a.d = omega arith in
    (sym (mod-eq-sub-mod h ∙ mod-eq_of_lt l), l)

pub unit_drive_spec : {M : Type 1} → statement M
unit_drive_spec = tie.close (tie.spec (λ c. search rules) (λ c. search rules) returns returns-2)
