use mathlib.Core.Path.{◌≡◌, refl, sym, ◌∙◌}
use mathlib.Core.Bool.{true, false}
use native.Mathlib.Omega.{arith}
use borrow.Author.Tests.{not-true, not-false}
use Rattle.volume.specs.emptying.ParityCopies.{copied_at}
use borrow.Author.Rules.{rules}
use Rattle.volume.proofs.emptying_parity.copy_size.Statement.{statement}
use Rattle.volume.proofs.emptying_parity.copy_size.Tie as tie

returns : tie.Need-returns-then-not-copied
returns c =
    let a = c.args in
    let e : copied_at a.g a.drive a.z a.pointer ≡ false = sym c.is_copied-copied.ensures ∙ not-true c.is_copied-copied.result c.if-not-copied.true-raw in
    (rw e refl, omega arith)

returns-2 : tie.Need-returns
returns-2 c =
    let a = c.args in
    let e : copied_at a.g a.drive a.z a.pointer ≡ true = sym c.is_copied-copied.ensures ∙ not-false c.is_copied-copied.result c.if-not-copied.false-raw in
    (rw e c.entry_size.ensures.0, c.entry_size.ensures.1)

pub copy_size_spec : {M : Type 1} → statement M
copy_size_spec = tie.close (tie.spec (λ c κs. search rules) returns (λ c κs. search rules) returns-2)
