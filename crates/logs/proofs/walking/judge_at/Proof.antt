use Rattle.logs.specs.code.Judge.{found}
use Rattle.logs.specs.meaning.Entry.{decode}
use Rattle.tables.specs.laws.Below.{get_d_tabulate}
use Rattle.tables.specs.meaning.Tables.{cell, sector_no}
use mathlib.Core.Path.{◌≡◌, ◌∙◌, refl, sym, ap}
use mathlib.Core.List.{List, []}
use Prim.Native.Nat.{ℕ, ◌+◌, ◌-◌, ◌*◌}
use native.Mathlib.Omega.{arith}
use borrow.Author.Rules.{rules}
use Rattle.logs.proofs.walking.judge_at.Statement.{statement}
use Rattle.logs.proofs.walking.judge_at.Tie as tie

returns : tie.Need-returns
returns c =
    let s = c.before.before.before.before in
    let a = s.args in
    let d : c.byte_at-at.result + a.g.sector - c.byte_at-at.result ≡ a.g.sector = omega arith in
    c.judge.ensures ∙ ap (λ (t : List ℕ). found (decode a.g a.drive a.parity t))
    (rw (d, c.byte_at-at.ensures.0) refl ∙ sym (get_d_tabulate (λ (i : ℕ). sector_no a.g.sector a.sectors.now (cell a.g a.drive a.zone * a.g.capacity + i)) a.n a.p [] s.requires.1.1))

pub judge_at_spec : {M : Type 1} → statement M
judge_at_spec =
    tie.close
    (tie.spec (λ c κs. search rules) (λ c. search rules) (λ c. search rules) (λ c. search rules) (λ c. search rules) (λ c κs. search rules) returns)
