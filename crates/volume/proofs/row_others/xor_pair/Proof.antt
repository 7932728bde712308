use mathlib.Core.Path.{◌≡◌, ◌∙◌, refl}
use Prim.Native.Nat.{◌+◌, ◌-◌}
use native.Mathlib.Omega.{arith}
use borrow.Author.Rules.{rules}
use Rattle.volume.proofs.row_others.xor_pair.Statement.{statement}
use Rattle.volume.proofs.row_others.xor_pair.Tie as tie

returns : tie.Need-returns
returns c =
    let a = c.args in
    let f = c.unit_byte-from in
    let h = c.unit_byte-next in
    let d : f.result + a.g.sector - f.result ≡ a.g.sector = omega arith in
    let e : h.result + a.g.sector - h.result ≡ a.g.sector = omega arith in
    c.xor_two.ensures ∙ rw (d, e, f.ensures.0, h.ensures.0) refl

pub xor_pair_spec : {M : Type 1} → statement M
xor_pair_spec =
    tie.close
    (tie.spec (λ c κs. search rules) (λ c. search rules) (λ c κs. search rules) (λ c. search rules) (λ c. search rules) (λ c. search rules)
    (λ c. search rules) (λ c. search rules) (λ c. search rules) (λ c. search rules) (λ c. search rules) (λ c κs. search rules) (λ c. search rules)
    returns)
