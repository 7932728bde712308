use Prim.Native.Nat.{ℕ, ◌+◌, ◌*◌}
use mathlib.Core.Path.{ap, ◌∙◌}
use mathlib.Core.List.{List}
use borrow.Author.Rules.{rules}
use Rattle.tables.specs.meaning.Lists.{overlay}
use Rattle.tables.specs.laws.LittleEndian.{write_le}
use Rattle.zrv.specs.meaning.Bytes.{record_to}
use Rattle.zrv.proofs.state.put_parts.Statement.{statement}
use Rattle.zrv.proofs.state.put_parts.Tie as tie

returns : tie.Need-returns
returns c =
    let a = c.args in
    let r = c.before.before.before.before.before.before in
    c.write_u32.ensures
    ∙ ap (λ (l : List ℕ). write_le 4 l (264 + a.i * 4) a.share) (r.record_to.ensures ∙ ap (λ (l : List ℕ). overlay l (8 + 16 * a.z) (record_to a.r)) r.write_u64.ensures)

pub put_parts_spec : {M : Type 1} → statement M
put_parts_spec =
    tie.close
    (tie.spec (λ c κs. search rules) (λ c. search rules) (λ c. search rules) (λ c κs. search rules) (λ c. search rules) (λ c. search rules) (λ c κs. search rules) (λ c. search rules) returns)
