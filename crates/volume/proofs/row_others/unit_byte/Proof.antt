use Prim.Native.Nat.{ℕ}
use mathlib.Core.Path.{ap, ◌∙◌}
use Rattle.tables.specs.meaning.Geometry.{data_zone}
use Rattle.tables.specs.meaning.Tables.{byte_at}
use borrow.Author.Rules.{rules}
use Rattle.volume.proofs.row_others.unit_byte.Statement.{statement}
use Rattle.volume.proofs.row_others.unit_byte.Tie as tie

returns : tie.Need-returns
returns c =
    let a = c.args in
    (c.byte_at.ensures.0 ∙ ap (λ (d : ℕ). byte_at a.g d (data_zone a.row.zone) a.row.sector) c.unit_drive-d.ensures.0, c.byte_at.ensures.1)

pub unit_byte_spec : {M : Type 1} → statement M
unit_byte_spec = tie.close (tie.spec (λ c κs. search rules) (λ c. search rules) (λ c κs. search rules) returns)
