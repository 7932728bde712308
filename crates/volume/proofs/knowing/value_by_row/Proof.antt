use mathlib.Core.Path.{ap₂, ◌∙◌}
use Prim.Native.Nat.{ℕ}
use native.Mathlib.Omega.{arith}
use Rattle.tables.specs.meaning.Tables.{sector_at}
use Rattle.tables.specs.meaning.Xor.{xor_bytes}
use Rattle.volume.specs.meaning.Rules.{parity_of}
use Rattle.volume.specs.looking.Knowing.{row_xor}
use Rattle.volume.specs.looking.KnowingValues.{sector_within}
use borrow.Author.Rules.{rules}
use Rattle.volume.proofs.knowing.value_by_row.Statement.{statement}
use Rattle.volume.proofs.knowing.value_by_row.Tie as tie
use Rattle.tables.specs.meaning.Geometry.{data_zone}

value-of-row-requires : tie.Need-value_of_row-requires
value-of-row-requires c κs =
    let s = c.before.before.before.before.before in
    (s.requires.0, (s.requires.1.0, s.requires.1.1, omega (arith, s.requires.1.0), rw c.sector_of-x.ensures (sector_within s.args.g s.args.a s.requires.0 s.requires.1.1), s.requires.1.2, s.requires.1.3))

returns : tie.Need-returns
returns c =
    let a = c.args in
    c.value_of_row.ensures
    ∙ ap₂ (λ (e x : ℕ). xor_bytes (row_xor a.g a.sectors.now a.z a.a e) (sector_at a.g a.sectors.now (parity_of a.g.drives a.g.unit a.z a.a) (data_zone a.z) x)) c.stripe_end-end.ensures.0 c.sector_of-x.ensures

pub value_by_row_spec : {M : Type 1} → statement M
value_by_row_spec =
    tie.close
    (tie.spec (λ c κs. search rules) (λ c κs. search rules) (λ c. search rules) value-of-row-requires (λ c. search rules) returns)
