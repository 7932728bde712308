use mathlib.Core.Path.{◌≡◌, sym, ap, ap₂, subst, ◌∙◌}
use Prim.Native.Nat.{ℕ, ◌-◌}
use Rattle.tables.specs.meaning.Tables.{sector_at}
use Rattle.tables.specs.meaning.Xor.{xor_bytes}
use Rattle.tables.specs.laws.Xor.{xor_bytes_comm}
use Rattle.volume.specs.declared.row_others.RowPlace.{RowPlace}
use Rattle.volume.specs.meaning.Rules.{parity_of}
use Rattle.volume.specs.looking.Knowing.{row_xor}
use Rattle.volume.specs.looking.RowOthers.{RowFits, others_below, row_of, row_is, row_fits, others_are}
use borrow.Author.Rules.{rules}
use Rattle.volume.proofs.knowing.value_of_row.Statement.{statement}
use Rattle.volume.proofs.knowing.value_of_row.Tie as tie

-- the numbers are those of the row of a
abbrev place : tie.After-unit_index → RowPlace
place c =
    let a = c.args in
    record { zone = a.z; parity = c.parity_of-p.result; sector = c.sector_of.result; start = c.row_address.result; own = c.unit_index.result; end = a.end }

place_is : (c : tie.After-unit_index) → let a = c.args in place c ≡ row_of a.g a.z a.a a.end
place_is c =
    let a = c.args in
    row_is a.g a.z a.a a.end c.parity_of-p.result c.sector_of.result c.row_address.result c.unit_index.result
    c.parity_of-p.ensures.0 c.sector_of.ensures c.row_address.ensures c.unit_index.ensures.0

xor-row-requires : tie.Need-xor_row-requires
xor-row-requires c κs =
    let s = c.before.before.before.before.before.before.before.before.before.before.before in
    let a = s.args in
    let fits = row_fits a.g a.z a.a a.end s.requires.0 s.requires.1.0 s.requires.1.1 in
    (s.requires.0, (subst (RowFits a.g) (sym (place_is c.before.before.before.before.before)) fits, s.requires.1.4, c.read_sector.auto.out ∙ s.requires.1.5))

returns : tie.Need-returns
returns c =
    let u = c.before.before.before.before.before.before.before.before in
    let a = c.args in
    let row = row_xor a.g a.sectors.now a.z a.a a.end in
    let parity = sector_at a.g a.sectors.now (parity_of a.g.drives a.g.unit a.z a.a) a.zone a.n in
    c.xor_row.ensures
    ∙ ap₂ xor_bytes (c.read_sector.ensures ∙ ap (λ (p : ℕ). sector_at a.g a.sectors.now p a.zone a.n) u.parity_of-p.ensures.0)
    (ap (λ (r : RowPlace). others_below a.g a.sectors.now r (a.g.drives - 1)) (place_is u) ∙ others_are a.g a.sectors.now a.z a.a a.end)
    ∙ xor_bytes_comm parity row

pub value_of_row_spec : {M : Type 1} → statement M
value_of_row_spec =
    tie.close
    (tie.spec (λ c κs. search rules) (λ c κs. search rules) (λ c κs. search rules) (λ c κs. search rules) (λ c κs. search rules) xor-row-requires
    (λ c. search rules) returns)
