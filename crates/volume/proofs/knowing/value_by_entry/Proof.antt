use mathlib.Core.Path.{◌≡◌, ap, ap₂, ◌∙◌}
use Prim.Native.Nat.{ℕ, ◌+◌, ◌%◌}
use native.Mathlib.Omega.{arith}
use Rattle.tables.specs.meaning.Placement.{row_index}
use Rattle.tables.specs.laws.Placement.{row_remainder}
use Rattle.tables.specs.meaning.Tables.{sector_at}
use Rattle.tables.specs.meaning.Xor.{xor_bytes}
use Rattle.logs.specs.meaning.Entry.{parity_zone}
use Rattle.volume.specs.meaning.Rules.{parity_of}
use Rattle.volume.specs.looking.Knowing.{row_xor, entry_end}
use borrow.Author.Rules.{rules}
use Rattle.volume.proofs.knowing.value_by_entry.Statement.{statement}
use Rattle.volume.proofs.knowing.value_by_entry.Tie as tie

entry-end-requires : tie.Need-entry_end-end-requires
entry-end-requires c κs =
    let s = c.before.before.before in
    let w = s.requires.1.4 in
    (s.requires.0, (c.parity_of-p.ensures.1, s.requires.1.2, w.0, omega (arith, w.1), rw c.parity_of-p.ensures.0 w.2))

row : (c : tie.After-stripe_sectors-k) → c.args.a % c.stripe_sectors-k.result % c.args.g.unit ≡ row_index c.args.g.drives c.args.g.unit c.args.a
row c = let a = c.args in row_remainder a.g.drives a.g.unit a.a c.stripe_sectors-k.result c.stripe_sectors-k.ensures.0

add-value-of-row : tie.Need-overflow_add-place
add-value-of-row c = let s = c.before.before.before.before.before in omega (arith, row c, s.requires.1.4.1, s.requires.0.zone_most)

value-of-row-requires : tie.Need-value_of_row-requires
value-of-row-requires c κs =
    let s = c.before.before.before.before.before.before in
    (s.requires.0, (s.requires.1.0, s.requires.1.1, omega arith, rw (row c.before) s.requires.1.4.1, s.requires.1.2, s.requires.1.3))

returns : tie.Need-returns
returns c =
    let a = c.args in
    let P = parity_of a.g.drives a.g.unit a.z a.a in
    c.value_of_row.ensures
    ∙ ap₂ (λ (e i : ℕ). xor_bytes (row_xor a.g a.sectors.now a.z a.a e) (sector_at a.g a.sectors.now P parity_zone (a.place + i)))
    (c.entry_end-end.ensures ∙ ap (λ (p : ℕ). entry_end a.g a.sectors.now p a.place) c.parity_of-p.ensures.0) (row c.before.before.before.before)

pub value_by_entry_spec : {M : Type 1} → statement M
value_by_entry_spec =
    tie.close
    (tie.spec (λ c κs. search rules) entry-end-requires (λ c κs. search rules) (λ c. search rules) (λ c. search rules) add-value-of-row value-of-row-requires
    (λ c. search rules) returns)
