use Prim.Native.Nat.{ℕ, ◌<◌}
use mathlib.Core.Path.{◌≡◌, sym, ap, ◌∙◌, subst}
use mathlib.Core.Bool.{true, false, ◌&&◌}
use mathlib.Core.List.{List}
use lib.ListN.{length, get_or}
use lib.Dec.{ltb}
use borrow.Author.Tests.{not-true, not-false}
use Rattle.tables.specs.meaning.Geometry.{Valid, physical_zones, cells}
use Rattle.tables.specs.meaning.Lists.{overlay}
use Rattle.tables.specs.meaning.Tables.{cell, has_room}
use Rattle.tables.specs.laws.Counted.{append_idle, append_laid, due_parts}
use Rattle.volume.specs.meaning.Content.{row_xor_below}
use Rattle.volume.specs.looking.Knowing.{read_device}
use Rattle.volume.specs.rows.SameShape.{shape_valid}
use Rattle.volume.specs.rows.RowsInPlace.{content_of, FreePlace, target_drive, target_zone, target_cells, next_free}
use borrow.Author.Rules.{rules}
use Rattle.volume.proofs.rows.append_row.Statement.{statement}
use Rattle.volume.proofs.rows.append_row.Tie as tie

-- the row that is meant
abbrev row : tie.Start → List ℕ
row s = let a = s.args in row_xor_below a.known.geometry.drives a.known.geometry.unit (content_of a.known (read_device a.known.geometry a.sectors.now a.pointers.now) a.buffer.now) a.s a.known.end a.r

-- where it goes
abbrev Goes : tie.Start → Type 0
Goes s = let a = s.args in Valid a.known.to × (a.target.drive < a.known.to.drives) × (a.target.zone < physical_zones a.known.to) × (length a.written.now ≡ cells a.known.to)

goes : (s : tie.Start) → Goes s
goes s =
    let a = s.args in
    let k = s.requires.1.0 in (
      shape_valid a.known.geometry a.known.to k.shape s.requires.0,
      target_drive a.known a.target a.sectors.now a.written.now a.pointers.now a.buffer.now a.s k,
      target_zone a.known a.target a.sectors.now a.written.now a.pointers.now a.buffer.now a.s k,
      target_cells a.known a.target a.sectors.now a.written.now a.pointers.now a.buffer.now a.s k,
    )

append-due-requires : tie.Need-append_due-made-requires
append-due-requires c κs = let (ok, hd, hz, l) = goes c.before.before.before.before.before in (ok, (hd, hz, l))

returns : tie.Need-returns-then-not-made
returns c =
    let d = c.before.before in
    let s = d.before.before.before.before.before.before in
    let a = s.args in
    let t = a.target in
    let e : (t.present && ltb 1 a.budget) && has_room a.known.to t.drive t.zone a.written.now ≡ false = sym d.append_due-made.ensures ∙ not-true d.append_due-made.result c.if-not-made.true-raw in
    append_idle a.known.to t.present a.budget c.left_after.result t.drive t.zone (row s) a.sectors.now a.written.now c.left_after.ensures e

-- where the store is due
abbrev to_start : tie.Else-not-made → tie.Start
to_start c = c.before.before.before.before.before.before.before

due : (c : tie.Else-not-made) → let a = (to_start c).args in (a.target.present && ltb 1 a.budget) && has_room a.known.to a.target.drive a.target.zone a.written.now ≡ true
due c = sym c.append_due-made.ensures ∙ not-false c.append_due-made.result c.if-not-made.false-raw

parts : (c : tie.Else-not-made) → let a = (to_start c).args in (a.target.present ≡ true) × (get_or a.written.now (cell a.known.to a.target.drive a.target.zone) 0 < a.known.to.capacity)
parts c = let a = (to_start c).args in due_parts a.known.to a.target.present a.budget a.target.drive a.target.zone a.written.now (due c)

next-byte-requires : tie.Need-next_byte-to-requires
next-byte-requires c κs =
    let (ok, hd, hz, l) = goes (to_start c.before) in
    (ok, (hd, hz, l, (parts c.before).1))

build-row-requires : tie.Need-build_row-requires
build-row-requires c κs =
    let d = c.before.before.before in
    let s = to_start d in
    let a = s.args in
    let k = s.requires.1.0 in (
      s.requires.0,
      (
        k.stripe_known (parts d).0,
        s.requires.1.1,
        subst (λ (x : ℕ). FreePlace a.known.geometry a.pointers.now x) (sym c.next_byte-to.ensures.0) (next_free a.known a.target a.sectors.now a.written.now a.pointers.now a.buffer.now a.s k (parts d).1),
      ),
    )

advance-requires : tie.Need-advance-requires
advance-requires c κs =
    let d = c.before.before.before.before.before.before.before.before in
    let (ok, hd, hz, l) = goes (to_start d) in
    (ok, (hd, hz, l, (parts d).1))

returns-2 : tie.Need-returns
returns-2 c =
    let at-build-row = c.before.before.before.before.before.before.before in
    let at-next-byte = at-build-row.before.before in
    let d = at-next-byte.before.before.before in
    let s = to_start d in
    let a = s.args in
    let t = a.target in
    append_laid a.known.to t.present a.budget c.left_after-2.result t.drive t.zone (row s) a.sectors.now a.written.now at-build-row.build_row.new.sectors c.before.before.before.advance.new.written c.left_after-2.ensures (due d)
    (at-build-row.build_row.ensures ∙ ap (λ (x : ℕ). overlay a.sectors.now x (row s)) at-next-byte.next_byte-to.ensures.0) c.before.before.before.advance.ensures

pub append_row_spec : {M : Type 1} → statement M
append_row_spec =
    tie.close
    (tie.spec append-due-requires (λ c κs. search rules) (λ c. search rules) returns next-byte-requires build-row-requires advance-requires
    (λ c κs. search rules) (λ c. search rules) (λ c. search rules) returns-2)
