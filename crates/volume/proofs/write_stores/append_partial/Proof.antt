use Prim.Native.Nat.{ℕ, ◌+◌, ◌-◌, ◌<◌}
use mathlib.Core.Path.{◌≡◌, sym, ap, ◌∙◌}
use mathlib.Core.Bool.{true, false, ◌&&◌}
use mathlib.Core.List.{List}
use native.Mathlib.Omega.{arith}
use lib.ListN.{get_or}
use lib.Dec.{ltb}
use borrow.Author.Tests.{not-true, not-false}
use Rattle.tables.specs.meaning.Lists.{overlay}
use Rattle.tables.specs.meaning.Tables.{cell, has_room}
use Rattle.tables.specs.laws.Counted.{append_idle, append_laid, due_parts}
use Rattle.tables.specs.laws.Within.{part_long, part_changed}
use Rattle.logs.specs.meaning.Entry.{parity_zone, encode, partial_parity}
use borrow.Author.Rules.{rules}
use Rattle.volume.proofs.write_stores.append_partial.Statement.{statement}
use Rattle.volume.proofs.write_stores.append_partial.Tie as tie

-- the header that is meant
abbrev header : tie.Start → List ℕ
header s = let a = s.args in encode a.g a.drive (partial_parity a.z a.s a.fill a.generation)

returns : tie.Need-returns-then-not-made
returns c =
    let d = c.before.before in
    let s = d.before.before.before in
    let a = s.args in
    let e : (a.present && ltb 1 a.budget) && has_room a.g a.drive parity_zone a.written.now ≡ false = sym d.append_due-made.ensures ∙ not-true d.append_due-made.result c.if-not-made.true-raw in
    append_idle a.g a.present a.budget c.left_after.result a.drive parity_zone (header s) a.sectors.now a.written.now c.left_after.ensures e

-- where the store is due
abbrev to_start : tie.Else-not-made → tie.Start
to_start c = c.before.before.before.before

due : (c : tie.Else-not-made) → let a = (to_start c).args in (a.present && ltb 1 a.budget) && has_room a.g a.drive parity_zone a.written.now ≡ true
due c = sym c.append_due-made.ensures ∙ not-false c.append_due-made.result c.if-not-made.false-raw

room : (c : tie.Else-not-made) → let a = (to_start c).args in get_or a.written.now (cell a.g a.drive parity_zone) 0 < a.g.capacity
room c = let a = (to_start c).args in (due_parts a.g a.present a.budget a.drive parity_zone a.written.now (due c)).1

next-byte-requires : tie.Need-next_byte-from-requires
next-byte-requires c κs = let s = to_start c in (s.requires.0, (s.requires.1.0, omega arith, s.requires.1.4, room c))

advance-requires : tie.Need-advance-requires
advance-requires c κs = let d = c.before.before.before.before.before.before in let s = to_start d in (s.requires.0, (s.requires.1.0, omega arith, s.requires.1.4, room d))

returns-2 : tie.Need-returns
returns-2 c =
    let at-write-partial = c.before.before.before.before.before.before.before in
    let at-next-byte = at-write-partial.before.before in
    let d = at-next-byte.before in
    let s = to_start d in
    let a = s.args in
    let f = at-write-partial.write_partial in
    let n = at-next-byte.next_byte-from in
    let b = a.g.sector in
    let xs = a.sectors.now in
    let long = part_long xs n.result (n.result + b - n.result) (omega (arith, n.ensures.1, s.requires.1.3)) in
    append_laid a.g a.present a.budget c.left_after-2.result a.drive parity_zone (header s) xs a.written.now _ c.before.before.before.advance.new.written c.left_after-2.ensures (due d)
    (part_changed xs f.new.out n.result (n.result + b - n.result) (f.auto.out ∙ long) ∙ ap (λ (x : List ℕ). overlay xs n.result x) f.ensures ∙ ap (λ (x : ℕ). overlay xs x (header s)) n.ensures.0) c.before.before.before.advance.ensures

pub append_partial_spec : {M : Type 1} → statement M
append_partial_spec =
    tie.close
    (tie.spec (λ c κs. search rules) (λ c κs. search rules) (λ c. search rules) returns next-byte-requires (λ c. search rules) (λ c. search rules)
    (λ c. search rules) (λ c. search rules) (λ c κs. search rules) advance-requires (λ c κs. search rules) (λ c. search rules) (λ c. search rules) returns-2)
