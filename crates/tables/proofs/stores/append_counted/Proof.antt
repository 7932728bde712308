use mathlib.Core.Bool.{true, false, ◌&&◌}
use mathlib.Core.Path.{◌≡◌, sym, ◌∙◌}
use lib.Dec.{ltb}
use borrow.Author.Tests.{not-true, not-false, ltb-true}
use Rattle.tables.specs.laws.Basics.{and_split}
use Rattle.tables.specs.meaning.Tables.{has_room}
use Rattle.tables.specs.laws.Counted.{append_idle, append_due}
use borrow.Author.Rules.{rules}
use Rattle.tables.proofs.stores.append_counted.Statement.{statement}
use Rattle.tables.proofs.stores.append_counted.Tie as tie

returns : tie.Need-returns-then-not-made
returns c =
    let d = c.before.before in
    let a = d.before.before.before.before.args in
    let e : (a.here && ltb 1 a.budget) && has_room a.g a.drive a.zone a.written.now ≡ false = sym d.append_due-made.ensures ∙ not-true _ c.before.if-not-made.true-raw in
    append_idle a.g a.here a.budget c.left_after.result a.drive a.zone a.src.now a.sectors.now a.written.now c.left_after.ensures e

append-sector-requires : tie.Need-append_sector-requires
append-sector-requires c κs =
    let d = c.before.before.before in
    let s = d.before.before.before.before in
    let a = s.args in
    let e : (a.here && ltb 1 a.budget) && has_room a.g a.drive a.zone a.written.now ≡ true = sym d.append_due-made.ensures ∙ not-false _ c.before.before.if-not-made.false-raw in
    let (p, q) = and_split (a.here && ltb 1 a.budget) (has_room a.g a.drive a.zone a.written.now) e in
    (s.requires.0, (s.requires.1.0, ((s.requires.1.1.0, s.requires.1.1.1), (s.requires.1.1.2, ltb-true _ _ q))))

returns-2 : tie.Need-returns
returns-2 c =
    let at-append-sector = c.before.before.before.before.before in
    let at-if = at-append-sector.before.before.before in
    let d = at-if.before in
    let a = d.before.before.before.before.args in
    let e : (a.here && ltb 1 a.budget) && has_room a.g a.drive a.zone a.written.now ≡ true = sym d.append_due-made.ensures ∙ not-false _ at-if.if-not-made.false-raw in
    let f = at-append-sector.append_sector.ensures in
    rw (f.0, f.1) (append_due a.g a.here a.budget c.left_after-2.result a.drive a.zone a.src.now a.sectors.now a.written.now c.left_after-2.ensures e)

pub append_counted_spec : {M : Type 1} → statement M
append_counted_spec =
    tie.close
    (tie.spec (λ c κs. search rules) (λ c κs. search rules) (λ c. search rules) returns append-sector-requires (λ c κs. search rules) (λ c. search rules) (λ c. search rules) returns-2)
