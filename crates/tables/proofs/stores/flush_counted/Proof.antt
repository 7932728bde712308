use mathlib.Core.Bool.{true, false, ◌&&◌}
use mathlib.Core.Path.{◌≡◌, ◌∙◌, sym}
use lib.Dec.{ltb}
use borrow.Author.Tests.{not-true, not-false}
use Rattle.tables.specs.meaning.Device.{flush}
use Rattle.tables.specs.meaning.Tables.{tables_of}
use Rattle.tables.specs.laws.Counted.{made_idle, made_due}
use borrow.Author.Rules.{rules}
use Rattle.tables.proofs.stores.flush_counted.Statement.{statement}
use Rattle.tables.proofs.stores.flush_counted.Tie as tie

returns : tie.Need-returns-then-not-made
returns c =
    let a = c.before.before.before.before.before.args in
    let d = c.before.before in
    let e : a.here && ltb 1 a.budget ≡ false = sym d.due-made.ensures ∙ not-true d.due-made.result c.before.if-not-made.true-raw in
    record { made = λ xs. made_idle a.g a.here a.budget c.left_after.result (flush a.drive) (tables_of xs a.written.now a.durable.now) c.left_after.ensures e }

returns-2 : tie.Need-returns
returns-2 c =
    let at-if = c.before.before.before.before.before in
    let d = at-if.before in
    let s = d.before.before.before in
    let a = s.args in
    let e : a.here && ltb 1 a.budget ≡ true = sym d.due-made.ensures ∙ not-false d.due-made.result at-if.if-not-made.false-raw in
    let f = c.before.before.before.flush_drive.ensures in
    record { made = λ xs. rw (f) (made_due a.g a.here a.budget c.left_after-2.result (flush a.drive) (tables_of xs a.written.now a.durable.now) c.left_after-2.ensures e) }

pub flush_counted_spec : {M : Type 1} → statement M
flush_counted_spec =
    tie.close
    (tie.spec (λ c κs. search rules) (λ c κs. search rules) returns (λ c κs. search rules) (λ c κs. search rules) (λ c. search rules) returns-2)
