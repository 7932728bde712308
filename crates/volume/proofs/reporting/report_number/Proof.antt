use mathlib.Core.Path.{◌≡◌, refl, sym, ◌∙◌}
use mathlib.Core.Bool.{true, false}
use lib.Dec.{ltb}
use borrow.Author.Rules.{rules}
use borrow.Author.Tests.{lt-ltb, le-ltb, not-true, not-false}
use Rattle.volume.specs.meaning.CallContracts.{view_state}
use Rattle.volume.specs.meaning.Report.{may_report}
use Rattle.volume.specs.reading.Reporting.{number_if}
use Rattle.volume.proofs.reporting.report_number.Statement.{statement}
use Rattle.volume.proofs.reporting.report_number.Tie as tie

may : (c : tie.Else-not-ok) → may_report c.args.g (view_state c.args.state) ≡ true
may c = sym c.may_report-ok.ensures ∙ not-false c.may_report-ok.result c.if-not-ok.false-raw

returns : tie.Need-returns-then-not-ok
returns c =
    let a = c.args in
    sym (number_if a.g (view_state a.state) a.room false (ltb a.room a.g.zones) (sym c.may_report-ok.ensures ∙ not-true c.may_report-ok.result c.if-not-ok.true-raw) refl)

returns-2 : tie.Need-returns-then-room-most
returns-2 c =
    let a = c.args in
    sym (number_if a.g (view_state a.state) a.room true true (may c.before) (lt-ltb _ _ c.if-room-most.true))

returns-3 : tie.Need-returns
returns-3 c =
    let a = c.args in
    sym (number_if a.g (view_state a.state) a.room true false (may c.before) (le-ltb _ _ c.if-room-most.false))

pub report_number_spec : {M : Type 1} → statement M
report_number_spec = tie.close (tie.spec (λ c κs. search rules) returns returns-2 returns-3)
