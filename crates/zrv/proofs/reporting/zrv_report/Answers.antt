use Prim.Native.Nat.{ℕ, ◌≤◌}
use mathlib.Core.Path.{◌≡◌, sym, ◌∙◌, refl, ap}
use native.Mathlib.Omega.{arith}
use Rattle.volume.specs.meaning.Report.{filled_number}
use Rattle.zrv.specs.meaning.EdgeCalls.{descriptors_in}
use Rattle.zrv.specs.laws.EdgeCalls.{refused, made}
use Rattle.zrv.specs.laws.Report.{Reportable, report_passed, number_passed, number_room, report_made}
use borrow.Author.Rules.{rules}
use Rattle.volume.specs.meaning.RefusalNumbers.{refusal_number}
use Rattle.volume.specs.checks.RefusalNumbers.{refusal_not_none}
use mathlib.Core.List.{List}
use Rattle.tables.specs.declared.Geometry.{Geometry}
use Rattle.volume.specs.declared.State.{State}
use Rattle.volume.specs.meaning.CallContracts.{view_state}
use Rattle.volume.specs.reading.Reporting.{report_number}
use Rattle.zrv.specs.meaning.Bytes.{state_from}
use Rattle.zrv.proofs.reporting.zrv_report.Goals as goal

pub returns-in-Err : goal.returns-in-Err
returns-in-Err c =
    let e = c.in-Err.ensures in
    rw (← c.shape-g.ensures, ← e, ← c.number.ensures) (refused _ _ _ (λ k. refusal_not_none _ (sym c.number.ensures ∙ k)))

pub state_from-held-requires-clause-valid : goal.state_from-held-requires-clause-valid
state_from-held-requires-clause-valid c = (report_passed _ _ (sym c.in_default.ensures)).valid

pub state_from-held-requires-clause-bytes_len : goal.state_from-held-requires-clause-bytes_len
state_from-held-requires-clause-bytes_len c = (report_passed _ _ (sym c.in_default.ensures)).state_long

-- so many are filled
number : (g : Geometry) (st list : List ℕ) (n : ℕ) (s : State) → Reportable g st → s ≡ state_from g st → n ≡ report_number g (view_state s) (descriptors_in list) → n ≡ filled_number g (descriptors_in list)
number g st list n s p e h = h ∙ ap (λ (t : State). report_number g (view_state t) (descriptors_in list)) e ∙ number_passed g st list p

pub fill_list-requires-clause-valid : goal.fill_list-requires-clause-valid
fill_list-requires-clause-valid c = (report_passed _ _ (sym c.in_default.ensures)).valid

pub fill_list-requires-clause-n_le_zones : goal.fill_list-requires-clause-n_le_zones
fill_list-requires-clause-n_le_zones c = let a = c.args in rw (number c.shape-g.result a.state.now a.list.now _ _ (report_passed _ _ (sym c.in_default.ensures)) c.state_from-held.ensures c.report_number-n.ensures) (number_room c.shape-g.result a.list.now)

pub overflow_mul-result : goal.overflow_mul-result
overflow_mul-result c = let a = c.args in let n = number c.shape-g.result a.state.now a.list.now _ _ (report_passed _ _ (sym c.in_default.ensures)) c.state_from-held.ensures c.report_number-n.ensures in omega (arith, n, (number_room c.shape-g.result a.list.now).0, (report_passed _ _ (sym c.in_default.ensures)).valid.zones_most)

pub returns : goal.returns
returns c =
    let a = c.args in
    let f = rw c.state_from-held.ensures at c.fill_list.ensures in
    let none = c.in_default.ensures in
    rw (← c.shape-g.ensures) (report_made c.shape-g.result a.state.now a.list.now (report_passed _ _ (sym c.in_default.ensures)) (number c.shape-g.result a.state.now a.list.now _ _ (report_passed _ _ (sym c.in_default.ensures)) c.state_from-held.ensures c.report_number-n.ensures) f ∙ made _ _ _ (sym none))
