use mathlib.Core.Path.{◌≡◌, sym, ◌∙◌}
use native.Mathlib.Omega.{arith}
use lib.ListN.{length}
use Rattle.zrv.specs.meaning.EdgeCalls.{ranges}
use Rattle.zrv.specs.laws.EdgeCalls.{Sized, input_passed, part_long, scratch_fits, refused, made, flushes_stored}
use borrow.Author.Rules.{rules}
use Rattle.volume.specs.meaning.RefusalNumbers.{refusal_number}
use Rattle.volume.specs.checks.RefusalNumbers.{refusal_not_none}
use Rattle.zrv.proofs.writing.zrv_flush.Goals as goal

pub returns-in-Err : goal.returns-in-Err
returns-in-Err c =
    let e = c.in-Err.ensures in
    rw (← c.shape-g.ensures, ← e, ← c.number.ensures) (refused _ _ _ (λ k. refusal_not_none _ (sym c.number.ensures ∙ k)))

pub table_cells-n-requires : goal.table_cells-n-requires
table_cells-n-requires c = (input_passed _ _ _ _ (sym c.in_default.ensures)).valid

pub state_from-old-requires-clause-valid : goal.state_from-old-requires-clause-valid
state_from-old-requires-clause-valid c = (input_passed _ _ _ _ (sym c.in_default.ensures)).valid

pub state_from-old-requires-clause-bytes_len : goal.state_from-old-requires-clause-bytes_len
state_from-old-requires-clause-bytes_len c = (input_passed _ _ _ _ (sym c.in_default.ensures)).state_long

pub tables_from-requires : goal.tables_from-requires
tables_from-requires c = scratch_fits _ _ (input_passed _ _ _ _ (sym c.in_default.ensures)) c.table_cells-n.ensures

pub table_to-requires : goal.table_to-requires
table_to-requires c =
    let n = c.table_cells-n.ensures in
    omega (arith, (input_passed _ _ _ _ (sym c.in_default.ensures)).durable_long, n, part_long _ n.1, c.flush-outcome.auto, c.tables_from.auto)

pub hand_back-requires-clause-valid : goal.hand_back-requires-clause-valid
hand_back-requires-clause-valid c = (input_passed _ _ _ _ (sym c.in_default.ensures)).valid

pub hand_back-requires-clause-bytes_len : goal.hand_back-requires-clause-bytes_len
hand_back-requires-clause-bytes_len c = (input_passed _ _ _ _ (sym c.in_default.ensures)).state_long

pub returns : goal.returns
returns c =
    let a = c.args in
    let m = ranges a.sectors.now a.written.now a.durable.now a.state.now in
    let r = rw (c.named_drives-here.ensures, c.state_from-old.ensures, c.tables_from.ensures.0, c.tables_from.ensures.1) at c.flush-outcome.ensures in
    let none = c.in_default.ensures in
    rw (← c.shape-g.ensures) (flushes_stored _ m _ r c.hand_back.ensures c.table_to.ensures ∙ made _ _ _ (sym none))
