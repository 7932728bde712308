use mathlib.Core.Path.{◌≡◌, refl, sym, ap, ◌∙◌}
use native.Mathlib.Omega.{arith}
use lib.ListN.{length}
use Rattle.volume.specs.declared.Outcome.{Outcome}
use Rattle.zrv.specs.meaning.EdgeCalls.{ranges}
use Rattle.zrv.specs.laws.EdgeCalls.{Sized, sizes_passed, part_long, scratch_fits, refused, made, all_stored, placed}
use borrow.Author.Rules.{rules}
use Rattle.volume.specs.meaning.RefusalNumbers.{refusal_number}
use Rattle.volume.specs.checks.RefusalNumbers.{refusal_not_none}
use Rattle.zrv.proofs.starting.zrv_mount.Goals as goal

pub returns-in-Err : goal.returns-in-Err
returns-in-Err c =
    let e = c.in-Err.ensures in
    rw (← c.shape-g.ensures, ← e, ← c.number.ensures) (refused _ _ _ (λ k. refusal_not_none _ (sym c.number.ensures ∙ k)))

pub table_cells-n-requires : goal.table_cells-n-requires
table_cells-n-requires c = (sizes_passed _ _ _ _ (sym c.in_default.ensures)).valid

pub tables_from-requires : goal.tables_from-requires
tables_from-requires c = scratch_fits _ _ (sizes_passed _ _ _ _ (sym c.in_default.ensures)) c.table_cells-n.ensures

pub table_to-requires : goal.table_to-requires
table_to-requires c =
    let n = c.table_cells-n.ensures in
    omega (arith, (sizes_passed _ _ _ _ (sym c.in_default.ensures)).written_long, n, part_long _ n.1, c.mount-outcome.auto, c.tables_from.auto)

pub table_to-requires-2 : goal.table_to-requires-2
table_to-requires-2 c =
    let n = c.table_cells-n.ensures in
    omega (arith, (sizes_passed _ _ _ _ (sym c.in_default.ensures)).durable_long, n, part_long _ n.1, c.mount-outcome.auto, c.tables_from.auto)

pub hand_back_placed-requires-clause-valid : goal.hand_back_placed-requires-clause-valid
hand_back_placed-requires-clause-valid c = (sizes_passed _ _ _ _ (sym c.in_default.ensures)).valid

pub hand_back_placed-requires-clause-bytes_len : goal.hand_back_placed-requires-clause-bytes_len
hand_back_placed-requires-clause-bytes_len c = (sizes_passed _ _ _ _ (sym c.in_default.ensures)).state_long

pub returns : goal.returns
returns c =
    let a = c.args in
    let m = ranges a.sectors.now a.written.now a.durable.now a.state.now in
    let r = rw (c.named_drives-here.ensures, c.unread_state-old.ensures, c.tables_from.ensures.0, c.tables_from.ensures.1) at c.mount-outcome.ensures in
    let none = c.in_default.ensures in
    let h = c.hand_back_placed.ensures in
    rw (← c.shape-g.ensures) (placed (ap (λ (o : Outcome). o.answer) r.0) (all_stored _ m _ r (refl, h.1) c.table_to.ensures c.table_to-2.ensures) h.0 ∙ made _ _ _ (sym none))
