use mathlib.Core.Path.{◌≡◌, sym, ◌∙◌, ap}
use native.Mathlib.Omega.{arith}
use lib.ListN.{length}
use Rattle.tables.specs.meaning.LittleEndian.{bytes_le}
use Rattle.volume.specs.reading.Peeking.{peek_accepted}
use Rattle.zrv.specs.meaning.EdgeCalls.{answered}
use Rattle.zrv.specs.laws.Bytes.{filled}
use Rattle.zrv.specs.laws.EdgeCalls.{Sized, input_passed, part_long, scratch_fits, refused, made, place_short, place_right, place_refused, place_made}
use borrow.Author.Rules.{rules}
use Rattle.volume.specs.meaning.RefusalNumbers.{refusal_number}
use Rattle.volume.specs.checks.RefusalNumbers.{refusal_not_none}
use Rattle.zrv.proofs.reading.zrv_peek.Goals as goal

pub returns-in-Err : goal.returns-in-Err
returns-in-Err c =
    let e = c.in-Err.ensures in
    rw (← c.shape-g.ensures, ← e, ← c.number.ensures) (refused _ _ _ (λ k. refusal_not_none _ (sym c.number.ensures ∙ k)))

pub returns-then-place-ne8 : goal.returns-then-place-ne8
returns-then-place-ne8 c =
    let none = c.in_default.ensures in
    rw (← c.shape-g.ensures) (place_short _ _ c.if-place-ne8.true ∙ made _ _ _ (sym none))

pub table_cells-n-requires : goal.table_cells-n-requires
table_cells-n-requires c = (input_passed _ _ _ _ (sym c.in_default.ensures)).valid

pub state_from-old-requires-clause-valid : goal.state_from-old-requires-clause-valid
state_from-old-requires-clause-valid c = (input_passed _ _ _ _ (sym c.in_default.ensures)).valid

pub state_from-old-requires-clause-bytes_len : goal.state_from-old-requires-clause-bytes_len
state_from-old-requires-clause-bytes_len c = (input_passed _ _ _ _ (sym c.in_default.ensures)).state_long

pub tables_from-requires : goal.tables_from-requires
tables_from-requires c = scratch_fits _ _ (input_passed _ _ _ _ (sym c.in_default.ensures)) c.table_cells-n.ensures

pub returns-in-Err-peek_refusal : goal.returns-in-Err-peek_refusal
returns-in-Err-peek_refusal c =
    let none = c.in_default.ensures in
    let p = c.in-Err-peek_refusal.ensures in
    let n = rw (c.named_drives-here.ensures, c.state_from-old.ensures, c.tables_from.ensures.0, c.tables_from.ensures.1) at p in
    let told = c.number-in-Err-peek_refusal.ensures ∙ n in
    rw (← c.shape-g.ensures, told) (place_refused _ _ _ _ (λ k. refusal_not_none _ (n ∙ k)) ∙ place_right _ _ c.if-place-ne8.false ∙ made _ _ _ (sym none))

pub offset_at-at-requires-clause-valid : goal.offset_at-at-requires-clause-valid
offset_at-at-requires-clause-valid c = (input_passed _ _ _ _ (sym c.in_default.ensures)).valid

pub offset_at-at-requires-clause-address_bound : goal.offset_at-at-requires-clause-address_bound
offset_at-at-requires-clause-address_bound c = (peek_accepted _ _ _ _ _ _ _ (sym c.in_default-peek_refusal.ensures)).zone_in_lem

pub returns : goal.returns
returns c =
    let none = c.in_default.ensures in
    let held = c.in_default-peek_refusal.ensures in
    let n = rw (c.named_drives-here.ensures, c.state_from-old.ensures, c.tables_from.ensures.0, c.tables_from.ensures.1) at held in
    let q = c.write_u64.ensures ∙ filled (bytes_le 8 c.offset_at-at.result) c.args.place.now 8 (sym c.if-place-ne8.false) ∙ ap (bytes_le 8) c.offset_at-at.ensures in
    rw (← c.shape-g.ensures) (ap (answered 0) q ∙ place_made _ _ _ _ (sym n) ∙ place_right _ _ c.if-place-ne8.false ∙ made _ _ _ (sym none))
