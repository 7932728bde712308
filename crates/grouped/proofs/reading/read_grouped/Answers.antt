use mathlib.Core.Path.{◌≡◌, ◌∙◌, refl, sym, ap}
use Prim.Native.Nat.{◌-◌, ◌<◌}
use native.Mathlib.Omega.{arith}
use lib.ListN.{length}
use borrow.Author.Tests.{ne_eqb}
use Rattle.grouped.specs.meaning.Segment.{total_blocks}
use Rattle.grouped.specs.meaning.Reading.{request, metadata_number, newest, grouped_number}
use Rattle.grouped.specs.places.Placed.{placed_found}
use Rattle.grouped.specs.reading.Blocks.{block_noted_is}
use Rattle.grouped.specs.reading.Call.{admitted, by_input, by_metadata, by_address, refused_left, finished_left_lem}
use Rattle.grouped.specs.meaning.RefusalNumbers.{refusal_number}
use Rattle.grouped.specs.reading.RefusalNumbers.{refusal_not_none, number_err}
use Rattle.grouped.proofs.reading.read_grouped.Goals as goal

pub returns-in_err-input_refusal : goal.returns-in_err-input_refusal
returns-in_err-input_refusal c =
    let a = c.args in
    let x = c.in_err-input_refusal.field-0.0 in
    let n = number_err c.from_residual.result x c.from_residual.ensures.1 in
    let e : grouped_number (request a.s a.named a.blocks.now a.metadata.now (length a.work.now) a.address) a.answer.now ≡ refusal_number x = by_input (request a.s a.named a.blocks.now a.metadata.now (length a.work.now) a.address) a.answer.now (refusal_number x) (sym c.in_err-input_refusal.ensures) (refusal_not_none x) in
    (n ∙ sym e, sym (refused_left (request a.s a.named a.blocks.now a.metadata.now (length a.work.now) a.address) a.answer.now (refusal_number x) e (refusal_not_none x)))

pub missing_drive-missing-requires : goal.missing_drive-missing-requires
missing_drive-missing-requires c = let a = c.args in (admitted a.s a.named (length a.blocks.now) (length a.metadata.now) (length a.work.now) (length a.answer.now) (sym c.in_ok-input_refusal.ensures)).valid

pub metadata_refusal-requires-clause-sized : goal.metadata_refusal-requires-clause-sized
metadata_refusal-requires-clause-sized c = let a = c.args in let l = admitted a.s a.named (length a.blocks.now) (length a.metadata.now) (length a.work.now) (length a.answer.now) (sym c.in_ok-input_refusal.ensures) in record { valid = l.valid; whole = l.whole; metadata_long = l.metadata_long; work_long = l.work_long }

pub returns-in_err-metadata_refusal : goal.returns-in_err-metadata_refusal
returns-in_err-metadata_refusal c =
    let a = c.args in
    let x = c.in_err-metadata_refusal.field-0.0 in
    let n = number_err c.from_residual-in_err-metadata_refusal.result x c.from_residual-in_err-metadata_refusal.ensures.1 in
    let m = c.in_err-metadata_refusal.ensures in
    let t = sym (m.told ∙ ap (metadata_number a.s a.metadata.now) c.missing_drive-missing.ensures.0) in
    let e : grouped_number (request a.s a.named a.blocks.now a.metadata.now (length a.work.now) a.address) a.answer.now ≡ refusal_number x = by_metadata (request a.s a.named a.blocks.now a.metadata.now (length a.work.now) a.address) a.answer.now (refusal_number x) (sym c.in_ok-input_refusal.ensures) t (refusal_not_none x) in
    (n ∙ sym e, sym (refused_left (request a.s a.named a.blocks.now a.metadata.now (length a.work.now) a.address) a.answer.now (refusal_number x) e (refusal_not_none x)))

pub newest-found-requires : goal.newest-found-requires
newest-found-requires c = c.in_ok-metadata_refusal.ensures.placed refl

pub returns-then-found-eq0 : goal.returns-then-found-eq0
returns-then-found-eq0 c =
    let a = c.args in
    let n = sym (c.newest-found.ensures.0 ∙ ap (λ x. newest a.s a.metadata.now x a.address) c.missing_drive-missing.ensures.0) ∙ c.if-found-eq0.true in
    let e : grouped_number (request a.s a.named a.blocks.now a.metadata.now (length a.work.now) a.address) a.answer.now ≡ 13 = by_address (request a.s a.named a.blocks.now a.metadata.now (length a.work.now) a.address) a.answer.now (sym c.in_ok-input_refusal.ensures) (sym (c.in_ok-metadata_refusal.ensures.told ∙ ap (metadata_number a.s a.metadata.now) c.missing_drive-missing.ensures.0)) 0 n in
    (sym e, sym (refused_left (request a.s a.named a.blocks.now a.metadata.now (length a.work.now) a.address) a.answer.now 13 e (omega arith)))

pub read_block-requires-clause-valid : goal.read_block-requires-clause-valid
read_block-requires-clause-valid c = let a = c.args in ((admitted a.s a.named (length a.blocks.now) (length a.metadata.now) (length a.work.now) (length a.answer.now) (sym c.in_ok-input_refusal.ensures)).valid, placed_found a.s a.metadata.now _ _ (c.in_ok-metadata_refusal.ensures.placed refl))

pub read_block-requires-clause-c_bound : goal.read_block-requires-clause-c_bound
read_block-requires-clause-c_bound c = let a = c.args in let l = admitted a.s a.named (length a.blocks.now) (length a.metadata.now) (length a.work.now) (length a.answer.now) (sym c.in_ok-input_refusal.ensures) in (omega (arith, c.newest-found.ensures.1), l.blocks_long, l.answer_long)

pub returns : goal.returns
returns c =
    let a = c.args in
    let f = c.newest-found in
    let x = c.missing_drive-missing in
    let placed = c.in_ok-metadata_refusal.ensures.placed refl in
    let n = sym (f.ensures.0 ∙ ap (λ x. newest a.s a.metadata.now x a.address) x.ensures.0) in
    let h : f.result - 1 < total_blocks a.s = omega (arith, f.ensures.1) in
    let e : grouped_number (request a.s a.named a.blocks.now a.metadata.now (length a.work.now) a.address) a.answer.now ≡ 0 = by_address (request a.s a.named a.blocks.now a.metadata.now (length a.work.now) a.address) a.answer.now (sym c.in_ok-input_refusal.ensures) (sym (c.in_ok-metadata_refusal.ensures.told ∙ ap (metadata_number a.s a.metadata.now) c.missing_drive-missing.ensures.0)) f.result n ∙ rw (ne_eqb f.result 0 (omega arith)) refl in
    (sym e, c.read_block.ensures ∙ block_noted_is a.s a.blocks.now a.metadata.now x.result _ (f.result - 1) placed h ∙ rw (x.ensures.0, ← n) (sym (finished_left_lem (request a.s a.named a.blocks.now a.metadata.now (length a.work.now) a.address) a.answer.now e)))
