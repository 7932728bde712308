use mathlib.Core.Path.{ap, ap₂, ◌∙◌}
use mathlib.Core.Bool.{Bool}
use mathlib.Core.List.{List}
use Prim.Native.Nat.{ℕ, ◌<◌}
use native.Mathlib.Omega.{arith}
use lib.ListN.{length}
use Rattle.tables.specs.laws.TablesFrame.{lengths_are}
use Rattle.volume.specs.meaning.Refusals.{zone_of}
use Rattle.volume.specs.meaning.CallContracts.{record_at}
use Rattle.volume.specs.checks.CheckLaws.{present_list, opening_is, tested, none_opening, opened_by}
use Rattle.volume.specs.checks.ZoneChecks.{pointer_within}
use Rattle.volume.specs.reading.Peeking.{place_number_on, peek_first, peek_8, peek_late}
use Rattle.volume.specs.checks.RefusalNumbers.{number_err, refusal_not_none}
use Rattle.volume.proofs.reading.peek_refusal.Goals as goal

pub opening-requires : goal.opening-requires
opening-requires c = tested _ c.args.state _ c.input_within-within.ensures

pub returns-in_err-opening : goal.returns-in_err-opening
returns-in_err-opening c =
    let a = c.args in
    let e = c.in_err-opening.ensures ∙ opening_is a.g a.named a.state c.input_within-within.result 0 0 (length a.sectors.now) a.written.now a.durable.now c.input_within-within.ensures in
    number_err c.from_residual.result c.in_err-opening.field-0.0 c.from_residual.ensures.1 ∙ e ∙ peek_first a.g a.named a.state a.address a.sectors.now a.written.now a.durable.now (λ k. refusal_not_none _ (e ∙ k))

pub zone_of-z-requires : goal.zone_of-z-requires
zone_of-z-requires c = let a = c.args in (opened_by a.g a.named a.state c.input_within-within.result 0 0 (length a.sectors.now) a.written.now a.durable.now c.input_within-within.ensures (c.in_ok-opening.ensures)).valid

pub returns-then-zones-z : goal.returns-then-zones-z
returns-then-zones-z c = let a = c.args in peek_8 a.g a.named a.state a.address a.sectors.now a.written.now a.durable.now (none_opening a.g a.named a.state c.input_within-within.result 0 0 (length a.sectors.now) a.written.now a.durable.now c.input_within-within.ensures (c.in_ok-opening.ensures)) (omega (arith, c.zone_of-z.ensures, c.if-zones-z.true))

pub offset_bounds-records-z : goal.offset_bounds-records-z
offset_bounds-records-z c = let a = c.args in let o = opened_by a.g a.named a.state c.input_within-within.result 0 0 (length a.sectors.now) a.written.now a.durable.now c.input_within-within.ensures (c.in_ok-opening.ensures) in omega (arith, c.if-zones-z.false, o.valid.zones_most)

pub bounds-records-z : goal.bounds-records-z
bounds-records-z c = let a = c.args in let o = opened_by a.g a.named a.state c.input_within-within.result 0 0 (length a.sectors.now) a.written.now a.durable.now c.input_within-within.ensures (c.in_ok-opening.ensures) in omega (arith, c.if-zones-z.false, o.valid.zones_most)

pub present_drives-here-requires : goal.present_drives-here-requires
present_drives-here-requires c = let a = c.args in (opened_by a.g a.named a.state c.input_within-within.result 0 0 (length a.sectors.now) a.written.now a.durable.now c.input_within-within.ensures (c.in_ok-opening.ensures)).valid

pub offset_of-offset-requires : goal.offset_of-offset-requires
offset_of-offset-requires c = let a = c.args in (opened_by a.g a.named a.state c.input_within-within.result 0 0 (length a.sectors.now) a.written.now a.durable.now c.input_within-within.ensures (c.in_ok-opening.ensures)).valid

pub place_refusal-requires-clause-valid : goal.place_refusal-requires-clause-valid
place_refusal-requires-clause-valid c = let a = c.args in (opened_by a.g a.named a.state c.input_within-within.result 0 0 (length a.sectors.now) a.written.now a.durable.now c.input_within-within.ensures (c.in_ok-opening.ensures)).valid

pub place_refusal-requires-clause-z_lt_zones : goal.place_refusal-requires-clause-z_lt_zones
place_refusal-requires-clause-z_lt_zones c =
    let a = c.args in
    let o = opened_by a.g a.named a.state c.input_within-within.result 0 0 (length a.sectors.now) a.written.now a.durable.now c.input_within-within.ensures (c.in_ok-opening.ensures) in
    let z = c.zone_of-z.ensures in
    let h : zone_of a.g a.address < a.g.zones = omega (arith, z, c.if-zones-z.false) in
    (rw z h, (lengths_are a.g (length a.sectors.now) (length a.written.now) (length a.durable.now) o.lengths).1, rw z (pointer_within a.g a.state (zone_of a.g a.address) o.within h), c.offset_of-offset.ensures.1)

pub returns : goal.returns
returns c =
    let a = c.args in
    let h : zone_of a.g a.address < a.g.zones = omega (arith, c.zone_of-z.ensures, c.if-zones-z.false) in
    c.place_refusal.ensures
    ∙ ap (λ (h : List Bool). place_number_on a.g h a.written.now (record_at a.state c.zone_of-z.result).condition c.zone_of-z.result c.offset_of-offset.result) c.present_drives-here.ensures
    ∙ ap₂ (λ (z o : ℕ). place_number_on a.g (present_list a.g a.named a.state.lost) a.written.now (record_at a.state z).condition z o) c.zone_of-z.ensures c.offset_of-offset.ensures.0
    ∙ peek_late a.g a.named a.state a.address a.sectors.now a.written.now a.durable.now (none_opening a.g a.named a.state c.input_within-within.result 0 0 (length a.sectors.now) a.written.now a.durable.now c.input_within-within.ensures (c.in_ok-opening.ensures)) h
