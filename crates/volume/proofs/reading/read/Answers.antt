use mathlib.Core.Path.{◌≡◌, sym, ap, ap₂, ◌∙◌, subst}
use mathlib.Core.Bool.{Bool}
use mathlib.Core.List.{List}
use Prim.Native.Nat.{ℕ, ◌≤◌, ◌<◌}
use native.Mathlib.Omega.{arith}
use lib.ListN.{length}
use lib.Dec.{eqb}
use Rattle.tables.specs.meaning.Basics.{pick}
use Rattle.tables.specs.meaning.Geometry.{zone_sectors}
use Rattle.tables.specs.meaning.Tables.{tables_of}
use Rattle.volume.specs.declared.Zone.{Zone}
use Rattle.volume.specs.declared.Answer.TheVariants.{Finished, Refused}
use Rattle.volume.specs.meaning.Refusals.{zone_of, offset_of}
use Rattle.volume.specs.meaning.CallContracts.{record_at, read_number, read_on}
use Rattle.volume.specs.checks.CheckLaws.{present_list, opening_is, tested, none_opening, opened_by}
use Rattle.volume.specs.checks.ZoneChecks.{pointer_within}
use Rattle.volume.specs.reading.Reading.{opened_readable, buffer_long, read_first, read_8, read_refused}
use Rattle.volume.specs.reading.ReadZone.{ReadAsked, zone_read_number, zone_read_left, zone_read_is, zone_left_is}
use Rattle.volume.specs.meaning.RefusalNumbers.{number_of}
use Rattle.volume.specs.checks.RefusalNumbers.{refusal_not_none}
use Rattle.tables.specs.declared.Geometry.{Geometry}
use Rattle.volume.specs.declared.State.{State}
use Rattle.volume.proofs.reading.read.Goals as goal

pub opening-requires : goal.opening-requires
opening-requires c = tested _ c.args.state _ c.input_within-within.ensures

pub returns-in-Err : goal.returns-in-Err
returns-in-Err c =
    let a = c.args in
    let t = tables_of a.sectors.now a.written.now a.durable.now in
    let o = c.in-Err.ensures ∙ opening_is a.g a.named a.state c.input_within-within.result a.count (length a.out.now) (length a.sectors.now) a.written.now a.durable.now c.input_within-within.ensures in
    let e = o ∙ read_first a.g a.named a.state a.address a.count (length a.out.now) a.sectors.now a.written.now a.durable.now (λ k. refusal_not_none c.in-Err.refusal (o ∙ k)) in
    let (p, q) = read_refused a.g a.named a.state a.address a.count a.out.now t (λ k. refusal_not_none c.in-Err.refusal (e ∙ k)) in
    (ap Refused (c.number.ensures ∙ e) ∙ sym p, sym q)

pub zone_of-z-requires : goal.zone_of-z-requires
zone_of-z-requires c = let a = c.args in (opened_by a.g a.named a.state c.input_within-within.result a.count (length a.out.now) (length a.sectors.now) a.written.now a.durable.now c.input_within-within.ensures (c.in_default.ensures)).valid

pub returns-then-zones-z : goal.returns-then-zones-z
returns-then-zones-z c =
    let a = c.args in
    let t = tables_of a.sectors.now a.written.now a.durable.now in
    let n : 8 ≡ read_number a.g a.named a.state a.address a.count (length a.out.now) t = read_8 a.g a.named a.state a.address a.count (length a.out.now) a.sectors.now a.written.now a.durable.now (none_opening a.g a.named a.state c.input_within-within.result a.count (length a.out.now) (length a.sectors.now) a.written.now a.durable.now c.input_within-within.ensures (c.in_default.ensures)) (omega (arith, c.zone_of-z.ensures, c.if-zones-z.true)) in
    let (p, q) = read_refused a.g a.named a.state a.address a.count a.out.now t (λ k. let z : ◌≡◌ {A = ℕ} 8 0 = n ∙ k in absurd (omega (arith, z))) in
    (ap Refused (c.number-then-zones-z.ensures ∙ n) ∙ sym p, sym q)

pub offset_bounds-records-z : goal.offset_bounds-records-z
offset_bounds-records-z c = let a = c.args in let o = opened_by a.g a.named a.state c.input_within-within.result a.count (length a.out.now) (length a.sectors.now) a.written.now a.durable.now c.input_within-within.ensures (c.in_default.ensures) in omega (arith, c.if-zones-z.false, o.valid.zones_most)

pub bounds-records-z : goal.bounds-records-z
bounds-records-z c = let a = c.args in let o = opened_by a.g a.named a.state c.input_within-within.result a.count (length a.out.now) (length a.sectors.now) a.written.now a.durable.now c.input_within-within.ensures (c.in_default.ensures) in omega (arith, c.if-zones-z.false, o.valid.zones_most)

pub present_drives-here-requires : goal.present_drives-here-requires
present_drives-here-requires c = let a = c.args in (opened_by a.g a.named a.state c.input_within-within.result a.count (length a.out.now) (length a.sectors.now) a.written.now a.durable.now c.input_within-within.ensures (c.in_default.ensures)).valid

pub offset_of-offset-requires : goal.offset_of-offset-requires
offset_of-offset-requires c = let a = c.args in (opened_by a.g a.named a.state c.input_within-within.result a.count (length a.out.now) (length a.sectors.now) a.written.now a.durable.now c.input_within-within.ensures (c.in_default.ensures)).valid

pub read_zone-requires-clause-valid : goal.read_zone-requires-clause-valid
read_zone-requires-clause-valid c = let a = c.args in (opened_by a.g a.named a.state c.input_within-within.result a.count (length a.out.now) (length a.sectors.now) a.written.now a.durable.now c.input_within-within.ensures (c.in_default.ensures)).valid

-- the zone that the code found
abbrev zone_with : Geometry → State → List Bool → ℕ → Zone
zone_with g s h z = record { geometry = g; here = h; number = z; generation = (record_at s z).generation }

pub read_zone-requires-clause-read_asked : goal.read_zone-requires-clause-read_asked
read_zone-requires-clause-read_asked c =
    let a = c.args in
    let o = opened_by a.g a.named a.state c.input_within-within.result a.count (length a.out.now) (length a.sectors.now) a.written.now a.durable.now c.input_within-within.ensures (c.in_default.ensures) in
    let z = c.zone_of-z.ensures in
    let zone_in_lem : zone_of a.g a.address < a.g.zones = omega (arith, z, c.if-zones-z.false) in
    let asked : List Bool → ℕ → ℕ → Type 0 = λ h z x. ReadAsked (zone_with a.g a.state h z) (record_at a.state z).condition a.sectors.now a.written.now x a.count a.out.now in
    let small : a.count ≤ 4294967295 = omega (arith, c.ranges.count) in
    let starts : offset_of a.g a.address ≤ zone_sectors a.g = omega (arith, c.offset_of-offset.ensures) in
    let h : asked (present_list a.g a.named a.state.lost) (zone_of a.g a.address) (offset_of a.g a.address) = record {
      readable = opened_readable a.g a.named a.state a.count (length a.out.now) a.sectors.now a.written.now a.durable.now (zone_of a.g a.address) o zone_in_lem;
      logs_first = o.logs_first;
      one_absent = o.drives;
      pointer_in_lem = pointer_within a.g a.state (zone_of a.g a.address) o.within zone_in_lem;
      starts_in = starts;
      count_small = small;
      buffer_long = buffer_long a.g a.count (length a.out.now) o.buffer;
    } in
    let at_offset = subst (λ (x : ℕ). asked (present_list a.g a.named a.state.lost) (zone_of a.g a.address) x) (sym c.offset_of-offset.ensures.0) h in
    let at_zone = subst (λ (z : ℕ). asked (present_list a.g a.named a.state.lost) z c.offset_of-offset.result) (sym z) at_offset in
    subst (λ (l : List Bool). asked l c.zone_of-z.result c.offset_of-offset.result) (sym c.present_drives-here.ensures) at_zone

-- of the drives, the zone and the offset that the code found
as_called : {A : Type 0} (f : List Bool → ℕ → ℕ → A) (h k : List Bool) (z y o x : ℕ) → h ≡ k → z ≡ y → o ≡ x → f h z o ≡ f k y x
as_called f h k z y o x p q r = ap (λ (l : List Bool). f l z o) p ∙ ap₂ (f k) q r

pub returns : goal.returns
unfolding read_on
returns c =
    let a = c.args in
    let r = c.read_zone in
    let o = none_opening a.g a.named a.state c.input_within-within.result a.count (length a.out.now) (length a.sectors.now) a.written.now a.durable.now c.input_within-within.ensures (c.in_default.ensures) in
    let zone_in_lem : zone_of a.g a.address < a.g.zones = omega (arith, c.zone_of-z.ensures, c.if-zones-z.false) in
    let e = r.ensures.0 ∙ as_called (λ h z x. zone_read_number (zone_with a.g a.state h z) (record_at a.state z).condition a.sectors.now a.written.now x a.count) _ _ _ _ _ _ c.present_drives-here.ensures c.zone_of-z.ensures c.offset_of-offset.ensures.0
    ∙ zone_read_is a.g a.named a.state a.address a.count a.sectors.now a.written.now a.durable.now a.out.now o zone_in_lem in (
      c.answer_of.ensures ∙ ap (λ (m : ℕ). pick (eqb m 0) Finished (Refused m)) e,
      r.ensures.1 ∙ as_called (λ h z x. zone_read_left (zone_with a.g a.state h z) a.sectors.now a.written.now x a.count a.out.now (number_of r.result)) _ _ _ _ _ _ c.present_drives-here.ensures c.zone_of-z.ensures c.offset_of-offset.ensures.0
          ∙ zone_left_is a.g a.named a.state a.address a.count a.sectors.now a.written.now a.durable.now a.out.now o zone_in_lem (number_of r.result) e,
    )
