use mathlib.Core.Path.{sym, ap₂, ◌∙◌, subst}
use mathlib.Core.Bool.{Bool}
use mathlib.Core.List.{List}
use Prim.Native.Nat.{ℕ, ◌≤◌, ◌<◌}
use native.Mathlib.Omega.{arith}
use Rattle.tables.specs.meaning.Geometry.{zone_sectors}
use Rattle.volume.specs.declared.Zone.{Zone}
use Rattle.volume.specs.declared.by_record.ByRecord.{ByRecord}
use Rattle.volume.specs.meaning.Refusals.{zone_of, offset_of}
use Rattle.volume.specs.reading.ReadZone.{ReadAsked, zone_read_number, zone_read_left, zone_by}
use Rattle.volume.specs.reading.ReadByRecord.{ReadBy, read_by_first, read_by_8, read_by_asked, read_by_zone}
use Rattle.volume.specs.meaning.RefusalNumbers.{number_of}
use Rattle.volume.specs.checks.RefusalNumbers.{number_err, refusal_not_none}
use Rattle.volume.proofs.by_record.read_record.Goals as goal

pub returns-in_err-opened : goal.returns-in_err-opened
returns-in_err-opened c =
    let a = c.args in
    let e = number_err c.from_residual.result c.in_err-opened.field-0.0 c.from_residual.ensures.1 ∙ c.in_err-opened.ensures in
    let r = read_by_first a.by a.address a.count a.sectors.now a.written.now a.out.now c.requires.record_fits (λ k. refusal_not_none _ (c.in_err-opened.ensures ∙ k)) in
    subst (λ (n : ℕ). ReadBy a.by a.address a.count a.sectors.now a.written.now a.out.now n a.out.now) (sym e) r

pub returns-then-zones-number : goal.returns-then-zones-number
returns-then-zones-number c =
    let a = c.args in
    read_by_8 a.by a.address a.count a.sectors.now a.written.now a.out.now c.requires.record_fits (sym (c.in_ok-opened.ensures)) (omega (arith, c.zone_of-number.ensures, c.if-zones-number.true))

-- the zone that the code found
abbrev zone_with : ByRecord → List Bool → ℕ → Zone
zone_with by h z = record { geometry = by.geometry; here = h; number = z; generation = by.record.generation }

pub read_zone-requires-clause-read_asked : goal.read_zone-requires-clause-read_asked
read_zone-requires-clause-read_asked c =
    let a = c.args in
    let asked : Zone → ℕ → Type 0 = λ z x. ReadAsked z a.by.record.condition a.sectors.now a.written.now x a.count a.out.now in
    let small : a.count ≤ 4294967295 = omega (arith, c.ranges.count) in
    let starts : offset_of a.by.geometry a.address < zone_sectors a.by.geometry = omega (arith, c.offset_of-offset.ensures) in
    let zone_in_lem : zone_of a.by.geometry a.address < a.by.geometry.zones = omega (arith, c.zone_of-number.ensures, c.if-zones-number.false) in
    let h = read_by_asked a.by a.address a.count a.sectors.now a.written.now a.out.now c.requires.record_fits (sym (c.in_ok-opened.ensures)) zone_in_lem starts small in
    let at_offset = subst (asked (zone_by a.by.geometry a.by.named a.by.lost a.by.record a.address)) (sym c.offset_of-offset.ensures.0) h in
    subst (λ (z : Zone). asked z c.offset_of-offset.result) (sym (ap₂ (zone_with a.by) c.present_drives-here.ensures c.zone_of-number.ensures)) at_offset

pub returns : goal.returns
returns c =
    let r = c.read_zone in
    let a = c.args in
    let xs = a.sectors.now in
    let ws = a.written.now in
    let zone-is = ap₂ (zone_with a.by) c.present_drives-here.ensures c.zone_of-number.ensures in
    let zone_in_lem : zone_of a.by.geometry a.address < a.by.geometry.zones = omega (arith, c.zone_of-number.ensures, c.if-zones-number.false) in
    let number : Zone → ℕ → ℕ = λ z x. zone_read_number z a.by.record.condition xs ws x a.count in
    let left : Zone → ℕ → List ℕ = λ z x. zone_read_left z xs ws x a.count a.out.now (number_of r.result) in
    read_by_zone a.by a.address a.count xs ws a.out.now c.requires.record_fits (sym (c.in_ok-opened.ensures)) zone_in_lem (number_of r.result) r.new.out
    (r.ensures.0 ∙ ap₂ number zone-is c.offset_of-offset.ensures.0) (r.ensures.1 ∙ ap₂ left zone-is c.offset_of-offset.ensures.0)
