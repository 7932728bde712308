use mathlib.Core.Path.{◌≡◌, sym, ap, ap₂, ◌∙◌, subst}
use mathlib.Core.Bool.{Bool}
use mathlib.Core.List.{List}
use Prim.Native.Nat.{ℕ, ◌<◌}
use native.Mathlib.Omega.{arith}
use Rattle.tables.specs.meaning.Geometry.{zone_sectors}
use Rattle.volume.specs.declared.writing.Run.{Run}
use Rattle.volume.specs.meaning.Refusals.{WriteAsked, zone_asked, offset_of}
use Rattle.volume.specs.checks.CheckLaws.{present_list}
use Rattle.volume.specs.writing.WriteRun.{RunAsked}
use Rattle.volume.specs.writing.WriteDirectly.{TriedOn}
use Rattle.volume.specs.writing.Writing.{write_asked}
use Rattle.volume.specs.writing.WriteByRecord.{recorded_of, RecordedBy, run_by, run_by_asked, written_by}
use Rattle.volume.specs.checks.RefusalNumbers.{number_ok}
use Rattle.volume.specs.declared.by_record.ByRecord.{ByRecord}
use Rattle.volume.specs.declared.hosts.Allowance.{Allowance}
use Rattle.std.specs.Prelude.{Option, Ok}
use Rattle.volume.specs.declared.write_directly.WriteMade.{WriteMade}
use Rattle.volume.proofs.by_record.write_record.Goals as goal

-- the run as the code has it
abbrev run_with : ByRecord → WriteAsked → Allowance → List Bool → ℕ → ℕ → Run
run_with by w q h z n = record { zone = record { geometry = by.geometry; here = h; number = z; generation = by.record.generation }; pointer = n; count = w.count; host = w.host; allowance = q }

run_is : (by : ByRecord) (w : WriteAsked) (q : Allowance) (h : List Bool) (z n : ℕ) → h ≡ present_list by.geometry by.named by.lost → z ≡ zone_asked by.geometry w → n ≡ offset_of by.geometry w.address → run_with by w q h z n ≡ run_by by w q
run_is by w q h z n e f i = ap (λ (l : List Bool). run_with by w q l z n) e ∙ ap₂ (run_with by w q (present_list by.geometry by.named by.lost)) f i

pub write_alone-requires-clause-run_asked : goal.write_alone-requires-clause-run_asked
write_alone-requires-clause-run_asked c =
    let a = c.args in
    let starts : offset_of a.by.geometry a.address < zone_sectors a.by.geometry = omega (arith, c.offset_of-pointer.ensures) in
    let small : a.run < 4294967296 = omega (arith, c.ranges.run) in
    let zone_in_lem : zone_asked a.by.geometry (write_asked a.host a.address a.run a.buffer.now) < a.by.geometry.zones = omega (arith, c.zone_of-number.ensures, c.if-g-number.false) in
    subst (λ (r : Run). RunAsked r a.by.record.condition a.sectors.now a.written.now a.buffer.now) (sym (run_is a.by (write_asked a.host a.address a.run a.buffer.now) a.allowance _ _ _ c.present_drives-here.ensures c.zone_of-number.ensures c.offset_of-pointer.ensures.0))
    (run_by_asked a.by (write_asked a.host a.address a.run a.buffer.now) a.allowance a.count a.sectors.now a.written.now c.requires.valid c.requires.record_fits (sym c.opened.ensures ∙ number_ok c.opened.result (sym c.is_err.ensures.value ∙ c.if-is_err.false)) zone_in_lem starts small)

pub returns-in-Ok-Some : goal.returns-in-Ok-Some
returns-in-Ok-Some c =
    let a = c.args in
    let w = c.write_alone in
    let m = c.in-Ok-Some in
    let starts : offset_of a.by.geometry a.address < zone_sectors a.by.geometry = omega (arith, c.offset_of-pointer.ensures) in
    let small : a.run < 4294967296 = omega (arith, c.ranges.run) in
    let zone_in_lem : zone_asked a.by.geometry (write_asked a.host a.address a.run a.buffer.now) < a.by.geometry.zones = omega (arith, c.zone_of-number.ensures, c.if-g-number.false) in
    let tried = subst (λ (o : Option WriteMade). TriedOn (run_by a.by (write_asked a.host a.address a.run a.buffer.now) a.allowance) a.by.record.condition a.count a.buffer.now a.sectors.now a.written.now w.new.sectors w.new.written (Ok o)) m.field-0-is
    (subst (λ (r : Run). TriedOn r a.by.record.condition a.count a.buffer.now a.sectors.now a.written.now w.new.sectors w.new.written (Ok m.field-0)) (run_is a.by (write_asked a.host a.address a.run a.buffer.now) a.allowance _ _ _ c.present_drives-here.ensures c.zone_of-number.ensures c.offset_of-pointer.ensures.0) m.ensures) in
    let done = written_by a.by (write_asked a.host a.address a.run a.buffer.now) a.allowance a.count a.sectors.now a.written.now c.requires.valid c.requires.record_fits (sym c.opened.ensures ∙ number_ok c.opened.result (sym c.is_err.ensures.value ∙ c.if-is_err.false)) zone_in_lem starts small w.new.sectors w.new.written m.made tried in
    let told = c.recorded_of.ensures ∙ ap (λ (r : Run). recorded_of r m.made) (run_is a.by (write_asked a.host a.address a.run a.buffer.now) a.allowance _ _ _ c.present_drives-here.ensures c.zone_of-number.ensures c.offset_of-pointer.ensures.0) in
    subst (RecordedBy a.by (write_asked a.host a.address a.run a.buffer.now) a.allowance a.count a.sectors.now a.written.now w.new.sectors w.new.written) (sym told) done
