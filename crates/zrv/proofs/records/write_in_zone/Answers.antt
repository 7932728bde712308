use mathlib.Core.Path.{◌≡◌, refl, sym, ap, ap₂, ◌∙◌, subst}
use mathlib.Core.Bool.{true, true≢false}
use mathlib.Core.List.{List}
use Prim.Native.Nat.{ℕ, ◌+◌, ◌*◌, ◌<◌, ◌≤◌}
use native.Mathlib.Omega.{arith}
use lib.ListN.{length, take, replicate}
use borrow.Author.Tests.{not-true, not-false}
use borrow.Author.Rules.{rules}
use Rattle.tables.specs.meaning.Geometry.{Valid, cells}
use Rattle.tables.specs.laws.Sizes.{zone_small}
use Rattle.volume.specs.laws.ByteLists.{Bytes}
use Rattle.volume.specs.declared.ZoneRecord.{ZoneRecord}
use Rattle.volume.specs.declared.by_record.ByRecord.{ByRecord}
use Rattle.volume.specs.meaning.Refusals.{zone_of, offset_of}
use Rattle.volume.specs.meaning.CallContracts.{record_at, view_state}
use Rattle.volume.specs.checks.ByRecord.{RecordFits}
use Rattle.volume.specs.writing.Allowances.{allowance_of}
use Rattle.volume.specs.writing.WriteByRecord.{present_by, RecordedBy}
use Rattle.zrv.specs.declared.records.WriteCall.{WriteCall}
use Rattle.zrv.specs.meaning.Bytes.{table_from, state_from}
use Rattle.zrv.specs.meaning.EdgeCalls.{Ranges, ranges}
use Rattle.zrv.specs.laws.EdgeCalls.{part_long}
use Rattle.zrv.specs.laws.StateForm.{listed}
use Rattle.zrv.specs.laws.TablesRoundTrip.{table_long}
use Rattle.zrv.specs.laws.ByRecord.{record_in, record_taken, record_says, entry_drive_in, asked_in, handed_record, made_whole}
use Rattle.tables.specs.declared.Geometry.{Geometry}
use Rattle.volume.specs.declared.hosts.Allowance.{Allowance}
use Rattle.volume.specs.declared.by_record.Recorded.{Recorded}
use Rattle.zrv.proofs.records.write_in_zone.Goals as goal

-- the scratch holds the written pointers
read : (g : Geometry) (n : ℕ) (ws table : List ℕ) → n ≡ cells g → n ≤ 152 → table ≡ table_from (length (take n (replicate {A = ℕ} 152 0))) ws → table ≡ table_from (cells g) ws
read g n ws table e h t = t ∙ ap (λ (k : ℕ). table_from k ws) (part_long n h ∙ e)

long : (g : Geometry) (ws table : List ℕ) → table ≡ table_from (cells g) ws → length table ≡ cells g
long g ws table e = ap (λ (l : List ℕ). length l) e ∙ table_long _ _

pub write_record-requires-clause-record_fits : goal.write_record-requires-clause-record_fits
write_record-requires-clause-record_fits c =
    let a = c.args in
    let k = a.asked in
    let t = c.table_from.new.table in
    subst (λ (y : ByRecord). RecordFits y t) (sym c.record_of-by.ensures) (record_taken k.geometry k.named a.state.now t a.durable.now (length a.written.now) k.address c.requires.input_taken (long k.geometry a.written.now t (read a.asked.geometry c.table_cells-n.result a.written.now c.table_from.new.table c.table_cells-n.ensures.0 c.table_cells-n.ensures.1 c.table_from.ensures)))

-- what the write came to, by the tables' written pointers
came : (k : WriteCall) (buffer xs wb db st t xs' ws' : List ℕ) (by : ByRecord) (q : Allowance) (r : Recorded) → t ≡ table_from (cells k.geometry) wb → by ≡ record_in k.geometry k.named st t db k.address
    → RecordedBy by (asked_in k buffer) q k.count xs t xs' ws' r
    → RecordedBy (record_in k.geometry k.named st (table_from (cells k.geometry) wb) db k.address) (asked_in k buffer) q k.count xs (table_from (cells k.geometry) wb) xs' ws' r
came k buffer xs wb db st t xs' ws' by q r e f h =
    let of : ByRecord → List ℕ → Type 0 = λ y v. RecordedBy y (asked_in k buffer) q k.count xs v xs' ws' r in
    subst (λ (v : List ℕ). of (record_in k.geometry k.named st v db k.address) v) e (subst (λ (y : ByRecord). of y t) f h)

pub hand_record-requires : goal.hand_record-requires
hand_record-requires c =
    let a = c.args in
    let k = a.asked in
    let ok = c.requires.input_taken.sized.valid in
    let came-to = came k a.buffer.now a.sectors.now a.written.now a.durable.now a.state.now c.table_from.new.table c.write_record.new.sectors c.write_record.new.written c.record_of-by.result c.allowance_in-allowed.result c.in_ok-made.made (read a.asked.geometry c.table_cells-n.result a.written.now c.table_from.new.table c.table_cells-n.ensures.0 c.table_cells-n.ensures.1 c.table_from.ensures) c.record_of-by.ensures c.in_ok-made.ensures in
    let d : c.in_ok-made.made.drive < 8 = rw came-to.drive_is (omega (arith, entry_drive_in k.geometry ok (zone_of k.geometry k.address) c.in_ok-made.made.pointer, ok.drives_most)) in
    (c.requires.input_taken.sized.state_long, omega (arith, c.requires.z_value.1, ok.zones_most), c.requires.z_value.2, d)

pub returns : goal.returns
returns c =
    let a = c.args in
    let k = a.asked in
    let g = k.geometry in
    let came-to = came k a.buffer.now a.sectors.now a.written.now a.durable.now a.state.now c.table_from.new.table c.write_record.new.sectors c.write_record.new.written c.record_of-by.result c.allowance_in-allowed.result c.in_ok-made.made (read a.asked.geometry c.table_cells-n.result a.written.now c.table_from.new.table c.table_cells-n.ensures.0 c.table_cells-n.ensures.1 c.table_from.ensures) c.record_of-by.ensures c.in_ok-made.ensures in
    let old = state_from g a.state.now in
    let ws = table_from (cells g) a.written.now in
    let m : Ranges = ranges a.sectors.now a.written.now a.durable.now a.state.now in
    let bytes : Bytes a.durable.now = listed a.durable.now (λ i. (c.type_inv.durable i).fits) in
    let record_is = ap (λ (y : ByRecord). y.«record») c.record_of-by.ensures ∙ ap (record_at old) (sym c.requires.z_value.0) in
    let allowed = c.allowance_in-allowed.ensures ∙ ap (λ (z : ℕ). allowance_of k.geometry (view_state old) k.host z (offset_of k.geometry k.address + k.run)) c.requires.z_value.0 in
    let says = record_says g k.named a.state.now ws a.durable.now (length a.written.now) k.address c.requires.input_taken (table_long (cells g) a.written.now) in
    let call = came-to.done old (table_from (cells g) a.durable.now) says allowed in
    let handed : ℕ → ℕ → Type 0 = λ n y. handed_record c.in_ok-made.made k.host n y a.state.now c.hand_record.result c.hand_record.new.state in
    let hand = subst (λ (y : ℕ). handed (record_at old y).generation y) c.requires.z_value.0 (subst (λ (n : ℕ). handed n a.z) (ap (λ (y : ZoneRecord). y.generation) record_is) c.hand_record.ensures) in
    made_whole k a.buffer.now m c.requires.input_taken bytes c.in_ok-made.made (present_by (record_in g k.named a.state.now ws a.durable.now k.address)) came-to.in_zone_lem c.requires.z_value.2 came-to.drive_is came-to.taken_is c.write_record.new.sectors c.write_record.new.written c.table_to.new.bytes c.hand_record.new.state c.hand_record.result call c.table_to.ensures hand
