use mathlib.Core.Path.{◌≡◌, refl, sym, ap, ap₂, ◌∙◌, subst}
use mathlib.Core.Bool.{Bool}
use mathlib.Core.List.{List}
use Prim.Native.Nat.{ℕ, ◌≤◌}
use native.Mathlib.Omega.{arith}
use lib.ListN.{length, take, replicate}
use borrow.Author.Rules.{rules}
use Rattle.tables.specs.meaning.Geometry.{Valid, cells}
use Rattle.volume.specs.declared.by_record.ByRecord.{ByRecord}
use Rattle.volume.specs.checks.ByRecord.{RecordFits}
use Rattle.volume.specs.reading.ReadByRecord.{ReadBy}
use Rattle.zrv.specs.meaning.Bytes.{table_from}
use Rattle.zrv.specs.meaning.EdgeCalls.{ranges, read_edge, Ranges, named_of, answered, read_answer, state_in, tables_in}
use Rattle.zrv.specs.laws.EdgeCalls.{part_long, refused, made}
use Rattle.zrv.specs.laws.TablesRoundTrip.{table_long}
use Rattle.zrv.specs.laws.ByRecord.{InputTaken, input_taken, record_in, record_taken, read_told}
use Rattle.volume.specs.meaning.RefusalNumbers.{number_of, refusal_number}
use Rattle.volume.specs.checks.RefusalNumbers.{refusal_not_none}
use Rattle.std.specs.Prelude.{Result, ⊤}
use Rattle.tables.specs.declared.Geometry.{Geometry}
use Rattle.volume.specs.declared.Refusal.{Refusal}
use Rattle.volume.specs.meaning.CallContracts.{read_on}
use Rattle.zrv.proofs.reading.zrv_read.Goals as goal

pub returns-in-Err : goal.returns-in-Err
returns-in-Err c =
    let e = c.in-Err.ensures in
    rw (← c.shape-g.ensures, ← e, ← c.number.ensures) (refused _ _ _ (λ k. refusal_not_none _ (sym c.number.ensures ∙ k)))

pub table_cells-n-requires : goal.table_cells-n-requires
table_cells-n-requires c = (input_taken _ _ _ _ (sym c.in_default.ensures)).sized.valid

pub table_from-requires : goal.table_from-requires
table_from-requires c = omega (arith, (input_taken _ _ _ _ (sym c.in_default.ensures)).sized.written_long, part_long c.table_cells-n.result c.table_cells-n.ensures.1, c.table_cells-n.ensures.0)

-- the scratch holds the written pointers
read : (g : Geometry) (n : ℕ) (ws table : List ℕ) → n ≡ cells g → n ≤ 152 → table ≡ table_from (length (take n (replicate {A = ℕ} 152 0))) ws → table ≡ table_from (cells g) ws
read g n ws table e h t = t ∙ ap (λ (k : ℕ). table_from k ws) (part_long n h ∙ e)

long : (g : Geometry) (ws table : List ℕ) → table ≡ table_from (cells g) ws → length table ≡ cells g
long g ws table e = ap (λ (l : List ℕ). length l) e ∙ table_long _ _

pub record_of-by-requires-clause-valid : goal.record_of-by-requires-clause-valid
record_of-by-requires-clause-valid c = (input_taken _ _ _ _ (sym c.in_default.ensures)).sized.valid

pub record_of-by-requires-clause-logs_value : goal.record_of-by-requires-clause-logs_value
record_of-by-requires-clause-logs_value c = let q = (input_taken _ _ _ _ (sym c.in_default.ensures)).sized in (q.logs_first, q.state_long, long c.shape-g.result c.args.written.now c.table_from.new.table (read c.shape-g.result c.table_cells-n.result c.args.written.now c.table_from.new.table c.table_cells-n.ensures.0 c.table_cells-n.ensures.1 c.table_from.ensures), q.durable_long)

pub read_record-requires-clause-valid : goal.read_record-requires-clause-valid
read_record-requires-clause-valid c = subst (λ (y : ByRecord). Valid y.geometry) (sym c.record_of-by.ensures) (input_taken _ _ _ _ (sym c.in_default.ensures)).sized.valid

pub read_record-requires-clause-record_fits : goal.read_record-requires-clause-record_fits
read_record-requires-clause-record_fits c =
    let a = c.args in
    let t = c.table_from.new.table in
    subst (λ (y : ByRecord). RecordFits y t) (sym c.record_of-by.ensures) (record_taken c.shape-g.result c.named_drives-here.result a.state.now t a.durable.now (length a.written.now) a.address (input_taken _ _ _ _ (sym c.in_default.ensures)) (long c.shape-g.result c.args.written.now c.table_from.new.table (read c.shape-g.result c.table_cells-n.result c.args.written.now c.table_from.new.table c.table_cells-n.ensures.0 c.table_cells-n.ensures.1 c.table_from.ensures)))

-- what the read gave, as the call's
told : (g : Geometry) (mask address count : ℕ) (m : Ranges) (out left : List ℕ) (q : InputTaken g m.state (length m.written) (length m.durable)) (t : List ℕ) (by : ByRecord) (h : List Bool) (n : ℕ)
    → t ≡ table_from (cells g) m.written → by ≡ record_in g h m.state t m.durable address → h ≡ named_of mask → ReadBy by address count m.sectors t out n left
    → answered n left ≡ read_answer (read_on g (named_of mask) (state_in g m) address count out (tables_in g m))
told g mask address count m out left q t by h n e f i r =
    let reads : ByRecord → List ℕ → Type 0 = λ y v. ReadBy y address count m.sectors v out n left in
    let taken_as = subst (λ (y : ByRecord). reads y t) f r in
    let read_as = subst (λ (v : List ℕ). reads (record_in g h m.state v m.durable address) v) e taken_as in
    read_told g _ address count out m n left q (subst (λ (l : List Bool). reads (record_in g l m.state (table_from (cells g) m.written) m.durable address) (table_from (cells g) m.written)) i read_as)

pub returns-in-Ok : goal.returns-in-Ok
returns-in-Ok c =
    let a = c.args in
    let none = c.in_default.ensures in
    let w = c.read_record in
    let r = subst (λ (x : Result ⊤ Refusal). ReadBy c.record_of-by.result a.address a.sectors_to_read a.sectors.now c.table_from.new.table a.answer.now (number_of x) w.new.out) c.in-Ok.is w.ensures in
    rw (← c.shape-g.ensures) (told c.shape-g.result _ a.address a.sectors_to_read (ranges a.sectors.now a.written.now a.durable.now a.state.now) a.answer.now w.new.out (input_taken _ _ _ _ (sym c.in_default.ensures)) _ _ _ _ (read c.shape-g.result c.table_cells-n.result c.args.written.now c.table_from.new.table c.table_cells-n.ensures.0 c.table_cells-n.ensures.1 c.table_from.ensures) c.record_of-by.ensures c.named_drives-here.ensures r ∙ made _ _ _ (sym none))

pub returns-in-Err-read_record : goal.returns-in-Err-read_record
returns-in-Err-read_record c =
    let a = c.args in
    let none = c.in_default.ensures in
    let w = c.read_record in
    let r = subst (λ (x : Result ⊤ Refusal). ReadBy c.record_of-by.result a.address a.sectors_to_read a.sectors.now c.table_from.new.table a.answer.now (number_of x) w.new.out) c.in-Err-read_record.is w.ensures in
    let n = c.number-in-Err-read_record.ensures in
    rw (← c.shape-g.ensures, n) (told c.shape-g.result _ a.address a.sectors_to_read (ranges a.sectors.now a.written.now a.durable.now a.state.now) a.answer.now w.new.out (input_taken _ _ _ _ (sym c.in_default.ensures)) _ _ _ _ (read c.shape-g.result c.table_cells-n.result c.args.written.now c.table_from.new.table c.table_cells-n.ensures.0 c.table_cells-n.ensures.1 c.table_from.ensures) c.record_of-by.ensures c.named_drives-here.ensures r ∙ made _ _ _ (sym none))
