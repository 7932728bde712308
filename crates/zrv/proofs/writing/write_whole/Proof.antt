use mathlib.Core.Path.{◌≡◌, sym, ap, ap₂, ◌∙◌}
use mathlib.Core.List.{List}
use Prim.Native.Nat.{ℕ}
use native.Mathlib.Omega.{arith}
use lib.ListN.{length}
use Rattle.tables.specs.meaning.Tables.{Tables, tables_of}
use Rattle.volume.specs.laws.ByteLists.{Bytes}
use Rattle.volume.specs.declared.Outcome.{Outcome}
use Rattle.volume.specs.declared.State.{State}
use Rattle.volume.specs.meaning.CallContracts.{Result, write_on}
use Rattle.zrv.specs.meaning.EdgeCalls.{ranges, state_in, stored_all}
use Rattle.zrv.specs.laws.EdgeCalls.{part_long, scratch_fits}
use Rattle.zrv.specs.laws.StateForm.{listed}
use Rattle.zrv.specs.laws.ByRecord.{asked_in, durable_stays}
use borrow.Author.Rules.{rules}
use Rattle.zrv.proofs.writing.write_whole.Statement.{statement}
use Rattle.zrv.proofs.writing.write_whole.Tie as tie

abbrev to_start : tie.After-table_cells-n → tie.Start
to_start t = t.before.before.before.before.before.before.before.before

abbrev before-tables : tie.After-tables_from → tie.After-table_cells-n
before-tables d = d.before.before.before.before.before.before

abbrev before-write : tie.After-write-outcome → tie.After-tables_from
before-write f = f.before.before.before.before.before.before.before

table-to-requires : tie.Need-table_to-requires
table-to-requires c κs =
    let f = c.before.before.before.before.before.before in
    let d = before-write f in
    let n = (before-tables d).table_cells-n.ensures in
    omega (arith, (to_start (before-tables d)).requires.sized.written_long, n, part_long _ n.1, f.write-outcome.auto, d.tables_from.auto)

hand-back-requires : tie.Need-hand_back-requires
hand-back-requires c κs = let q = (to_start (before-tables (before-write c.before.before.before.before.before.before.before.before.before.before.before))).requires.sized in (q.valid, q.state_long)

returns : tie.Need-returns
returns c =
    let f = c.before.before.before.before.before.before.before.before.before.before.before.before.before.before in
    let d = before-write f in
    let s = to_start (before-tables d) in
    let a = s.args in
    let m = ranges a.sectors.now a.written.now a.durable.now a.state.now in
    let k = a.asked in
    let xs = a.sectors.now in
    let ds = d.tables_from.new.d in
    let bytes : Bytes a.durable.now = listed a.durable.now (λ i. ((before-tables d).shared_slice_known-1.given i).fits) in
    let on : State → List ℕ → List ℕ → Result = λ st u v. write_on k.geometry k.named st (asked_in k a.buffer.now) k.count (tables_of xs u v) in
    let made : Result = record { outcome = f.write-outcome.result; tables = tables_of f.write-outcome.new.sectors f.write-outcome.new.written ds } in
    let is = ap₂ (λ (o : Outcome) (t : Tables). record { outcome = o; tables = t }) f.write-outcome.ensures.0 f.write-outcome.ensures.1
    ∙ ap (λ (st : State). on st d.tables_from.new.w ds) d.state_from-old.ensures ∙ ap₂ (on (state_in k.geometry m)) d.tables_from.ensures.0 d.tables_from.ensures.1 in
    durable_stays k a.buffer.now m s.requires bytes made _ _ _ d.tables_from.ensures.1 c.table_to.ensures c.hand_back.ensures ∙ ap (λ (r : Result). stored_all k.geometry r m) is

pub write_whole_spec : {M : Type 1} → statement M
write_whole_spec =
    tie.close
    (tie.spec (λ c κs. search rules) (λ c κs. search rules) (λ c. search rules) (λ c. sym (part_long _ c.table_cells-n.ensures.1)) (λ c. search rules) (λ c. sym (part_long _ c.table_cells-n.ensures.1))
    (λ c κs. let t = c.before.before.before.before.before in scratch_fits _ _ (to_start t).requires.sized t.table_cells-n.ensures) (λ c κs. search rules) table-to-requires hand-back-requires (λ c. search rules) (λ c. search rules) (λ c. search rules) returns)
