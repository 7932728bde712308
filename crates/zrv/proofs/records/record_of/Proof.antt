use mathlib.Core.Path.{◌≡◌, ap, ap₂, ◌∙◌}
use mathlib.Core.Bool.{Bool}
use Prim.Native.Nat.{ℕ}
use borrow.Author.Rules.{rules}
use Rattle.volume.specs.declared.ZoneRecord.{ZoneRecord}
use Rattle.volume.specs.declared.by_record.ByRecord.{ByRecord}
use Rattle.volume.specs.meaning.CallContracts.{record_at}
use Rattle.zrv.specs.meaning.Bytes.{state_from}
use Rattle.zrv.proofs.records.record_of.Statement.{statement}
use Rattle.zrv.proofs.records.record_of.Tie as tie

returns : tie.Need-returns
returns c =
    let z = c.before.before in
    let p = z.before in
    let a = p.args in
    let with : ℕ → ZoneRecord → Bool → ByRecord = λ l r b. record { geometry = a.g; named = a.named; lost = l; «record» = r; bad = b } in
    ap₂ (λ (l : ℕ) (r : ZoneRecord). with l r p.pointers_bad-bad.result) c.read_u64-lost.ensures (c.record_at-record.ensures ∙ ap (record_at (state_from a.g a.state.now)) z.zone_of-z.ensures)
    ∙ ap (with _ _) p.pointers_bad-bad.ensures

pub record_of_spec : {M : Type 1} → statement M
record_of_spec = tie.close (tie.spec (λ c κs. search rules) (λ c κs. search rules) (λ c κs. search rules) (λ c κs. search rules) returns)
