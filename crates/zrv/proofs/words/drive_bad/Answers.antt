use Rattle.std.proofs.Common.{◌≡◌, ℕ, Bool, ap₂, ◌∙◌, arith}
use Rattle.tables.specs.meaning.Below.{any_below}
use Rattle.tables.specs.meaning.Geometry.{physical_zones}
use Rattle.zrv.specs.laws.ByRecord.{bad_in_bytes, drive_in_bytes}
use Rattle.zrv.proofs.words.drive_bad.Goals as goal

pub returns : goal.returns
returns c =
    let l = c.loop-y in
    let a = c.args in
    let row = c.row_of-row.ensures in
    let e : l.y ≡ physical_zones a.g = omega arith in
    let bad : ℕ → ℕ → Bool = λ x n. any_below (bad_in_bytes a.g.capacity a.written.now a.durable.now x) n in
    l.invariant ∙ ap₂ bad row.0 e ∙ drive_in_bytes a.g a.written.now a.durable.now a.d c.requires.logs_value.0 (rw (← row.0) row.1)
