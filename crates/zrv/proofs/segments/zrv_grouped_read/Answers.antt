use Rattle.std.proofs.Common.{◌∙◌, ap, ap₂, refl, sym}
use Rattle.std.specs.Prelude.{◌≡◌, ℕ, Result, ⊤}
use Rattle.grouped.specs.declared.Refusal.{Refusal}
use Rattle.grouped.specs.meaning.RefusalNumbers.{number_of}
use Rattle.zrv.specs.meaning.EdgeCalls.{answered}
use Rattle.zrv.proofs.segments.zrv_grouped_read.Goals as goal

pub returns-in-Ok : goal.returns-in-Ok
returns-in-Ok c =
    let r = c.read_grouped.ensures in
    ap₂ answered (sym (ap number_of c.in-Ok.is) ∙ r.0) r.1 ∙ rw (c.named_drives-here.ensures, c.segment-s.ensures) refl

pub returns-in-Err : goal.returns-in-Err
returns-in-Err c =
    let r = c.read_grouped.ensures in
    ap₂ answered (c.number.ensures ∙ sym (ap number_of c.in-Err.is) ∙ r.0) r.1 ∙ rw (c.named_drives-here.ensures, c.segment-s.ensures) refl
