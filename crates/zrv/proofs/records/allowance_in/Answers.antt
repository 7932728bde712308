use mathlib.Core.Path.{◌≡◌, sym, ap, ap₂, ◌∙◌}
use mathlib.Core.Bool.{Bool, true, false}
use Prim.Native.Nat.{ℕ, ◌+◌, ◌*◌, ◌≤◌}
use native.Mathlib.Omega.{arith}
use lib.Dec.{ltb}
use borrow.Author.Tests.{ltb-false}
use borrow.Author.Rules.{rules}
use Rattle.tables.specs.laws.Basics.{or_none}
use Rattle.tables.specs.meaning.Geometry.{zone_sectors}
use Rattle.tables.specs.meaning.LittleEndian.{read_le}
use Rattle.volume.specs.declared.State.{State}
use Rattle.volume.specs.declared.ZoneRecord.{ZoneRecord}
use Rattle.volume.specs.declared.hosts.Allowance.{Allowance}
use Rattle.volume.specs.declared.write_room.EntryDrive.{EntryDrive}
use Rattle.volume.specs.meaning.State.{share_at}
use Rattle.volume.specs.meaning.Content.{parity_drive_at}
use Rattle.volume.specs.meaning.Refusals.{offset_of}
use Rattle.volume.specs.meaning.CallContracts.{record_at, view_state}
use Rattle.volume.specs.writing.Allowances.{adds_at, allowance_of}
use Rattle.zrv.specs.meaning.Bytes.{state_from}
use Rattle.zrv.specs.laws.ByRecord.{allowed_alone}
use Rattle.std.specs.Prelude.{Ok}
use Rattle.zrv.proofs.records.allowance_in.Goals as goal

pub returns : goal.returns
returns c =
    let a = c.args in
    let st = a.state.now in
    let o = c.offset_of in
    let m = c.zone_sectors-most in
    let end = offset_of a.g a.address + a.run in
    let (x, y) = or_none c.adds_zone-adds.result (ltb m.result (o.result + a.run)) c.if-adds-most.false in
    let asked : ℕ → ℕ → ZoneRecord → Bool = λ most n r. adds_at most a.host (n + a.run) r in
    let adds = sym (c.adds_zone-adds.ensures ∙ (λ i. asked (m.ensures.0 i) (o.ensures.0 i) (c.requires.state_len.3 i))) ∙ x in
    let inside : end ≤ zone_sectors a.g = omega (arith, ltb-false m.result (o.result + a.run) y, m.ensures.0, o.ensures.0) in
    let place = c.share_place-at.ensures.0 ∙ ap (λ (d : EntryDrive). share_at d.drive a.host) c.entry_drive-entry.ensures.0 ∙ ap (λ (n : ℕ). share_at (parity_drive_at a.g a.z (n + a.run)) a.host) o.ensures.0 in
    let with : ℕ → Allowance = λ n. record { known = true; limits = Ok tt; share = n } in
    ap with (c.share_at-share.ensures ∙ ap (λ (i : ℕ). read_le 4 st (264 + i * 4)) place) ∙ allowed_alone a.g st a.host a.z end c.requires.valid c.requires.state_len.1 c.requires.state_len.2 inside adds
