use mathlib.Core.Path.{◌≡◌, sym, ap, ◌∙◌, subst}
use mathlib.Core.Bool.{Bool}
use mathlib.Core.List.{List}
use native.Mathlib.Omega.{arith}
use lib.ListN.{length}
use borrow.Author.Rules.{rules}
use Rattle.zrv.specs.laws.EdgeCalls.{refused, made}
use Rattle.zrv.specs.declared.records.WriteCall.{WriteCall}
use Rattle.zrv.specs.meaning.EdgeCalls.{Ranges, ranges, Answered, write_of, write_edge, named_of, input_number}
use Rattle.zrv.specs.laws.ByRecord.{InputTaken, input_taken, whole_write}
use Rattle.volume.specs.meaning.RefusalNumbers.{refusal_number}
use Rattle.volume.specs.checks.RefusalNumbers.{refusal_not_none}
use Prim.Native.Nat.{ℕ}
use Rattle.tables.specs.declared.Geometry.{Geometry}
use Rattle.zrv.proofs.writing.zrv_write.Goals as goal

pub returns-in-Err : goal.returns-in-Err
returns-in-Err c =
    let e = c.in-Err.ensures in
    rw (← c.shape-g.ensures, ← e, ← c.number.ensures) (refused _ _ _ (λ k. refusal_not_none _ (sym c.number.ensures ∙ k)))

pub write_by_record-requires : goal.write_by_record-requires
write_by_record-requires c = input_taken _ _ _ _ (sym c.in_default.ensures)

-- what is asked, by the drives that the mask names
abbrev asked_with : Geometry → List Bool → ℕ → ℕ → ℕ → ℕ → WriteCall
asked_with g h host address run count = record { geometry = g; named = h; host = host; address = address; run = run; count = count }

-- the whole write is the call's
whole : (g : Geometry) (mask : ℕ) (h : List Bool) (host address run count : ℕ) (buffer : List ℕ) (m : Ranges) (r : Answered Ranges) → h ≡ named_of mask → input_number g m.state (length m.written) (length m.durable) ≡ 0
    → r ≡ whole_write (asked_with g h host address run count) buffer m → r ≡ write_edge g mask (write_of host address run buffer) count m
whole g mask h host address run count buffer m r e n w = w ∙ ap (λ (l : List Bool). whole_write (asked_with g l host address run count) buffer m) e ∙ made _ _ _ n

pub returns-in-Some : goal.returns-in-Some
returns-in-Some c =
    let a = c.args in
    rw (← c.shape-g.ensures) (whole c.shape-g.result a.named c.named_drives-here.result a.host a.address a.sectors_to_write a.count a.buffer.now (ranges a.sectors.now a.written.now a.durable.now a.state.now) _ c.named_drives-here.ensures (sym c.in_default.ensures) c.in-Some.ensures)

pub write_whole-requires : goal.write_whole-requires
write_whole-requires c =
    let kept = c.in_default-write_by_record.ensures in
    subst (λ (m : Ranges). InputTaken c.shape-g.result m.state (length m.written) (length m.durable)) (sym kept) (input_taken _ _ _ _ (sym c.in_default.ensures))

pub returns : goal.returns
returns c =
    let a = c.args in
    let kept = c.in_default-write_by_record.ensures in
    let asked = asked_with c.shape-g.result c.named_drives-here.result a.host a.address a.sectors_to_write a.count in
    rw (← c.shape-g.ensures) (whole c.shape-g.result a.named c.named_drives-here.result a.host a.address a.sectors_to_write a.count a.buffer.now (ranges a.sectors.now a.written.now a.durable.now a.state.now) _ c.named_drives-here.ensures (sym c.in_default.ensures) (c.write_whole.ensures ∙ ap (whole_write asked a.buffer.now) kept))
