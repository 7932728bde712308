use mathlib.Core.Path.{◌≡◌, sym, ap, ap₂, ◌∙◌, subst}
use mathlib.Core.Logic.{◌≢◌}
use mathlib.Core.Bool.{Bool}
use Prim.Native.Nat.{ℕ, ◌≤◌, ◌<◌}
use mathlib.Core.List.{List}
use native.Mathlib.Omega.{arith}
use lib.ListN.{length}
use Rattle.tables.specs.meaning.Device.{Store}
use Rattle.tables.specs.meaning.Geometry.{Valid, zone_sectors, max_zones}
use Rattle.tables.specs.meaning.Tables.{Tables, tables_of}
use Rattle.volume.specs.declared.State.{State}
use Rattle.volume.specs.declared.Outcome.{Outcome}
use Rattle.volume.specs.declared.Answer.TheVariants.{Refused}
use Rattle.volume.specs.declared.writing.Run.{Run}
use Rattle.volume.specs.meaning.State.{call_present}
use Rattle.volume.specs.meaning.Refusals.{WriteAsked, zone_asked, offset_of}
use Rattle.volume.specs.meaning.Hosts.{written_state}
use Rattle.volume.specs.meaning.Answers.{lost_in, sectors_in}
use Rattle.volume.specs.meaning.Emptying.{write_all}
use Rattle.volume.specs.meaning.CallContracts.{record_at, is_set, view_state, verdict_number, roles_of, seen_in, Result, write_verdict, write_on, state_held}
use Rattle.volume.specs.laws.CallContracts.{storing_refused}
use Rattle.volume.specs.checks.CheckLaws.{present_list, opening_is, tested, none_opening, opened_by}
use Rattle.volume.specs.writing.WriteRun.{RunAsked, RunStated, Gives, write_asked_on}
use Rattle.volume.specs.writing.Writing.{write_asked, run_of, run_now, write_number, number_opening, number_8, run_asked, run_stated, write_asked_on_lem}
use Rattle.volume.specs.meaning.RefusalNumbers.{refusal_number}
use Rattle.volume.specs.checks.RefusalNumbers.{refusal_not_none}
use Rattle.tables.specs.declared.Geometry.{Geometry}
use Rattle.volume.proofs.writing.write.Goals as goal

-- a refusal
refuses : (g : Geometry) (named : List Bool) (s : State) (w : WriteAsked) (count : ℕ) (t : Tables) (r : Outcome) (n : ℕ) → n ≢ 0 → r ≡ record { answer = Refused n; state = s } → n ≡ verdict_number (write_verdict g named s w t)
    → Gives (write_on g named s w count t) r t
unfolding write_on
refuses g named s w count t r n ne e same =
    let v = view_state s in
    let p = call_present g (is_set named) v in
    let z = zone_asked g w in
    let stores : List Store = write_all g p (roles_of g t) (seen_in g t) v z (sectors_in g w.count w.buffer) in
    let next : State = state_held max_zones (written_state g p (lost_in g (is_set named) v) w.host v z w.count) in
    let (x, y) = storing_refused g (verdict_number (write_verdict g named s w t)) stores next s count t (λ k. ne (same ∙ k)) in
    (e ∙ ap (λ (k : ℕ). record { answer = Refused k; state = s }) same ∙ sym x, sym y)

pub opening-requires : goal.opening-requires
opening-requires c = tested _ c.args.state _ c.input_within-within.ensures

pub returns-in-Err : goal.returns-in-Err
unfolding write_number
returns-in-Err c =
    let a = c.args in
    let o = c.in-Err.ensures ∙ opening_is a.g a.named a.state c.input_within-within.result a.run (length a.buffer.now) (length a.sectors.now) a.written.now a.durable.now c.input_within-within.ensures in
    let same = o ∙ number_opening a.g a.named a.state (write_asked a.host a.address a.run a.buffer.now) a.sectors.now a.written.now a.durable.now (λ k. refusal_not_none _ (o ∙ k)) in
    refuses a.g a.named a.state (write_asked a.host a.address a.run a.buffer.now) a.count (tables_of a.sectors.now a.written.now a.durable.now) c.refused.result (refusal_number c.in-Err.refusal) (refusal_not_none _) c.refused.ensures same

pub zone_of-z-requires : goal.zone_of-z-requires
zone_of-z-requires c = let a = c.args in (opened_by a.g a.named a.state c.input_within-within.result a.run (length a.buffer.now) (length a.sectors.now) a.written.now a.durable.now c.input_within-within.ensures (c.in_default.ensures)).valid

pub returns-then-zones-z : goal.returns-then-zones-z
unfolding write_number
returns-then-zones-z c =
    let a = c.args in
    let past : a.g.zones ≤ zone_asked a.g (write_asked a.host a.address a.run a.buffer.now) = omega (arith, c.zone_of-z.ensures, c.if-zones-z.true) in
    refuses a.g a.named a.state (write_asked a.host a.address a.run a.buffer.now) a.count (tables_of a.sectors.now a.written.now a.durable.now) c.refused-then-zones-z.result 8 (λ k. absurd (omega (arith, k))) c.refused-then-zones-z.ensures
    (number_8 a.g a.named a.state (write_asked a.host a.address a.run a.buffer.now) a.sectors.now a.written.now a.durable.now (none_opening a.g a.named a.state c.input_within-within.result a.run (length a.buffer.now) (length a.sectors.now) a.written.now a.durable.now c.input_within-within.ensures (c.in_default.ensures)) past)

pub present_drives-here-requires : goal.present_drives-here-requires
present_drives-here-requires c = let a = c.args in (opened_by a.g a.named a.state c.input_within-within.result a.run (length a.buffer.now) (length a.sectors.now) a.written.now a.durable.now c.input_within-within.ensures (c.in_default.ensures)).valid

pub offset_of-offset-requires : goal.offset_of-offset-requires
offset_of-offset-requires c = let a = c.args in (opened_by a.g a.named a.state c.input_within-within.result a.run (length a.buffer.now) (length a.sectors.now) a.written.now a.durable.now c.input_within-within.ensures (c.in_default.ensures)).valid

pub run_of-asked-requires-clause-valid : goal.run_of-asked-requires-clause-valid
run_of-asked-requires-clause-valid c = let a = c.args in (opened_by a.g a.named a.state c.input_within-within.result a.run (length a.buffer.now) (length a.sectors.now) a.written.now a.durable.now c.input_within-within.ensures (c.in_default.ensures)).valid

-- the run, of the drives, the zone and the offset that the code found
run_is : (g : Geometry) (named : List Bool) (s : State) (w : WriteAsked) (r : Run) (h : List Bool) (z o : ℕ) → r ≡ run_of g h s w.host z o w.count → h ≡ present_list g named s.lost → z ≡ zone_asked g w → o ≡ offset_of g w.address → r ≡ run_now g named s w
run_is g named s w r h z o e p q i = e ∙ ap (λ (l : List Bool). run_of g l s w.host z o w.count) p ∙ ap₂ (λ (y x : ℕ). run_of g (present_list g named s.lost) s w.host y x w.count) q i

pub write_zone-requires-clause-valid : goal.write_zone-requires-clause-valid
write_zone-requires-clause-valid c = let a = c.args in let o = opened_by a.g a.named a.state c.input_within-within.result a.run (length a.buffer.now) (length a.sectors.now) a.written.now a.durable.now c.input_within-within.ensures (c.in_default.ensures) in subst (λ (run : Run). Valid run.zone.geometry) (sym (run_is a.g a.named a.state (write_asked a.host a.address a.run a.buffer.now) _ _ _ _ c.run_of-asked.ensures c.present_drives-here.ensures c.zone_of-z.ensures c.offset_of-offset.ensures.0)) o.valid

pub write_zone-requires-clause-run_asked : goal.write_zone-requires-clause-run_asked
write_zone-requires-clause-run_asked c =
    let a = c.args in
    let o = opened_by a.g a.named a.state c.input_within-within.result a.run (length a.buffer.now) (length a.sectors.now) a.written.now a.durable.now c.input_within-within.ensures (c.in_default.ensures) in
    let starts : offset_of a.g a.address < zone_sectors a.g = rw (← c.offset_of-offset.ensures.0) c.offset_of-offset.ensures.1 in
    let zone_in_lem : zone_asked a.g (write_asked a.host a.address a.run a.buffer.now) < a.g.zones = omega (arith, c.zone_of-z.ensures, c.if-zones-z.false) in
    let small : a.run < 4294967296 = omega (arith, c.ranges.run) in
    let needed : Run → Type 0 = λ run. RunAsked run (record_at a.state run.zone.number).condition a.sectors.now a.written.now a.buffer.now × RunStated run (record_at a.state run.zone.number).condition a.state in
    subst needed (sym (run_is a.g a.named a.state (write_asked a.host a.address a.run a.buffer.now) _ _ _ _ c.run_of-asked.ensures c.present_drives-here.ensures c.zone_of-z.ensures c.offset_of-offset.ensures.0)) (
      run_asked a.g a.named a.state (write_asked a.host a.address a.run a.buffer.now) a.sectors.now a.written.now a.durable.now o zone_in_lem starts small,
      run_stated a.g a.named a.state (write_asked a.host a.address a.run a.buffer.now) a.sectors.now a.written.now a.durable.now,
    )

pub returns : goal.returns
returns c =
    let w = c.write_zone in
    let a = c.args in
    let zone_in_lem : zone_asked a.g (write_asked a.host a.address a.run a.buffer.now) < a.g.zones = omega (arith, c.zone_of-z.ensures, c.if-zones-z.false) in
    let wrote : Run → Result = λ run. write_asked_on run a.state a.buffer.now a.count (tables_of a.sectors.now a.written.now a.durable.now) in
    let on = ap wrote (run_is a.g a.named a.state (write_asked a.host a.address a.run a.buffer.now) _ _ _ _ c.run_of-asked.ensures c.present_drives-here.ensures c.zone_of-z.ensures c.offset_of-offset.ensures.0) ∙ write_asked_on_lem a.g a.named a.state (write_asked a.host a.address a.run a.buffer.now) a.sectors.now a.written.now a.durable.now a.count (none_opening a.g a.named a.state c.input_within-within.result a.run (length a.buffer.now) (length a.sectors.now) a.written.now a.durable.now c.input_within-within.ensures (c.in_default.ensures)) zone_in_lem in
    ((w.ensures a.durable.now).0 ∙ ap (λ (x : Result). x.outcome) on, (w.ensures a.durable.now).1 ∙ ap (λ (x : Result). x.tables) on)
