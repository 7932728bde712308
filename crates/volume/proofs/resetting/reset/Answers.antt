use Prim.Native.Nat.{ℕ}
use mathlib.Core.Path.{◌≡◌, refl, sym, ap, ◌∙◌}
use mathlib.Core.Bool.{Bool}
use mathlib.Core.List.{List}
use native.Mathlib.Omega.{arith}
use lib.ListN.{length}
use Rattle.tables.specs.meaning.Tables.{Tables, tables_of}
use Rattle.tables.specs.laws.TablesFrame.{lengths_are}
use Rattle.tables.specs.meaning.Geometry.{max_zones}
use Rattle.volume.specs.declared.State.{State}
use Rattle.volume.specs.declared.Outcome.{Outcome}
use Rattle.volume.specs.declared.Answer.TheVariants.{Refused}
use Rattle.volume.specs.meaning.State.{call_present}
use Rattle.volume.specs.meaning.Emptying.{reset_all}
use Rattle.volume.specs.meaning.Answers.{lost_in}
use Rattle.volume.specs.meaning.CallContracts.{record_at, is_set, view_state, verdict_number, roles_of, seen_in, Result, reset_on, reset_verdict, state_held}
use Rattle.volume.specs.laws.CallContracts.{storing_refused}
use Rattle.volume.specs.checks.CheckLaws.{present_list, opening_is, tested, none_opening, opened_by}
use Rattle.volume.specs.checks.ZoneChecks.{pointer_within}
use Rattle.volume.specs.storing.Resetting.{reset_late_number, reset_full_in, reset_early, reset_8, reset_in_lem, reset_refusal, late_fresh}
use Rattle.volume.specs.storing.ResetZone.{zone_now, reset_zone_on, reset_zone_on_lem}
use Rattle.volume.specs.meaning.Calls.{reset_state}
use Rattle.volume.specs.meaning.RefusalNumbers.{refusal_number}
use Rattle.volume.specs.checks.RefusalNumbers.{refusal_not_none}
use Rattle.tables.specs.declared.Geometry.{Geometry}
use mathlib.Core.Logic.{◌≢◌}
use Rattle.volume.proofs.resetting.reset.Goals as goal

-- a refusal of the call
refuses : (g : Geometry) (named : List Bool) (s : State) (z count : ℕ) (t : Tables) (r : Outcome) (n : ℕ) → n ≢ 0 → r ≡ record { answer = Refused n; state = s } → n ≡ verdict_number (reset_verdict g named s z t)
    → (r ≡ (reset_on g named s z count t).outcome) × (t ≡ (reset_on g named s z count t).tables)
unfolding reset_on
refuses g named s z count t r n ne e same =
    let v = view_state s in
    let stores = reset_all g (call_present g (is_set named) v) (roles_of g t) (seen_in g t) v z in
    let next = state_held max_zones (reset_state (lost_in g (is_set named) v) v z) in
    let (p, q) = storing_refused g (verdict_number (reset_verdict g named s z t)) stores next s count t (λ k. ne (same ∙ k)) in
    (e ∙ ap (λ (k : ℕ). record { answer = Refused k; state = s }) same ∙ sym p, sym q)

pub opening-requires : goal.opening-requires
opening-requires c = tested _ c.args.state _ c.input_within-within.ensures

abbrev full : Geometry → List Bool → State → Tables → Bool
full g named s t = reset_full_in g named s t

pub returns-in-Err : goal.returns-in-Err
returns-in-Err c =
    let a = c.args in
    let t = tables_of a.sectors.now a.written.now a.durable.now in
    let o = c.in-Err.ensures ∙ opening_is a.g a.named a.state c.input_within-within.result 0 0 (length a.sectors.now) a.written.now a.durable.now c.input_within-within.ensures in
    let e = o ∙ reset_early a.g a.named a.state a.zone (full a.g a.named a.state t) (length a.sectors.now) a.written.now a.durable.now (λ k. refusal_not_none c.in-Err.refusal (o ∙ k)) ∙ reset_refusal a.g a.named a.state a.zone a.sectors.now a.written.now a.durable.now in
    refuses a.g a.named a.state a.zone a.count t c.refused.result (refusal_number c.in-Err.refusal) (refusal_not_none _) c.refused.ensures e

pub returns-then-zones-zone : goal.returns-then-zones-zone
returns-then-zones-zone c =
    let a = c.args in
    let t = tables_of a.sectors.now a.written.now a.durable.now in
    let n : 8 ≡ verdict_number (reset_verdict a.g a.named a.state a.zone t) = reset_8 a.g a.named a.state a.zone (full a.g a.named a.state t) (length a.sectors.now) a.written.now a.durable.now (none_opening a.g a.named a.state c.input_within-within.result 0 0 (length a.sectors.now) a.written.now a.durable.now c.input_within-within.ensures (c.in_default.ensures)) c.if-zones-zone.true ∙ reset_refusal a.g a.named a.state a.zone a.sectors.now a.written.now a.durable.now in
    refuses a.g a.named a.state a.zone a.count t c.refused-then-zones-zone.result 8 (λ k. absurd (omega (arith, k))) c.refused-then-zones-zone.ensures n

pub offset_bounds-records-zone : goal.offset_bounds-records-zone
offset_bounds-records-zone c = let a = c.args in let o = opened_by a.g a.named a.state c.input_within-within.result 0 0 (length a.sectors.now) a.written.now a.durable.now c.input_within-within.ensures (c.in_default.ensures) in omega (arith, c.if-zones-zone.false, o.valid.zones_most)

pub bounds-records-zone : goal.bounds-records-zone
bounds-records-zone c = let a = c.args in let o = opened_by a.g a.named a.state c.input_within-within.result 0 0 (length a.sectors.now) a.written.now a.durable.now c.input_within-within.ensures (c.in_default.ensures) in omega (arith, c.if-zones-zone.false, o.valid.zones_most)

pub present_drives-here-requires : goal.present_drives-here-requires
present_drives-here-requires c = let a = c.args in (opened_by a.g a.named a.state c.input_within-within.result 0 0 (length a.sectors.now) a.written.now a.durable.now c.input_within-within.ensures (c.in_default.ensures)).valid

pub zone_refusal-requires-clause-valid : goal.zone_refusal-requires-clause-valid
zone_refusal-requires-clause-valid c = let a = c.args in (opened_by a.g a.named a.state c.input_within-within.result 0 0 (length a.sectors.now) a.written.now a.durable.now c.input_within-within.ensures (c.in_default.ensures)).valid

pub zone_refusal-requires-clause-written_len : goal.zone_refusal-requires-clause-written_len
zone_refusal-requires-clause-written_len c =
    let a = c.args in
    let o = opened_by a.g a.named a.state c.input_within-within.result 0 0 (length a.sectors.now) a.written.now a.durable.now c.input_within-within.ensures (c.in_default.ensures) in
    let l = lengths_are a.g (length a.sectors.now) (length a.written.now) (length a.durable.now) o.lengths in
    (l.1, c.if-zones-zone.false, pointer_within a.g a.state a.zone o.within c.if-zones-zone.false)

abbrev late : Geometry → List Bool → State → ℕ → List ℕ → ℕ
late g h s z ws = reset_late_number g (is_set h) (record_at s z) z ws

pub returns-in-Err-zone_refusal : goal.returns-in-Err-zone_refusal
returns-in-Err-zone_refusal c =
    let a = c.args in
    let t = tables_of a.sectors.now a.written.now a.durable.now in
    let r = c.in-Err-zone_refusal in
    let l = r.ensures ∙ ap (λ (h : List Bool). late a.g h a.state a.zone a.written.now) c.present_drives-here.ensures in
    let e = l ∙ reset_in_lem a.g a.named a.state a.zone (full a.g a.named a.state t) (length a.sectors.now) a.written.now a.durable.now (none_opening a.g a.named a.state c.input_within-within.result 0 0 (length a.sectors.now) a.written.now a.durable.now c.input_within-within.ensures (c.in_default.ensures)) c.if-zones-zone.false (λ k. refusal_not_none _ (l ∙ k)) ∙ reset_refusal a.g a.named a.state a.zone a.sectors.now a.written.now a.durable.now in
    refuses a.g a.named a.state a.zone a.count t c.refused-in-Err-zone_refusal.result (refusal_number r.refusal) (refusal_not_none _) c.refused-in-Err-zone_refusal.ensures e

pub reset_zone-requires-clause-valid : goal.reset_zone-requires-clause-valid
reset_zone-requires-clause-valid c = let a = c.args in (opened_by a.g a.named a.state c.input_within-within.result 0 0 (length a.sectors.now) a.written.now a.durable.now c.input_within-within.ensures (c.in_default.ensures)).valid

pub reset_zone-requires-clause-sized : goal.reset_zone-requires-clause-sized
reset_zone-requires-clause-sized c =
    let a = c.args in
    let o = opened_by a.g a.named a.state c.input_within-within.result 0 0 (length a.sectors.now) a.written.now a.durable.now c.input_within-within.ensures (c.in_default.ensures) in
    let l = lengths_are a.g (length a.sectors.now) (length a.written.now) (length a.durable.now) o.lengths in
    let none = sym (c.in_default-zone_refusal.ensures ∙ ap (λ (h : List Bool). late a.g h a.state a.zone a.written.now) c.present_drives-here.ensures) in (
      record { sectors_long = l.0; written_long = l.1 },
      o.logs_first,
      record {
        durable_long = l.2;
        zone_in_lem = c.if-zones-zone.false;
        generation_is = refl;
        fresh = late_fresh a.g (is_set (present_list a.g a.named a.state.lost)) (record_at a.state a.zone) a.zone a.written.now none;
      },
    )

pub returns : goal.returns
returns c =
    let a = c.args in
    let t = tables_of a.sectors.now a.written.now a.durable.now in
    let none = sym (c.in_default-zone_refusal.ensures ∙ ap (λ (h : List Bool). late a.g h a.state a.zone a.written.now) c.present_drives-here.ensures) in
    let on : reset_zone_on (zone_now a.g c.present_drives-here.result a.state a.zone) a.state a.count t ≡ reset_on a.g a.named a.state a.zone a.count t =
    ap (λ (l : List Bool). reset_zone_on (zone_now a.g l a.state a.zone) a.state a.count t) c.present_drives-here.ensures
    ∙ reset_zone_on_lem a.g a.named a.state a.zone a.count a.sectors.now a.written.now a.durable.now (none_opening a.g a.named a.state c.input_within-within.result 0 0 (length a.sectors.now) a.written.now a.durable.now c.input_within-within.ensures (c.in_default.ensures)) c.if-zones-zone.false none in
    (c.reset_zone.ensures.0 ∙ ap (λ (r : Result). r.outcome) on, c.reset_zone.ensures.1 ∙ ap (λ (r : Result). r.tables) on)
