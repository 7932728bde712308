use Prim.Native.Nat.{ℕ}
use mathlib.Core.Path.{◌≡◌, sym, ap, ◌∙◌, subst}
use mathlib.Core.Bool.{Bool, ◌&&◌}
use mathlib.Core.List.{List}
use native.Mathlib.Omega.{arith}
use lib.ListN.{length}
use lib.Dec.{ltb}
use borrow.Author.Tests.{ltb-true}
use Rattle.tables.specs.laws.Basics.{and_split}
use Rattle.tables.specs.meaning.Geometry.{max_zones}
use Rattle.tables.specs.meaning.Tables.{Tables, tables_of}
use Rattle.tables.specs.laws.TablesFrame.{lengths_are}
use Rattle.volume.specs.declared.State.{State}
use Rattle.volume.specs.declared.Outcome.{Outcome}
use Rattle.volume.specs.declared.Answer.TheVariants.{Refused}
use Rattle.volume.specs.meaning.State.{call_present}
use Rattle.volume.specs.meaning.Hosts.{compact_state}
use Rattle.volume.specs.meaning.Emptying.{compact_stores}
use Rattle.volume.specs.meaning.Answers.{lost_in}
use Rattle.volume.specs.meaning.CallContracts.{is_set, view_state, verdict_number, roles_of, seen_in, Result, compact_verdict, compact_on, state_held}
use Rattle.volume.specs.laws.CallContracts.{storing_refused}
use Rattle.volume.specs.checks.CheckLaws.{present_list, present_is, opening_is, tested, none_opening, opened_by}
use Rattle.volume.specs.checks.ZoneChecks.{present_good}
use Rattle.compacting.specs.CompactMade.{CompactReady}
use Rattle.compacting.specs.Compacting.{some_stale, compact_seen_on, number_opening, number_7, number_8, seen_on}
use Rattle.volume.specs.meaning.RefusalNumbers.{refusal_number}
use Rattle.volume.specs.checks.RefusalNumbers.{refusal_not_none}
use Rattle.tables.specs.declared.Geometry.{Geometry}
use Rattle.compacting.proofs.compact.Goals as goal

-- a refusal of the call
refuses : (g : Geometry) (named : List Bool) (s : State) (d count : ℕ) (t : Tables) (n : ℕ) (o : Outcome) → o ≡ record { answer = Refused n; state = s } → n ≡ verdict_number (compact_verdict g named s d t) → (n ≡ 0 → ⊥)
    → (o ≡ (compact_on g named s d count t).outcome) × (t ≡ (compact_on g named s d count t).tables)
unfolding compact_on
refuses g named s d count t n o e is some =
    let v = view_state s in
    let here = call_present g (is_set named) v in
    let stores = compact_stores g here (roles_of g t) (seen_in g t) v d in
    let next = state_held max_zones (compact_state g here (lost_in g (is_set named) v) (seen_in g t) v d) in
    let (p, q) = storing_refused g (verdict_number (compact_verdict g named s d t)) stores next s count t (λ k. some (is ∙ k)) in
    (e ∙ ap (λ (k : ℕ). record { answer = Refused k; state = s }) is ∙ sym p, sym q)

pub opening-requires : goal.opening-requires
opening-requires c = tested _ c.args.state _ c.input_within-within.ensures

pub returns-in-Err : goal.returns-in-Err
returns-in-Err c =
    let a = c.args in
    let o = c.in-Err.ensures ∙ opening_is a.g a.named a.state c.input_within-within.result 0 0 (length a.sectors.now) a.written.now a.durable.now c.input_within-within.ensures in
    let e = o ∙ number_opening a.g a.named a.state a.drive a.sectors.now a.written.now a.durable.now (λ k. refusal_not_none c.in-Err.refusal (o ∙ k)) in
    refuses a.g a.named a.state a.drive a.count (tables_of a.sectors.now a.written.now a.durable.now) (refusal_number c.in-Err.refusal) c.refused.result c.refused.ensures e (refusal_not_none _)

pub present_drives-here-requires : goal.present_drives-here-requires
present_drives-here-requires c = let a = c.args in (opened_by a.g a.named a.state c.input_within-within.result 0 0 (length a.sectors.now) a.written.now a.durable.now c.input_within-within.ensures c.in_default.ensures).valid

pub some_stale-requires-clause-valid : goal.some_stale-requires-clause-valid
some_stale-requires-clause-valid c = let a = c.args in (opened_by a.g a.named a.state c.input_within-within.result 0 0 (length a.sectors.now) a.written.now a.durable.now c.input_within-within.ensures c.in_default.ensures).valid

pub some_stale-requires-clause-written_len : goal.some_stale-requires-clause-written_len
some_stale-requires-clause-written_len c =
    let a = c.args in
    let o = opened_by a.g a.named a.state c.input_within-within.result 0 0 (length a.sectors.now) a.written.now a.durable.now c.input_within-within.ensures c.in_default.ensures in
    ((lengths_are a.g (length a.sectors.now) (length a.written.now) (length a.durable.now) o.lengths).1, o.within)

-- refusals 7 and 8, by the drives that are present
abbrev stale : Geometry → State → List ℕ → List Bool → Bool
stale g s ws h = some_stale g (is_set h) s ws g.zones

abbrev is_here : Geometry → ℕ → List Bool → Bool
is_here g d h = ltb d g.drives && is_set h d

pub returns-then-some_stale : goal.returns-then-some_stale
returns-then-some_stale c =
    let a = c.args in
    let r = c.some_stale.ensures ∙ ap (stale a.g a.state a.written.now) c.present_drives-here.ensures in
    refuses a.g a.named a.state a.drive a.count (tables_of a.sectors.now a.written.now a.durable.now) 7 c.refused-then-some_stale.result c.refused-then-some_stale.ensures
    (number_7 a.g a.named a.state a.drive a.sectors.now a.written.now a.durable.now (none_opening a.g a.named a.state c.input_within-within.result 0 0 (length a.sectors.now) a.written.now a.durable.now c.input_within-within.ensures c.in_default.ensures) (sym r ∙ c.if-some_stale.true)) (λ k. omega (arith, k))

pub is_here-requires : goal.is_here-requires
is_here-requires c = let a = c.args in (opened_by a.g a.named a.state c.input_within-within.result 0 0 (length a.sectors.now) a.written.now a.durable.now c.input_within-within.ensures c.in_default.ensures).valid

pub returns-then-not-is_here : goal.returns-then-not-is_here
returns-then-not-is_here c =
    let a = c.args in
    let r = c.some_stale.ensures ∙ ap (stale a.g a.state a.written.now) c.present_drives-here.ensures in
    let h = c.is_here.ensures ∙ ap (is_here a.g a.drive) c.present_drives-here.ensures in
    refuses a.g a.named a.state a.drive a.count (tables_of a.sectors.now a.written.now a.durable.now) 8 c.refused-then-not-is_here.result c.refused-then-not-is_here.ensures
    (number_8 a.g a.named a.state a.drive a.sectors.now a.written.now a.durable.now (none_opening a.g a.named a.state c.input_within-within.result 0 0 (length a.sectors.now) a.written.now a.durable.now c.input_within-within.ensures c.in_default.ensures) (sym r ∙ c.if-some_stale.false) (sym h ∙ c.if-not-is_here.true)) (λ k. omega (arith, k))

pub compact_by_roles-requires-clause-valid : goal.compact_by_roles-requires-clause-valid
compact_by_roles-requires-clause-valid c = let a = c.args in (opened_by a.g a.named a.state c.input_within-within.result 0 0 (length a.sectors.now) a.written.now a.durable.now c.input_within-within.ensures c.in_default.ensures).valid

pub compact_by_roles-requires-clause-sized : goal.compact_by_roles-requires-clause-sized
compact_by_roles-requires-clause-sized c =
    let a = c.args in
    let o = opened_by a.g a.named a.state c.input_within-within.result 0 0 (length a.sectors.now) a.written.now a.durable.now c.input_within-within.ensures c.in_default.ensures in
    let l = lengths_are a.g (length a.sectors.now) (length a.written.now) (length a.durable.now) o.lengths in
    let h = sym (c.is_here.ensures ∙ ap (is_here a.g a.drive) c.present_drives-here.ensures) ∙ c.if-not-is_here.false in
    let ready : List Bool → Type 0 = λ p. CompactReady (record { first = a.g; here = p; drive = a.drive }) a.state a.written.now a.durable.now in
    let is : ready (present_list a.g a.named a.state.lost) = record {
      within = o.within;
      durable_long = l.2;
      in_zones = λ d y hd p hy. present_good a.g a.named a.state a.written.now a.durable.now o.pointers d y hd hy (sym (ap (λ (f : ℕ → Bool). f d) (present_is a.g a.named a.state)) ∙ p);
      drive_in = ltb-true a.drive a.g.drives (and_split (ltb a.drive a.g.drives) (is_set (present_list a.g a.named a.state.lost) a.drive) h).0;
    } in
    (record { sectors_long = l.0; written_long = l.1 }, o.logs_first, subst ready (sym c.present_drives-here.ensures) is)

pub returns : goal.returns
returns c =
    let a = c.args in
    let r = sym (c.some_stale.ensures ∙ ap (stale a.g a.state a.written.now) c.present_drives-here.ensures) ∙ c.if-some_stale.false in
    let h = sym (c.is_here.ensures ∙ ap (is_here a.g a.drive) c.present_drives-here.ensures) ∙ c.if-not-is_here.false in
    let f = c.compact_by_roles in
    let on : compact_seen_on (record { first = a.g; here = c.present_drives-here.result; drive = a.drive }) a.state a.count (tables_of a.sectors.now a.written.now a.durable.now) ≡ compact_on a.g a.named a.state a.drive a.count (tables_of a.sectors.now a.written.now a.durable.now) =
    ap (λ (l : List Bool). compact_seen_on (record { first = a.g; here = l; drive = a.drive }) a.state a.count (tables_of a.sectors.now a.written.now a.durable.now)) c.present_drives-here.ensures
    ∙ seen_on a.g a.named a.state a.drive a.sectors.now a.written.now a.durable.now a.count (none_opening a.g a.named a.state c.input_within-within.result 0 0 (length a.sectors.now) a.written.now a.durable.now c.input_within-within.ensures c.in_default.ensures) r h in
    (f.ensures.0 ∙ ap (λ (q : Result). q.outcome) on, f.ensures.1 ∙ ap (λ (q : Result). q.tables) on)
