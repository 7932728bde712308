use mathlib.Core.Path.{◌≡◌, refl, sym, ap, ◌∙◌, subst}
use mathlib.Core.Bool.{Bool, false, not}
use Prim.Native.Nat.{ℕ, ◌<◌}
use native.Mathlib.Omega.{arith}
use mathlib.Core.List.{List, ◌++◌}
use lib.ListN.{length, take}
use Rattle.tables.specs.meaning.Basics.{pick}
use Rattle.tables.specs.meaning.Below.{each_below}
use Rattle.tables.specs.meaning.Drives.{find_below}
use Rattle.tables.specs.meaning.Geometry.{Valid, max_zones}
use Rattle.tables.specs.meaning.Device.{Store}
use Rattle.tables.specs.meaning.Tables.{Tables, tables_of}
use Rattle.tables.specs.laws.Made.{Made}
use Rattle.logs.specs.meaning.Entry.{worn_generation}
use Rattle.volume.specs.declared.State.{State}
use Rattle.volume.specs.declared.Outcome.{Outcome}
use Rattle.volume.specs.declared.Answer.TheVariants.{Refused}
use Rattle.volume.specs.declared.log_room.LogRoom.{LogRoom}
use Rattle.volume.specs.declared.emptyings.Emptyings.{Emptyings}
use Rattle.volume.specs.meaning.Emptying.{reset_all}
use Rattle.volume.specs.meaning.CallContracts.{record_at, view_state, is_set, roles_of, seen_in, state_held}
use Rattle.volume.specs.laws.CallContracts.{storing_refused, storing_ends}
use Rattle.volume.specs.laws.LogPlaces.{valid_with_logs}
use Rattle.volume.specs.looking.MovedLogs.{is_emptied, moved_logs}
use Rattle.volume.specs.checks.LogRoom.{emptyings_of, general_room_at, room_of, placed_valid, placed_zones}
use Rattle.volume.specs.emptying.Emptyings.{EmptyingReady, emptied_on, new_general_on}
use Rattle.volume.specs.emptying.RoomMoves.{room_ready}
use Rattle.volume.specs.storing.Resetting.{reset_with, raised_list}
use Rattle.volume.specs.storing.ResetZone.{zone_full, reset_zone_on, asked_by, room_by, room_full, reset_made_all}
use borrow.Author.Rules.{rules}
use Rattle.volume.proofs.resetting.reset_seen.Statement.{statement}
use Rattle.volume.proofs.resetting.reset_seen.Tie as tie
use Rattle.volume.specs.meaning.Calls.{reset_state}
use Rattle.volume.specs.checks.Records.{generations_in, generations_in_long}

-- the call as its contract states it
abbrev given : tie.Start → Tables
given s = tables_of s.args.sectors.now s.args.written.now s.args.durable.now

abbrev number : tie.Start → ℕ
number s = pick (zone_full s.args.zone s.args.state (given s)) 14 0

abbrev stores : tie.Start → List Store
stores s = let z = s.args.zone in reset_all z.geometry (is_set z.here) (roles_of z.geometry (given s)) (seen_in z.geometry (given s)) (view_state s.args.state) z.number

abbrev next : tie.Start → State
next s = let z = s.args.zone in state_held max_zones (reset_state (find_below (λ (d : ℕ). not (is_set z.here d)) z.geometry.drives) (view_state s.args.state) z.number)

abbrev room : tie.Start → LogRoom
room s = let a = s.args in room_by a.zone a.places a.state a.sectors.now a.written.now a.pointers.now

general-room-requires : tie.Need-general_room-room-requires
general-room-requires c κs =
    let s = c.before.before.before.before.before.before.before.before in
    let n : length c.generations_of-current.result ≡ 16 = ap length c.generations_of-current.ensures ∙ generations_in_long s.args.state in
    (s.requires.0, (s.requires.1.0, omega (arith, n, s.requires.0.zones_most)))

abbrev to_start : tie.After-general_room-room → tie.Start
to_start c = c.before.before.before.before.before.before.before.before.before

room-is : (c : tie.After-general_room-room) → c.general_room-room.result ≡ room (to_start c)
room-is c =
    let a = (to_start c).args in
    c.general_room-room.ensures ∙ ap (λ (gs : List ℕ). room_of (general_room_at (asked_by a.zone a.places) gs a.sectors.now a.written.now a.pointers.now) a.zone.geometry.drives) c.generations_of-current.ensures

full_is : (c : tie.After-general_room-room) → c.general_room-room.result.full ≡ zone_full (to_start c).args.zone (to_start c).args.state (given (to_start c))
full_is c =
    let s = to_start c in
    let a = s.args in
    ap (λ (x : LogRoom). x.full) (room-is c) ∙ room_full a.zone a.places a.state a.sectors.now a.written.now a.pointers.now a.durable.now s.requires.1.0 s.requires.0

returns : tie.Need-returns-then-full
unfolding reset_zone_on
returns c =
    let r = c.before.before in
    let s = to_start r in
    let a = s.args in
    let n : number s ≡ 14 = ap (λ (b : Bool). pick b 14 0) (sym (full_is r) ∙ c.if-full.true) in
    let (p, q) = storing_refused a.zone.geometry (number s) (stores s) (next s) a.state a.count (given s) (λ k. let z : ◌≡◌ {A = ℕ} 14 0 = sym n ∙ k in absurd (omega (arith, z))) in
    let refused : ℕ → Outcome = λ k. record { answer = Refused k; state = a.state } in
    (c.refused.ensures ∙ ap refused (sym n) ∙ sym p, sym q)

emptyings-of-requires : tie.Need-emptyings_of-all-requires
emptyings-of-requires c κs =
    let s = to_start c.before in
    let a = s.args in
    placed_valid a.zone.geometry a.places a.sectors.now a.written.now a.pointers.now s.requires.1.0 s.requires.0

reset-from-requires : tie.Need-reset_from-rest-requires
reset-from-requires c κs =
    let y = c.before.before.before.before.before in
    let x = y.general_room-room.result in
    let s = c.before.before.before.before.before.before.before.before.before.before.before.before.before.before.before.before in
    let a = s.args in
    let g = a.zone.geometry in
    let k = s.requires.1.0 in
    let r = s.requires.1.1 in
    let asked = asked_by a.zone a.places in
    let ok = placed_valid g a.places a.sectors.now a.written.now a.pointers.now k s.requires.0 in
    let zones = placed_zones g a.places a.sectors.now a.written.now a.pointers.now k in
    subst (λ (e : Emptyings). (Valid e.from × Valid e.to) × (EmptyingReady false e a.pointers.now a.sectors.now a.written.now a.durable.now × (e.to ≡ e.to) × (a.zone.number < e.from.zones) × ((record_at a.state a.zone.number).generation < worn_generation)))
    (sym y.emptyings_of-all.ensures)
    ((ok, valid_with_logs a.places.geometry (moved_logs a.places.geometry false (is_emptied x.emptied) a.places.geometry.drives) ok), (room_ready asked x a.sectors.now a.written.now a.pointers.now k a.durable.now r.durable_long, refl, rw zones r.zone_in_lem, r.fresh))

returns-2 : tie.Need-returns
unfolding reset_zone_on
returns-2 c =
    let f = c.reset_from-rest in
    let y = c.before.before.before.before.before.before.before.before.before.before.before.before.before in
    let e = y.before in
    let w = e.before in
    let s = to_start w in
    let a = s.args in
    let z = a.zone in
    let x = room s in
    let b = c.budget_of-budget.result in
    let end : Tables = tables_of f.new.sectors f.new.written f.new.durable in
    let all : y.emptyings_of-all.result ≡ emptyings_of (asked_by z a.places) x = y.emptyings_of-all.ensures ∙ ap (emptyings_of (asked_by z a.places)) (room-is w) in
    let full : x.full ≡ false = sym (ap (λ (l : LogRoom). l.full) (room-is w)) ∙ e.if-full.false in
    let n : number s ≡ 0 = ap (λ (b : Bool). pick b 14 0) (sym (full_is w) ∙ e.if-full.false) in
    let made : Emptyings → ℕ → Type 0 = λ l m. Made l.to b f.result (each_below (λ (d : ℕ). emptied_on l false (new_general_on l (generations_in a.state) a.sectors.now a.pointers.now d) d) l.from.drives ++ reset_with l.to (is_set z.here) z.number m (take l.to.zones (raised_list a.state z.number))) (given s) end in
    let m = reset_made_all z a.places a.state a.sectors.now a.written.now a.pointers.now a.durable.now s.requires.1.0 s.requires.0 z.number s.requires.1.1.zone_in_lem full b f.result end
    (subst (made (emptyings_of (asked_by z a.places) x)) s.requires.1.1.generation_is (subst (λ (l : Emptyings). made l z.generation) all f.ensures)) in
    let (p, q) = storing_ends z.geometry (number s) (stores s) (next s) a.state a.count (given s) f.result end n (subst (λ (l : ℕ). Made z.geometry l f.result (stores s) (given s) end) c.budget_of-budget.ensures m) in
    (c.outcome.ensures ∙ p, q)

pub reset_seen_spec : {M : Type 1} → statement M
reset_seen_spec =
    tie.close
    (tie.spec (λ c. search rules) (λ c κs. search rules) (λ c. search rules) general-room-requires (λ c κs. search rules) (λ c. search rules) (λ c. search rules) returns emptyings-of-requires (λ c κs. search rules) reset-from-requires
    (λ c κs. let s = c.before.before.before.before.before.before.before.before.before.before.before.before.before.before.before.before.before.before.before.before.before.before.before in (s.requires.0, (s.requires.1.1.zone_in_lem, s.requires.1.1.fresh))) (λ c. search rules) (λ c. search rules) (λ c. search rules) returns-2)
