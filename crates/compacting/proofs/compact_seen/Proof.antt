use mathlib.Core.Path.{◌≡◌, sym, ap, ap₂, ◌∙◌, subst}
use mathlib.Core.Bool.{Bool, true, false}
use Prim.Native.Nat.{ℕ, suc, ◌<◌}
use native.Mathlib.Omega.{arith}
use mathlib.Core.List.{List}
use lib.ListN.{length}
use Rattle.tables.specs.meaning.Basics.{pick}
use Rattle.tables.specs.meaning.Geometry.{Valid, max_zones}
use Rattle.tables.specs.meaning.Device.{Store}
use Rattle.tables.specs.meaning.Tables.{Tables, tables_of}
use Rattle.tables.specs.laws.Made.{Made}
use Rattle.volume.specs.declared.State.{State}
use Rattle.volume.specs.declared.Outcome.{Outcome}
use Rattle.volume.specs.declared.Answer.TheVariants.{Refused}
use Rattle.volume.specs.declared.emptyings.Emptyings.{Emptyings}
use Rattle.volume.specs.declared.log_room.RoomAsked.{RoomAsked}
use Rattle.volume.specs.declared.log_room.LogRoom.{LogRoom}
use Rattle.volume.specs.meaning.Hosts.{compact_state}
use Rattle.volume.specs.meaning.Emptying.{gone_for_copies, compact_stores}
use Rattle.volume.specs.meaning.CallContracts.{view_state, is_set, roles_of, seen_in, state_held}
use Rattle.volume.specs.laws.CallContracts.{storing_refused, storing_ends}
use Rattle.volume.specs.looking.Knowing.{read_device}
use Rattle.volume.specs.checks.LogRoom.{Asking, SeenByRoles, emptyings_of, parity_room_at, room_of, placed_valid}
use Rattle.volume.specs.checks.Records.{generations_in, points_in, points_in_long}
use Rattle.volume.specs.emptying.ParityCopies.{PointersWithin}
use Rattle.volume.specs.emptying.CopiesKnown.{in_force_of, CopiesReady}
use Rattle.volume.specs.emptying.Emptyings.{EmptyingReady, emptied_on}
use Rattle.volume.specs.emptying.ParityEmptyings.{ParityKnown, new_parity_on}
use Rattle.volume.specs.emptying.RoomMoves.{room_ready}
use Rattle.compacting.specs.CompactRoom.{compact_asked, compact_room, room_full}
use Rattle.compacting.specs.CompactSeen.{copies_gone_is}
use Rattle.compacting.specs.CompactMade.{CompactReady, points_within, copies_ready, drive_placed, parity_known, compact_made}
use Rattle.compacting.specs.Compacting.{full_in, gone_in, lost_after, ended_is, compact_seen_on}
use borrow.Author.Rules.{rules}
use Rattle.compacting.proofs.compact_seen.Statement.{statement}
use Rattle.compacting.proofs.compact_seen.Tie as tie

-- the call as its contract states it
abbrev given : tie.Start → Tables
given s = tables_of s.args.sectors.now s.args.written.now s.args.durable.now

abbrev number : tie.Start → ℕ
number s = pick (full_in s.args.job s.args.state (given s)) 14 (pick (gone_in s.args.job s.args.state (given s)) 15 0)

abbrev stores : tie.Start → List Store
stores s = let j = s.args.job in compact_stores j.first (is_set j.here) (roles_of j.first (given s)) (seen_in j.first (given s)) (view_state s.args.state) j.drive

abbrev next : tie.Start → State
next s = let j = s.args.job in state_held max_zones (compact_state j.first (is_set j.here) (lost_after j) (seen_in j.first (given s)) (view_state s.args.state) j.drive)

abbrev asked : tie.Start → RoomAsked
asked s = compact_asked s.args.job s.args.places

abbrev room : tie.Start → LogRoom
room s = let a = s.args in compact_room a.job a.places a.state a.sectors.now a.written.now a.pointers.now

seen : (s : tie.Start) → SeenByRoles s.args.job.first s.args.places s.args.sectors.now s.args.written.now s.args.pointers.now
seen s = s.requires.1.0

ready : (s : tie.Start) → CompactReady s.args.job s.args.state s.args.written.now s.args.durable.now
ready s = s.requires.1.1

valid : (s : tie.Start) → Valid s.args.places.geometry
valid s = let a = s.args in placed_valid a.job.first a.places a.sectors.now a.written.now a.pointers.now (seen s) s.requires.0

-- ---- refusal 14
compact-asks-requires : tie.Need-compact_asks-asked-requires
compact-asks-requires c κs = let s = c.before.before.before.before.before in (s.requires.0, (ready s).drive_in)

parity-room-requires : tie.Need-parity_room-room-requires
parity-room-requires c κs =
    let s = c.before.before.before.before.before.before.before.before in
    let a = s.args in
    let needed : RoomAsked → List ℕ → Type 0 = λ q ps. Valid q.first × (Asking q a.sectors.now a.written.now a.pointers.now × PointersWithin q.first ps) in
    subst (λ (q : RoomAsked). needed q c.points_of-points.result) (sym c.compact_asks-asked.ensures)
    (subst (needed (asked s)) (sym c.points_of-points.ensures) (s.requires.0, (seen s, points_within a.job.first a.state s.requires.0 (ready s).within)))

abbrev to_start : tie.After-parity_room-room → tie.Start
to_start r = r.before.before.before.before.before.before.before.before.before

room-is : (r : tie.After-parity_room-room) → r.parity_room-room.result ≡ room (to_start r)
room-is r =
    let a = (to_start r).args in
    r.parity_room-room.ensures ∙ ap₂ (λ (q : RoomAsked) (ps : List ℕ). room_of (parity_room_at q ps a.sectors.now a.written.now a.pointers.now) q.first.drives) r.compact_asks-asked.ensures r.points_of-points.ensures

full_is : (r : tie.After-parity_room-room) → r.parity_room-room.result.full ≡ full_in (to_start r).args.job (to_start r).args.state (given (to_start r))
full_is r =
    let s = to_start r in
    let a = s.args in
    ap (λ (x : LogRoom). x.full) (room-is r) ∙ room_full a.job a.places a.state a.sectors.now a.written.now a.pointers.now a.durable.now (seen s) s.requires.0 (ready s).drive_in

returns : tie.Need-returns-then-room
unfolding compact_seen_on
returns c =
    let r = c.before.before in
    let s = to_start r in
    let a = s.args in
    let n : number s ≡ 14 = ap (λ (b : Bool). pick b 14 (pick (gone_in a.job a.state (given s)) 15 0)) (sym (full_is r) ∙ c.if-room.true) in
    let (p, q) = storing_refused a.job.first (number s) (stores s) (next s) a.state a.count (given s) (λ k. let z : ◌≡◌ {A = ℕ} 14 0 = sym n ∙ k in absurd (omega (arith, z))) in
    let refused : ℕ → Outcome = λ k. record { answer = Refused k; state = a.state } in
    (c.refused.ensures ∙ ap refused (sym n) ∙ sym p, sym q)

-- ---- refusal 15
copies-gone-requires : tie.Need-copies_gone-requires
copies-gone-requires c κs =
    let s = c.before.before.before.before.before.before.before.before.before.before.before.before.before.before in
    let a = s.args in
    let points = c.points_of-points in
    let generations = c.generations_of-generations in
    let needed : List ℕ → List ℕ → Type 0 = λ gs qs. Valid a.places.geometry × (CopiesReady a.places.geometry a.job.here a.sectors.now a.pointers.now gs qs × (a.job.drive < a.places.geometry.drives)) in
    subst (λ (gs : List ℕ). needed gs points.result) (sym generations.ensures) (subst (needed (generations_in a.state)) (sym points.ensures) (
      valid s,
      (
        copies_ready a.job a.places a.state a.sectors.now a.written.now a.pointers.now a.durable.now (seen s) s.requires.0 (ready s),
        drive_placed a.job a.places a.state a.sectors.now a.written.now a.pointers.now a.durable.now (seen s) s.requires.0 (ready s),
      ),
    ))

abbrev from-gone : tie.After-copies_gone → tie.Start
from-gone x = x.before.before.before.before.before.before.before.before.before.before.before.before.before.before.before

abbrev gone-room : tie.After-copies_gone → tie.After-parity_room-room
gone-room x = x.before.before.before.before.before.before

-- as the code finds it
abbrev gone_of : tie.Start → List ℕ → List ℕ → Bool
gone_of s gs qs =
    let a = s.args in
    let v = read_device a.places.geometry a.sectors.now a.pointers.now in
    gone_for_copies a.places.geometry (is_set a.job.here) (in_force_of a.places.geometry (is_set a.job.here) v gs qs) v a.job.drive

gone_at : (x : tie.After-copies_gone) → x.copies_gone.result ≡ gone_of (from-gone x) (generations_in (from-gone x).args.state) (points_in (from-gone x).args.state)
gone_at x = x.copies_gone.ensures ∙ ap₂ (gone_of (from-gone x)) x.generations_of-generations.ensures x.points_of-points.ensures

gone-is : (x : tie.After-copies_gone) → x.copies_gone.result ≡ gone_in (from-gone x).args.job (from-gone x).args.state (given (from-gone x))
gone-is x =
    let s = from-gone x in
    let a = s.args in
    gone_at x ∙ copies_gone_is a.job.first a.places a.sectors.now a.written.now a.pointers.now (seen s) a.durable.now (is_set a.job.here) a.state s.requires.0 a.job.drive

-- the log has room
not_full : (x : tie.After-copies_gone) → (gone-room x).parity_room-room.result.full ≡ false
not_full x = x.if-room.false

number_is : (x : tie.After-copies_gone) → number (from-gone x) ≡ pick x.copies_gone.result 15 0
number_is x = ap₂ (λ (b d : Bool). pick b 14 (pick d 15 0)) (sym (full_is (gone-room x)) ∙ not_full x) (sym (gone-is x))

returns-2 : tie.Need-returns-then-copies_gone
unfolding compact_seen_on
returns-2 c =
    let x = c.before.before in
    let s = from-gone x in
    let a = s.args in
    let n : number s ≡ 15 = number_is x ∙ ap (λ (b : Bool). pick b 15 0) c.if-copies_gone.true in
    let (p, q) = storing_refused a.job.first (number s) (stores s) (next s) a.state a.count (given s) (λ k. let z : ◌≡◌ {A = ℕ} 15 0 = sym n ∙ k in absurd (omega (arith, z))) in
    let refused : ℕ → Outcome = λ k. record { answer = Refused k; state = a.state } in
    (c.refused-then-copies_gone.ensures ∙ ap refused (sym n) ∙ sym p, sym q)

-- ---- the stores
emptyings-of-requires : tie.Need-emptyings_of-all-requires
emptyings-of-requires c κs = subst (λ (q : RoomAsked). Valid q.places.geometry) (sym (gone-room c.before).compact_asks-asked.ensures) (valid (from-gone c.before))

all-is : (y : tie.After-emptyings_of-all) → y.emptyings_of-all.result ≡ emptyings_of (asked (from-gone y.before.before)) (room (from-gone y.before.before))
all-is y = let r = gone-room y.before.before in y.emptyings_of-all.ensures ∙ ap₂ emptyings_of r.compact_asks-asked.ensures (room-is r)

slice-aggregate-empty-parity-on-2 : tie.Need-slice_bounds-empty_parity_on-end-2
slice-aggregate-empty-parity-on-2 c =
    let x = c.before.before.before.before.before.before.before.before in
    sym (ap length x.points_of-points.ensures ∙ points_in_long (from-gone x).args.state)

empty-parity-on-requires : tie.Need-empty_parity_on-rest-requires
empty-parity-on-requires c κs =
    let y = c.before.before.before.before.before.before in
    let x = y.before.before in
    let s = from-gone x in
    let a = s.args in
    let points = x.points_of-points in
    let generations = x.generations_of-generations in
    let needed : Emptyings → List ℕ → List ℕ → Type 0 = λ e gs qs. Valid e.from × (EmptyingReady true e a.pointers.now a.sectors.now a.written.now a.durable.now × ParityKnown e gs qs a.pointers.now a.sectors.now a.written.now a.job.drive) in
    subst (λ (e : Emptyings). needed e generations.result points.result) (sym (all-is y)) (subst (λ (gs : List ℕ). needed (emptyings_of (asked s) (room s)) gs points.result) (sym generations.ensures) (subst (needed (emptyings_of (asked s) (room s)) (generations_in a.state)) (sym points.ensures) (
      valid s,
      (
        room_ready (asked s) (room s) a.sectors.now a.written.now a.pointers.now (seen s) a.durable.now (ready s).durable_long,
        parity_known a.job a.places a.state a.sectors.now a.written.now a.pointers.now a.durable.now (seen s) s.requires.0 (ready s) (sym (gone_at x) ∙ y.if-copies_gone.false),
      ),
    )))

outcome-requires : tie.Need-outcome-requires
outcome-requires c κs = let s = from-gone c.before.before.before.before.before.before.before.before.before.before.before.before.before.before.before in (s.requires.0, ((ready s).drive_in, (ready s).within))

-- what was stored, as the call's stores
made : (f : tie.After-empty_parity_on-rest) → let s = from-gone f.before.before.before.before.before.before.before.before.before in let w = f.empty_parity_on-rest in
    Made s.args.job.first (suc s.args.count) w.result (stores s) (given s) (tables_of w.new.sectors w.new.written w.new.durable)
made f =
    let y = f.before.before.before.before.before.before.before in
    let x = y.before.before in
    let s = from-gone x in
    let a = s.args in
    let w = f.empty_parity_on-rest in
    let points = x.points_of-points in
    let generations = x.generations_of-generations in
    let end : Tables = tables_of w.new.sectors w.new.written w.new.durable in
    let emptied : Emptyings → List ℕ → List ℕ → ℕ → Type 0 = λ e gs qs b. Made e.to b w.result (emptied_on e true (new_parity_on e gs qs a.sectors.now a.pointers.now a.job.drive) a.job.drive) (given s) end in
    let all = emptyings_of (asked s) (room s) in
    let budget = f.budget_of-budget in
    let m₁ = subst (λ (e : Emptyings). emptied e generations.result points.result budget.result) (all-is y) w.ensures in
    let m₂ = subst (λ (gs : List ℕ). emptied all gs points.result budget.result) generations.ensures m₁ in
    let m₃ = subst (λ (qs : List ℕ). emptied all (generations_in a.state) qs budget.result) points.ensures m₂ in
    let m₄ = subst (emptied all (generations_in a.state) (points_in a.state)) budget.ensures m₃ in
    compact_made a.job a.places a.state a.sectors.now a.written.now a.pointers.now a.durable.now (seen s) s.requires.0 (ready s)
    (sym (ap (λ (q : LogRoom). q.full) (room-is (gone-room x))) ∙ not_full x) (suc a.count) w.result end m₄

returns-3 : tie.Need-returns
unfolding compact_seen_on
returns-3 c =
    let f = c.before.before.before.before.before.before.before in
    let y = f.before.before.before.before.before.before.before in
    let x = y.before.before in
    let s = from-gone x in
    let a = s.args in
    let w = f.empty_parity_on-rest in
    let n : number s ≡ 0 = number_is x ∙ ap (λ (b : Bool). pick b 15 0) y.if-copies_gone.false in
    let (p, q) = storing_ends a.job.first (number s) (stores s) (next s) a.state a.count (given s) w.result (tables_of w.new.sectors w.new.written w.new.durable) n (made f) in
    (c.outcome.ensures ∙ ended_is a.job a.state (given s) w.result s.requires.0 ∙ p, q)

pub compact_seen_spec : {M : Type 1} → statement M
compact_seen_spec =
    tie.close
    (tie.spec compact-asks-requires (λ c κs. search rules) (λ c. search rules) parity-room-requires (λ c κs. search rules) (λ c. search rules) (λ c. search rules) returns (λ c κs. search rules) (λ c. search rules) (λ c. search rules)
    copies-gone-requires (λ c κs. search rules) (λ c. search rules) (λ c. search rules) returns-2 emptyings-of-requires (λ c κs. search rules) (λ c. search rules) slice-aggregate-empty-parity-on-2 empty-parity-on-requires outcome-requires
    (λ c. search rules) (λ c. search rules) (λ c. search rules) returns-3)
