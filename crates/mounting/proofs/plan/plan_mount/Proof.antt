use mathlib.Core.Path.{◌≡◌, sym, ap, ap₂, ◌∙◌, subst}
use mathlib.Core.Bool.{true, false}
use Prim.Native.Nat.{ℕ, ◌≤◌}
use native.Mathlib.Omega.{arith}
use mathlib.Core.List.{List}
use lib.ListN.{length}
use Rattle.tables.specs.meaning.Geometry.{Valid}
use Rattle.volume.specs.declared.Look.{Look}
use Rattle.mounting.specs.declared.rooms.Plan.{Plan}
use Rattle.volume.specs.declared.log_room.RoomAsked.{RoomAsked}
use Rattle.volume.specs.meaning.Emptying.{reserve, mount_general_limit}
use Rattle.volume.specs.checks.LogRoom.{SeenByRoles, room_of, general_room_at, parity_room_at, placed_valid}
use Rattle.volume.specs.emptying.ParityCopies.{PointersWithin}
use Rattle.volume.specs.checks.Records.{generations_shown, points_shown, generations_shown_long}
use Rattle.mounting.specs.MountPlan.{PlanMade}
use Rattle.mounting.specs.MountPlanned.{mount_asked, look_by, plan_by, points_of_look, plan_made}
use borrow.Author.Rules.{rules}
use Rattle.mounting.proofs.plan.plan_mount.Statement.{statement}
use Rattle.mounting.proofs.plan.plan_mount.Tie as tie

abbrev to_start : tie.After-look_all-look → tie.Start
to_start l = l.before.before.before.before.before.before.before

-- the geometry with the logs where they lie is one
placed : (s : tie.Start) → Valid s.args.found.places.geometry
placed s = let a = s.args in placed_valid a.g a.found.places a.sectors.now a.written.now a.pointers.now s.requires.1.0 s.requires.0

-- what the look shows
abbrev shows : tie.Start → Look
shows s = let a = s.args in look_by a.found a.sectors.now a.pointers.now

look-all-requires : tie.Need-look_all-look-requires
look-all-requires c κs = let s = c.before.before.before.before.before.before in (placed s, s.requires.1.1)

counters-differ-requires : tie.Need-counters_differ-differ-requires
counters-differ-requires c κs = let s = to_start c.before in (placed s, (s.requires.1.1.sectors_long, s.requires.1.1.written_long))

generations-are : (n : tie.After-generations_shown-generations) → n.generations_shown-generations.result ≡ generations_shown (shows (to_start n.before.before.before))
generations-are n = n.generations_shown-generations.ensures ∙ ap (λ (k : Look). generations_shown k) n.look_all-look.ensures

points-are : (n : tie.After-points_shown-points) → n.points_shown-points.result ≡ points_shown (shows (to_start n.before.before.before.before))
points-are n = n.points_shown-points.ensures ∙ ap (λ (k : Look). points_shown k) n.look_all-look.ensures

-- what is asked of the two kinds
general-asked : (n : tie.After-mount_asks-general_asked) → let a = (to_start n.before.before.before.before.before.before).args in n.mount_asks-general_asked.result ≡ mount_asked a.g a.found false (mount_general_limit a.g)
general-asked n = n.mount_asks-general_asked.ensures

parity-asked : (n : tie.After-mount_asks-parity_asked) → let a = (to_start n.before.before.before.before.before.before.before).args in n.mount_asks-parity_asked.result ≡ mount_asked a.g a.found true (reserve a.g)
parity-asked n = let a = (to_start n.before.before.before.before.before.before.before).args in n.mount_asks-parity_asked.ensures ∙ ap (mount_asked a.g a.found true) n.reserve_of-reserve.ensures

general-room-requires : tie.Need-general_room-general-requires
general-room-requires c κs =
    let k = c.before.before in
    let n = k.before.before.before in
    let s = to_start n.before.before.before in
    let a = s.args in
    let long : length n.generations_shown-generations.result ≡ 16 = ap (λ (l : List ℕ). length l) (generations-are n) ∙ generations_shown_long (shows (to_start n.before.before.before)) in
    subst (λ (q : RoomAsked). Valid q.first × (SeenByRoles q.first q.places a.sectors.now a.written.now a.pointers.now × (q.first.zones ≤ length n.generations_shown-generations.result))) (sym (general-asked k))
    (s.requires.0, (s.requires.1.0, omega (arith, long, s.requires.0.zones_most)))

parity-room-requires : tie.Need-parity_room-parity-requires
parity-room-requires c κs =
    let k = c.before.before.before in
    let n = k.before.before.before in
    let s = to_start n.before.before.before.before in
    let a = s.args in
    subst (λ (q : RoomAsked). Valid q.first × (SeenByRoles q.first q.places a.sectors.now a.written.now a.pointers.now × PointersWithin q.first n.points_shown-points.result)) (sym (parity-asked k))
    (s.requires.0, (s.requires.1.0, subst (λ (l : List ℕ). PointersWithin a.g l) (sym (points-are n)) (points_of_look a.g a.found a.sectors.now a.written.now a.pointers.now s.requires.0 s.requires.1.0)))

returns : tie.Need-returns
returns c =
    let e = c.before.before in
    let k = e.before.before in
    let n = k.before.before.before in
    let m = n.before in
    let l = m.before.before.before in
    let a = (to_start l).args in
    let v = a.found in
    let xs = a.sectors.now in
    let ws = a.written.now in
    let ps = a.pointers.now in
    let general : e.general_room-general.result ≡ (plan_by a.g v xs ws ps).general =
    e.general_room-general.ensures ∙ ap₂ (λ (q : RoomAsked) (gs : List ℕ). room_of (general_room_at q gs xs ws ps) q.first.drives) (general-asked k.before) (generations-are m) in
    let parity : c.parity_room-parity.result ≡ (plan_by a.g v xs ws ps).parity =
    c.parity_room-parity.ensures ∙ ap₂ (λ (q : RoomAsked) (qs : List ℕ). room_of (parity_room_at q qs xs ws ps) q.first.drives) (parity-asked k) (points-are n) in
    let made : ◌≡◌ {A = Plan} (record { places = v.places; here = v.here; look = l.look_all-look.result; differ = m.counters_differ-differ.result; general = e.general_room-general.result; parity = c.parity_room-parity.result }) (plan_by a.g v xs ws ps) =
    λ i. record { places = v.places; here = v.here; look = l.look_all-look.ensures i; differ = m.counters_differ-differ.ensures i; general = general i; parity = parity i } in
    subst (λ (p : Plan). PlanMade a.g v xs ws ps p) (sym made) (plan_made a.g v xs ws ps)

pub plan_mount_spec : {M : Type 1} → statement M
plan_mount_spec =
    tie.close
    (tie.spec look-all-requires counters-differ-requires (λ c κs. search rules) (λ c κs. search rules) (λ c κs. search rules) (λ c. search rules) (λ c κs. search rules) (λ c κs. search rules)
    (λ c. search rules) general-room-requires (λ c. search rules) parity-room-requires returns)
