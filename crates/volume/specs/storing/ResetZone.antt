-- A reset of a zone that has passed refusals 7 and 12: refusal 14, the emptyings of the general logs that lack room, the six phases. That it is the reset of the
-- rules, by the tables with the logs where they lie.
use Rattle.std.specs.Prelude.{◌≡◌, Bool, true, ◌||◌, not, ℕ, suc, ◌+◌, ◌<◌, length, get_or, take}
use Rattle.std.proofs.Math.Path.{ap, ap₂, fun_ext}
use Rattle.std.proofs.Common.{◌∙◌, subst, arith}
use Rattle.std.proofs.Math.Bool.{false}
use mathlib.Core.List.{List, [], ◌∷◌, ◌++◌, map}
use Rattle.tables.specs.declared.Geometry.{Geometry}
use Rattle.tables.specs.meaning.Basics.{pick}
use Rattle.tables.specs.meaning.Below.{each_below}
use Rattle.tables.specs.meaning.Drives.{find_below}
use Rattle.tables.specs.meaning.Geometry.{cells, max_zones}
use Rattle.tables.specs.meaning.Tables.{Tables, tables_of}
use Rattle.logs.specs.meaning.Entry.{worn_generation}
use Rattle.volume.specs.declared.State.{State}
use Rattle.volume.specs.declared.Zone.{Zone}
use Rattle.volume.specs.meaning.Refusals.{reset_full}
use Rattle.volume.specs.meaning.Emptying.{by_state, reset_all}
use Rattle.volume.specs.meaning.CallContracts.{record_at, view_state, is_set, verdict_number, roles_of, seen_in, Result, storing_on, reset_verdict, reset_on, state_held}
use Rattle.tables.specs.meaning.Geometry.{Valid}
use Rattle.tables.specs.meaning.Device.{Store}
use Rattle.tables.specs.laws.Made.{Made}
use Rattle.logs.specs.meaning.Entry.{kind_of_log, Header, closing, encode}
use Rattle.volume.specs.declared.roles.LogPlaces.{LogPlaces}
use Rattle.volume.specs.declared.log_room.RoomAsked.{RoomAsked}
use Rattle.volume.specs.declared.log_room.LogRoom.{LogRoom}
use Rattle.volume.specs.meaning.Calls.{reset_stores, reset_state}
use Rattle.volume.specs.meaning.Rules.{general_heads}
use Rattle.volume.specs.meaning.Roles.{roles, roles_after}
use Rattle.volume.specs.meaning.Emptying.{InForce, general_copies, new_general, new_general_size, stays_full, spare_written, reset_limit, emptied_for, empty_general}
use Rattle.volume.specs.laws.LogPlaces.{with_roles, logs_of, placed_on_drives}
use Rattle.volume.specs.laws.LogsUnread.{encode_alike}
use Rattle.volume.specs.laws.CallsUnread.{reset_stores_alike}
use Rattle.volume.specs.laws.EmptyingUnread.{general_copies_alike}
use Rattle.volume.specs.laws.PlacedStores.{reset_placed}
use Rattle.volume.specs.looking.Knowing.{read_device}
use Rattle.volume.specs.checks.LogRoom.{force_of, drive_room_of, room_of, general_room_at, emptyings_of, SeenByRoles, placed_is, seen_heads, room_is, rooms_full, rooms_emptied, rooms_generation}
use Rattle.volume.specs.emptying.GeneralCopies.{by_generations}
use Rattle.volume.specs.emptying.SameCopies.{general_by_lem}
use Rattle.volume.specs.emptying.EmptyingStores.{with_closing}
use Rattle.volume.specs.emptying.Emptyings.{emptying_of, emptied_on, new_general_on}
use Rattle.volume.specs.emptying.RoomMoves.{to_is, emptied_made_all}
use Rattle.volume.specs.meaning.State.{call_present}
use Rattle.volume.specs.checks.CheckLaws.{present_list, present_is, left_out_is, opening_number}
use Rattle.volume.specs.storing.Resetting.{reset_with, raised_list, reset_with_lem, reset_late_number, reset_full_in, reset_room, reset_refusal}
use Rattle.volume.specs.checks.Records.{generations_in, generations_in_at}
use Rattle.volume.specs.looking.MovedLogs.{is_emptied, new_generation}

-- what the functions rely on
pub record ResetReady (zone : Zone) (s : State) (ds : List ℕ) : Type 0 where
  pub durable_long : length ds ≡ cells zone.geometry
  pub zone_in_lem : zone.number < zone.geometry.zones
  pub generation_is : zone.generation ≡ (record_at s zone.number).generation
  pub fresh : (record_at s zone.number).generation < worn_generation

-- the reset, by the drives that are here
abbrev pub zone_full : Zone → State → Tables → Bool
zone_full zone s t = let g = zone.geometry in reset_full g (is_set zone.here) (roles_of g t) (by_state g (is_set zone.here) (seen_in g t) (view_state s)) (seen_in g t)

unfoldable pub reset_zone_on : Zone → State → ℕ → Tables → Result
reset_zone_on zone s count t =
    storing_on zone.geometry (pick (zone_full zone s t) 14 0) (reset_all zone.geometry (is_set zone.here) (roles_of zone.geometry t) (seen_in zone.geometry t) (view_state s) zone.number)
    (state_held max_zones (reset_state (find_below (λ (d : ℕ). not (is_set zone.here d)) zone.geometry.drives) (view_state s) zone.number)) s count t

-- ---- the copies by the tables with the logs where they lie are those of the rules (gs: the generations of f)
pub copies_seen : (g : Geometry) (p : LogPlaces) (xs ws ps : List ℕ) → SeenByRoles g p xs ws ps → (ds gs : List ℕ) (f : InForce) → ((z : ℕ) → z < g.zones → get_or gs z 0 ≡ f.generation z) → (d : ℕ)
    → general_copies p.geometry (by_generations gs) (general_heads p.geometry (read_device p.geometry xs ps) d) ≡ general_copies g f (general_heads g (seen_in g (tables_of xs ws ds)) d)
copies_seen g p xs ws ps k ds gs f e d =
    ap (λ (h : Geometry). general_copies h (by_generations gs) (general_heads p.geometry (read_device p.geometry xs ps) d)) (placed_is g p xs ws ps k)
    ∙ general_copies_alike g (logs_of (roles g (read_device g xs ws)) g.drives) (by_generations gs) (general_heads p.geometry (read_device p.geometry xs ps) d)
    ∙ ap (general_copies g (by_generations gs)) (seen_heads g p xs ws ps k ds d)
    ∙ general_by_lem g (by_generations gs) f (general_heads g (seen_in g (tables_of xs ws ds)) d) e

-- and so is the size of the new log
pub size_seen : (g : Geometry) (p : LogPlaces) (xs ws ps : List ℕ) → SeenByRoles g p xs ws ps → (ds gs : List ℕ) (f : InForce) → ((z : ℕ) → z < g.zones → get_or gs z 0 ≡ f.generation z) → (d : ℕ)
    → new_general_size p.geometry (by_generations gs) (general_heads p.geometry (read_device p.geometry xs ps) d) ≡ new_general_size g f (general_heads g (seen_in g (tables_of xs ws ds)) d)
unfolding new_general_size
size_seen g p xs ws ps k ds gs f e d = ap (λ (l : List Header). suc (length l)) (copies_seen g p xs ws ps k ds gs f e d)

-- ---- as the code goes
abbrev pub asked_by : Zone → LogPlaces → RoomAsked
asked_by zone p = record { first = zone.geometry; places = p; here = zone.here; due = zone.here; parity = false; below = zone.geometry.zones + 4; limit = zone.geometry.zones + 4; clears_spares = false }

abbrev pub room_by : Zone → LogPlaces → State → List ℕ → List ℕ → List ℕ → LogRoom
room_by zone p s xs ws ps = room_of (general_room_at (asked_by zone p) (generations_in s) xs ws ps) zone.geometry.drives

module _ (zone : Zone) (p : LogPlaces) (s : State) (xs ws ps ds : List ℕ) (k : SeenByRoles zone.geometry p xs ws ps) (ok : Valid zone.geometry) where
  abbrev g : Geometry
  g = zone.geometry

  abbrev t : Tables
  t = tables_of xs ws ds

  abbrev emptied : ℕ → Bool
  emptied = emptied_for zone.geometry (is_set zone.here) false (roles_of zone.geometry (tables_of xs ws ds)) (seen_in zone.geometry (tables_of xs ws ds)) (reset_limit zone.geometry)

  abbrev stays : ℕ → Bool
  stays d = stays_full zone.geometry false (roles_of zone.geometry (tables_of xs ws ds)) (reset_limit zone.geometry) (new_general_size zone.geometry (force_of zone s t) (general_heads zone.geometry (seen_in zone.geometry (tables_of xs ws ds)) d)) d || spare_written (seen_in zone.geometry (tables_of xs ws ds)) d

  copies_are : (d : ℕ) → general_copies p.geometry (by_generations (generations_in s)) (general_heads p.geometry (read_device p.geometry xs ps) d) ≡ general_copies g (force_of zone s t) (general_heads g (seen_in g t) d)
  copies_are = copies_seen g p xs ws ps k ds (generations_in s) (force_of zone s t) (λ z h. generations_in_at s z (omega (arith, h, ok.zones_most)))

  drive_room : (d : ℕ) → d < g.drives → general_room_at (asked_by zone p) (generations_in s) xs ws ps d ≡ drive_room_of (emptied d) (stays d) (roles_of g t d).general_claim
  unfolding general_room_at
  drive_room d hd =
      room_is (asked_by zone p) xs ws ps k ds d hd (new_general_size p.geometry (by_generations (generations_in s)) (general_heads p.geometry (read_device p.geometry xs ps) d))
      ∙ ap (λ (n : ℕ). drive_room_of (emptied d) (stays_full g false (roles_of g t) (reset_limit g) n d || spare_written (seen_in g t) d) (roles_of g t d).general_claim) (size_seen g p xs ws ps k ds (generations_in s) (force_of zone s t) (λ z h. generations_in_at s z (omega (arith, h, ok.zones_most))) d)

  -- refusal 14
  pub room_full : (room_by zone p s xs ws ps).full ≡ zone_full zone s t
  unfolding reset_full
  room_full = rooms_full (general_room_at (asked_by zone p) (generations_in s) xs ws ps) g.drives emptied stays (λ d. (roles_of g t d).general_claim) drive_room

  room_emptied : (d : ℕ) → d < g.drives → is_emptied (room_by zone p s xs ws ps).emptied d ≡ emptied d
  room_emptied = rooms_emptied (general_room_at (asked_by zone p) (generations_in s) xs ws ps) g.drives emptied stays (λ d. (roles_of g t d).general_claim) drive_room

  room_generation : (room_by zone p s xs ws ps).full ≡ false → (d : ℕ) → d < g.drives → emptied d ≡ true → new_generation (room_by zone p s xs ws ps).emptied d ≡ (roles_of g t d).general_claim
  room_generation = rooms_generation (general_room_at (asked_by zone p) (generations_in s) xs ws ps) g.drives emptied stays (λ d. (roles_of g t d).general_claim) drive_room

  -- the new logs
  new_logs_lem : (room_by zone p s xs ws ps).full ≡ false → (d : ℕ) → d < g.drives → emptied d ≡ true
      → with_closing (emptying_of (emptyings_of (asked_by zone p) (room_by zone p s xs ws ps)) d) false (new_general_on (emptyings_of (asked_by zone p) (room_by zone p s xs ws ps)) (generations_in s) xs ps d) ≡ new_general g (force_of zone s t) (roles_of g t d) d (general_heads g (seen_in g t) d)
  unfolding new_general
  new_logs_lem full d hd e =
      let coded : encode p.geometry d ≡ encode g d = fun_ext λ x. ap (λ (h : Geometry). encode h d x) (placed_is g p xs ws ps k) ∙ encode_alike g (logs_of (roles g (read_device g xs ws)) g.drives) d x in
      ap₂ (λ (f : Header → List ℕ) (n : ℕ). map f (general_copies p.geometry (by_generations (generations_in s)) (general_heads p.geometry (read_device p.geometry xs ps) d)) ++ (f (closing (kind_of_log false) n) ∷ [])) coded (room_generation full d hd e)
      ∙ ap (λ (l : List Header). map (encode g d) l ++ (encode g d (closing (kind_of_log false) (roles_of g t d).general_claim) ∷ [])) (copies_are d)

  -- WHAT IS MADE is what the rules say
  pub reset_made_all : (z : ℕ) → z < g.zones → (room_by zone p s xs ws ps).full ≡ false → (budget left : ℕ) (u : Tables) → let all = emptyings_of (asked_by zone p) (room_by zone p s xs ws ps) in
      Made all.to budget left (each_below (λ d. emptied_on all false (new_general_on all (generations_in s) xs ps d) d) all.from.drives ++ reset_with all.to (is_set zone.here) z (record_at s z).generation (take all.to.zones (raised_list s z))) t u
      → Made g budget left (reset_all g (is_set zone.here) (roles_of g t) (seen_in g t) (view_state s) z) t u
  unfolding reset_all empty_general
  reset_made_all z hz full budget left u m =
      let a = asked_by zone p in
      let x = room_by zone p s xs ws ps in
      let all = emptyings_of a x in
      let own : reset_with all.to (is_set zone.here) z (record_at s z).generation (take all.to.zones (raised_list s z)) ≡ reset_stores g (is_set zone.here) (view_state s) z =
      ap (λ (h : Geometry). reset_with h (is_set zone.here) z (record_at s z).generation (take h.zones (raised_list s z))) (to_is a x xs ws ps k)
      ∙ reset_with_lem (with_roles g (roles_after false (is_emptied x.emptied) (roles g (read_device g xs ws)))) (is_set zone.here) s z ok.zones_most
      ∙ reset_stores_alike g (logs_of (roles_after false (is_emptied x.emptied) (roles g (read_device g xs ws))) g.drives) (is_set zone.here) (view_state s) z in
      emptied_made_all a x xs ws ps ds k (new_general_on all (generations_in s) xs ps) emptied (λ d. new_general g (force_of zone s t) (roles_of g t d) d (general_heads g (seen_in g t) d)) room_emptied (new_logs_lem full) budget left (reset_stores g (is_set zone.here) (view_state s) z) u
      (placed_on_drives g (reset_stores g (is_set zone.here) (view_state s) z) (reset_placed g ok (is_set zone.here) (view_state s) z hz))
      (subst (λ (l : List Store). Made all.to budget left (each_below (λ d. emptied_on all false (new_general_on all (generations_in s) xs ps d) d) all.from.drives ++ l) t u) own m)

-- ---- the reset of the call, once it has passed the refusals before 14
abbrev pub zone_now : Geometry → List Bool → State → ℕ → Zone
zone_now g here s z = record { geometry = g; here = here; number = z; generation = (record_at s z).generation }

pub reset_zone_on_lem : (g : Geometry) (named : List Bool) (s : State) (z count : ℕ) (xs ws ds : List ℕ) → opening_number g named s 0 0 (length xs) ws ds ≡ 0 → z < g.zones → reset_late_number g (is_set (present_list g named s.lost)) (record_at s z) z ws ≡ 0
    → reset_zone_on (zone_now g (present_list g named s.lost) s z) s count (tables_of xs ws ds) ≡ reset_on g named s z count (tables_of xs ws ds)
unfolding reset_zone_on reset_on
reset_zone_on_lem g named s z count xs ws ds begun hz late =
    let u = tables_of xs ws ds in
    let n : pick (zone_full (zone_now g (present_list g named s.lost) s z) s u) 14 0 ≡ verdict_number (reset_verdict g named s z u) =
    ap (λ (here : ℕ → Bool). pick (reset_full g here (roles_of g u) (by_state g here (seen_in g u) (view_state s)) (seen_in g u)) 14 0) (present_is g named s)
    ∙ reset_room g named s z (reset_full_in g named s u) (length xs) ws ds begun hz late ∙ reset_refusal g named s z xs ws ds in
    ap₂ (λ (m : ℕ) (here : ℕ → Bool). storing_on g m (reset_all g here (roles_of g u) (seen_in g u) (view_state s) z) (state_held max_zones (reset_state (find_below (λ (d : ℕ). not (is_set (present_list g named s.lost) d)) g.drives) (view_state s) z)) s count u) n (present_is g named s)
    ∙ ap (λ (x : ℕ). storing_on g (verdict_number (reset_verdict g named s z u)) (reset_all g (call_present g (is_set named) (view_state s)) (roles_of g u) (seen_in g u) (view_state s) z) (state_held max_zones (reset_state x (view_state s) z)) s count u) (left_out_is g named s)
