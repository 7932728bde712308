-- What a compact relies on gives, where the logs lie, what its parts rely on; and what they store is what the rules say (`compact_stores`).
use Rattle.std.specs.Prelude.{◌≡◌, refl, ◌≢◌, Bool, false, length, get_or}
use Rattle.std.proofs.Math.Path.{sym, ap, subst}
use Rattle.std.proofs.Common.{ap₂, ◌∙◌, arith}
use Rattle.std.proofs.Math.Bool.{true}
use Prim.Native.Nat.{ℕ, zero, suc, ◌≤◌, ◌<◌}
use Rattle.std.proofs.Math.Decide.{ℕ_discrete}
use mathlib.Core.List.{List, [], ◌∷◌, ◌++◌, map, append-nil}
use Rattle.std.proofs.Math.Dec.{eqb}
use borrow.Author.Tests.{ne_eqb}
use Rattle.tables.specs.declared.Geometry.{Geometry}
use Rattle.tables.specs.meaning.Basics.{pick}
use Rattle.tables.specs.meaning.Below.{each_below}
use Rattle.tables.specs.meaning.Geometry.{Valid, physical_zones, cells}
use Rattle.tables.specs.meaning.Lists.{concat}
use Rattle.tables.specs.meaning.Device.{Device, Store}
use Rattle.tables.specs.meaning.Tables.{Tables, tables_of, cell}
use Rattle.tables.specs.laws.Made.{Made}
use Rattle.logs.specs.meaning.Entry.{Entry}
use Rattle.logs.specs.meaning.Walk.{sectors_of}
use Rattle.volume.specs.declared.State.{State}
use Rattle.volume.specs.declared.roles.LogPlaces.{LogPlaces}
use Rattle.volume.specs.declared.log_room.LogRoom.{LogRoom}
use Rattle.volume.specs.declared.emptyings.Emptyings.{Emptyings}
use Rattle.volume.specs.meaning.Rules.{parity_entries}
use Rattle.volume.specs.meaning.Roles.{Roles}
use Rattle.volume.specs.meaning.Refusals.{state_within}
use Rattle.volume.specs.meaning.Emptying.{InForce, closing_sector, parity_copies, new_parity, gone_for_copies, emptyings, empty_parity, compact_stores}
use Rattle.volume.specs.meaning.CallContracts.{view_state, is_set, roles_of, seen_in}
use Rattle.volume.specs.looking.Knowing.{read_device}
use Rattle.volume.specs.looking.SeenByRoles.{seen_zone, seen_sized, seen_good}
use Rattle.volume.specs.checks.LogRoom.{SeenByRoles, emptyings_of, placed_is}
use Rattle.volume.specs.checks.Records.{generations_in, generations_in_long, points_in, points_in_long, points_in_at}
use Rattle.volume.specs.checks.ZoneChecks.{pointer_within}
use Rattle.volume.specs.emptying.Shape.{SameShape}
use Rattle.volume.specs.emptying.SameCopies.{parity_new, parity_by_lem}
use Rattle.volume.specs.emptying.EmptyingStores.{with_closing, emptied_to}
use Rattle.volume.specs.emptying.Emptyings.{emptying_of, emptied_on}
use Rattle.volume.specs.emptying.ParityCopies.{PointersWithin}
use Rattle.volume.specs.emptying.ParityEmptyings.{new_parity_on, ParityKnown}
use Rattle.volume.specs.emptying.CopiesKnown.{in_force_of, CopiesReady}
use Rattle.volume.specs.emptying.RoomMoves.{hidden_least, emptied_made_all}
use Rattle.compacting.specs.declared.Compaction.{Compaction}
use Rattle.compacting.specs.CompactRoom.{compact_asked, compact_room, force_of, room_emptied, room_generation}
use Rattle.compacting.specs.CompactSeen.{seen_as_lem, entries_are, in_force_is}

-- what the functions rely on
pub record CompactReady (j : Compaction) (s : State) (ws ds : List ℕ) : Type 0 where
  pub within : state_within j.first (view_state s) ≡ true
  pub durable_long : length ds ≡ cells j.first
  pub in_zones : (d y : ℕ) → d < j.first.drives → is_set j.here d ≡ true → y < physical_zones j.first → get_or ws (cell j.first d y) 0 ≤ j.first.capacity
  pub drive_in : j.drive < j.first.drives

-- a state that has passed refusal 1
pub points_within : (g : Geometry) (s : State) → Valid g → state_within g (view_state s) ≡ true → PointersWithin g (points_in s)
points_within g s ok h = record { long = rw (points_in_long s) ok.zones_most; most = λ z l. rw (points_in_at s z (omega (arith, l, ok.zones_most))) (pointer_within g s z h l) }

-- ---- of many drives only one counts
each_none : (f : ℕ → List Store) (n : ℕ) → ((d : ℕ) → d < n → f d ≡ []) → each_below f n ≡ []
each_none f zero e = refl
each_none f (suc n) e = ap₂ (λ (x y : List Store). x ++ y) (each_none f n (λ d l. e d (omega arith))) (e n (omega arith))

each_only : (f : ℕ → List Store) (n q : ℕ) → q < n → ((d : ℕ) → d < n → d ≢ q → f d ≡ []) → each_below f n ≡ f q
each_only f zero q h e = absurd (omega arith)
each_only f (suc n) q h e = go (ℕ_discrete n q) (λ l. each_only f n q l (λ d m. e d (omega arith)))
  where
    go : Dec (n ≡ q) → (q < n → each_below f n ≡ f q) → each_below f n ++ f n ≡ f q
    go (yes i) ih = ap₂ (λ (x y : List Store). x ++ y) (each_none f n (λ d l. e d (omega arith) (λ j. omega (arith, l, i, j)))) (ap f i)
    go (no i) ih = ap₂ (λ (x y : List Store). x ++ y) (ih (omega (arith, h, i))) (e n (omega arith) i) ∙ append-nil (f q)

-- a new log by its copies
new_by : (g : Geometry) (r : Roles) (d : ℕ) (es : List Entry) (f h : InForce) → parity_copies g f d es ≡ parity_copies g h d es → new_parity g f r d es ≡ new_parity g h r d es
unfolding new_parity
new_by g r d es f h e = ap (λ (l : List Entry). concat (map (sectors_of g d true) l) ++ (closing_sector g true d r ∷ [])) e

module _ (j : Compaction) (p : LogPlaces) (s : State) (xs ws ps ds : List ℕ) (k : SeenByRoles j.first p xs ws ps) (ok : Valid j.first) (h : CompactReady j s ws ds) where
  abbrev g : Geometry
  g = j.first

  abbrev present : ℕ → Bool
  present = is_set j.here

  abbrev t : Tables
  t = tables_of xs ws ds

  abbrev r : ℕ → Roles
  r = roles_of j.first (tables_of xs ws ds)

  abbrev w : Device
  w = seen_in j.first (tables_of xs ws ds)

  abbrev room : LogRoom
  room = compact_room j p s xs ws ps

  abbrev all : Emptyings
  all = emptyings_of (compact_asked j p) (compact_room j p s xs ws ps)

  -- as the code reads it
  abbrev v : Device
  v = read_device p.geometry xs ps

  abbrev read : InForce
  read = in_force_of p.geometry (is_set j.here) (read_device p.geometry xs ps) (generations_in s) (points_in s)

  -- ---- what the parts rely on
  drives_same : p.geometry.drives ≡ g.drives
  drives_same = ap (λ (e : Geometry). e.drives) (placed_is g p xs ws ps k)

  zones_same : p.geometry.zones ≡ g.zones
  zones_same = ap (λ (e : Geometry). e.zones) (placed_is g p xs ws ps k)

  capacity_same : p.geometry.capacity ≡ g.capacity
  capacity_same = ap (λ (e : Geometry). e.capacity) (placed_is g p xs ws ps k)

  pointed : (d y : ℕ) → d < p.geometry.drives → present d ≡ true → y < physical_zones p.geometry → get_or ps (cell p.geometry d y) 0 ≤ p.geometry.capacity
  pointed d y hd e hy = subst (λ (n : ℕ). get_or ps (cell p.geometry d y) 0 ≤ n) (sym capacity_same) (seen_good g xs ws p ps (seen_as_lem g p xs ws ps k) j.here h.in_zones d y (omega (arith, hd, drives_same)) e (omega (arith, hy, zones_same)))

  points_in_lem : PointersWithin p.geometry (points_in s)
  points_in_lem =
      let q = points_within g s ok h.within in
      let same = seen_zone g xs ws p ps (seen_as_lem g p xs ws ps k) in
      record { long = omega (arith, q.long, zones_same); most = λ z l. rw same (q.most z (omega (arith, l, zones_same))) }

  pub copies_ready : CopiesReady p.geometry j.here xs ps (generations_in s) (points_in s)
  copies_ready = record {
    sectors_long = (seen_sized g xs ws p ps (seen_as_lem g p xs ws ps k)).sectors_long;
    pointers_long = (seen_sized g xs ws p ps (seen_as_lem g p xs ws ps k)).written_long;
    in_zones = pointed;
    generations_long = omega (arith, generations_in_long s, zones_same, ok.zones_most);
    pointers_within = points_in_lem;
  }

  pub drive_placed : j.drive < p.geometry.drives
  drive_placed = omega (arith, h.drive_in, drives_same)

  pub parity_known : gone_for_copies p.geometry present read v j.drive ≡ false → ParityKnown all (generations_in s) (points_in s) ps xs ws j.drive
  parity_known none = record {
    drive_in = drive_placed;
    behind = record { least = λ e z he hz b. rw k.hidden (hidden_least p ws p.geometry.drives (cell p.geometry e z)) };
    in_zones = pointed;
    generations_long = copies_ready.generations_long;
    pointers_within = points_in_lem;
    none_gone = λ e. none;
  }

  -- ---- the new log
  shape : SameShape g p.geometry
  shape = rw (placed_is g p xs ws ps k) (record { drives = refl; sector = refl; unit = refl; zones = refl; capacity = refl })

  new_copies : (d : ℕ) → new_parity g read (r d) d (parity_entries p.geometry v d) ≡ new_parity g (force_of j s t) (r d) d (parity_entries g w d)
  new_copies d =
      ap (λ (es : List Entry). new_parity g read (r d) d es) (entries_are g p xs ws ps k ds present d)
      ∙ new_by g (r d) d (parity_entries g w d) read (force_of j s t) (parity_by_lem g read (force_of j s t) d (parity_entries g w d) (λ z l. in_force_is g p xs ws ps k ds present s ok z l))

  new_logs_lem : room.full ≡ false → (d : ℕ) → d < g.drives → eqb d j.drive ≡ true → with_closing (emptying_of all d) true (new_parity_on all (generations_in s) (points_in s) xs ps d) ≡ new_parity g (force_of j s t) (r d) d (parity_entries g w d)
  new_logs_lem full d hd e = parity_new g (emptying_of all d) shape (r d) read (parity_entries p.geometry v d) (sym (room_generation j p s xs ws ps ds k ok h.drive_in full d hd e)) ∙ new_copies d

  -- WHAT IS MADE is what the rules say
  pub compact_made : room.full ≡ false → (budget left : ℕ) (u : Tables) → Made all.to budget left (emptied_on all true (new_parity_on all (generations_in s) (points_in s) xs ps j.drive) j.drive) t u
      → Made g budget left (compact_stores g present r w (view_state s) j.drive) t u
  unfolding compact_stores empty_parity
  compact_made full budget left u m =
      let first : ℕ → List Store = λ d. emptied_on all true (new_parity_on all (generations_in s) (points_in s) xs ps d) d in
      let fills : ℕ → List (List ℕ) = λ d. new_parity g (force_of j s t) (r d) d (parity_entries g w d) in
      let emptied = room_emptied j p s xs ws ps ds k ok h.drive_in in
      let alone : first j.drive ≡ each_below first all.from.drives =
      sym (each_only first all.from.drives j.drive drive_placed (λ d hd n. ap (λ (b : Bool). pick b (emptied_to (emptying_of all d) true (new_parity_on all (generations_in s) (points_in s) xs ps d)) []) (emptied d (omega (arith, hd, drives_same)) ∙ ne_eqb d j.drive n))) in
      let made = emptied_made_all (compact_asked j p) room xs ws ps ds k (new_parity_on all (generations_in s) (points_in s) xs ps) (λ d. eqb d j.drive) fills emptied (new_logs_lem full) budget left [] u tt
      (subst (λ (l : List Store). Made all.to budget left l t u) (alone ∙ sym (append-nil (each_below first all.from.drives))) m) in
      subst (λ (l : List Store). Made g budget left l t u) (append-nil (emptyings g present true r (λ d. eqb d j.drive) fills)) made
