-- A mount's plan as the code makes it (src/plan.rt) is the plan of the rules: what refusals 1 to 6 leave, the look, and the room of both kinds of logs; and its
-- refusal 14 is that of the rules.
use Rattle.std.specs.Prelude.{◌≡◌, refl, ◌&&◌, ◌||◌, List, [], ◌∷◌, length, get_or, ltb, None, is_some}
use Rattle.std.proofs.Math.Path.{sym, ap, ap₂, fun_ext}
use Rattle.std.proofs.Common.{◌∙◌, subst, true≢false, arith}
use Rattle.std.proofs.Math.Bool.{Bool, true, false, not}
use Prim.Native.Nat.{ℕ, zero, suc, ◌-◌, ◌≤◌, ◌<◌}
use Rattle.std.proofs.Math.Decide.{dec_lt}
use Rattle.tables.specs.declared.Geometry.{Geometry}
use Rattle.tables.specs.meaning.Below.{any_below, count_below}
use Rattle.tables.specs.laws.Below.{any_below_false}
use Rattle.tables.specs.meaning.Drives.{find_below}
use Rattle.tables.specs.meaning.Geometry.{Valid, physical_zones, zone_sectors, max_drives}
use Rattle.tables.specs.meaning.Device.{Device}
use Rattle.tables.specs.meaning.Tables.{Tables, tables_of, cell, device_of}
use Rattle.tables.specs.laws.TablesFrame.{pointers_good}
use Rattle.volume.specs.declared.Look.{Look}
use Rattle.volume.specs.declared.ZoneLook.{ZoneLook}
use Rattle.volume.specs.declared.looking.Survey.{Survey}
use Rattle.mounting.specs.declared.rooms.Plan.{Plan}
use Rattle.volume.specs.declared.log_room.RoomAsked.{RoomAsked}
use Rattle.volume.specs.declared.log_room.DriveRoom.{DriveRoom}
use Rattle.volume.specs.meaning.CallContracts.{is_set, verdict_number, roles_of, seen_in}
use Rattle.volume.specs.meaning.Rules.{Shown, showing, general_heads}
use Rattle.volume.specs.meaning.Refusals.{first_refusal, kind_lacks, bad_labels, bad_logs, mount_full}
use Rattle.volume.specs.meaning.Roles.{Roles, claim_of_kind, lacks_kind}
use Rattle.volume.specs.meaning.Emptying.{by_look, reserve, mount_general_limit, lacks_room, emptied_for, stays_full, new_general_size, new_parity_size}
use Rattle.volume.specs.meaning.Mount.{counters_differ}
use Rattle.volume.specs.laws.RulesUnread.{showing_alike}
use Rattle.volume.specs.laws.CallsUnread.{bad_labels_alike, counters_differ_alike}
use Rattle.volume.specs.laws.MountPlaced.{present_is_named}
use Rattle.volume.specs.laws.FilledArrays.{fill_past}
use Rattle.volume.specs.looking.HiddenLogs.{places_of, roles_durable}
use Rattle.volume.specs.looking.Knowing.{read_device}
use Rattle.volume.specs.looking.SeenByRoles.{Seen, kind_lacks_on, seen_geometry, seen_zone, seen_read, seen_lacks}
use Rattle.volume.specs.looking.Looking.{shaped, shaped_durable, log_number, looks_from, look_of, labels_read, shown_read}
use Rattle.volume.specs.checks.LogRoom.{size_agree, SeenByRoles, drive_room_of, emptied_in, room_of, general_room_at, parity_room_at, either, placed_valid, placed_zones, room_is, rooms_full, rooms_emptied, rooms_stay, rooms_generation}
use Rattle.volume.specs.emptying.GeneralCopies.{by_generations}
use Rattle.volume.specs.emptying.ParityCopies.{by_pointers, PointersWithin}
use Rattle.volume.specs.storing.ResetZone.{size_seen}
use Rattle.mounting.specs.LookAgrees.{differ_same, seen_same}
use Rattle.volume.specs.checks.Records.{zone_look, generations_shown, points_shown, generations_shown_at, points_shown_long, points_shown_at}
use Rattle.mounting.specs.MountStart.{look_of_zone, look_within}
use Rattle.mounting.specs.MountRooms.{lost_among, Rooms, Planned}
use Rattle.mounting.specs.MountPlan.{Passed, Planning, PlanMade}
use Rattle.volume.specs.looking.MovedLogs.{is_emptied}

-- ---- as the code goes
abbrev pub mount_asked : Geometry → Survey → Bool → ℕ → RoomAsked
mount_asked g v par limit = record { first = g; places = v.places; here = v.here; due = v.here; parity = par; below = limit; limit = limit; clears_spares = true }

abbrev pub look_by : Survey → List ℕ → List ℕ → Look
look_by v xs ps = look_of v.places.geometry (showing v.places.geometry (is_set v.here) (lost_among v.places.geometry v.here) (read_device v.places.geometry xs ps))

abbrev pub plan_by : Geometry → Survey → List ℕ → List ℕ → List ℕ → Plan
plan_by g v xs ws ps = record {
  places = v.places;
  here = v.here;
  look = look_by v xs ps;
  differ = counters_differ v.places.geometry (is_set v.here) (read_device v.places.geometry xs ps);
  general = room_of (general_room_at (mount_asked g v false (mount_general_limit g)) (generations_shown (look_by v xs ps)) xs ws ps) g.drives;
  parity = room_of (parity_room_at (mount_asked g v true (reserve g)) (points_shown (look_by v xs ps)) xs ws ps) g.drives;
}

-- its pointers are within their zones
pub points_of_look : (g : Geometry) (v : Survey) (xs ws ps : List ℕ) → Valid g → SeenByRoles g v.places xs ws ps → PointersWithin g (points_shown (look_by v xs ps))
points_of_look g v xs ws ps ok k = record { long = rw (points_shown_long (look_by v xs ps)) ok.zones_most; most = within }
  where
    within : (z : ℕ) → z < g.zones → get_or (points_shown (look_by v xs ps)) z 0 ≤ zone_sectors g
    within z hz =
        let same = seen_zone g xs ws v.places ps (record { first = k.logs_first; sized = k.sized; places = k.places_are; hidden = k.hidden }) in
        let most = (look_within v.places.geometry (placed_valid g v.places xs ws ps k ok) v.here xs ps).pointer_most z (subst (λ (n : ℕ). z < n) (sym (placed_zones g v.places xs ws ps k)) hz) in
        subst (λ (n : ℕ). n ≤ zone_sectors g) (sym (points_shown_at (look_by v xs ps) z (omega (arith, hz, ok.zones_most)))) (subst (λ (n : ℕ). (zone_look (look_by v xs ps) z).pointer ≤ n) same most)

-- ---- what passing refusals 4 to 6 gives
rows_none : (two kind labels logs : Bool) → verdict_number (first_refusal ((4, two) ∷ (5, kind || labels) ∷ (6, logs) ∷ [])) ≡ 0 → (kind ≡ false) × (labels ≡ false)
rows_none true kind labels logs h = absurd (omega (arith, h))
rows_none false true labels logs h = absurd (omega (arith, h))
rows_none false false true logs h = absurd (omega (arith, h))
rows_none false false false logs h = (refl, refl)

or_false : (a : Bool) → a || false ≡ a
or_false true = refl
or_false false = refl

-- one drive or another of either kind
any_either : (p q : ℕ → Bool) (n : ℕ) → any_below p n || any_below q n ≡ any_below (λ d. p d || q d) n
any_either p q zero = refl
any_either p q (suc n) = turned (any_below p n) (p n) (any_below q n) (q n) ∙ ap (λ (b : Bool). b || (p n || q n)) (any_either p q n)
  where
    turned : (a b c d : Bool) → (a || b) || (c || d) ≡ (a || c) || (b || d)
    turned true b c d = refl
    turned false true true d = refl
    turned false true false d = refl
    turned false false c d = refl

module _ (g : Geometry) (named : List Bool) (xs ws ds : List ℕ) (v : Survey) (ps : List ℕ) (q : Passed g named (tables_of xs ws ds) v ps) where
  abbrev t : Tables
  t = tables_of xs ws ds

  abbrev h : Geometry
  h = v.places.geometry

  abbrev here : ℕ → Bool
  here = is_set v.here

  -- the device by its roles
  abbrev w : Device
  w = seen_in g (tables_of xs ws ds)

  abbrev r : ℕ → Roles
  r = roles_of g (tables_of xs ws ds)

  abbrev shown : Shown
  shown = showing g (is_set v.here) (lost_among g v.here) (seen_in g (tables_of xs ws ds))

  abbrev seen : Seen g xs ws v.places ps
  seen = q.found.seen

  by_roles_lem : SeenByRoles g v.places xs ws ps
  by_roles_lem = record { sized = seen.sized; logs_first = seen.first; places_are = seen.places; hidden = seen.hidden }

  ok : Valid g
  ok = (shaped g named (length xs) ws ds q.shape).0

  drives_are : h.drives ≡ g.drives
  drives_are = ap (λ (k : Geometry). k.drives) (seen_geometry g xs ws v.places ps seen)

  passed : (kind_lacks_on v.places v.here ≡ false) × (bad_labels h here (read_device h xs ps) ≡ false)
  unfolding log_number
  passed = rows_none (ltb 1 (count_below (λ d. not (here d)) h.drives)) (kind_lacks_on v.places v.here) (bad_labels h here (read_device h xs ps)) (bad_logs h here (read_device h xs ps)) (sym q.found.refused ∙ q.none)

  present_named : (d : ℕ) → here d ≡ true → (d < g.drives) × (is_set named d ≡ true)
  present_named d e =
      let (a, b) = present_is_named h (is_set named) (read_device h xs ps) d (ap (λ (p : ℕ → Bool). p d) (sym q.found.present) ∙ e) in
      (subst (λ (n : ℕ). d < n) drives_are a, b)

  pointed : (d y : ℕ) → d < g.drives → here d ≡ true → y < physical_zones g → get_or ws (cell g d y) 0 ≤ g.capacity
  pointed d y hd e hy = let (a, b, c, p) = shaped g named (length xs) ws ds q.shape in (pointers_good g named ws ds d y p hd (present_named d e).1 hy).0

  has_kinds : (d : ℕ) → here d ≡ true → lacks_kind (r d) ≡ false
  unfolding kind_lacks
  has_kinds d e =
      let none : kind_lacks g here r ≡ false = ap (kind_lacks g here) (roles_durable g xs ws ds) ∙ sym (seen_lacks g xs ws v.places ps seen v.here) ∙ passed.0 in
      sym (ap (λ (b : Bool). b && lacks_kind (r d)) e) ∙ any_below_false (λ i. here i && lacks_kind (r i)) g.drives d none (present_named d e).0

  labels_good : bad_labels g here w ≡ false
  labels_good = seen_read g xs ws v.places ps seen (λ (k : Geometry) (x : Device). bad_labels k here x) (λ n x. bad_labels_alike g n here x) ds (labels_read h xs ps ds here) ∙ passed.1

  -- ---- the look
  shown_is : showing h here (lost_among h v.here) (read_device h xs ps) ≡ shown
  shown_is =
      ap (λ (n : ℕ). showing h here (find_below (λ (d : ℕ). not (here d)) n) (read_device h xs ps)) drives_are
      ∙ sym (seen_read g xs ws v.places ps seen (λ (k : Geometry) (x : Device). showing k here (lost_among g v.here) x) (λ n x. showing_alike g n here (lost_among g v.here) x) ds (shown_read h xs ps ds here (lost_among g v.here)))

  look_is : look_by v xs ps ≡ look_of g shown
  unfolding looks_from
  look_is = ap (look_of h) shown_is ∙ ap (λ (k : Geometry). look_of k shown) (seen_geometry g xs ws v.places ps seen)

  differ_is : counters_differ h here (read_device h xs ps) ≡ counters_differ g here w
  differ_is = sym (seen_read g xs ws v.places ps seen (λ (k : Geometry) (x : Device). counters_differ k here x) (λ n x. counters_differ_alike g n here x) ds
      (differ_same h (device_of h (tables_of xs ps ds)) (read_device h xs ps) (λ d z. sym (seen_same h xs ps ds d z)) here))

  generations : (z : ℕ) → z < g.zones → get_or (generations_shown (look_by v xs ps)) z 0 ≡ (by_look shown).generation z
  generations z hz = generations_shown_at (look_by v xs ps) z (omega (arith, hz, ok.zones_most)) ∙ ap (λ (k : Look). (zone_look k z).generation) look_is ∙ ap (λ (l : ZoneLook). l.generation) (look_of_zone g shown z hz)

  pointers : (z : ℕ) → z < g.zones → get_or (points_shown (look_by v xs ps)) z 0 ≡ (by_look shown).pointer z
  pointers z hz = points_shown_at (look_by v xs ps) z (omega (arith, hz, ok.zones_most)) ∙ ap (λ (k : Look). (zone_look k z).pointer) look_is ∙ ap (λ (l : ZoneLook). l.pointer) (look_of_zone g shown z hz)

  -- ---- the room of the logs
  abbrev general_size : ℕ → ℕ
  general_size d = new_general_size g (by_look shown) (general_heads g w d)

  abbrev parity_size : ℕ → ℕ
  parity_size d = new_parity_size g (by_look shown) d

  abbrev stays : Bool → ℕ → (ℕ → ℕ) → ℕ → Bool
  stays par limit size d = stays_full g par r limit (size d) d

  general_room : (d : ℕ) → d < g.drives
      → general_room_at (mount_asked g v false (mount_general_limit g)) (generations_shown (look_by v xs ps)) xs ws ps d ≡ drive_room_of (emptied_for g here false r w (mount_general_limit g) d) (stays false (mount_general_limit g) general_size d) (claim_of_kind false (r d))
  unfolding general_room_at
  general_room d hd =
      room_is (mount_asked g v false (mount_general_limit g)) xs ws ps by_roles_lem ds d hd (new_general_size h (by_generations (generations_shown (look_by v xs ps))) (general_heads h (read_device h xs ps) d))
      ∙ ap (λ (n : ℕ). drive_room_of (emptied_for g here false r w (mount_general_limit g) d) (stays_full g false r (mount_general_limit g) n d || false) (claim_of_kind false (r d))) (size_seen g v.places xs ws ps by_roles_lem ds (generations_shown (look_by v xs ps)) (by_look shown) generations d)
      ∙ ap (λ (b : Bool). drive_room_of (emptied_for g here false r w (mount_general_limit g) d) b (claim_of_kind false (r d))) (or_false (stays false (mount_general_limit g) general_size d))

  parity_room : (d : ℕ) → d < g.drives
      → parity_room_at (mount_asked g v true (reserve g)) (points_shown (look_by v xs ps)) xs ws ps d ≡ drive_room_of (emptied_for g here true r w (reserve g) d) (stays true (reserve g) parity_size d) (claim_of_kind true (r d))
  unfolding parity_room_at
  parity_room d hd =
      room_is (mount_asked g v true (reserve g)) xs ws ps by_roles_lem ds d hd (new_parity_size g (by_pointers (points_shown (look_by v xs ps))) d)
      ∙ ap (λ (n : ℕ). drive_room_of (emptied_for g here true r w (reserve g) d) (stays_full g true r (reserve g) n d || false) (claim_of_kind true (r d))) (size_agree g (by_pointers (points_shown (look_by v xs ps))) (by_look shown) d pointers)
      ∙ ap (λ (b : Bool). drive_room_of (emptied_for g here true r w (reserve g) d) b (claim_of_kind true (r d))) (or_false (stays true (reserve g) parity_size d))

  -- of a kind whose answers are those of the rules
  rooms_are : (par : Bool) (limit : ℕ) (size : ℕ → ℕ) (f : ℕ → DriveRoom)
      → ((d : ℕ) → d < g.drives → f d ≡ drive_room_of (emptied_for g here par r w limit d) (stays par limit size d) (claim_of_kind par (r d))) → (room_of f g.drives).full ≡ false
      → Rooms g here par limit size r w (room_of f g.drives)
  unfolding emptied_for
  rooms_are par limit size f are full = record {
    emptied_are = same;
    generations_are = λ d e. rooms_generation f g.drives emptied (stays par limit size) (λ i. claim_of_kind par (r i)) are full d (below d e) (sym (ap (λ (p : ℕ → Bool). p d) same) ∙ e);
    roomy = λ d e. rooms_stay f g.drives emptied (stays par limit size) (λ i. claim_of_kind par (r i)) are full d (below d e) (sym (ap (λ (p : ℕ → Bool). p d) same) ∙ e);
  }
    where
      emptied : ℕ → Bool
      emptied = emptied_for g here par r w limit

      absent : (d : ℕ) → g.drives ≤ d → (b : Bool) → here d ≡ b → b && lacks_room g par r w limit d ≡ false
      absent d n true e = absurd (omega (arith, n, (present_named d e).0))
      absent d n false e = refl

      at : (d : ℕ) → Dec (d < g.drives) → is_emptied (room_of f g.drives).emptied d ≡ emptied_for g here par r w limit d
      at d (yes hd) = rooms_emptied f g.drives (emptied_for g here par r w limit) (stays par limit size) (λ i. claim_of_kind par (r i)) are d hd
      at d (no n) = ap is_some (fill_past (λ e. emptied_in (f e)) None g.drives (max_drives - g.drives) d (omega arith)) ∙ sym (absent d (omega arith) (here d) refl)

      same : is_emptied (room_of f g.drives).emptied ≡ emptied_for g here par r w limit
      same = fun_ext λ d. at d (dec_lt d g.drives)

      below : (d : ℕ) → is_emptied (room_of f g.drives).emptied d ≡ true → d < g.drives
      below d e = go (dec_lt d g.drives)
        where
          go : Dec (d < g.drives) → d < g.drives
          go (yes hd) = hd
          go (no n) = absurd (true≢false (sym e ∙ ap is_some (fill_past (λ i. emptied_in (f i)) None g.drives (max_drives - g.drives) d (omega arith))))

  -- ---- refusal 14
  full_is : (plan_by g v xs ws ps).general.full || (plan_by g v xs ws ps).parity.full ≡ mount_full g here r (by_look shown) w
  unfolding mount_full
  full_is =
      ap₂ (λ (a b : Bool). a || b)
      (rooms_full (general_room_at (mount_asked g v false (mount_general_limit g)) (generations_shown (look_by v xs ps)) xs ws ps) g.drives (emptied_for g here false r w (mount_general_limit g)) (stays false (mount_general_limit g) general_size) (λ d. claim_of_kind false (r d)) general_room)
      (rooms_full (parity_room_at (mount_asked g v true (reserve g)) (points_shown (look_by v xs ps)) xs ws ps) g.drives (emptied_for g here true r w (reserve g)) (stays true (reserve g) parity_size) (λ d. claim_of_kind true (r d)) parity_room)
      ∙ any_either (λ d. emptied_for g here false r w (mount_general_limit g) d && stays false (mount_general_limit g) general_size d) (λ d. emptied_for g here true r w (reserve g) d && stays true (reserve g) parity_size d) g.drives

  planned : (plan_by g v xs ws ps).general.full || (plan_by g v xs ws ps).parity.full ≡ false → Planned g t (plan_by g v xs ws ps) ps
  planned none =
      let (a, b) = either (plan_by g v xs ws ps).general.full (plan_by g v xs ws ps).parity.full none in
      let (k, m, n, o) = shaped g named (length xs) ws ds q.shape in
      record {
        first = seen.first;
        sized = record { sectors_long = m; written_long = n; durable_long = shaped_durable g named (length xs) ws ds q.shape };
        places = seen.places ∙ ap (places_of g) (sym (roles_durable g xs ws ds));
        hidden = seen.hidden;
        here_in = λ d e. (present_named d e).0;
        in_zones = pointed;
        kinds = has_kinds;
        labelled = labels_good;
        look = look_is;
        differ = differ_is;
        general = rooms_are false (mount_general_limit g) general_size (general_room_at (mount_asked g v false (mount_general_limit g)) (generations_shown (look_by v xs ps)) xs ws ps) general_room a;
        parity = rooms_are true (reserve g) parity_size (parity_room_at (mount_asked g v true (reserve g)) (points_shown (look_by v xs ps)) xs ws ps) parity_room b;
      }

  planning : Planning g t v (plan_by g v xs ws ps) ps
  planning = record { here_is = refl; full_is = full_is; planned = planned }

-- THE PLAN that the code makes
pub plan_made : (g : Geometry) (v : Survey) (xs ws ps : List ℕ) → PlanMade g v xs ws ps (plan_by g v xs ws ps)
plan_made g v xs ws ps = record { planning = λ named ds q. planning g named xs ws ds v ps q }
