-- The room of the logs of a kind, as the code asks for it (src/log_room.rt): which are emptied, which of those stay full, and the generations of the new logs.
-- By the rules: `emptied_for`, and refusal 14.
use Rattle.std.specs.Prelude.{◌≡◌, refl, ◌≢◌, Bool, ◌&&◌, ◌||◌, length, get_or, set, replicate, Option, Some, None, is_some}
use Rattle.std.proofs.Common.{sym, ◌∙◌, true≢false, arith, add-one, lt-ltb, le-ltb, eq-eqb, ne_eqb}
use Rattle.std.proofs.Math.Path.{ap, ap₂}
use Rattle.std.proofs.Math.Bool.{true, false, not}
use Prim.Native.Nat.{ℕ, zero, suc, ◌+◌, ◌-◌, ◌^◌, ◌<◌, min}
use Rattle.std.proofs.Math.Decide.{ℕ_discrete}
use mathlib.Core.List.{List, [], ◌++◌, map}
use Rattle.std.proofs.Math.Dec.{ltb, eqb}
use Rattle.std.proofs.lemmas.Bool.{eqb-false}
use Rattle.tables.specs.declared.Geometry.{Geometry}
use Rattle.tables.specs.meaning.Basics.{pick}
use Rattle.tables.specs.meaning.Below.{any_below, sum_below, tabulate}
use Rattle.tables.specs.laws.Below.{any_below_cong, any_below_false}
use Rattle.tables.specs.meaning.Geometry.{Valid, physical_zones, cells, max_drives}
use Rattle.tables.specs.meaning.Device.{Device}
use Rattle.tables.specs.meaning.Tables.{Tables, tables_of, device_of}
use Rattle.tables.specs.laws.Tables.{device_length}
use Rattle.logs.specs.meaning.Entry.{worn_generation, general_zone, spare_zone, kind_of_log, Entry}
use Rattle.logs.specs.meaning.Walk.{walk_log}
use Rattle.volume.specs.declared.State.{State}
use Rattle.volume.specs.declared.Zone.{Zone}
use Rattle.volume.specs.declared.roles.LogPlaces.{LogPlaces}
use Rattle.volume.specs.declared.log_room.RoomAsked.{RoomAsked}
use Rattle.volume.specs.declared.log_room.DriveRoom.{DriveRoom}
use Rattle.volume.specs.declared.log_room.DriveRoom.TheVariants.{Roomy, Full, Emptied}
use Rattle.volume.specs.declared.log_room.LogRoom.{LogRoom}
use Rattle.volume.specs.declared.emptyings.Emptyings.{Emptyings}
use Rattle.volume.specs.looking.MovedLogs.{is_emptied, generation_or_0, new_generation, moved_logs}
use Rattle.volume.specs.meaning.CallContracts.{view_state, is_set, roles_of, seen_in}
use Rattle.volume.specs.meaning.Content.{inside_stripe, fill_of, parity_drive_at}
use Rattle.volume.specs.meaning.Rules.{general_heads}
use Rattle.volume.specs.meaning.Roles.{Roles, roles, claim_of_kind, lacks_kind}
use Rattle.volume.specs.meaning.Emptying.{InForce, by_state, new_general_size, copy_size, new_parity_size, unused_in, stays_full, spare_written, emptied_for}
use Rattle.volume.specs.laws.LogPlaces.{with_logs, with_roles, logs_of, valid_with_logs}
use Rattle.volume.specs.looking.DriveLogs.{Sized, zone_pointer}
use Rattle.volume.specs.laws.FilledArrays.{fill_at, fill_more}
use Rattle.volume.specs.looking.HiddenLogs.{places_of, lacking_at, hidden_logs, hidden_all_long, hidden_tables, roles_durable, sized_with_logs}
use Rattle.volume.specs.looking.KnowingLaws.{sectors_alike}
use Rattle.volume.specs.laws.RulesUnread.{heads_alike}
use Rattle.volume.specs.looking.Knowing.{read_device}
use Rattle.volume.specs.emptying.GeneralCopies.{by_generations}
use Rattle.volume.specs.emptying.ParityCopies.{by_pointers}

-- ---- a drive's answer: whether its log lacks room; if so, whether it stays full, and else the generation of its new log
abbrev pub drive_room_of : Bool → Bool → ℕ → DriveRoom
drive_room_of lacks full zone_claim = pick lacks (pick full Full (Emptied zone_claim)) Roomy

-- it stays full
abbrev pub full_in : DriveRoom → Bool
full_in Roomy = false
full_in Full = true
full_in (Emptied n) = false

-- if its log lacks room, the generation of its new log; 0 where it stays full
abbrev pub emptied_in : DriveRoom → Option ℕ
emptied_in Roomy = None
emptied_in Full = Some 0
emptied_in (Emptied n) = Some n

-- that of the drives below n
abbrev pub room_of : (ℕ → DriveRoom) → ℕ → LogRoom
room_of f n = record { full = any_below (λ d. full_in (f d)) n; emptied = tabulate (λ d. emptied_in (f d)) n ++ replicate (max_drives - n) None }

-- ---- on the tables
-- what is in force, by the state that a call on a zone is handed
abbrev pub force_of : Zone → State → Tables → InForce
force_of zone s t = by_state zone.geometry (is_set zone.here) (seen_in zone.geometry t) (view_state s)

-- the drive lacks the kind
abbrev pub kind_lacks_at : LogPlaces → Bool → ℕ → Bool
kind_lacks_at p par d = pick par (is_set p.no_parity d) (is_set p.no_general d)

abbrev pub unused_at : RoomAsked → List ℕ → ℕ → ℕ
unused_at a ps d = pick (kind_lacks_at a.places a.parity d) 0 (a.places.geometry.capacity - zone_pointer a.places.geometry ps d (kind_of_log a.parity))

abbrev pub lacks_at : RoomAsked → List ℕ → ℕ → Bool
lacks_at a ps d = is_set a.due d && ltb (unused_at a ps d) a.below

-- one above the generation of the log
abbrev pub claim_at : RoomAsked → List ℕ → List ℕ → ℕ → ℕ
claim_at a xs ws d = claim_of_kind a.parity (roles a.first (read_device a.first xs ws) d)

-- it stays full whatever its size would be; a spare with sectors written matters only where the call does not reset it first
unfoldable pub lost_at : RoomAsked → List ℕ → List ℕ → List ℕ → ℕ → Bool
lost_at a xs ws ps d = (kind_lacks_at a.places false d || kind_lacks_at a.places true d) || (ltb worn_generation (claim_at a xs ws d) || (not a.clears_spares && ltb 0 (zone_pointer a.places.geometry ps d spare_zone)))

-- its answer before the size of the new log is known
abbrev pub unsized_at : RoomAsked → List ℕ → List ℕ → List ℕ → ℕ → DriveRoom
unsized_at a xs ws ps d = drive_room_of (lacks_at a ps d) (lost_at a xs ws ps d) (claim_at a xs ws d)

-- and by that size
abbrev room_at : RoomAsked → ℕ → List ℕ → List ℕ → List ℕ → ℕ → DriveRoom
room_at a size xs ws ps d = drive_room_of (lacks_at a ps d) (lost_at a xs ws ps d || ltb (a.first.capacity - size) a.limit) (claim_at a xs ws d)

unfoldable pub general_room_at : RoomAsked → List ℕ → List ℕ → List ℕ → List ℕ → ℕ → DriveRoom
general_room_at a gs xs ws ps d = room_at a (new_general_size a.places.geometry (by_generations gs) (general_heads a.places.geometry (read_device a.places.geometry xs ps) d)) xs ws ps d

unfoldable pub parity_room_at : RoomAsked → List ℕ → List ℕ → List ℕ → List ℕ → ℕ → DriveRoom
parity_room_at a qs xs ws ps d = room_at a (new_parity_size a.first (by_pointers qs) d) xs ws ps d

-- the emptyings that it asks for
abbrev pub emptyings_of : RoomAsked → LogRoom → Emptyings
emptyings_of a x = record {
  from = a.places.geometry;
  to = with_logs a.places.geometry (moved_logs a.places.geometry a.parity (is_emptied x.emptied) a.places.geometry.drives);
  here = a.here;
  emptied = x.emptied;
}

pub either : (x y : Bool) → x || y ≡ false → (x ≡ false) × (y ≡ false)
either true y h = absurd (true≢false h)
either false y h = (refl, h)

pub log_in_lem : (par : Bool) (n : ℕ) → kind_of_log par < n + 3
log_in_lem true n = omega arith
log_in_lem false n = omega arith

-- ---- what the functions rely on: where the logs lie, and the written pointers without those of logs that lack
pub record SeenByRoles (g : Geometry) (p : LogPlaces) (xs ws ps : List ℕ) : Type 0 where
  pub sized : Sized g xs ws
  pub logs_first : g.logs ≡ 0
  pub places_are : p ≡ places_of g (roles g (read_device g xs ws))
  pub hidden : ps ≡ hidden_logs p ws p.geometry.drives

abbrev pub Asking : RoomAsked → List ℕ → List ℕ → List ℕ → Type 0
Asking a = SeenByRoles a.first a.places

module _ (g : Geometry) (p : LogPlaces) (xs ws ps : List ℕ) (k : SeenByRoles g p xs ws ps) where
  -- the roles
  abbrev r : ℕ → Roles
  r = roles g (read_device g xs ws)

  pub placed_is : p.geometry ≡ with_roles g r
  placed_is = ap (λ (q : LogPlaces). q.geometry) k.places_are

  pub placed_valid : Valid g → Valid p.geometry
  placed_valid ok = rw placed_is (valid_with_logs g (logs_of r g.drives) ok)

  pub placed_drives : p.geometry.drives ≡ g.drives
  placed_drives = ap (λ (h : Geometry). h.drives) placed_is

  pub placed_zones : p.geometry.zones ≡ g.zones
  placed_zones = ap (λ (h : Geometry). h.zones) placed_is

  pub placed_capacity : p.geometry.capacity ≡ g.capacity
  placed_capacity = ap (λ (h : Geometry). h.capacity) placed_is

  pub pointers_long : length ps ≡ cells g
  pointers_long = ap (λ (l : List ℕ). length l) k.hidden ∙ hidden_all_long p ws p.geometry.drives ∙ k.sized.written_long

  pub placed_cells : length ps ≡ cells p.geometry
  placed_cells = rw placed_is pointers_long

  pub placed_sized : Sized p.geometry xs ps
  placed_sized = rw placed_is (sized_with_logs g (logs_of r g.drives) xs ps (record { sectors_long = k.sized.sectors_long; written_long = pointers_long }))

  pub kind_lacks_is : (par : Bool) (d : ℕ) → d < g.drives → kind_lacks_at p par d ≡ eqb (claim_of_kind par (r d)) 0
  kind_lacks_is true d h = ap (λ (q : LogPlaces). is_set q.no_parity d) k.places_are ∙ lacking_at (λ e. (r e).parity_claim) g.drives d h
  kind_lacks_is false d h = ap (λ (q : LogPlaces). is_set q.no_general d) k.places_are ∙ lacking_at (λ e. (r e).general_claim) g.drives d h

  -- a drive that has both kinds has each
  pub kind_claimed : (d : ℕ) → d < g.drives → kind_lacks_at p false d || kind_lacks_at p true d ≡ false → (par : Bool) → claim_of_kind par (r d) ≢ 0
  kind_claimed d h e true q = let b = (either (kind_lacks_at p false d) (kind_lacks_at p true d) e).1 in eqb-false (claim_of_kind true (r d)) 0 (sym (kind_lacks_is true d h) ∙ b) q
  kind_claimed d h e false q = let b = (either (kind_lacks_at p false d) (kind_lacks_at p true d) e).0 in eqb-false (claim_of_kind false (r d)) 0 (sym (kind_lacks_is false d h) ∙ b) q

-- ---- as the code's loop goes on
abbrev pub no_answers : LogRoom
no_answers = record { full = false; emptied = replicate 8 None }

abbrev pub with_answer : LogRoom → ℕ → DriveRoom → LogRoom
with_answer x d a = record { full = x.full || full_in a; emptied = set x.emptied d (emptied_in a) }

pub answered : (f : ℕ → DriveRoom) (d : ℕ) (x : LogRoom) (a : DriveRoom) → d < 8 → a ≡ f d → x ≡ room_of f d → with_answer x d a ≡ room_of f (d + 1)
answered f d x a h e q = rw (e, q, add-one) (more (fill_more (λ e. emptied_in (f e)) None 8 d h))
  where
    more : set (tabulate (λ e. emptied_in (f e)) d ++ replicate (max_drives - d) None) d (emptied_in (f d)) ≡ tabulate (λ e. emptied_in (f e)) (suc d) ++ replicate (max_drives - suc d) None → with_answer (room_of f d) d (f d) ≡ room_of f (suc d)
    more p = λ i. record { full = any_below (λ e. full_in (f e)) d || full_in (f d); emptied = p i }

-- ---- case by case
pub room_none : (lacks lost : Bool) (zone_claim : ℕ) → lacks ≡ false → Roomy ≡ drive_room_of lacks lost zone_claim
room_none lacks lost zone_claim e = rw e refl

pub room_new : (lacks lost : Bool) (zone_claim : ℕ) → lacks ≡ true → drive_room_of true lost zone_claim ≡ drive_room_of lacks lost zone_claim
room_new lacks lost zone_claim e = rw e refl

-- by the size of its new log a log that would be emptied stays full
abbrev pub by_size : Bool → DriveRoom → DriveRoom
by_size small Roomy = Roomy
by_size small Full = Full
by_size small (Emptied n) = pick small Full (Emptied n)

by_size_lem : (lacks lost small : Bool) (zone_claim : ℕ) → by_size small (drive_room_of lacks lost zone_claim) ≡ drive_room_of lacks (lost || small) zone_claim
by_size_lem true true small zone_claim = refl
by_size_lem true false true zone_claim = refl
by_size_lem true false false zone_claim = refl
by_size_lem false lost small zone_claim = refl

-- (x: its answer before that size is known; c, n: the capacity and the size as the code found them)
pub room_sized : (a : RoomAsked) (size : ℕ) (xs ws ps : List ℕ) (d : ℕ) (x : DriveRoom) → x ≡ unsized_at a xs ws ps d → (c n : ℕ) → c ≡ a.first.capacity → n ≡ size
    → by_size (ltb (c - n) a.limit) x ≡ room_at a size xs ws ps d
room_sized a size xs ws ps d x e c n q r =
    let small : Bool = ltb (a.first.capacity - size) a.limit in
    rw (q, r) (ap (by_size small) e ∙ by_size_lem (lacks_at a ps d) (lost_at a xs ws ps d) small (claim_at a xs ws d))

-- the log's claim is one above its generation, which fits a number of 64 bits
pub worn_claim : (n zone_claim : ℕ) → n < 2 ^ 64 → suc n ≡ zone_claim → eqb n worn_generation ≡ ltb worn_generation zone_claim
unfolding worn_generation
worn_claim n zone_claim h e = go (ℕ_discrete n worn_generation)
  where
    go : Dec (n ≡ worn_generation) → eqb n worn_generation ≡ ltb worn_generation zone_claim
    go (yes q) = eq-eqb n worn_generation q ∙ sym (lt-ltb worn_generation zone_claim (omega (arith, q, e)))
    go (no q) = ne_eqb n worn_generation q ∙ sym (le-ltb worn_generation zone_claim (omega (arith, q, e, h)))

-- ==== by the rules
-- how long a new parity log is hangs on the pointers of the zones that there are
pub size_agree : (g : Geometry) (f h : InForce) (d : ℕ) → ((z : ℕ) → z < g.zones → f.pointer z ≡ h.pointer z) → new_parity_size g f d ≡ new_parity_size g h d
unfolding new_parity_size
size_agree g f h d e = ap suc (agree g.zones (λ z l. ap (λ (q : ℕ). pick (inside_stripe g q && eqb d (parity_drive_at g z q)) (suc (min (fill_of g q) g.unit)) 0) (e z l)))
  where
    agree : (n : ℕ) → ((z : ℕ) → z < n → copy_size g f d z ≡ copy_size g h d z) → sum_below (copy_size g f d) n ≡ sum_below (copy_size g h d) n
    agree zero e = refl
    agree (suc n) e = ap₂ (λ (x y : ℕ). x + y) (agree n (λ z l. e z (omega arith))) (e n (omega arith))

or_turned : (k w s m : Bool) → (k || (w || s)) || m ≡ (m || (k || w)) || s
or_turned true w s true = refl
or_turned true w s false = refl
or_turned false true s true = refl
or_turned false true s false = refl
or_turned false false true true = refl
or_turned false false true false = refl
or_turned false false false true = refl
or_turned false false false false = refl

module _ (g : Geometry) (p : LogPlaces) (xs ws ps : List ℕ) (k : SeenByRoles g p xs ws ps) (ds : List ℕ) where
  -- the tables with the logs where they lie are the device by its roles
  seen_tables : device_of p.geometry (tables_of xs ps ds) ≡ seen_in g (tables_of xs ws ds)
  seen_tables = ap (λ (l : List ℕ). device_of p.geometry (tables_of xs l ds)) k.hidden ∙ hidden_tables g k.logs_first xs ws ds k.sized.written_long p k.places_are

  pub seen_sectors : (d y : ℕ) → (read_device p.geometry xs ps d y).sectors ≡ (seen_in g (tables_of xs ws ds) d y).sectors
  seen_sectors d y = sym (sectors_alike p.geometry xs ps ds d y) ∙ ap (λ (v : Device). (v d y).sectors) seen_tables

  pub seen_roles : roles g (read_device g xs ws) ≡ roles_of g (tables_of xs ws ds)
  seen_roles = sym (roles_durable g xs ws ds)

  -- how many sectors a zone has
  pub seen_length : (d y : ℕ) → d < g.drives → y < physical_zones g → zone_pointer p.geometry ps d y ≡ length (seen_in g (tables_of xs ws ds) d y).sectors
  seen_length d y hd hy =
      let placed = placed_is g p xs ws ps k in
      sym (device_length p.geometry (tables_of xs ps []) d y (rw placed hd) (rw placed hy)) ∙ ap (λ (l : List (List ℕ)). length l) (seen_sectors d y)

  pub seen_heads : (d : ℕ) → general_heads p.geometry (read_device p.geometry xs ps) d ≡ general_heads g (seen_in g (tables_of xs ws ds)) d
  seen_heads d =
      ap (λ (h : Geometry). general_heads h (read_device p.geometry xs ps) d) (placed_is g p xs ws ps k) ∙ heads_alike g (logs_of (roles g (read_device g xs ws)) g.drives) (read_device p.geometry xs ps) d
      ∙ (unfold general_heads in ap (λ (l : List (List ℕ)). map (λ (e : Entry). e.head) (walk_log g d false l).entries) (seen_sectors d general_zone))

module _ (a : RoomAsked) (xs ws ps : List ℕ) (k : Asking a xs ws ps) (ds : List ℕ) (d : ℕ) (hd : d < a.first.drives) where
  abbrev rule : Roles
  rule = roles_of a.first (tables_of xs ws ds) d

  unused_is : unused_at a ps d ≡ unused_in a.first a.parity (roles_of a.first (tables_of xs ws ds)) (seen_in a.first (tables_of xs ws ds)) d
  unfolding unused_in
  unused_is =
      ap₂ (λ (b : Bool) (n : ℕ). pick b 0 n)
      (kind_lacks_is a.first a.places xs ws ps k a.parity d hd ∙ ap (λ (f : ℕ → Roles). eqb (claim_of_kind a.parity (f d)) 0) (seen_roles a.first a.places xs ws ps k ds))
      (ap₂ (λ (m n : ℕ). m - n) (placed_capacity a.first a.places xs ws ps k) (seen_length a.first a.places xs ws ps k ds d (kind_of_log a.parity) hd (log_in_lem a.parity a.first.zones)))

  lacks_is : lacks_at a ps d ≡ emptied_for a.first (is_set a.due) a.parity (roles_of a.first (tables_of xs ws ds)) (seen_in a.first (tables_of xs ws ds)) a.below d
  unfolding emptied_for
  lacks_is = ap (λ (n : ℕ). is_set a.due d && ltb n a.below) unused_is

  claim_is : claim_at a xs ws d ≡ claim_of_kind a.parity rule
  claim_is = ap (λ (f : ℕ → Roles). claim_of_kind a.parity (f d)) (seen_roles a.first a.places xs ws ps k ds)

  kinds_are : kind_lacks_at a.places false d || kind_lacks_at a.places true d ≡ lacks_kind rule
  kinds_are =
      ap₂ (λ (x y : Bool). x || y) (kind_lacks_is a.first a.places xs ws ps k false d hd) (kind_lacks_is a.first a.places xs ws ps k true d hd)
      ∙ ap (λ (f : ℕ → Roles). lacks_kind (f d)) (seen_roles a.first a.places xs ws ps k ds)

  stays_is : (size : ℕ) → lost_at a xs ws ps d || ltb (a.first.capacity - size) a.limit
      ≡ stays_full a.first a.parity (roles_of a.first (tables_of xs ws ds)) a.limit size d || (not a.clears_spares && spare_written (seen_in a.first (tables_of xs ws ds)) d)
  unfolding lost_at stays_full
  stays_is size =
      or_turned (kind_lacks_at a.places false d || kind_lacks_at a.places true d) (ltb worn_generation (claim_at a xs ws d)) (not a.clears_spares && ltb 0 (zone_pointer a.places.geometry ps d spare_zone)) (ltb (a.first.capacity - size) a.limit)
      ∙ ap₂ (λ (x y : Bool). x || y)
      (ap₂ (λ (x : Bool) (n : ℕ). ltb (a.first.capacity - size) a.limit || (x || ltb worn_generation n)) kinds_are claim_is)
      (ap (λ (n : ℕ). not a.clears_spares && ltb 0 n) (seen_length a.first a.places xs ws ps k ds d spare_zone hd (omega arith)))

  -- A DRIVE'S ANSWER is that of the rules
  pub room_is : (size : ℕ) → room_at a size xs ws ps d
      ≡ drive_room_of (emptied_for a.first (is_set a.due) a.parity (roles_of a.first (tables_of xs ws ds)) (seen_in a.first (tables_of xs ws ds)) a.below d)
      (stays_full a.first a.parity (roles_of a.first (tables_of xs ws ds)) a.limit size d || (not a.clears_spares && spare_written (seen_in a.first (tables_of xs ws ds)) d)) (claim_of_kind a.parity rule)
  room_is size = rw (lacks_is, stays_is size, claim_is) refl

-- ---- what an answer says
full_of : (lacks stays : Bool) (n : ℕ) → full_in (drive_room_of lacks stays n) ≡ lacks && stays
full_of true true n = refl
full_of true false n = refl
full_of false stays n = refl

some_of : (lacks stays : Bool) (n : ℕ) → is_some (emptied_in (drive_room_of lacks stays n)) ≡ lacks
some_of true true n = refl
some_of true false n = refl
some_of false stays n = refl

value_of : (lacks stays : Bool) (n : ℕ) → generation_or_0 (emptied_in (drive_room_of lacks stays n)) ≡ pick (lacks && not stays) n 0
value_of true true n = refl
value_of true false n = refl
value_of false stays n = refl

-- ---- THE ANSWERS OF ALL DRIVES below n, by what the rules say of each
module _ (f : ℕ → DriveRoom) (n : ℕ) (emptied stays : ℕ → Bool) (zone_claim : ℕ → ℕ) (are : (d : ℕ) → d < n → f d ≡ drive_room_of (emptied d) (stays d) (zone_claim d)) where
  -- refusal 14
  pub rooms_full : (room_of f n).full ≡ any_below (λ d. emptied d && stays d) n
  rooms_full = any_below_cong (λ d. full_in (f d)) (λ d. emptied d && stays d) n (λ d hd. ap full_in (are d hd) ∙ full_of (emptied d) (stays d) (zone_claim d))

  pub rooms_stay : (room_of f n).full ≡ false → (d : ℕ) → d < n → emptied d ≡ true → stays d ≡ false
  rooms_stay full d hd e = go (emptied d) e (any_below_false (λ i. emptied i && stays i) n d (sym rooms_full ∙ full) hd)
    where
      go : (b : Bool) → b ≡ true → b && stays d ≡ false → stays d ≡ false
      go true q h = h
      go false q h = absurd (true≢false (sym q))

  -- what is said of a drive below n
  room_at_lem : (d : ℕ) → d < n → get_or (room_of f n).emptied d None ≡ emptied_in (drive_room_of (emptied d) (stays d) (zone_claim d))
  room_at_lem d hd = fill_at (λ e. emptied_in (f e)) None None n (max_drives - n) d hd ∙ ap emptied_in (are d hd)

  pub rooms_emptied : (d : ℕ) → d < n → is_emptied (room_of f n).emptied d ≡ emptied d
  rooms_emptied d hd = ap is_some (room_at_lem d hd) ∙ some_of (emptied d) (stays d) (zone_claim d)

  pub rooms_generation : (room_of f n).full ≡ false → (d : ℕ) → d < n → emptied d ≡ true → new_generation (room_of f n).emptied d ≡ zone_claim d
  rooms_generation full d hd e =
      ap generation_or_0 (room_at_lem d hd) ∙ value_of (emptied d) (stays d) (zone_claim d)
      ∙ ap₂ (λ (a b : Bool). pick (a && not b) (zone_claim d) 0) e (rooms_stay full d hd e)
