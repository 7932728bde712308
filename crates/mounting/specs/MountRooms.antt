-- The room of the logs in a mount (src/rooms.rt): what its steps 1, 2 and 10 go by.
use Rattle.std.specs.Prelude.{◌≡◌, refl, Bool, true, false, not, ℕ, ◌<◌, ◌≤◌, List, [], ◌∷◌, length, get_or, ltb, Option}
use Rattle.tables.specs.declared.Geometry.{Geometry}
use Rattle.tables.specs.meaning.Basics.{pick}
use Rattle.tables.specs.meaning.Below.{each_below}
use Rattle.tables.specs.meaning.Drives.{find_below}
use Rattle.tables.specs.meaning.Geometry.{physical_zones}
use Rattle.tables.specs.meaning.Device.{Device, Store, reset}
use Rattle.tables.specs.meaning.Phases.{on_present}
use Rattle.tables.specs.meaning.Tables.{Tables, cell}
use Rattle.tables.specs.laws.Made.{WellSized, MadePointers}
use Rattle.logs.specs.meaning.Entry.{spare_zone}
use Rattle.volume.specs.declared.roles.LogPlaces.{LogPlaces}
use Rattle.volume.specs.declared.log_room.LogRoom.{LogRoom}
use Rattle.mounting.specs.declared.rooms.Plan.{Plan}
use Rattle.volume.specs.meaning.CallContracts.{is_set, roles_of, seen_in}
use Rattle.volume.specs.meaning.Calls.{flush_stores}
use Rattle.volume.specs.meaning.Rules.{showing, general_heads}
use Rattle.volume.specs.meaning.Refusals.{bad_labels}
use Rattle.volume.specs.meaning.Roles.{Roles, claim_of_kind, lacks_kind}
use Rattle.volume.specs.meaning.Emptying.{by_look, reserve, mount_general_limit, emptied_for, stays_full, new_general_size, new_parity_size}
use Rattle.volume.specs.meaning.Mount.{spare_step, counters_differ}
use Rattle.volume.specs.laws.LogPlaces.{with_logs}
use Rattle.volume.specs.looking.DriveLogs.{zone_pointer}
use Rattle.volume.specs.looking.HiddenLogs.{places_of, hidden_logs}
use Rattle.volume.specs.looking.MovedLogs.{is_emptied, new_generation, moved_logs}
use Rattle.volume.specs.looking.Looking.{look_of}
use Rattle.volume.specs.laws.EachBelow.{each_below_cong}
use Rattle.mounting.specs.MountTables.{FlushedAfter}

-- the reset of drive d's spare, if it has sectors below the pointers ps
abbrev pub spare_reset : Geometry → List ℕ → ℕ → List Store
spare_reset g ps d = pick (ltb 0 (zone_pointer g ps d spare_zone)) (reset d spare_zone ∷ []) []

-- ---- the first flush and step 1 with its flush, as the code makes them (from: where the logs lie; ps: the pointers of the start)
pub record SparesCleared (g from : Geometry) (here : List Bool) (budget rest : ℕ) (ps ws ds ws' ds' : List ℕ) : Type 0 where
  -- what the flush and the resets leave of the budget, and of the durable pointers
  pub flushed : ℕ
  pub spared : ℕ
  pub flushed_pointers : List ℕ
  pub spared_pointers : List ℕ
  pub flush : MadePointers g budget flushed (flush_stores g (is_set here)) ws ds ws flushed_pointers
  pub resets : MadePointers from flushed spared (on_present (is_set here) (each_below (spare_reset from ps) from.drives)) ws flushed_pointers ws' spared_pointers
  pub after : FlushedAfter g (is_set here) flushed spared rest ws' spared_pointers ds'

-- STEP 1 as the code makes it
pub spare_resets_lem : (g : Geometry) (ps : List ℕ) (w : Device) → ((d : ℕ) → d < g.drives → zone_pointer g ps d spare_zone ≡ length (w d spare_zone).sectors) → each_below (spare_reset g ps) g.drives ≡ spare_step g w
unfolding spare_step
spare_resets_lem g ps w e = each_below_cong _ _ g.drives (λ d h. rw (e d h) refl)

-- ---- the places of the logs after those of a kind were emptied
abbrev pub places_after : LogPlaces → Bool → List (Option ℕ) → LogPlaces
places_after p par emptied = record {
  geometry = with_logs p.geometry (moved_logs p.geometry par (is_emptied emptied) p.geometry.drives);
  no_general = p.no_general;
  no_parity = p.no_parity;
}

-- the drive that is not here
abbrev pub lost_among : Geometry → List Bool → ℕ
lost_among g here = find_below (λ (d : ℕ). not (is_set here d)) g.drives

-- ---- the room of the logs of a kind: which are emptied, the generations of the new ones, and that they get room (size: of the new logs)
pub record Rooms (g : Geometry) (present : ℕ → Bool) (par : Bool) (limit : ℕ) (size : ℕ → ℕ) (r : ℕ → Roles) (w : Device) (x : LogRoom) : Type 0 where
  pub emptied_are : is_emptied x.emptied ≡ emptied_for g present par r w limit
  pub generations_are : (d : ℕ) → is_emptied x.emptied d ≡ true → new_generation x.emptied d ≡ claim_of_kind par (r d)
  pub roomy : (d : ℕ) → is_emptied x.emptied d ≡ true → stays_full g par r limit (size d) d ≡ false

-- ---- WHAT A MOUNT BEGINS WITH: tables t that no refusal stopped, what was found in them, and their written pointers without those of logs that lack
pub record Planned (g : Geometry) (t : Tables) (p : Plan) (ps : List ℕ) : Type 0 where
  pub first : g.logs ≡ 0
  pub sized : WellSized g t
  pub places : p.places ≡ places_of g (roles_of g t)
  pub hidden : ps ≡ hidden_logs p.places t.written p.places.geometry.drives
  pub here_in : (d : ℕ) → is_set p.here d ≡ true → d < g.drives
  pub in_zones : (d y : ℕ) → d < g.drives → is_set p.here d ≡ true → y < physical_zones g → get_or t.written (cell g d y) 0 ≤ g.capacity
  pub kinds : (d : ℕ) → is_set p.here d ≡ true → lacks_kind (roles_of g t d) ≡ false
  pub labelled : bad_labels g (is_set p.here) (seen_in g t) ≡ false
  pub look : p.look ≡ look_of g (showing g (is_set p.here) (lost_among g p.here) (seen_in g t))
  pub differ : p.differ ≡ counters_differ g (is_set p.here) (seen_in g t)
  pub general : Rooms g (is_set p.here) false (mount_general_limit g) (λ d. new_general_size g (by_look (showing g (is_set p.here) (lost_among g p.here) (seen_in g t))) (general_heads g (seen_in g t) d)) (roles_of g t) (seen_in g t) p.general
  pub parity : Rooms g (is_set p.here) true (reserve g) (λ d. new_parity_size g (by_look (showing g (is_set p.here) (lost_among g p.here) (seen_in g t))) d) (roles_of g t) (seen_in g t) p.parity
