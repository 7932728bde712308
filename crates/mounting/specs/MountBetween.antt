-- A mount between its steps 9 and 10: what the last two steps rely on. (p: what was planned; t: the tables that the mount met; u: those of now; ps: the pointers
-- of the moment before step 3, by which what is missing is read.)
use Rattle.std.specs.Prelude.{◌≡◌, ◌≢◌, true, false, ℕ, ◌≤◌, ◌<◌, List, get_or}
use Rattle.tables.specs.declared.Geometry.{Geometry}
use Rattle.tables.specs.meaning.Geometry.{physical_zones}
use Rattle.tables.specs.meaning.Tables.{Tables, cell}
use Rattle.tables.specs.laws.Made.{Made}
use Rattle.volume.specs.declared.roles.LogPlaces.{LogPlaces}
use Rattle.mounting.specs.declared.rooms.Plan.{Plan}
use Rattle.volume.specs.meaning.CallContracts.{is_set, seen_in, stores_before}
use Rattle.volume.specs.meaning.Rules.{showing}
use Rattle.mounting.specs.MountRooms.{lost_among, places_after}
use Rattle.mounting.specs.MountValues.{shown_at, Restoring}

-- where the logs lie once the general logs are emptied
abbrev pub middle_places : Plan → LogPlaces
middle_places p = places_after p.places false p.general.emptied

abbrev pub middle_geometry : Plan → Geometry
middle_geometry p = (middle_places p).geometry

pub record Between (g : Geometry) (t : Tables) (p : Plan) (ps : List ℕ) (u : Tables) : Type 0 where
  pub restoring : Restoring (middle_geometry p) p.here p.look ps u
  pub shown : (z : ℕ) → z < g.zones → (shown_at (middle_geometry p) p.here p.look u.sectors ps).zone z ≡ (showing g (is_set p.here) (lost_among g p.here) (seen_in g t)).zone z
  pub in_zones : (d y : ℕ) → d < g.drives → is_set p.here d ≡ true → y < physical_zones g → get_or ps (cell (middle_geometry p) d y) 0 ≤ g.capacity

-- the first flush and steps 1 to 9 made
pub record Before (g : Geometry) (t : Tables) (p : Plan) (budget rest : ℕ) (ps : List ℕ) (u : Tables) : Type 0 where
  pub made : Made g budget rest (stores_before g (is_set p.here) (lost_among g p.here) t) t u
  pub between : rest ≢ 0 → Between g t p ps u
