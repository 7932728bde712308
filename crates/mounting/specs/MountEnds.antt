-- Steps 10 and 11 of a mount (src/ends.rt): what they rely on, and what they make of the tables. The tables that the mount met are not the code's to read by
-- then: what is made is said for all of them from which these tables can have come.
use Rattle.std.specs.Prelude.{◌≡◌, true, ℕ, List, eqb}
use Rattle.tables.specs.declared.Geometry.{Geometry}
use Rattle.tables.specs.meaning.Below.{each_below}
use Rattle.tables.specs.meaning.Lists.{concat}
use Rattle.tables.specs.meaning.Device.{Store}
use Rattle.tables.specs.meaning.Phases.{on_present}
use Rattle.tables.specs.meaning.Tables.{Tables}
use Rattle.tables.specs.laws.Made.{Made, WellSized}
use Rattle.logs.specs.meaning.Entry.{parity_zone}
use Rattle.volume.specs.declared.Look.{Look}
use Rattle.volume.specs.declared.roles.LogPlaces.{LogPlaces}
use Rattle.volume.specs.declared.emptyings.Emptyings.{Emptyings}
use Rattle.mounting.specs.declared.rooms.Plan.{Plan}
use Rattle.mounting.specs.declared.plan.Course.{Course}
use Rattle.volume.specs.meaning.CallContracts.{is_set, mount_stores_on}
use Rattle.volume.specs.meaning.Mount.{with_flush}
use Rattle.volume.specs.looking.Knowing.{read_device}
use Rattle.volume.specs.rows.KeptBelow.{Behind}
use Rattle.volume.specs.emptying.Emptyings.{emptied_on}
use Rattle.volume.specs.emptying.ParityTurns.{parity_copies_on}
use Rattle.volume.specs.checks.Records.{generations_shown, points_shown}
use Rattle.mounting.specs.MountRooms.{lost_among, places_after, Planned}
use Rattle.mounting.specs.MountBetween.{middle_places, Between, Before}

-- ---- where the logs lie after step 10 (before it: `middle_places`)
abbrev pub end_places : Plan → LogPlaces
end_places p = places_after (middle_places p) true p.parity.emptied

-- the emptyings of step 10
abbrev pub parity_emptyings : Plan → Emptyings
parity_emptyings p = record { from = (middle_places p).geometry; to = (end_places p).geometry; here = p.here; emptied = p.parity.emptied }

-- what the steps of a mount go by
abbrev pub course_of : Plan → Course
course_of p = record {
  middle = middle_places p;
  end = end_places p;
  general = record { from = p.places.geometry; to = (middle_places p).geometry; here = p.here; emptied = p.general.emptied };
  parity = parity_emptyings p;
  basis = record { geometry = (middle_places p).geometry; here = p.here; look = p.look; differ = p.differ };
}

-- ---- step 10 with its flush, where the logs lie (ps: the look's pointers; ss: those of the moment)
abbrev pub parity_stores : Emptyings → Look → List ℕ → List ℕ → List ℕ → List Store
parity_stores a k ps ss xs = each_below (λ d. emptied_on a true (parity_copies_on a (generations_shown k) (points_shown k) ps ss xs d) d) a.from.drives

-- (a flush follows the stores on present drives: these are)
pub record ParityStepMade (a : Emptyings) (k : Look) (ps ss : List ℕ) (budget rest : ℕ) (t u : Tables) : Type 0 where
  pub made : on_present (is_set a.here) (parity_stores a k ps ss t.sectors) ≡ parity_stores a k ps ss t.sectors
      → Made a.to budget rest (concat (with_flush a.to (is_set a.here) (parity_stores a k ps ss t.sectors))) t u
  pub sized : WellSized a.from u
  pub device : read_device a.from u.sectors ps ≡ read_device a.from t.sectors ps
  pub logs_behind : Behind a.to (λ y. eqb y parity_zone) ps u.written

-- ---- both steps
-- tables u that a mount of t has come to after step 9
pub record EndsReady (g : Geometry) (p : Plan) (ps : List ℕ) (u : Tables) : Type 0 where
  pub met : Tables
  pub start : List ℕ
  pub planned : Planned g met p start
  pub between : Between g met p ps u

-- with them, the whole mount is made
pub record EndsMade (g : Geometry) (p : Plan) (ps : List ℕ) (mid rest : ℕ) (u v : Tables) : Type 0 where
  pub whole : (t : Tables) (start : List ℕ) (budget : ℕ) → Planned g t p start → Before g t p budget mid ps u → Between g t p ps u → Made g budget rest (mount_stores_on g (is_set p.here) (lost_among g p.here) t) t v
