-- What a mount goes by, found before its first store (src/plan.rt), and refusal 14 by it.
use Rattle.std.specs.Prelude.{◌≡◌, Bool, ◌||◌, false, ℕ, List, length}
use Rattle.tables.specs.declared.Geometry.{Geometry}
use Rattle.tables.specs.meaning.Tables.{Tables, tables_of}
use Rattle.volume.specs.meaning.RefusalNumbers.{number_of}
use Rattle.volume.specs.declared.looking.Survey.{Survey}
use Rattle.mounting.specs.declared.rooms.Plan.{Plan}
use Rattle.volume.specs.meaning.CallContracts.{is_set, roles_of, seen_in}
use Rattle.volume.specs.meaning.Rules.{showing}
use Rattle.volume.specs.meaning.Emptying.{by_look}
use Rattle.volume.specs.meaning.Refusals.{mount_full}
use Rattle.volume.specs.looking.Looking.{shape_number}
use Rattle.volume.specs.looking.Surveying.{Surveyed}
use Rattle.mounting.specs.MountRooms.{lost_among, Planned}

-- tables t that passed refusals 1 to 6, and what was found in them
pub record Passed (g : Geometry) (named : List Bool) (t : Tables) (v : Survey) (ps : List ℕ) : Type 0 where
  pub shape : shape_number g named (length t.sectors) t.written t.durable ≡ 0
  pub found : Surveyed g named t.sectors t.written v ps
  pub none : number_of v.refusal ≡ 0

-- the plan (full: whether a log stays full, refusal 14)
pub record Planning (g : Geometry) (t : Tables) (v : Survey) (p : Plan) (ps : List ℕ) : Type 0 where
  pub here_is : p.here ≡ v.here
  pub full_is : p.general.full || p.parity.full ≡ mount_full g (is_set p.here) (roles_of g t) (by_look (showing g (is_set p.here) (lost_among g p.here) (seen_in g t))) (seen_in g t)
  pub planned : p.general.full || p.parity.full ≡ false → Planned g t p ps

-- it is made without the durable pointers, which play no part in it
pub record PlanMade (g : Geometry) (v : Survey) (xs ws ps : List ℕ) (p : Plan) : Type 0 where
  pub planning : (named : List Bool) (ds : List ℕ) → Passed g named (tables_of xs ws ds) v ps → Planning g (tables_of xs ws ds) v p ps
