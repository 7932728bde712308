-- The values that a mount restores from: those of its look, read below the look's pointers. Stores go past the pointers or to zones shown empty,
-- so the values stay through all of its steps.
use Rattle.std.specs.Prelude.{ℕ, ◌<◌, ◌≡◌, Bool, List, length}
use Rattle.tables.specs.declared.Geometry.{Geometry}
use Rattle.tables.specs.meaning.Geometry.{cells}
use Rattle.tables.specs.meaning.Device.{Device}
use Rattle.tables.specs.meaning.Tables.{Tables}
use Rattle.mounting.specs.declared.Basis.{Basis}
use Rattle.volume.specs.declared.Look.{Look}
use Rattle.volume.specs.meaning.CallContracts.{is_set}
use Rattle.volume.specs.meaning.Rules.{Shown, seal_limit, value_at}
use Rattle.volume.specs.looking.Knowing.{read_device}
use Rattle.volume.specs.checks.Records.{zone_look}
use Rattle.mounting.specs.MountLook.{shown_with}
use Rattle.mounting.specs.MountRows.{KnownBelow}
use Rattle.mounting.specs.MountHeaders.{Logging}

-- what is shown, with the values that the device w gives
abbrev pub shown_in : Geometry → List Bool → Look → Device → Shown
shown_in g here k w = shown_with k (λ z. value_at g (is_set here) w z (zone_look k z).generation)

-- with values read below the pointers ps
abbrev pub shown_at : Geometry → List Bool → Look → List ℕ → List ℕ → Shown
shown_at g here k xs ps = shown_in g here k (read_device g xs ps)

abbrev pub shown_by : Basis → List ℕ → List ℕ → Shown
shown_by b xs ps = shown_at b.geometry b.here b.look xs ps

-- the limit that the seals set to zone z
abbrev pub limit_at : Geometry → List Bool → Look → List ℕ → List ℕ → ℕ → ℕ
limit_at g here k xs ps z = seal_limit g (is_set here) (read_device g xs ps) z (zone_look k z).generation

-- what the steps rely on, each as the one before has left it: the tables' sizes, pointers that are not below those of the look, and every sector
-- below a zone's pointer known
pub record Restoring (g : Geometry) (here : List Bool) (k : Look) (ps : List ℕ) (t : Tables) : Type 0 where
  pub logging : Logging g k ps t.sectors t.written
  pub durable_long : length t.durable ≡ cells g
  pub known_below : (z : ℕ) → z < g.zones → KnownBelow g here t.sectors ps z (zone_look k z).generation (limit_at g here k t.sectors ps z) (zone_look k z).pointer
