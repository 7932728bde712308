-- What the records of a state and of a look say of all zones, as the arrays of 16 that the code has (src/records.rt).
use Rattle.std.specs.Prelude.{◌≡◌, false, ℕ, ◌<◌, List, length, get_or}
use Rattle.tables.specs.meaning.Below.{tabulate}
use Rattle.tables.specs.laws.Below.{length_tabulate, get_d_tabulate}
use Rattle.tables.specs.meaning.Geometry.{max_zones}
use Rattle.volume.specs.declared.Condition.TheVariants.{Empty}
use Rattle.volume.specs.declared.Look.{Look}
use Rattle.volume.specs.declared.State.{State}
use Rattle.volume.specs.declared.ZoneLook.{ZoneLook}
use Rattle.volume.specs.meaning.State.{pointer_in}
use Rattle.volume.specs.meaning.CallContracts.{record_at}

-- ---- of a state
unfoldable pub generations_in : State → List ℕ
generations_in s = tabulate (λ z. (record_at s z).generation) max_zones

unfoldable pub points_in : State → List ℕ
points_in s = tabulate (λ z. pointer_in (record_at s z).condition) max_zones

module _ (s : State) where
  pub generations_in_long : length (generations_in s) ≡ max_zones
  unfolding generations_in
  generations_in_long = length_tabulate (λ z. (record_at s z).generation) max_zones

  pub generations_in_at : (z : ℕ) → z < max_zones → get_or (generations_in s) z 0 ≡ (record_at s z).generation
  unfolding generations_in
  generations_in_at z h = get_d_tabulate (λ z. (record_at s z).generation) max_zones z 0 h

  pub points_in_long : length (points_in s) ≡ max_zones
  unfolding points_in
  points_in_long = length_tabulate (λ z. pointer_in (record_at s z).condition) max_zones

  pub points_in_at : (z : ℕ) → z < max_zones → get_or (points_in s) z 0 ≡ pointer_in (record_at s z).condition
  unfolding points_in
  points_in_at z h = get_d_tabulate (λ z. pointer_in (record_at s z).condition) max_zones z 0 h

-- ---- of a look; past its end the array of zones is blank
abbrev pub blank_look : ZoneLook
blank_look = record { generation = 0; condition = Empty; pointer = 0; by_reset = false; clean = false }

abbrev pub zone_look : Look → ℕ → ZoneLook
zone_look k z = get_or k.zones z blank_look

unfoldable pub generations_shown : Look → List ℕ
generations_shown k = tabulate (λ z. (zone_look k z).generation) max_zones

unfoldable pub points_shown : Look → List ℕ
points_shown k = tabulate (λ z. (zone_look k z).pointer) max_zones

module _ (k : Look) where
  pub generations_shown_long : length (generations_shown k) ≡ max_zones
  unfolding generations_shown
  generations_shown_long = length_tabulate (λ z. (zone_look k z).generation) max_zones

  pub generations_shown_at : (z : ℕ) → z < max_zones → get_or (generations_shown k) z 0 ≡ (zone_look k z).generation
  unfolding generations_shown
  generations_shown_at z h = get_d_tabulate (λ z. (zone_look k z).generation) max_zones z 0 h

  pub points_shown_long : length (points_shown k) ≡ max_zones
  unfolding points_shown
  points_shown_long = length_tabulate (λ z. (zone_look k z).pointer) max_zones

  pub points_shown_at : (z : ℕ) → z < max_zones → get_or (points_shown k) z 0 ≡ (zone_look k z).pointer
  unfolding points_shown
  points_shown_at z h = get_d_tabulate (λ z. (zone_look k z).pointer) max_zones z 0 h
