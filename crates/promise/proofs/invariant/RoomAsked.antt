-- What an accepted call that may empty logs meets of those that it asks for room: each has that room, or it is emptied, and the new log has it. (ResetOk asks
-- for the room as things stand: so it is once the logs are emptied. r: the drives' roles; w: the device by them; f: what is in force.)
use Rattle.std.specs.Prelude.{◌≡◌, Bool, true, false, ℕ, ◌+◌, ◌≤◌, ◌<◌, [], length}
use Rattle.tables.specs.meaning.Device.{Device}
use Rattle.tables.specs.declared.Geometry.{Geometry}
use Rattle.logs.specs.meaning.Entry.{worn_generation, spare_zone, kind_of_log}
use Rattle.volume.specs.meaning.State.{StateView}
use Rattle.volume.specs.meaning.Rules.{general_heads}
use Rattle.volume.specs.meaning.Roles.{Roles, claim_of_kind, lacks_kind}
use Rattle.volume.specs.meaning.Emptying.{InForce, new_general_size, new_parity_size, reserve, mount_general_limit, reset_limit, emptied_for}

-- a drive with these roles: its log of the kind can be emptied, and limit sectors are unused then (size: of the new log)
pub record Emptiable (g : Geometry) (par : Bool) (r : Roles) (limit size : ℕ) : Type 0 where
  pub room : size + limit ≤ g.capacity
  pub kinds : lacks_kind r ≡ false
  pub top : claim_of_kind par r ≤ worn_generation

-- of each drive that is asked for limit sectors in its log of the kind
pub record RoomAsked (g : Geometry) (par : Bool) (r : ℕ → Roles) (w : Device) (asked emptied : ℕ → Bool) (limit : ℕ) (size : ℕ → ℕ) : Type 0 where
  pub roomy : (d : ℕ) → asked d ≡ true → emptied d ≡ false → length (w d (kind_of_log par)).sectors + limit ≤ g.capacity
  pub emptiable : (d : ℕ) → emptied d ≡ true → Emptiable g par (r d) limit (size d)

-- outside a mount: into a spare with nothing in it
abbrev pub SparesBlank : Device → (ℕ → Bool) → Type 0
SparesBlank w emptied = (d : ℕ) → emptied d ≡ true → (w d spare_zone).sectors ≡ []

abbrev pub general_sizes : Geometry → InForce → Device → ℕ → ℕ
general_sizes g f w d = new_general_size g f (general_heads g w d)

-- ---- a reset of zone z (refusals 8, 12, 14)
pub record ResetAccepted (g : Geometry) (present : ℕ → Bool) (r : ℕ → Roles) (w : Device) (f : InForce) (state : StateView) (z : ℕ) : Type 0 where
  pub zone_ok : z < g.zones
  pub not_worn : state.generation z < worn_generation
  pub logs : RoomAsked g false r w present (emptied_for g present false r w (reset_limit g)) (reset_limit g) (general_sizes g f w)
  pub blank : SparesBlank w (emptied_for g present false r w (reset_limit g))

-- ---- a compact of drive d (refusals 8, 14)
pub record CompactAccepted (g : Geometry) (present : ℕ → Bool) (r : ℕ → Roles) (w : Device) (f : InForce) (d : ℕ) : Type 0 where
  pub here : present d ≡ true
  pub log : Emptiable g true (r d) (reserve g) (new_parity_size g f d)
  pub blank : (w d spare_zone).sectors ≡ []

-- ---- a mount (refusal 14)
pub record MountAccepted (g : Geometry) (present : ℕ → Bool) (r : ℕ → Roles) (w : Device) (f : InForce) : Type 0 where
  pub general : RoomAsked g false r w present (emptied_for g present false r w (mount_general_limit g)) (mount_general_limit g) (general_sizes g f w)
  pub parity : RoomAsked g true r w present (emptied_for g present true r w (reserve g)) (reserve g) (new_parity_size g f)
