-- WHAT IS PROMISED OF GEOMETRIES WHOSE LOGS LEAVE ROOM, beyond the claim (Claim.antt): no drive fills up any more. Where the zones are so long that a log made anew always
-- has the room that a call asks for (RoomyGeneral and RoomyParity, volume's Emptying, say how long), no mount is refused, and no reset and no compact by 14, log full, at any point of any
-- history, as long as no log of a drive that is not lost has the last generation. A write is refused by 14 only past its host's share (Claim); and after a compact each host has so much
-- of its share of that drive, whatever was written (least_share). A host that compacts a drive when its share there falls below what it wants to write never hears 14.
use Rattle.std.specs.Prelude.{◌≡◌, ◌≢◌, Bool, true, ℕ, ◌+◌, ◌-◌, ◌*◌, ◌/◌, ◌^◌, ◌≤◌, ◌<◌, List}
use Rattle.tables.specs.declared.Geometry.{Geometry}
use Rattle.tables.specs.meaning.Drives.{present_but}
use Rattle.tables.specs.meaning.Device.{Device}
use Rattle.tables.specs.meaning.Tables.{device_of}
use Rattle.logs.specs.meaning.Entry.{worn_generation}
use Rattle.volume.specs.declared.Answer.TheVariants.{Finished, Refused}
use Rattle.volume.specs.meaning.State.{hosts, share_at}
use Rattle.volume.specs.meaning.Roles.{roles, claim_of_kind}
use Rattle.volume.specs.meaning.Refusals.{TableLengths}
use Rattle.volume.specs.meaning.Emptying.{RoomyGeneral, RoomyParity}
use Rattle.promise.specs.meaning.Claim.{Volume, mounts, resets, formats, compacts, System, NamesAll, Event, calls, answered, heard, next, Dutiful, start, ready}
use Rattle.promise.specs.meaning.Caches.{on_caching_device}
use Rattle.promise.specs.meaning.CachesOnTables.{on_caching_tables}
use Rattle.promise.specs.meaning.Histories.{AtEveryPoint}

-- no log of a drive but x has the last generation (a log's claim is its generation plus 1)
abbrev pub BeforeLast : Geometry → ℕ → Device → Type 0
BeforeLast g x v = (par : Bool) (d : ℕ) → present_but g x d ≡ true → claim_of_kind par (roles g v d) ≤ worn_generation

-- what a host has at least of its share of a drive's parity log after a compact of it: "C − 1 − 2 L (1 + U) − U", half of it
abbrev pub least_share : Geometry → ℕ
least_share g = (g.capacity - (1 + 2 * (g.zones * (1 + g.unit)) + g.unit)) / 2

-- ---- at a point of a history
pub record NeverFull (g : Geometry) (vol : Volume) (s : System vol) : Type 0 where
  pub mount_accepted : (named : vol.Names) → NamesAll g vol s named → (stop n : ℕ) → heard s (calls mounts named stop) ≢ answered (Refused n)
  pub reset_not_full : (named : vol.Names) → NamesAll g vol s named → s.mode ≡ ready → (z stop : ℕ) → heard s (calls (resets z) named stop) ≢ answered (Refused 14)
  pub compact_not_full : (named : vol.Names) → NamesAll g vol s named → s.mode ≡ ready → (d stop : ℕ) → heard s (calls (compacts d) named stop) ≢ answered (Refused 14)
  pub compact_leaves : (named : vol.Names) → NamesAll g vol s named → s.mode ≡ ready → (d stop : ℕ) → heard s (calls (compacts d) named stop) ≡ answered Finished → (h : ℕ) → h < hosts
      → least_share g ≤ (vol.view (next g vol s (calls (compacts d) named stop)).state).share (share_at d h)

-- of the histories of which the promise is claimed (seen: the device that a memory stands for)
abbrev pub NeverFills : (g : Geometry) (vol : Volume) → (vol.Memory → Device) → Type 0
NeverFills g vol seen = RoomyGeneral g → RoomyParity g → (named : vol.Names) (array : ℕ) (old : vol.State) (stop : ℕ) (m : vol.Memory) → array < 256 ^ 8
    → let r = vol.call (formats array) named old stop m in
    r.answer ≡ Finished → (es : List (Event vol)) → Dutiful g vol (start g vol named r) es
    → AtEveryPoint g vol (λ s. BeforeLast g s.lost (seen s.memory) → NeverFull g vol s) (start g vol named r) es

-- THE CLAIMS, of the rules' calls and of the code's
abbrev pub RoomyClaim : Type 0
RoomyClaim = (g : Geometry) (t : TableLengths) → NeverFills g (on_caching_device g t) (λ m. m.memory)

abbrev pub RoomyTablesClaim : Type 0
RoomyTablesClaim = (g : Geometry) → NeverFills g (on_caching_tables g) (λ m. device_of g m.memory)
