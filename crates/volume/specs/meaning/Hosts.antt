-- TWO HOSTS ON ONE SHELF (document 02, 2.6): which zones count as open and to whom, how many may, and each host's share of the parity logs. Nothing of it
-- lies on the drives: owners and shares are the state's.
use Rattle.std.specs.Prelude.{Bool, true, false, ◌&&◌, not, ℕ, ◌+◌, ◌-◌, ◌/◌, ltb, leb, eqb}
use Rattle.tables.specs.meaning.Basics.{pick}
use Rattle.tables.specs.meaning.Below.{count_below}
use Rattle.tables.specs.meaning.Device.{Device}
use Rattle.tables.specs.declared.Geometry.{Geometry}
use Rattle.tables.specs.meaning.Geometry.{zone_sectors}
use Rattle.volume.specs.declared.Condition.{Condition}
use Rattle.volume.specs.declared.Condition.TheVariants.{Empty, Open, Sealed, Worn}
use Rattle.volume.specs.meaning.State.{pointer_in, owner_of, is_owner, hosts, share_at, StateView, with_shares, set_at}
use Rattle.volume.specs.meaning.Content.{inside_stripe, parity_drive_at}
use Rattle.volume.specs.meaning.Calls.{write_state, flush_state}
use Rattle.volume.specs.meaning.Roles.{Roles, roles, by_roles}
use Rattle.volume.specs.meaning.Emptying.{by_state, new_parity_size, unused_in, reserve, entry_size}

-- ==== zones that count
-- "A mixing desk (host 0) may hold 14 zones open, a small dubbing desk (host 1) 4; the drives allow 14 in all"
abbrev pub limit_of : ℕ → ℕ
limit_of h = pick (eqb h 0) 14 4

abbrev pub most_open : ℕ
most_open = 14

-- "A zone counts here while open with its pointer below its end"
abbrev pub counts_as : Geometry → Condition → Bool
counts_as g Empty = false
counts_as g (Open n) = ltb n (zone_sectors g)
counts_as g (Sealed n) = false
counts_as g (Worn n) = false

abbrev pub counts : Geometry → StateView → ℕ → Bool
counts g state z = counts_as g (state.condition z)

-- "to the host that last wrote it, to none after a mount"
abbrev pub counts_to : Geometry → StateView → ℕ → ℕ → Bool
counts_to g state h z = counts g state z && is_owner h (state.owner z)

unfoldable pub open_zones : Geometry → StateView → ℕ
open_zones g state = count_below (counts g state) g.zones

unfoldable pub zones_of : Geometry → StateView → ℕ → ℕ
zones_of g state h = count_below (counts_to g state h) g.zones

-- "a write that would put one zone more than its limit to that host" (z: the zone; end: its pointer after the write)
unfoldable pub over_limit : Geometry → StateView → ℕ → ℕ → ℕ → Bool
over_limit g state h z end = ltb end (zone_sectors g) && (not (counts_to g state h z) && leb (limit_of h) (zones_of g state h))

-- "a write that would open a zone beyond the 14"
unfoldable pub over_open : Geometry → StateView → ℕ → ℕ → Bool
over_open g state z end = ltb end (zone_sectors g) && (not (counts g state z) && leb most_open (open_zones g state))

-- ==== shares
-- "half (rounded down) of what a drive's parity log has unused past L × (1 + U) + U, 0 if less"
abbrev pub half_past : Geometry → ℕ → ℕ
half_past g unused = (unused - reserve g) / 2

-- of each present drive, by what its parity log has unused; of the others 0
unfoldable pub shares_by : (ℕ → Bool) → (ℕ → ℕ) → ℕ → ℕ
shares_by present half i = pick (present (i / hosts)) (half (i / hosts)) 0

-- at a mount's end and in a look: by the logs as they are (v: the physical device)
abbrev pub shares_in : Geometry → (ℕ → Bool) → Device → ℕ → ℕ
shares_in g present v = shares_by present (λ d. half_past g (unused_in g true (roles g v) (by_roles g v) d))

-- at a format's end: every parity log is unused
abbrev pub fresh_shares : Geometry → (ℕ → Bool) → ℕ → ℕ
fresh_shares g present = shares_by present (λ d. half_past g g.capacity)

-- with those of drive d anew
abbrev pub renewed_shares : (ℕ → ℕ) → ℕ → ℕ → ℕ → ℕ
renewed_shares share d n i = pick (eqb (i / hosts) d) n (share i)

-- ---- a write's entry, which ends at the pointer `end` of zone z: what is left of host h's share of the drive that gets it
abbrev pub share_left : Geometry → StateView → ℕ → ℕ → ℕ → ℕ
share_left g state h z end = state.share (share_at (parity_drive_at g z end) h)

-- its sectors; 0 where the write ends at a stripe's end, or that drive is not present
abbrev pub entry_taken : Geometry → (ℕ → Bool) → ℕ → ℕ → ℕ
entry_taken g present z end = pick (inside_stripe g end && present (parity_drive_at g z end)) (entry_size g end) 0

-- ==== states
-- after a write by host h of k sectors: the zone is its own, and its entry is off its share (x: the lost drive)
abbrev pub owned_state : Geometry → (ℕ → Bool) → ℕ → ℕ → ℕ → StateView → StateView
owned_state g present h z end s = record {
  lost = s.lost;
  generation = s.generation;
  condition = s.condition;
  owner = set_at s.owner z (owner_of h);
  share = set_at s.share (share_at (parity_drive_at g z end) h) (share_left g s h z end - entry_taken g present z end);
}

abbrev pub written_state : Geometry → (ℕ → Bool) → ℕ → ℕ → StateView → ℕ → ℕ → StateView
written_state g present x h state z k = owned_state g present h z (pointer_in (state.condition z) + k) (write_state x state z k)

-- after the emptying of drive d's parity log by a compact (w: the device by its roles, at the call's start)
abbrev pub compact_state : Geometry → (ℕ → Bool) → ℕ → Device → StateView → ℕ → StateView
compact_state g present x w state d = with_shares (renewed_shares state.share d (half_past g (g.capacity - new_parity_size g (by_state g present w state) d))) (flush_state x state)
