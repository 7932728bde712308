-- The volume as the code is, on drives that cache resets: beside the lent tables stands what the caches remember. Which stores a call makes is what its contract
-- says, and the tables that it leaves are those after them (`made_are_stored`, tables/MadeOn), so what is remembered after it is no more than that. A cut leaves of each zone what it may leave of the tables, or brings back a remembered view.
use Rattle.std.specs.Prelude.{◌≡◌, ◌≢◌, ◌⊎◌, Bool, ℕ, ◌≤◌, ◌<◌, length, get_or}
use mathlib.Core.List.{List, [], Memᴰ}
use Rattle.tables.specs.meaning.Device.{ZoneView, Store}
use Rattle.tables.specs.declared.Geometry.{Geometry}
use Rattle.tables.specs.meaning.Geometry.{physical_zones}
use Rattle.tables.specs.meaning.Tables.{Tables, cell, sector_at, device_of}
use Rattle.volume.specs.declared.State.{State}
use Rattle.volume.specs.meaning.State.{call_present}
use Rattle.volume.specs.meaning.Refusals.{zone_asked}
use Rattle.volume.specs.meaning.Calls.{flush_stores, format_stores}
use Rattle.volume.specs.meaning.Emptying.{write_all, reset_all, compact_stores}
use Rattle.volume.specs.meaning.Answers.{left_out, named_drives, sectors_in, present_in, lost_drive_in}
use Rattle.volume.specs.meaning.CallContracts.{view_state, is_set, roles_of, seen_in, flush_verdict, reset_verdict, write_verdict, format_verdict, compact_verdict, mount_verdict, mount_stores_on}
use Rattle.promise.specs.meaning.Claim.{Call, mounts, writes, flushes, resets, formats, compacts, Volume, KeepsPromise}
use Rattle.promise.specs.meaning.OnTables.{on_tables}
use Rattle.promise.specs.meaning.Caches.{Remembered, made_by, Caches, with_caches}

-- drive d's zone z after a cut, in tables u: cut from what it is in tables t
pub record ZoneKept (g : Geometry) (t u : Tables) (d z : ℕ) : Type 0 where
  pub least : get_or t.durable (cell g d z) 0 ≤ get_or u.written (cell g d z) 0
  pub most : get_or u.written (cell g d z) 0 ≤ get_or t.written (cell g d z) 0
  pub same : (n : ℕ) → n < g.capacity → sector_at g u.sectors d z n ≡ sector_at g t.sectors d z n

-- or cut from a remembered view: the old bytes come back, up to where they are kept
pub record ZoneBack (g : Geometry) (o : ZoneView) (u : Tables) (d z : ℕ) : Type 0 where
  pub least : o.durable ≤ get_or u.written (cell g d z) 0
  pub most : get_or u.written (cell g d z) 0 ≤ length o.sectors
  pub fits : get_or u.written (cell g d z) 0 ≤ g.capacity
  pub old : (n : ℕ) → n < get_or u.written (cell g d z) 0 → sector_at g u.sectors d z n ≡ get_or o.sectors n []

-- of every drive but x, the lost one
pub record TablesCachingCut (g : Geometry) (x : ℕ) (t : Tables) (was : Remembered) (u : Tables) : Type 0 where
  pub sectors_long : length u.sectors ≡ length t.sectors
  pub written_long : length u.written ≡ length t.written
  pub durable_long : length u.durable ≡ length t.durable
  pub durable_is : (d z : ℕ) → d < g.drives → z < physical_zones g → d ≢ x → get_or u.durable (cell g d z) 0 ≡ get_or u.written (cell g d z) 0
  pub zones : (d z : ℕ) → d < g.drives → z < physical_zones g → d ≢ x → ZoneKept g t u d z ⊎ ((o : ZoneView) × Memᴰ o (was d z) × ZoneBack g o u d z)

-- the stores that a call has made: none if its contract's verdict is a refusal, else as many of its contract's as the count lets it (CallContracts)
abbrev pub made_on : Geometry → Call → List Bool → State → ℕ → Tables → List Store
made_on g mounts named state stop t = made_by (mount_verdict g named t) (mount_stores_on g (present_in g (is_set named) (device_of g t)) (lost_drive_in g (is_set named) (device_of g t)) t) stop
made_on g (writes w) named state stop t =
    made_by (write_verdict g named state w t)
    (write_all g (call_present g (is_set named) (view_state state)) (roles_of g t) (seen_in g t) (view_state state) (zone_asked g w) (sectors_in g w.count w.buffer)) stop
made_on g flushes named state stop t = made_by (flush_verdict g named state t) (flush_stores g (call_present g (is_set named) (view_state state))) stop
made_on g (resets z) named state stop t = made_by (reset_verdict g named state z t) (reset_all g (call_present g (is_set named) (view_state state)) (roles_of g t) (seen_in g t) (view_state state) z) stop
made_on g (formats array) named state stop t = made_by (format_verdict g named t) (format_stores g (named_drives g (is_set named)) (left_out g (is_set named)) array) stop
made_on g (compacts d) named state stop t = made_by (compact_verdict g named state d t) (compact_stores g (call_present g (is_set named) (view_state state)) (roles_of g t) (seen_in g t) (view_state state) d) stop

abbrev pub tables_caches : (g : Geometry) → Caches (on_tables g)
tables_caches g = record {
  device = device_of g;
  made = made_on g;
  CutTo = TablesCachingCut g;
}

abbrev pub on_caching_tables : Geometry → Volume
on_caching_tables g = with_caches (on_tables g) (tables_caches g)

-- THE PROMISE ON THE TABLES, on drives that cache resets
abbrev pub CachingTablesClaim : Type 0
CachingTablesClaim = (g : Geometry) → KeepsPromise g (on_caching_tables g)
