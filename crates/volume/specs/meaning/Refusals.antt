-- Document 01, "Refusals": when each call is refused, and by which number. "The least number that applies is given, and only under its
-- condition." Each condition of the table is a definition, in the table's order; then each call lists the rows that it can meet.
-- The device has no lengths of tables and buffers: refusal 2 takes them as numbers.
use Rattle.std.specs.Prelude.{Bool, true, false, ◌&&◌, ◌||◌, not, ℕ, zero, suc, ◌+◌, ◌-◌, ◌*◌, ◌/◌, ◌%◌, min, List, [], ◌∷◌, length, ltb, leb, eqb}
use Rattle.tables.specs.meaning.Basics.{pick}
use Rattle.tables.specs.meaning.Below.{any_below, count_below, all_below}
use Rattle.tables.specs.meaning.Drives.{no_drive}
use Rattle.tables.specs.meaning.Device.{Device}
use Rattle.tables.specs.meaning.Placement.{needed, stripe_of, drive_of, sector_of}
use Rattle.tables.specs.declared.Geometry.{Geometry}
use Rattle.tables.specs.meaning.Geometry.{stripe_sectors, zone_sectors, physical_zones, data_zone}
use Rattle.tables.specs.meaning.GeometryTest.{is_valid}
use Rattle.tables.specs.meaning.Tables.{lengths_fit, buffer_fits}
use Rattle.logs.specs.meaning.Entry.{general_zone, parity_zone, worn_generation, fault_number}
use Rattle.logs.specs.meaning.Walk.{Ending, at_pointer, no_entry, torn, Walked, walk_log}
use Rattle.logs.specs.meaning.Heads.{labelled, array_in}
use Rattle.volume.specs.declared.BadPlace.{BadPlace}
use Rattle.volume.specs.declared.Condition.{Condition}
use Rattle.volume.specs.declared.Condition.TheVariants.{Empty, Open, Sealed, Worn}
use Rattle.volume.specs.meaning.State.{pointer_in, is_sealed, is_worn, hosts, StateView, call_present}
use Rattle.volume.specs.meaning.Content.{inside_stripe, fill_of, parity_drive_at}
use Rattle.volume.specs.meaning.Rules.{general_heads, general_ending, parity_ending, is_lost, is_present, lost_drive, known, held_at, zone_view, showing}
use Rattle.volume.specs.meaning.Roles.{Roles, lacks_kind}
use Rattle.volume.specs.meaning.Emptying.{InForce, by_look, by_state, new_general_size, new_parity_size, unused_in, stays_full, spare_written, reserve, mount_general_limit, reset_limit, entry_size, write_limit, emptied_for, gone_for_copies}
use Rattle.volume.specs.meaning.Hosts.{over_limit, over_open, share_left}

pub data Verdict : Type 0 where
  refuse : ℕ → Verdict
  accept : Verdict

-- "the least number that applies": the rows (number, condition) stand in ascending order
abbrev pub first_refusal : List (ℕ × Bool) → Verdict
first_refusal [] = accept
first_refusal ((n, b) ∷ rows) = pick b (refuse n) (first_refusal rows)

-- the lengths of the tables that the host hands over
pub record TableLengths : Type 0 where
  pub sectors : ℕ  -- in bytes
  pub written : ℕ  -- in numbers
  pub durable : ℕ  -- in numbers

-- what a write is asked: its host, and count sectors from an address, out of a buffer
pub record WriteAsked : Type 0 where
  pub host : ℕ
  pub address : ℕ
  pub count : ℕ  -- of sectors
  pub buffer : List ℕ

-- an address's zone, and where it lies in it: "a logical zone has (D − 1) × C sectors; zone z starts at z times that"
abbrev pub zone_of : Geometry → ℕ → ℕ
zone_of g a = a / zone_sectors g

abbrev pub offset_of : Geometry → ℕ → ℕ
offset_of g a = a % zone_sectors g

-- ==== the table
-- 1, geometry: "a bound above is broken" (is_valid of the geometry, which has its logs in their first places), "by a lost drive or pointer in the
-- state too": the lost drive is below D or 255, each zone's pointer is at most (D − 1) × C
unfoldable pub state_within : Geometry → StateView → Bool
state_within g state = (ltb state.lost g.drives || eqb state.lost no_drive) && all_below (λ z. leb (pointer_in (state.condition z)) (zone_sectors g)) g.zones

-- 2, length: "a lent table, or a buffer that isn't count × B" (buffer_fits)
abbrev pub tables_fit : Geometry → TableLengths → Bool
tables_fit g t = lengths_fit g t.sectors t.written t.durable

-- 3, pointer: "a named drive has written > C or durable > written"
unfoldable pub bad_pointers : Geometry → (ℕ → Bool) → Device → Bool
bad_pointers g named v = any_below (λ d. named d && any_below (λ y. ltb g.capacity (length (v d y).sectors) || ltb (length (v d y).sectors) (v d y).durable) (physical_zones g)) g.drives

-- 4, two lost: "more than one drive lost: in look and mount by rule 1 ..
unfoldable pub two_lost : Geometry → (ℕ → Bool) → Device → Bool
two_lost g named v = ltb 1 (count_below (is_lost g named v) g.drives)

-- .. else not named, or lost in the state"
unfoldable pub two_absent : Geometry → (ℕ → Bool) → StateView → Bool
two_absent g named state = ltb 1 (count_below (λ d. not (call_present g named state d)) g.drives)

-- a format has no state yet
unfoldable pub two_unnamed : Geometry → (ℕ → Bool) → Bool
two_unnamed g named = ltb 1 (count_below (λ d. not (named d)) g.drives)

-- 5, label: "a present drive's general log doesn't begin with a legal label of its index, or two begin with different array numbers"
unfoldable pub bad_labels : Geometry → (ℕ → Bool) → Device → Bool
bad_labels g present v =
    any_below (λ d. present d && (not (labelled (general_heads g v d)) || any_below (λ e. present e && not (eqb (array_in (general_heads g v d)) (array_in (general_heads g v e)))) g.drives)) g.drives

-- ".. a drive lacking a kind is 5 in look and mount"
unfoldable pub kind_lacks : Geometry → (ℕ → Bool) → (ℕ → Roles) → Bool
kind_lacks g present r = any_below (λ d. present d && lacks_kind (r d)) g.drives

-- 6, 16 and 17, log: "a sector where a present drive's log should have an entry is no legal one, or rows pass C". The three stand at one place of the
-- order: here they are row 6, and the first bad place says which of them the answer is
abbrev pub is_no_entry : Ending → Bool
is_no_entry at_pointer = false
is_no_entry (no_entry f) = true
is_no_entry (torn h rs) = false

unfoldable pub bad_logs : Geometry → (ℕ → Bool) → Device → Bool
bad_logs g present v = any_below (λ d. present d && (is_no_entry (general_ending g v d) || is_no_entry (parity_ending g v d))) g.drives

-- "the earliest drive, zone and sector deciding": a bad place has its number, 0 if there is none; its drive, physical zone and sector
abbrev pub no_bad_place : BadPlace
no_bad_place = record { number = 0; drive = 0; zone = 0; sector = 0 }

-- the bad place of drive d's log in zone y, by the end of its walk at sector x: a walk is left at the first one
abbrev pub bad_place_at : ℕ → ℕ → Ending → ℕ → BadPlace
bad_place_at d y at_pointer x = no_bad_place
bad_place_at d y (no_entry f) x = record { number = fault_number f; drive = d; zone = y; sector = x }
bad_place_at d y (torn h rs) x = no_bad_place

abbrev pub bad_place_in : ℕ → ℕ → Walked → BadPlace
bad_place_in d y w = bad_place_at d y w.last w.position

-- of two, the first that there is
abbrev pub first_of : BadPlace → BadPlace → BadPlace
first_of a b = pick (eqb a.number 0) b a

-- of the logs in two zones, the lower zone's first
abbrev pub lower_first : ℕ → ℕ → BadPlace → BadPlace → BadPlace
lower_first y z a b = pick (ltb y z) (first_of a b) (first_of b a)

-- of drive d (placed: the zones of its roles)
unfoldable pub drive_bad_place : Geometry → (ℕ → ℕ) → Device → ℕ → BadPlace
drive_bad_place g placed w d = lower_first (placed general_zone) (placed parity_zone)
    (bad_place_in d (placed general_zone) (walk_log g d false (w d general_zone).sectors)) (bad_place_in d (placed parity_zone) (walk_log g d true (w d parity_zone).sectors))

-- of those numbered below n
abbrev pub first_below : (ℕ → BadPlace) → ℕ → BadPlace
first_below p zero = no_bad_place
first_below p (suc n) = first_of (first_below p n) (p n)

-- of the present drives
unfoldable pub first_bad_place : Geometry → (ℕ → Bool) → (ℕ → ℕ → ℕ) → Device → BadPlace
first_bad_place g present placed w = first_below (λ d. pick (present d) (drive_bad_place g (placed d) w d) no_bad_place) g.drives

-- 7, stale: "a present drive's pointer in the named zone isn't what an empty or open state needs, or is below that when sealed or worn"
abbrev pub stale_in : Condition → ℕ → ℕ → Bool
stale_in Empty written needs = not (eqb written needs)
stale_in (Open n) written needs = not (eqb written needs)
stale_in (Sealed n) written needs = ltb written needs
stale_in (Worn n) written needs = ltb written needs

-- (it asks for a zone: where there is none the answer is 8)
unfoldable pub stale : Geometry → (ℕ → Bool) → Device → StateView → ℕ → Bool
stale g present v state z = ltb z g.zones && any_below (λ d. present d && stale_in (state.condition z) (length (v d (data_zone z)).sectors) (needed g.drives g.unit z (pointer_in (state.condition z)) d)) g.drives

-- "7 covers every zone in it", a compact, "and in later calls that read all"
unfoldable pub stale_somewhere : Geometry → (ℕ → Bool) → Device → StateView → Bool
stale_somewhere g present v state = any_below (stale g present v state) g.zones

-- 8, address: "no such zone or address"
abbrev pub no_zone : Geometry → ℕ → Bool
no_zone g z = not (ltb z g.zones)

-- "A write names its host; none such is 8"
abbrev pub no_host : ℕ → Bool
no_host h = not (ltb h hosts)

-- 9, run: "count 0, or past the zone's end"
abbrev pub bad_run : Geometry → ℕ → ℕ → Bool
bad_run g offset count = eqb count 0 || ltb (zone_sectors g) (offset + count)

-- 10, order: "write not at the pointer"
abbrev pub bad_order : StateView → ℕ → ℕ → Bool
bad_order state z offset = not (eqb offset (pointer_in (state.condition z)))

-- 11, sealed: "write to a sealed zone": is_sealed

-- 12, worn: "write or reset of a worn zone"; a reset also where the state's generation is 2^64 − 1
abbrev pub worn_for : StateView → ℕ → Bool
worn_for state z = is_worn (state.condition z) || leb worn_generation (state.generation z)

-- 13, unwritten: "read or peek past the pointer"
abbrev pub unwritten : StateView → ℕ → ℕ → ℕ → Bool
unwritten state z offset count = ltb (pointer_in (state.condition z)) (offset + count)

-- 14, log full: a log lacks room and emptying it would not give that room, or cannot be (Emptying; f: the generations and pointers in force)
unfoldable pub mount_full : Geometry → (ℕ → Bool) → (ℕ → Roles) → InForce → Device → Bool
mount_full g present r f w =
    any_below (λ d. emptied_for g present false r w (mount_general_limit g) d && stays_full g false r (mount_general_limit g) (new_general_size g f (general_heads g w d)) d
    || (emptied_for g present true r w (reserve g) d && stays_full g true r (reserve g) (new_parity_size g f d) d)) g.drives

unfoldable pub reset_full : Geometry → (ℕ → Bool) → (ℕ → Roles) → InForce → Device → Bool
reset_full g present r f w =
    any_below (λ d. emptied_for g present false r w (reset_limit g) d && (stays_full g false r (reset_limit g) (new_general_size g f (general_heads g w d)) d || spare_written w d)) g.drives

-- a write that ends inside a stripe of zone z asks the log of that stripe's parity drive, if that is present: its entry and the reserve fit there, and its
-- entry is not larger than what is left of its host's share (end: the pointer after the write; share: what is left)
unfoldable pub write_full : Geometry → (ℕ → Bool) → (ℕ → Roles) → Device → ℕ → ℕ → ℕ → Bool
write_full g present r w share z end =
    (inside_stripe g end && present (parity_drive_at g z end)) && (ltb share (entry_size g end) || ltb (unused_in g true r w (parity_drive_at g z end)) (write_limit g end))

-- a compact of drive d asks what a mount asks of that log, "lacking or not"
unfoldable pub compact_full : Geometry → (ℕ → Roles) → InForce → Device → ℕ → Bool
compact_full g r f w d = stays_full g true r (reserve g) (new_parity_size g f d) d || spare_written w d

-- 15, gone: "a sector needed is not known; in peek, not held"
-- of the count sectors from offset (n: the state's generation)
unfoldable pub gone_in : Geometry → (ℕ → Bool) → Device → ℕ → ℕ → ℕ → ℕ → Bool
gone_in g present v z n offset count = any_below (λ i. not (known g.drives g.unit z (zone_view g present v z n) (offset + i))) count

-- a write needs the earlier sectors of its first stripe where that stripe's parity drive is present
unfoldable pub gone_before : Geometry → (ℕ → Bool) → Device → ℕ → ℕ → ℕ → Bool
gone_before g present v z n pointer = present (parity_drive_at g z pointer) && gone_in g present v z n (stripe_of g.drives g.unit pointer * stripe_sectors g) (fill_of g pointer)

unfoldable pub not_held : Geometry → (ℕ → Bool) → Device → ℕ → ℕ → ℕ → Bool
not_held g present v z n offset = not (held_at (zone_view g present v z n) (drive_of g.drives g.unit z offset) (sector_of g.drives g.unit offset))

-- ==== the calls. bad: row 3, which the device answers by bad_pointers and the tables by their numbers (CallContracts); it is asked of the zones as they lie.
-- r: the drives' roles; w: the device by them
-- rows 1 to 4, which every call begins with: shape, lengths, pointers, drives
abbrev pub opening_rows : Bool → Bool → Bool → Bool → List (ℕ × Bool) → List (ℕ × Bool)
opening_rows shape fits bad absent rest = (1, not shape) ∷ (2, not fits) ∷ (3, bad) ∷ (4, absent) ∷ rest

unfoldable pub format_rows : Geometry → TableLengths → Bool → (ℕ → Bool) → Device → List (ℕ × Bool)
format_rows g t bad named v =
    opening_rows (is_valid g) (tables_fit g t) bad (two_unnamed g named) []

unfoldable pub look_rows : Geometry → TableLengths → Bool → (ℕ → Bool) → (ℕ → Roles) → Device → List (ℕ × Bool)
look_rows g t bad named r w =
    opening_rows (is_valid g) (tables_fit g t) bad (two_lost g named w)
    ((5, kind_lacks g (is_present g named w) r || bad_labels g (is_present g named w) w)
    ∷ (6, bad_logs g (is_present g named w) w)
    ∷ [])

unfoldable pub mount_rows : Geometry → TableLengths → Bool → (ℕ → Bool) → (ℕ → Roles) → Device → List (ℕ × Bool)
mount_rows g t bad named r w =
    opening_rows (is_valid g) (tables_fit g t) bad (two_lost g named w)
    ((5, kind_lacks g (is_present g named w) r || bad_labels g (is_present g named w) w)
    ∷ (6, bad_logs g (is_present g named w) w)
    ∷ (14, mount_full g (is_present g named w) r (by_look (showing g (is_present g named w) (lost_drive g named w) w)) w)
    ∷ [])

-- the zone of a write, and its pointer after it
abbrev pub zone_asked : Geometry → WriteAsked → ℕ
zone_asked g a = zone_of g a.address

abbrev pub end_asked : Geometry → StateView → WriteAsked → ℕ
end_asked g state a = pointer_in (state.condition (zone_asked g a)) + a.count

unfoldable pub write_rows : Geometry → TableLengths → Bool → (ℕ → Bool) → StateView → WriteAsked → (ℕ → Roles) → Device → List (ℕ × Bool)
write_rows g t bad named state a r w =
    opening_rows (is_valid g && state_within g state) (tables_fit g t && buffer_fits g a.count (length a.buffer)) bad (two_absent g named state)
    ((7, stale g (call_present g named state) w state (zone_asked g a))
    ∷ (8, no_zone g (zone_asked g a) || no_host a.host)
    ∷ (9, bad_run g (offset_of g a.address) a.count)
    ∷ (10, bad_order state (zone_asked g a) (offset_of g a.address))
    ∷ (11, is_sealed (state.condition (zone_asked g a)))
    ∷ (12, is_worn (state.condition (zone_asked g a)))
    ∷ (18, over_limit g state a.host (zone_asked g a) (end_asked g state a))
    ∷ (19, over_open g state (zone_asked g a) (end_asked g state a))
    ∷ (14, write_full g (call_present g named state) r w (share_left g state a.host (zone_asked g a) (end_asked g state a)) (zone_asked g a) (end_asked g state a))
    ∷ (15, gone_before g (call_present g named state) w (zone_asked g a) (state.generation (zone_asked g a)) (pointer_in (state.condition (zone_asked g a))))
    ∷ [])

-- of drive d
unfoldable pub compact_rows : Geometry → TableLengths → Bool → (ℕ → Bool) → StateView → ℕ → (ℕ → Roles) → Device → List (ℕ × Bool)
compact_rows g t bad named state d r w =
    opening_rows (is_valid g && state_within g state) (tables_fit g t) bad (two_absent g named state)
    ((7, stale_somewhere g (call_present g named state) w state)
    ∷ (8, not (call_present g named state d))
    ∷ (14, compact_full g r (by_state g (call_present g named state) w state) w d)
    ∷ (15, gone_for_copies g (call_present g named state) (by_state g (call_present g named state) w state) w d)
    ∷ [])

unfoldable pub flush_rows : Geometry → TableLengths → Bool → (ℕ → Bool) → StateView → Device → List (ℕ × Bool)
flush_rows g t bad named state v =
    opening_rows (is_valid g && state_within g state) (tables_fit g t) bad (two_absent g named state) []

unfoldable pub reset_rows : Geometry → TableLengths → Bool → (ℕ → Bool) → StateView → ℕ → (ℕ → Roles) → Device → List (ℕ × Bool)
reset_rows g t bad named state z r w =
    opening_rows (is_valid g && state_within g state) (tables_fit g t) bad (two_absent g named state)
    ((7, stale g (call_present g named state) w state z)
    ∷ (8, no_zone g z)
    ∷ (12, worn_for state z)
    ∷ (14, reset_full g (call_present g named state) r (by_state g (call_present g named state) w state) w)
    ∷ [])

-- count sectors from address a, into a buffer of len bytes
unfoldable pub read_rows : Geometry → TableLengths → Bool → (ℕ → Bool) → StateView → ℕ → ℕ → ℕ → Device → List (ℕ × Bool)
read_rows g t bad named state a count len v =
    opening_rows (is_valid g && state_within g state) (tables_fit g t && buffer_fits g count len) bad (two_absent g named state)
    ((7, stale g (call_present g named state) v state (zone_of g a))
    ∷ (8, no_zone g (zone_of g a))
    ∷ (9, bad_run g (offset_of g a) count)
    ∷ (13, unwritten state (zone_of g a) (offset_of g a) count)
    ∷ (15, gone_in g (call_present g named state) v (zone_of g a) (state.generation (zone_of g a)) (offset_of g a) count)
    ∷ [])

unfoldable pub peek_rows : Geometry → TableLengths → Bool → (ℕ → Bool) → StateView → ℕ → Device → List (ℕ × Bool)
peek_rows g t bad named state a v =
    opening_rows (is_valid g && state_within g state) (tables_fit g t) bad (two_absent g named state)
    ((7, stale g (call_present g named state) v state (zone_of g a))
    ∷ (8, no_zone g (zone_of g a))
    ∷ (13, unwritten state (zone_of g a) (offset_of g a) 1)
    ∷ (15, not_held g (call_present g named state) v (zone_of g a) (state.generation (zone_of g a)) (offset_of g a))
    ∷ [])
