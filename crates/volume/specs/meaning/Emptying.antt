-- Logs that are emptied: by a mount or a reset that finds one without room, and by a compact in any case. "When space lacks at a call's start, before its stores, drive by drive, all present drives are flushed, and the lacking log's
-- entries still needed .. are copied, zones ascending, into that drive's spare zone. Then comes a closing entry of type 6 .., generation one above the old
-- log's. A flush follows, then the old zone is reset and becomes the spare." (r: the drives' roles; w: the device by its roles)
use Rattle.std.specs.Prelude.{Bool, true, false, ◌&&◌, ◌||◌, not, ℕ, zero, suc, ◌+◌, ◌-◌, ◌*◌, ◌≤◌, min, List, [], ◌∷◌, ◌++◌, map, length, ltb, leb, eqb}
use Rattle.tables.specs.meaning.Basics.{pick}
use Rattle.tables.specs.meaning.Below.{any_below, each_below, sum_below}
use Rattle.tables.specs.meaning.Lists.{any_of, concat}
use Rattle.tables.specs.meaning.Device.{Device, Store, reset}
use Rattle.tables.specs.meaning.Phases.{flush_all, on_present}
use Rattle.tables.specs.meaning.Through.{carry}
use Rattle.tables.specs.meaning.Placement.{stripe_of}
use Rattle.tables.specs.declared.Geometry.{Geometry}
use Rattle.tables.specs.meaning.Geometry.{stripe_sectors}
use Rattle.logs.specs.meaning.Entry.{worn_generation, spare_zone, Header, closing, Entry, encode, kind_of_log}
use Rattle.logs.specs.meaning.Heads.{ends_at}
use Rattle.logs.specs.meaning.Walk.{sectors_of}
use Rattle.logs.specs.meaning.Copies.{copied_general}
use Rattle.volume.specs.meaning.State.{pointer_in, StateView}
use Rattle.volume.specs.meaning.Content.{inside_stripe, fill_of, parity_drive_at, entry_at}
use Rattle.volume.specs.meaning.Rules.{Shown, general_heads, parity_entries, value_at, known, zone_view}
use Rattle.volume.specs.meaning.Calls.{append_all, generations_from, write_stores, reset_stores}
use Rattle.volume.specs.meaning.Roles.{Roles, zone_of_kind, claim_of_kind, lacks_kind, placed_by, roles_after}

-- ---- what the copies go by: of each zone its generation in force, its pointer, and its sectors below that
pub record InForce : Type 0 where
  pub generation : ℕ → ℕ
  pub pointer : ℕ → ℕ
  pub value : ℕ → ℕ → List ℕ

-- "in a mount by its look; elsewhere by the state"
abbrev pub by_look : Shown → InForce
by_look k = record { generation = λ z. (k.zone z).generation; pointer = λ z. (k.zone z).pointer; value = λ z. (k.zone z).value }

abbrev pub by_state : Geometry → (ℕ → Bool) → Device → StateView → InForce
by_state g present w state = record { generation = state.generation; pointer = λ z. pointer_in (state.condition z); value = λ z. value_at g present w z (state.generation z) }

-- ---- the copies of drive d's general log, as headers (hs: those of the log)
unfoldable pub general_copies : Geometry → InForce → List Header → List Header
general_copies g f hs = copied_general g f.generation (generations_from f.generation zero g.zones) hs

-- ---- the copies of drive d's parity log: "for each zone, the last whole current partial parity at its pointer, made if lacking"
-- the last entry that passes; acc if none does
abbrev pub last_entry : (Entry → Bool) → List Entry → List Entry → List Entry
last_entry p acc [] = acc
last_entry p acc (e ∷ es) = last_entry p (pick (p e) (e ∷ []) acc) es

-- the zone's pointer lies inside a stripe whose parity drive is d
abbrev pub is_copied : Geometry → InForce → ℕ → ℕ → Bool
is_copied g f d z = inside_stripe g (f.pointer z) && eqb d (parity_drive_at g z (f.pointer z))

abbrev pub is_at_pointer : Geometry → InForce → ℕ → Entry → Bool
is_at_pointer g f z e = ends_at g z (f.generation z) (f.pointer z) e.head

abbrev pub made_entry : Geometry → InForce → ℕ → Entry
made_entry g f z = entry_at g z (f.generation z) (f.value z) (f.pointer z)

-- (es: the log's whole entries)
unfoldable pub parity_copies : Geometry → InForce → ℕ → List Entry → List Entry
parity_copies g f d es = each_below (λ z. pick (is_copied g f d z) (last_entry (is_at_pointer g f z) (made_entry g f z ∷ []) es) []) g.zones

-- ---- the new log's sectors, with its closing entry
abbrev pub closing_sector : Geometry → Bool → ℕ → Roles → List ℕ
closing_sector g par d r = encode g d (closing (kind_of_log par) (claim_of_kind par r))

unfoldable pub new_general : Geometry → InForce → Roles → ℕ → List Header → List (List ℕ)
new_general g f r d hs = map (encode g d) (general_copies g f hs) ++ (closing_sector g false d r ∷ [])

unfoldable pub new_parity : Geometry → InForce → Roles → ℕ → List Entry → List (List ℕ)
new_parity g f r d es = concat (map (sectors_of g d true) (parity_copies g f d es)) ++ (closing_sector g true d r ∷ [])

-- how many sectors these are; an entry that is made is as long as one that is found
unfoldable pub new_general_size : Geometry → InForce → List Header → ℕ
new_general_size g f hs = suc (length (general_copies g f hs))

abbrev pub copy_size : Geometry → InForce → ℕ → ℕ → ℕ
copy_size g f d z = pick (is_copied g f d z) (suc (min (fill_of g (f.pointer z)) g.unit)) 0

unfoldable pub new_parity_size : Geometry → InForce → ℕ → ℕ
new_parity_size g f d = suc (sum_below (copy_size g f d) g.zones)

-- ---- "when space lacks": a log has fewer sectors unused than a call asks for (limit); one that lacks has none
unfoldable pub unused_in : Geometry → Bool → (ℕ → Roles) → Device → ℕ → ℕ
unused_in g par r w d = pick (eqb (claim_of_kind par (r d)) 0) 0 (g.capacity - length (w d (kind_of_log par)).sectors)

abbrev pub lacks_room : Geometry → Bool → (ℕ → Roles) → Device → ℕ → ℕ → Bool
lacks_room g par r w limit d = ltb (unused_in g par r w d) limit

-- "Log full is now given only if room would still lack after copying, if outside a mount the spare has sectors written, or where the log to be emptied has
-- generation 2^64 − 1"; or where a kind lacks, and there is no spare (size: of the new log)
unfoldable pub stays_full : Geometry → Bool → (ℕ → Roles) → ℕ → ℕ → ℕ → Bool
stays_full g par r limit size d = ltb (g.capacity - size) limit || (lacks_kind (r d) || ltb worn_generation (claim_of_kind par (r d)))

abbrev pub spare_written : Device → ℕ → Bool
spare_written w d = ltb 0 (length (w d spare_zone).sectors)

-- ---- which logs are emptied: those that lack the room that document 01 asks for at the call's start, on a present drive
-- "L × (1 + U) + U"
abbrev pub reserve : Geometry → ℕ
reserve g = g.zones * (1 + g.unit) + g.unit

-- "mount, general below L + 2 or parity below L × (1 + U) + U"
abbrev pub mount_general_limit : Geometry → ℕ
mount_general_limit g = g.zones + 2

-- "reset, general below L + 4"
abbrev pub reset_limit : Geometry → ℕ
reset_limit g = g.zones + 4

-- the sectors of the entry of a write that ends at a pointer inside a stripe
abbrev pub entry_size : Geometry → ℕ → ℕ
entry_size g end = suc (min (fill_of g end) g.unit)

-- "write ending inside a stripe, the parity drive's log, if present, below its entry plus L × (1 + U) + U" (end: the pointer after it)
abbrev pub write_limit : Geometry → ℕ → ℕ
write_limit g end = entry_size g end + reserve g

-- of the kind, with less room than the limit
unfoldable pub emptied_for : Geometry → (ℕ → Bool) → Bool → (ℕ → Roles) → Device → ℕ → ℕ → Bool
emptied_for g present par r w limit d = present d && lacks_room g par r w limit d

-- ---- the stores of one emptying, on drive d: from its zone `old` to its zone `spare` (ss: the new log's sectors)
unfoldable pub emptying_stores : Geometry → (ℕ → Bool) → ℕ → ℕ → ℕ → List (List ℕ) → List Store
emptying_stores g present d old spare ss =
    on_present present (flush_all g.drives) ++ (append_all d spare ss ++ (on_present present (flush_all g.drives) ++ (reset d old ∷ [])))

-- of the drives whose log of the kind lacks room, ascending (ss: of each drive, the new log's sectors)
unfoldable pub emptyings : Geometry → (ℕ → Bool) → Bool → (ℕ → Roles) → (ℕ → Bool) → (ℕ → List (List ℕ)) → List Store
emptyings g present par r emptied ss = each_below (λ d. pick (emptied d) (emptying_stores g present d (zone_of_kind par (r d)) (r d).spare (ss d)) []) g.drives

unfoldable pub empty_general : Geometry → (ℕ → Bool) → (ℕ → Roles) → InForce → (ℕ → Bool) → Device → List Store
empty_general g present r f emptied w = emptyings g present false r emptied (λ d. new_general g f (r d) d (general_heads g w d))

unfoldable pub empty_parity : Geometry → (ℕ → Bool) → (ℕ → Roles) → InForce → (ℕ → Bool) → Device → List Store
empty_parity g present r f emptied w = emptyings g present true r emptied (λ d. new_parity g f (r d) d (parity_entries g w d))

-- ==== compact: "a call of its own now empties a parity log: it names a drive and makes 2.2's stores, lacking or not"
unfoldable pub compact_stores : Geometry → (ℕ → Bool) → (ℕ → Roles) → Device → StateView → ℕ → List Store
compact_stores g present r w state d = empty_parity g present r (by_state g present w state) (λ e. eqb e d) w

-- ==== write: its stores, carried to where the logs lie. "Instead of writes, a call of its own now empties a parity log"
unfoldable pub write_all : Geometry → (ℕ → Bool) → (ℕ → Roles) → Device → StateView → ℕ → List (List ℕ) → List Store
write_all g present r w state z ss = map (carry (placed_by r)) (write_stores g present w state z ss)

-- ==== reset: the emptyings, then its own stores, carried to where the logs lie from then on
unfoldable pub reset_all : Geometry → (ℕ → Bool) → (ℕ → Roles) → Device → StateView → ℕ → List Store
reset_all g present r w state z =
    let emptied = emptied_for g present false r w (reset_limit g) in
    empty_general g present r (by_state g present w state) emptied w ++ map (carry (placed_by (roles_after false emptied r))) (reset_stores g present state z)

-- ==== 15, gone: "an entry that has to be made needs the sectors of its stripe below the pointer"
abbrev pub is_made : Geometry → InForce → Device → ℕ → ℕ → Bool
is_made g f w d z = is_copied g f d z && not (any_of (is_at_pointer g f z) (parity_entries g w d))

unfoldable pub gone_for_copies : Geometry → (ℕ → Bool) → InForce → Device → ℕ → Bool
gone_for_copies g present f w d =
    any_below (λ z. is_made g f w d z && any_below (λ i. not (known g.drives g.unit z (zone_view g present w z (f.generation z)) (stripe_of g.drives g.unit (f.pointer z) * stripe_sectors g + i))) (fill_of g (f.pointer z))) g.zones

-- ---- geometries whose logs always have the room that a call asks for, once copied (laws/RoomAfter)
abbrev pub RoomyGeneral : Geometry → Type 0
RoomyGeneral g = 3 * g.zones + 7 ≤ g.capacity

abbrev pub RoomyParity : Geometry → Type 0
RoomyParity g = 2 * (g.zones * (1 + g.unit)) + 2 * g.unit + 2 ≤ g.capacity
