-- Rule 4 on the tables, as the code decides it: what is held, how far a row is held, which entry serves, and the value by each way. The laws
-- that this is the rule (Rules.antt) are in KnowingLaws.
use Rattle.std.specs.Prelude.{◌≡◌, Bool, true, false, ◌&&◌, ◌||◌, ℕ, zero, suc, ◌+◌, ◌-◌, ◌*◌, ◌≤◌, ◌<◌, min, List, [], length, get_or, ltb, leb, eqb}
use Rattle.tables.specs.declared.Geometry.{Geometry}
use Rattle.tables.specs.meaning.Basics.{pick}
use Rattle.tables.specs.meaning.Below.{all_below}
use Rattle.tables.specs.meaning.Geometry.{physical_zones, cells, total_bytes, stripe_sectors, data_zone}
use Rattle.tables.specs.meaning.Placement.{drive_of, sector_of, stripe_of, unit_index, row_index}
use Rattle.tables.specs.meaning.Device.{Device}
use Rattle.tables.specs.meaning.Tables.{tables_of, device_of, cell, sector_at}
use Rattle.tables.specs.meaning.Xor.{xor_bytes, xor_below, without}
use Rattle.logs.specs.declared.Found.{Found}
use Rattle.logs.specs.declared.Found.TheVariants.{Bad, Label, Counters, Resets, Partial, Seal, Closing}
use Rattle.logs.specs.meaning.Entry.{parity_zone, decode}
use Rattle.logs.specs.code.Judge.{found}
use Rattle.logs.specs.laws.Heads.{ends_within}
use Rattle.logs.specs.meaning.Walk.{walk_log}
use Rattle.logs.specs.code.WalkCode.{log_sectors}
use Rattle.logs.specs.code.Query.{heads_of}
use Rattle.logs.specs.laws.Places.{last_place}
use Rattle.logs.specs.code.QueryLaws.{SmallSeen}
use Rattle.volume.specs.declared.knowing.Source.{Source}
use Rattle.volume.specs.declared.knowing.Source.TheVariants.{Unknown, Held, Row, Entry}
use Rattle.volume.specs.meaning.Rules.{parity_of, row_drive, row_address}
use Rattle.volume.specs.meaning.CallContracts.{is_set}

-- the device that rules 4 and 5 see. They do not look at durable pointers (KnowingLaws: `view_durable`), so no table of them is handed over.
abbrev pub read_device : Geometry → List ℕ → List ℕ → Device
read_device g xs ws = device_of g (tables_of xs ws [])

-- what reading zone z relies on: the tables' lengths, and that no written pointer of a present drive is past its zone's end (refusals 2 and 3)
pub record Readable (g : Geometry) (here : List Bool) (xs ws : List ℕ) (z : ℕ) : Type 0 where
  pub zone_in_lem : z < g.zones
  pub sectors_long : length xs ≡ total_bytes g
  pub written_long : length ws ≡ cells g
  pub pointers : (d y : ℕ) → d < g.drives → is_set here d ≡ true → y < physical_zones g → get_or ws (cell g d y) 0 ≤ g.capacity

-- ---- held: sector x of drive d
abbrev pub held_on : Geometry → List Bool → List ℕ → ℕ → ℕ → ℕ → Bool
held_on g here ws z d x = is_set here d && ltb x (get_or ws (cell g d (data_zone z)) 0)

-- address a, by its own drive; all of a run
abbrev pub own_held : Geometry → List Bool → List ℕ → ℕ → ℕ → Bool
own_held g here ws z a = held_on g here ws z (drive_of g.drives g.unit z a) (sector_of g.drives g.unit a)

abbrev pub all_held : Geometry → List Bool → List ℕ → ℕ → ℕ → ℕ → Bool
all_held g here ws z offset count = all_below (λ i. own_held g here ws z (offset + i)) count

-- its own bytes
abbrev pub own_sector : Geometry → List ℕ → ℕ → ℕ → List ℕ
own_sector g xs z a = sector_at g xs (drive_of g.drives g.unit z a) (data_zone z) (sector_of g.drives g.unit a)

-- ---- how far the other sectors of a row are held
-- the least of f over the numbers below n that fail a test, and of m
abbrev pub least_failing : (ℕ → Bool) → (ℕ → ℕ) → ℕ → ℕ → ℕ
least_failing ok f m zero = m
least_failing ok f m (suc k) = pick (ok k) (least_failing ok f m k) (min (least_failing ok f m k) (f k))

-- one past the last address of the stripe of a
unfoldable pub stripe_end : Geometry → ℕ → ℕ
stripe_end g a = stripe_of g.drives g.unit a * stripe_sectors g + stripe_sectors g

-- unit k is a's own, or held in the row of a
abbrev pub row_held : Geometry → List Bool → List ℕ → ℕ → ℕ → ℕ → Bool
row_held g here ws z a k = eqb k (unit_index g.drives g.unit a) || held_on g here ws z (row_drive g.drives g.unit z a k) (sector_of g.drives g.unit a)

abbrev pub reach_below : Geometry → List Bool → List ℕ → ℕ → ℕ → ℕ → ℕ
reach_below g here ws z a k = least_failing (row_held g here ws z a) (row_address g.drives g.unit a) (stripe_end g a) k

-- the first address in the row of a, its own left out, that is not held; the stripe's end if all are held
unfoldable pub reach_of : Geometry → List Bool → List ℕ → ℕ → ℕ → ℕ
reach_of g here ws z a = reach_below g here ws z a (g.drives - 1)

-- the row's parity is in place with all its other data
abbrev pub row_complete : Geometry → List Bool → List ℕ → ℕ → ℕ → Bool
row_complete g here ws z a = held_on g here ws z (parity_of g.drives g.unit z a) (sector_of g.drives g.unit a) && leb (stripe_end g a) (reach_of g here ws z a)

-- ---- the place, counted from 1, of the last entry that serves; 0 if there is none
unfoldable pub serving_place : Geometry → List Bool → List ℕ → List ℕ → ℕ → ℕ → ℕ → ℕ → ℕ
serving_place g here xs ws z n limit a =
    pick (is_set here (parity_of g.drives g.unit z a))
    (last_place g (ends_within g z n a (min limit (reach_of g here ws z a))) 0 0
    (heads_of (walk_log g (parity_of g.drives g.unit z a) true (log_sectors g (parity_of g.drives g.unit z a) parity_zone xs (get_or ws (cell g (parity_of g.drives g.unit z a) parity_zone) 0))))) 0

-- ---- the three ways, in order
unfoldable pub source_of : Geometry → List Bool → List ℕ → List ℕ → ℕ → ℕ → ℕ → ℕ → Source
source_of g here xs ws z n limit a =
    pick (own_held g here ws z a) Held
    (pick (row_complete g here ws z a) Row
    (pick (eqb (serving_place g here xs ws z n limit a) 0) Unknown (Entry (serving_place g here xs ws z n limit a))))

abbrev pub has_source : Source → Bool
has_source Unknown = false
has_source Held = true
has_source Row = true
has_source (Entry place) = true

-- ---- the value by each way
-- the exclusive or of the row's other sectors below an end; of its first m units
abbrev pub row_xor_below : Geometry → List ℕ → ℕ → ℕ → ℕ → ℕ → List ℕ
row_xor_below g xs z a end m =
    xor_below (without (λ k. pick (ltb (row_address g.drives g.unit a k) end) (sector_at g xs (row_drive g.drives g.unit z a k) (data_zone z) (sector_of g.drives g.unit a)) []) (unit_index g.drives g.unit a)) m

unfoldable pub row_xor : Geometry → List ℕ → ℕ → ℕ → ℕ → List ℕ
row_xor g xs z a end = row_xor_below g xs z a end (g.drives - 1)

-- the end of a partial parity entry
abbrev pub end_seen : Geometry → Found → ℕ
end_seen g Bad = zero
end_seen g (Label x a) = zero
end_seen g Counters = zero
end_seen g (Resets z n) = zero
end_seen g (Partial z s f n) = s * stripe_sectors g + f
end_seen g (Seal z p n) = zero
end_seen g (Closing gen) = zero

-- of the one whose header is at a place of drive d's parity log, counted from 1
unfoldable pub entry_end : Geometry → List ℕ → ℕ → ℕ → ℕ
entry_end g xs d place = end_seen g (found (decode g d true (sector_at g xs d parity_zone (place - 1))))

abbrev pub way_value : Geometry → List ℕ → ℕ → ℕ → Source → List ℕ
way_value g xs z a Unknown = []
way_value g xs z a Held = own_sector g xs z a
way_value g xs z a Row = xor_bytes (row_xor g xs z a (stripe_end g a)) (sector_at g xs (parity_of g.drives g.unit z a) (data_zone z) (sector_of g.drives g.unit a))
way_value g xs z a (Entry place) =
    xor_bytes (row_xor g xs z a (entry_end g xs (parity_of g.drives g.unit z a) place)) (sector_at g xs (parity_of g.drives g.unit z a) parity_zone (place + row_index g.drives g.unit a))

-- what is left in a buffer: the value, or what was in it
abbrev pub value_from : Geometry → List ℕ → ℕ → ℕ → Source → List ℕ → List ℕ
value_from g xs z a way out = pick (has_source way) (way_value g xs z a way) out

-- what the code needs to know of an entry: it lies within its log, and its end can be computed
abbrev pub SourceFits : Geometry → List ℕ → ℕ → ℕ → Source → Type 0
SourceFits g xs z a Unknown = Unit {0}
SourceFits g xs z a Held = Unit {0}
SourceFits g xs z a Row = Unit {0}
SourceFits g xs z a (Entry place) =
    (zero < place) × (place + row_index g.drives g.unit a < g.capacity)
    × SmallSeen g (found (decode g (parity_of g.drives g.unit z a) true (sector_at g xs (parity_of g.drives g.unit z a) parity_zone (place - 1))))
