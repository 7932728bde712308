-- Rules 1 to 6 of document 01, "What a look shows", in its order, as functions of the geometry, of the drives named and of the device.
-- `present` is from rule 2 on the drives that rule 1 leaves; n is a zone's generation by rule 2, handed to the later rules. The device is the one
-- by its roles (Roles.antt): its zone 0 is the general log that counts, zone 1 the parity log.
-- (What is refused before anything is shown: Refusals.antt.)
use Rattle.std.specs.Prelude.{Bool, true, false, ◌&&◌, ◌||◌, not, ℕ, zero, suc, ◌+◌, ◌-◌, ◌*◌, min, List, [], ◌∷◌, ◌++◌, map, length, get_or, ltb, leb, eqb}
use Rattle.tables.specs.meaning.Basics.{pick}
use Rattle.tables.specs.meaning.Below.{any_below, all_below, max_below}
use Rattle.tables.specs.meaning.Lists.{any_of}
use Rattle.tables.specs.meaning.Drives.{find_below, no_drive}
use Rattle.tables.specs.meaning.Greatest.{greatest}
use Rattle.tables.specs.meaning.Xor.{xor_bytes, xor_below, without}
use Rattle.tables.specs.meaning.Device.{Device}
use Rattle.tables.specs.meaning.Placement.{drive_of, sector_of, needed, stripe_of, unit_index, row_index, parity_drive, unit_drive, address}
use Rattle.tables.specs.declared.Geometry.{Geometry}
use Rattle.tables.specs.meaning.Geometry.{stripe_sectors, zone_sectors, data_zone}
use Rattle.logs.specs.meaning.Entry.{general_zone, parity_zone, worn_generation, Header, label, counters, zone_reset, partial_parity, seal, closing, Entry}
use Rattle.logs.specs.meaning.Walk.{Ending, at_pointer, no_entry, torn, walk_log}
use Rattle.logs.specs.meaning.Heads.{labelled, array_in, last_lost, generation_in, is_reset, is_seal, ends_past, least_seal}
use Rattle.volume.specs.declared.Condition.{Condition}
use Rattle.volume.specs.declared.Condition.TheVariants.{Empty, Open, Sealed, Worn}

-- ---- the logs of drive d: their whole entries, and how the walk ended
unfoldable pub general_heads : Geometry → Device → ℕ → List Header
general_heads g v d = map (λ (e : Entry). e.head) (walk_log g d false (v d general_zone).sectors).entries

unfoldable pub general_ending : Geometry → Device → ℕ → Ending
general_ending g v d = (walk_log g d false (v d general_zone).sectors).last

unfoldable pub parity_entries : Geometry → Device → ℕ → List Entry
parity_entries g v d = (walk_log g d true (v d parity_zone).sectors).entries

unfoldable pub parity_ending : Geometry → Device → ℕ → Ending
parity_ending g v d = (walk_log g d true (v d parity_zone).sectors).last

-- ==== rule 1: "A drive is lost if not named or if any named drive's last label says so. Present means, from here on, named and not lost."
-- (a log without a first label says nothing)
unfoldable pub is_lost : Geometry → (ℕ → Bool) → Device → ℕ → Bool
is_lost g named v d = not (named d) || any_below (λ e. named e && (labelled (general_heads g v e) && eqb (last_lost no_drive (general_heads g v e)) d)) g.drives

unfoldable pub is_present : Geometry → (ℕ → Bool) → Device → ℕ → Bool
is_present g named v d = ltb d g.drives && not (is_lost g named v d)

-- the lost drive, or no_drive
abbrev pub lost_drive : Geometry → (ℕ → Bool) → Device → ℕ
lost_drive g named v = find_below (is_lost g named v) g.drives

-- ==== rule 2: "A zone's generation is the greatest of the present drives' last counters, 0 if none."
unfoldable pub generation_of : Geometry → (ℕ → Bool) → Device → ℕ → ℕ
generation_of g present v z = max_below (λ d. pick (present d) (generation_in z (general_heads g v d)) zero) g.drives

-- ==== rule 3: "A reset entry of the current generation on any present drive makes the pointer 0." (its use: pointer_at, below)
unfoldable pub reset_seen : Geometry → (ℕ → Bool) → Device → ℕ → ℕ → Bool
reset_seen g present v z n = any_below (λ d. present d && any_of (is_reset z n) (general_heads g v d)) g.drives

-- ==== rule 4: when a sector is known, and its value
-- There are three ways to know sector a of a zone. It is held: its own drive has it. Or its row is complete: the parity drive holds the
-- row's parity and the other drives hold the row's other data. Or a partial parity entry speaks of it: the entry is whole, current and
-- for its stripe, ends past it and at or below every current seal, and the row's other sectors below the entry's end are held. Any such
-- entry will do, an older one too: the newest may lean on data that was lost. The value is taken in that order, and of the entries
-- from the last.

-- what the rule reads of an entry of type 4: its stripe, its end, and its rows
pub record ParityEntry : Type 0 where
  pub stripe : ℕ
  pub end : ℕ
  pub rows : ℕ → List ℕ

-- what rules 4 and 5 read of a zone
pub record View : Type 0 where
  pub present : ℕ → Bool
  pub written : ℕ → ℕ  -- sectors below drive d's written pointer in this zone
  pub sector_at : ℕ → ℕ → List ℕ  -- sector x of drive d
  pub entries : ℕ → List ParityEntry  -- of drive d's parity log: whole, current, ending at or below every current seal

pub data Found : Type 0 where
  found : ParityEntry → Found
  nothing : Found

abbrev pub or_else : Found → Found → Found
or_else (found e) o = found e
or_else nothing o = o

abbrev pub is_found : Found → Bool
is_found (found e) = true
is_found nothing = false

-- the last entry that passes a test
abbrev pub last_of : (ParityEntry → Bool) → List ParityEntry → Found
last_of p [] = nothing
last_of p (e ∷ es) = or_else (last_of p es) (pick (p e) (found e) nothing)

-- "A sector is held if its drive is not lost and its zone is written past it" (sector x of drive d)
abbrev pub held_at : View → ℕ → ℕ → Bool
held_at v d x = v.present d && ltb x (v.written d)

-- the address of unit k's sector in the row of a
abbrev pub row_address : ℕ → ℕ → ℕ → ℕ → ℕ
row_address D U a k = address D U (stripe_of D U a) k (row_index D U a)

module _ (D U z : ℕ) where
  -- the parity drive of a's stripe, and the drive of unit k of that stripe
  abbrev pub parity_of : ℕ → ℕ
  parity_of a = parity_drive D z (stripe_of D U a)

  abbrev pub row_drive : ℕ → ℕ → ℕ
  row_drive a k = unit_drive D (parity_of a) k

  -- ".. or if its row's in-place parity is held with all other data of the row"
  abbrev pub by_parity : View → ℕ → Bool
  by_parity v a = held_at v (parity_of a) (sector_of D U a) && all_below (λ k. eqb k (unit_index D U a) || held_at v (row_drive a k) (sector_of D U a)) (D - 1)

  -- ".. an entry for its stripe, .. end past it, .. and all other sectors of its row below end are held"
  abbrev pub serves : View → ℕ → ParityEntry → Bool
  serves v a e =
      eqb e.stripe (stripe_of D U a) && ltb a e.end
      && all_below (λ k. eqb k (unit_index D U a) || (leb e.end (row_address D U a k) || held_at v (row_drive a k) (sector_of D U a))) (D - 1)

  -- ".. the last such entry in the log" of its parity drive
  abbrev pub entry_for : View → ℕ → Found
  entry_for v a = pick (v.present (parity_of a)) (last_of (serves v a) (v.entries (parity_of a))) nothing

  abbrev pub known : View → ℕ → Bool
  known v a = held_at v (drive_of D U z a) (sector_of D U a) || (by_parity v a || is_found (entry_for v a))

  -- the exclusive or of the row's other data; of those below an entry's end
  abbrev pub others_xor : View → ℕ → List ℕ
  others_xor v a = xor_below (without (λ k. v.sector_at (row_drive a k) (sector_of D U a)) (unit_index D U a)) (D - 1)

  abbrev pub entry_xor : View → ℕ → ParityEntry → List ℕ
  entry_xor v a e = xor_below (without (λ k. pick (ltb (row_address D U a k) e.end) (v.sector_at (row_drive a k) (sector_of D U a)) []) (unit_index D U a)) (D - 1)

  abbrev pub from_entry : View → ℕ → Found → List ℕ
  from_entry v a (found e) = xor_bytes (entry_xor v a e) (e.rows (row_index D U a))
  from_entry v a nothing = []

  -- "Its value is its own bytes, else the exclusive or by parity, else by the last such entry in the log."
  abbrev pub value_of : View → ℕ → List ℕ
  value_of v a =
      pick (held_at v (drive_of D U z a) (sector_of D U a)) (v.sector_at (drive_of D U z a) (sector_of D U a))
      (pick (by_parity v a) (xor_bytes (others_xor v a) (v.sector_at (parity_of a) (sector_of D U a))) (from_entry v a (entry_for v a)))

  -- (rule 5) "the greatest n with all n first sectors known", in a zone of n sectors
  abbrev pub known_prefix : View → ℕ → ℕ
  known_prefix v n = greatest (known v) n

-- the least current seal; the zone's length if there is none
abbrev pub seal_limit_below : Geometry → (ℕ → Bool) → Device → ℕ → ℕ → ℕ → ℕ
seal_limit_below g present v z n zero = zone_sectors g
seal_limit_below g present v z n (suc d) = pick (present d) (least_seal z n (seal_limit_below g present v z n d) (general_heads g v d)) (seal_limit_below g present v z n d)

unfoldable pub seal_limit : Geometry → (ℕ → Bool) → Device → ℕ → ℕ → ℕ
seal_limit g present v z n = seal_limit_below g present v z n g.drives

-- ".. a whole type 4 entry .., of the current generation, .. end at most any current seal" (limit: the least of them)
abbrev pub serving_entry : Geometry → ℕ → ℕ → ℕ → Header → List (List ℕ) → List ParityEntry
serving_entry g z n limit (label x a) rs = []
serving_entry g z n limit (counters cs) rs = []
serving_entry g z n limit (zone_reset y m) rs = []
serving_entry g z n limit (partial_parity y s f m) rs = pick (eqb y z && (eqb m n && leb (s * stripe_sectors g + f) limit)) (record { stripe = s; end = s * stripe_sectors g + f; rows = λ r. get_or rs r [] } ∷ []) []
serving_entry g z n limit (seal y p m) rs = []
serving_entry g z n limit (closing kind gen) rs = []

abbrev pub serving_entries : Geometry → ℕ → ℕ → ℕ → List Entry → List ParityEntry
serving_entries g z n limit [] = []
serving_entries g z n limit (e ∷ es) = serving_entry g z n limit e.head e.rows ++ serving_entries g z n limit es

unfoldable pub view_of : ℕ → (ℕ → Bool) → Device → (ℕ → List ParityEntry) → View
view_of z present v logs = record { present = present; written = λ d. length (v d (data_zone z)).sectors; sector_at = λ d x. get_or (v d (data_zone z)).sectors x []; entries = logs }

unfoldable pub zone_view : Geometry → (ℕ → Bool) → Device → ℕ → ℕ → View
zone_view g present v z n = view_of z present v (λ d. serving_entries g z n (seal_limit g present v z n) (parity_entries g v d))

unfoldable pub value_at : Geometry → (ℕ → Bool) → Device → ℕ → ℕ → ℕ → List ℕ
value_at g present v z n a = value_of g.drives g.unit z (zone_view g present v z n) a

-- ==== rule 5: "The pointer is the greatest n with all n first sectors known, and not above the least current seal." And rule 3: 0.
unfoldable pub pointer_at : Geometry → (ℕ → Bool) → Device → ℕ → ℕ → ℕ
pointer_at g present v z n = pick (reset_seen g present v z n) zero (min (known_prefix g.drives g.unit z (zone_view g present v z n) (zone_sectors g)) (seal_limit g present v z n))

-- ==== rule 6: when a zone is clean, and its condition (q: the pointer)
unfoldable pub seal_seen : Geometry → (ℕ → Bool) → Device → ℕ → ℕ → Bool
seal_seen g present v z n = any_below (λ d. present d && any_of (is_seal z n) (general_heads g v d)) g.drives

abbrev pub ending_past : Geometry → ℕ → ℕ → ℕ → Ending → Bool
ending_past g z n q at_pointer = false
ending_past g z n q (no_entry f) = false
ending_past g z n q (torn h rs) = ends_past g z n q h

-- "A zone is clean if no present drive has more sectors than the pointer needs .. and no current type 4 entry, whole or torn, ends past it."
unfoldable pub clean_at : Geometry → (ℕ → Bool) → Device → ℕ → ℕ → ℕ → Bool
clean_at g present v z n q =
    all_below (λ d. not (present d) || (leb (length (v d (data_zone z)).sectors) (needed g.drives g.unit z q d)
    && (not (any_of (λ (e : Entry). ends_past g z n q e.head) (parity_entries g v d)) && not (ending_past g z n q (parity_ending g v d))))) g.drives

-- "The first that fits: generation 2^64 − 1: worn, with its pointer readable. Pointer 0: empty. Unclean or with a current seal: sealed.
-- Else open."
abbrev pub condition_of : ℕ → ℕ → Bool → Bool → Condition
condition_of n q clean has_seal = pick (eqb n worn_generation) (Worn q) (pick (eqb q 0) Empty (pick (not clean || has_seal) (Sealed q) (Open q)))

-- ==== what is shown
pub record ZoneShown : Type 0 where
  pub generation : ℕ
  pub condition : Condition
  pub pointer : ℕ
  pub value : ℕ → List ℕ  -- "those n sectors, with their values": below the pointer
  pub by_reset : Bool  -- emptied by rule 3
  pub clean : Bool

pub record Shown : Type 0 where
  pub lost : ℕ  -- or no_drive
  pub array : ℕ
  pub zone : ℕ → ZoneShown

-- zone z under generation n
unfoldable pub zone_at : Geometry → (ℕ → Bool) → Device → ℕ → ℕ → ZoneShown
zone_at g present v z n = record {
  generation = n;
  condition = condition_of n (pointer_at g present v z n) (clean_at g present v z n (pointer_at g present v z n)) (seal_seen g present v z n);
  pointer = pointer_at g present v z n;
  value = value_at g present v z n;
  by_reset = reset_seen g present v z n;
  clean = clean_at g present v z n (pointer_at g present v z n);
}

unfoldable pub zone_shown : Geometry → (ℕ → Bool) → Device → ℕ → ZoneShown
zone_shown g present v z = zone_at g present v z (generation_of g present v z)

-- what the present drives show when drive x is lost
unfoldable pub showing : Geometry → (ℕ → Bool) → ℕ → Device → Shown
showing g present x v = record { lost = x; array = array_in (general_heads g v (find_below present g.drives)); zone = zone_shown g present v }
