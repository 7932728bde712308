-- The six kinds of log entries, their bytes on a drive, and what is a legal one.
use Rattle.std.specs.Prelude.{Bool, ◌&&◌, ◌||◌, not, ℕ, zero, ◌+◌, ◌-◌, ◌*◌, ◌/◌, ◌%◌, ◌^◌, min, List, [], ◌∷◌, ◌++◌, length, get_or, take, drop, replicate, ltb, leb, eqb}
use Rattle.tables.specs.meaning.Basics.{pick}
use Rattle.tables.specs.declared.Geometry.{Geometry}
use Rattle.tables.specs.meaning.Geometry.{stripe_sectors, zone_sectors, parity_drive_of, first_drive_of, log2, physical_zones}
use Rattle.tables.specs.meaning.Drives.{no_drive}
use Rattle.tables.specs.meaning.LittleEndian.{bytes_le, number_le, words_le, numbers_le, same_bytes}
use Rattle.logs.specs.declared.Fault.{Fault}
use Rattle.logs.specs.declared.Fault.TheVariants.{NoMark, NotLegal, RowsPast}

-- the physical zones of the two logs (document 01, "Placement"), and the one between them and the data, which takes a log's copies when the
-- log is emptied; of a drive whose logs have moved, the zones by their roles
abbrev pub general_zone : ℕ
general_zone = 0

abbrev pub parity_zone : ℕ
parity_zone = 1

abbrev pub spare_zone : ℕ
spare_zone = 2

-- the greatest generation that 8 bytes hold: a zone that has it is worn
unfoldable pub worn_generation : ℕ
worn_generation = 2 ^ 64 - 1

-- what a header says. Zones are numbers, pointers and fills count from the zone's or stripe's first sector.
pub data Header : Type 0 where
  label : ℕ → ℕ → Header  -- type 1: the lost drive or 255; the array number
  counters : List ℕ → Header  -- type 2: a generation for each zone
  zone_reset : ℕ → ℕ → Header  -- type 3: zone; generation
  partial_parity : ℕ → ℕ → ℕ → ℕ → Header  -- type 4: zone; stripe; sectors of the stripe below its end; generation
  seal : ℕ → ℕ → ℕ → Header  -- type 5: zone; pointer; generation
  closing : ℕ → ℕ → Header  -- type 6: the kind of its log (`kind_of_log`); the log's generation

-- an entry, or what there is of one: the rows that follow the header
pub record Entry : Type 0 where
  pub head : Header
  pub rows : List (List ℕ)

-- rows that follow a header
abbrev pub rows_of : Geometry → Header → ℕ
rows_of g (label x a) = zero
rows_of g (counters cs) = zero
rows_of g (zone_reset z n) = zero
rows_of g (partial_parity z s f n) = min f g.unit
rows_of g (seal z p n) = zero
rows_of g (closing kind gen) = zero

-- ---- bytes: mark "ZRV", type, version 1, two zeros; start, end, generation; what the type adds; zeros
abbrev pub mark : List ℕ
mark = 90 ∷ 82 ∷ 86 ∷ []

-- 16 bits
abbrev pub version : List ℕ
version = 1 ∷ 0 ∷ []

-- the first eight bytes of a header
abbrev pub mark_bytes : ℕ → List ℕ
mark_bytes kind = mark ++ (kind ∷ (version ++ (0 ∷ 0 ∷ [])))

unfoldable pub frame : ℕ → ℕ → ℕ → ℕ → List ℕ → List ℕ
frame kind start end gen rest = mark_bytes kind ++ (bytes_le 8 start ++ (bytes_le 8 end ++ (bytes_le 8 gen ++ rest)))

unfoldable pub label_bytes : Geometry → ℕ → ℕ → ℕ → List ℕ
label_bytes g d x a = g.drives ∷ g.unit ∷ log2 g.sector ∷ d ∷ x ∷ 0 ∷ 0 ∷ 0 ∷ (bytes_le 4 g.capacity ++ (bytes_le 4 (physical_zones g) ++ (bytes_le 8 a ++ replicate (g.sector - 56) 0)))

-- the header h on drive d
unfoldable pub encode : Geometry → ℕ → Header → List ℕ
encode g d (label x a) = frame 1 0 0 0 (label_bytes g d x a)
encode g d (counters cs) = frame 2 0 0 0 (words_le cs ++ replicate (g.sector - (32 + 8 * length cs)) 0)
encode g d (zone_reset z n) = frame 3 (z * zone_sectors g) (z * zone_sectors g + zone_sectors g) n (replicate (g.sector - 32) 0)
encode g d (partial_parity z s f n) = frame 4 (z * zone_sectors g + s * stripe_sectors g) (z * zone_sectors g + s * stripe_sectors g + f) n (replicate (g.sector - 32) 0)
encode g d (seal z p n) = frame 5 (z * zone_sectors g) (z * zone_sectors g + p) n (replicate (g.sector - 32) 0)
encode g d (closing kind gen) = frame 6 kind 0 gen (replicate (g.sector - 32) 0)

-- the kind that a closing entry names: 0 in a general log, 1 in a parity log
abbrev pub kind_of_log : Bool → ℕ
kind_of_log par = pick par 1 0

-- ---- what fits geometry, drive and log (par: the parity log)
abbrev pub fits_log : Geometry → ℕ → Bool → Header → Bool
fits_log g d par (label x a) = not par && (ltb x g.drives || eqb x no_drive)
fits_log g d par (counters cs) = not par && eqb (length cs) g.zones
fits_log g d par (zone_reset z n) = not par && (ltb z g.zones && (eqb d (first_drive_of g z) || eqb d (parity_drive_of g z 0)))
fits_log g d par (partial_parity z s f n) = par && (ltb z g.zones && (ltb (s * stripe_sectors g) (zone_sectors g) && (ltb 0 f && (ltb f (stripe_sectors g) && eqb d (parity_drive_of g z s)))))
fits_log g d par (seal z p n) = not par && (ltb z g.zones && (ltb 0 p && leb p (zone_sectors g)))
fits_log g d par (closing kind gen) = eqb kind (kind_of_log par) && ltb 0 gen

-- ---- reading: take the fields, write them again, compare
unfoldable pub start_of : List ℕ → ℕ
start_of s = number_le (take 8 (drop 8 s))

unfoldable pub end_of : List ℕ → ℕ
end_of s = number_le (take 8 (drop 16 s))

unfoldable pub gen_of : List ℕ → ℕ
gen_of s = number_le (take 8 (drop 24 s))

unfoldable pub kind_of : List ℕ → ℕ
kind_of s = get_or s 3 0

unfoldable pub read_fields : Geometry → List ℕ → Header
read_fields g s =
    pick (eqb (kind_of s) 2) (counters (numbers_le g.zones (drop 32 s)))
    (pick (eqb (kind_of s) 3) (zone_reset (start_of s / zone_sectors g) (gen_of s))
    (pick (eqb (kind_of s) 4) (partial_parity (start_of s / zone_sectors g) (start_of s % zone_sectors g / stripe_sectors g) (end_of s - start_of s) (gen_of s))
    (pick (eqb (kind_of s) 5) (seal (start_of s / zone_sectors g) (end_of s - start_of s) (gen_of s))
    (pick (eqb (kind_of s) 6) (closing (start_of s) (gen_of s))
    (label (get_or s 36 0) (number_le (take 8 (drop 48 s))))))))

-- what a sector is, where an entry should begin; or why it is none
pub data Decoded : Type 0 where
  legal : Header → Decoded
  bad : Fault → Decoded

-- the number by which look and mount refuse a log for it
abbrev pub fault_number : Fault → ℕ
fault_number NoMark = 6
fault_number NotLegal = 16
fault_number RowsPast = 17

-- "a sector without the mark or with another version"
unfoldable pub marked : List ℕ → Bool
marked s = same_bytes mark (take 3 s) && same_bytes version (take 2 (drop 4 s))

-- of a sector that is no legal header
abbrev pub fault_of : List ℕ → Fault
fault_of s = pick (marked s) NotLegal NoMark

-- "an entry is legal if all its bytes are as said here and fit geometry, drive and log"
abbrev pub decode : Geometry → ℕ → Bool → List ℕ → Decoded
decode g d par s = pick (same_bytes (encode g d (read_fields g s)) s && fits_log g d par (read_fields g s)) (legal (read_fields g s)) (bad (fault_of s))
