-- The tables that the host lends (document 01: "Lent"), as flat lists: the bytes of all sectors, drive by drive and zone by zone, and the
-- written and durable pointers, one per drive and zone. What each store makes of them, the first so many stores of a list, a cut; and the
-- device that they stand for. Contracts speak of these lists; rules and theorems of the device. laws/Tables and laws/TablesRefine join the two.
use Rattle.std.specs.Prelude.{◌≢◌, ◌≡◌, Bool, false, ◌&&◌, ◌||◌, ℕ, zero, suc, ◌+◌, ◌-◌, ◌*◌, ◌/◌, ◌%◌, ◌^◌, ◌≤◌, ◌<◌, min, List, [], ◌∷◌, length, get_or, take, drop, set, ltb, eqb}
use Rattle.tables.specs.declared.Geometry.{Geometry}
use Rattle.tables.specs.meaning.Basics.{pick}
use Rattle.tables.specs.meaning.Below.{any_below, tabulate}
use Rattle.tables.specs.meaning.Lists.{overlay}
use Rattle.tables.specs.meaning.Geometry.{physical_zones, cells, total_bytes}
use Rattle.tables.specs.meaning.Device.{ZoneView, Device, Store, append, reset, flush, blank_zone}

pub record Tables : Type 0 where
  pub sectors : List ℕ  -- bytes
  pub written : List ℕ
  pub durable : List ℕ

abbrev pub tables_of : List ℕ → List ℕ → List ℕ → Tables
tables_of xs ws ds = record { sectors = xs; written = ws; durable = ds }

-- ---- where a zone lies. Zones 0, 1 and 2 of a drive are its general log, its parity log and its spare; which physical zones these are is the
-- geometry's to say, drive by drive. The others lie at their numbers. Two logs that are not two of the first three zones say nothing.
abbrev pub moved_zone : ℕ → ℕ → ℕ → ℕ
moved_zone a b zero = a
moved_zone a b (suc zero) = b
moved_zone a b (suc (suc zero)) = 3 - (a + b)
moved_zone a b (suc (suc (suc z))) = suc (suc (suc z))

abbrev pub unsaid : ℕ → ℕ → Bool
unsaid a b = ltb 2 a || (ltb 2 b || eqb a b)

unfoldable pub log_place : ℕ → ℕ → ℕ → ℕ
log_place a b z = pick (unsaid a b) z (moved_zone a b z)

-- four bits a drive
abbrev pub log_bits : Geometry → ℕ → ℕ
log_bits g d = g.logs / 2 ^ (4 * d) % 16

unfoldable pub zone_place : Geometry → ℕ → ℕ → ℕ
zone_place g d z = log_place (log_bits g d % 4) (log_bits g d / 4) z

-- ---- places: a drive's first cell in a table of pointers, a zone's cell, the first byte of its sector n, the bytes of that sector
abbrev pub first_cell : Geometry → ℕ → ℕ
first_cell g d = d * physical_zones g

abbrev pub cell : Geometry → ℕ → ℕ → ℕ
cell g d z = first_cell g d + zone_place g d z

abbrev pub byte_at : Geometry → ℕ → ℕ → ℕ → ℕ
byte_at g d z n = (cell g d z * g.capacity + n) * g.sector

-- sector i of a list of bytes, for sectors of B bytes
abbrev pub sector_no : ℕ → List ℕ → ℕ → List ℕ
sector_no B xs i = take B (drop (i * B) xs)

abbrev pub sector_at : Geometry → List ℕ → ℕ → ℕ → ℕ → List ℕ
sector_at g xs d z n = sector_no g.sector xs (cell g d z * g.capacity + n)

-- ---- what each store makes of each table
unfoldable pub sectors_after_append : Geometry → ℕ → ℕ → List ℕ → List ℕ → List ℕ → List ℕ
sectors_after_append g d z s xs ws = overlay xs (byte_at g d z (get_or ws (cell g d z) 0)) s

unfoldable pub written_after_append : Geometry → ℕ → ℕ → List ℕ → List ℕ
written_after_append g d z ws = set ws (cell g d z) (get_or ws (cell g d z) 0 + 1)

-- of written and durable alike; the bytes are kept
unfoldable pub pointers_after_reset : Geometry → ℕ → ℕ → List ℕ → List ℕ
pointers_after_reset g d z ps = set ps (cell g d z) 0

unfoldable pub durable_after_flush : Geometry → ℕ → List ℕ → List ℕ → List ℕ
durable_after_flush g d ws ds = overlay ds (first_cell g d) (take (physical_zones g) (drop (first_cell g d) ws))

-- a zone has room for one more sector
abbrev pub has_room : Geometry → ℕ → ℕ → List ℕ → Bool
has_room g d z ws = ltb (get_or ws (cell g d z) 0) g.capacity

-- the three tables after a store. An append to a full zone makes nothing; no accepted call asks for one (volume's laws, CallStoresFit and MountStoresFit).
abbrev pub make_store : Geometry → Store → Tables → Tables
make_store g (append d z s) t = pick (has_room g d z t.written) (record { sectors = sectors_after_append g d z s t.sectors t.written; written = written_after_append g d z t.written; durable = t.durable }) t
make_store g (reset d z) t = record { sectors = t.sectors; written = pointers_after_reset g d z t.written; durable = pointers_after_reset g d z t.durable }
make_store g (flush d) t = record { sectors = t.sectors; written = t.written; durable = durable_after_flush g d t.written t.durable }

-- the first k stores of a list ("each storing call also takes a count of stores, stops once that many are made")
abbrev pub run_stores : Geometry → ℕ → List Store → Tables → Tables
run_stores g k [] t = t
run_stores g zero (s ∷ ss) t = t
run_stores g (suc k) (s ∷ ss) t = run_stores g k ss (make_store g s t)

-- ---- the device that the tables stand for. A pointer past its zone's end (refusal 3) counts as one at the end.
unfoldable pub zone_at_cell : Geometry → Tables → ℕ → ZoneView
zone_at_cell g t k = record {
  sectors = tabulate (λ n. sector_no g.sector t.sectors (k * g.capacity + n)) (min (get_or t.written k 0) g.capacity);
  durable = min (get_or t.durable k 0) g.capacity;
}

unfoldable pub device_of : Geometry → Tables → Device
device_of g t d z = pick (ltb d g.drives && ltb z (physical_zones g)) (zone_at_cell g t (cell g d z)) blank_zone

-- ---- cuts and losses. The lent memory stays where it is: its lengths are the same. What becomes of a lost drive's memory (drive x's) is open.
pub record SectorsKept (g : Geometry) (x : ℕ) (t u : Tables) : Type 0 where
  pub sectors_long : length u.sectors ≡ length t.sectors
  pub written_long : length u.written ≡ length t.written
  pub durable_long : length u.durable ≡ length t.durable
  pub sectors_same : (d z n : ℕ) → d < g.drives → z < physical_zones g → n < g.capacity → d ≢ x → sector_at g u.sectors d z n ≡ sector_at g t.sectors d z n

-- a cut "sets each written pointer to some value from its durable pointer up to itself, and durable to the same"
pub record TablesCut (g : Geometry) (x : ℕ) (t u : Tables) : Type 0 where
  pub kept : SectorsKept g x t u
  pub least : (d z : ℕ) → d < g.drives → z < physical_zones g → d ≢ x → get_or t.durable (cell g d z) 0 ≤ get_or u.written (cell g d z) 0
  pub most : (d z : ℕ) → d < g.drives → z < physical_zones g → d ≢ x → get_or u.written (cell g d z) 0 ≤ get_or t.written (cell g d z) 0
  pub durable_is : (d z : ℕ) → d < g.drives → z < physical_zones g → d ≢ x → get_or u.durable (cell g d z) 0 ≡ get_or u.written (cell g d z) 0

-- the loss of drive x
pub record TablesLoss (g : Geometry) (x : ℕ) (t u : Tables) : Type 0 where
  pub kept : SectorsKept g x t u
  pub written_same : (d z : ℕ) → d < g.drives → z < physical_zones g → d ≢ x → get_or u.written (cell g d z) 0 ≡ get_or t.written (cell g d z) 0
  pub durable_same : (d z : ℕ) → d < g.drives → z < physical_zones g → d ≢ x → get_or u.durable (cell g d z) 0 ≡ get_or t.durable (cell g d z) 0

-- ---- refusals 2 and 3, by numbers alone
-- 2, length: each table has the length that the geometry gives
unfoldable pub lengths_fit : Geometry → ℕ → ℕ → ℕ → Bool
lengths_fit g sectors written durable = eqb sectors (total_bytes g) && (eqb written (cells g) && eqb durable (cells g))

-- 2, length: a buffer is count × B bytes; the product cannot wrap
unfoldable pub buffer_fits : Geometry → ℕ → ℕ → Bool
buffer_fits g count bytes = eqb bytes (count * g.sector)

-- 3, pointer: written > C or durable > written, in some zone of a named drive
abbrev pub pointer_bad : Geometry → List ℕ → List ℕ → ℕ → ℕ → Bool
pointer_bad g ws ds d z = ltb g.capacity (get_or ws (cell g d z) 0) || ltb (get_or ws (cell g d z) 0) (get_or ds (cell g d z) 0)

unfoldable pub pointers_bad : Geometry → List Bool → List ℕ → List ℕ → Bool
pointers_bad g named ws ds = any_below (λ d. get_or named d false && any_below (pointer_bad g ws ds d) (physical_zones g)) g.drives
