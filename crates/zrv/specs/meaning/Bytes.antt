-- What the bytes of the C edge mean: document 01's "state and tables pass as bytes". A table is one little-endian 32-bit number for each drive and zone.
-- A state is 328 bytes: byte 0 the lost drive or 255, bytes 1 to 7 zero, then 16 records of 16 bytes (generation 8, condition 1, owner 1, two zeros, pointer 4),
-- then for each of 8 drives what is left of host 0's share of its parity log, and of host 1's, 4 bytes each.
-- A zone's descriptor is 32 bytes: start 8, capacity 8, pointer 8, condition 1, seven zeros.
use Rattle.std.specs.Prelude.{Bool, ℕ, zero, suc, ◌+◌, ◌-◌, ◌*◌, ◌/◌, ◌%◌, List, [], ◌++◌, length, get_or, drop, replicate}
use Rattle.tables.specs.declared.Geometry.{Geometry}
use Rattle.tables.specs.meaning.Below.{tabulate}
use Rattle.tables.specs.meaning.LittleEndian.{bytes_le, read_le, same_bytes}
use Rattle.volume.specs.declared.ZoneRecord.{ZoneRecord}
use Rattle.volume.specs.declared.State.{State}
use Rattle.volume.specs.declared.ZoneDescriptor.{ZoneDescriptor}
use Rattle.volume.specs.meaning.State.{pointer_in, condition_number, condition_of_number, owner_number, owner_of_number, hosts, max_shares}
use Rattle.volume.specs.meaning.CallContracts.{record_at, records_below}
use Rattle.volume.specs.meaning.Report.{told_number}

-- ---- tables
-- the table of n numbers that the bytes hold
unfoldable pub table_from : ℕ → List ℕ → List ℕ
table_from n xs = tabulate (λ i. read_le 4 xs (i * 4)) n

-- the bytes of a table's first n numbers
abbrev pub words_to : ℕ → List ℕ → List ℕ
words_to zero ts = []
words_to (suc n) ts = words_to n ts ++ bytes_le 4 (get_or ts n 0)

-- the bytes of a table
unfoldable pub table_to : List ℕ → List ℕ
table_to ts = words_to (length ts) ts

-- ---- a state's bytes: those of its head, of each zone's record, and of each share
abbrev pub head_bytes : ℕ
head_bytes = 8

abbrev pub record_bytes : ℕ
record_bytes = 16

-- where the shares begin
abbrev pub shares_start : ℕ
shares_start = 264

abbrev pub share_bytes : ℕ
share_bytes = 4

abbrev pub all_share_bytes : ℕ
all_share_bytes = 64

abbrev pub state_bytes : ℕ
state_bytes = 328

-- ---- a zone's record
-- sixteen bytes. A condition's number and an owner's are below 256, so the four bytes of `kind_of` are the one, the other, and two zeros. What is no such number
-- reads as empty or as nobody, and then is not of the form
abbrev pub kind_of : ZoneRecord → ℕ
kind_of r = condition_number r.condition + 256 * owner_number r.owner

unfoldable pub record_to : ZoneRecord → List ℕ
record_to r = bytes_le 8 r.generation ++ bytes_le 4 (kind_of r) ++ bytes_le 4 (pointer_in r.condition % 4294967296)

-- the record of a generation, a kind and a pointer
abbrev pub record_of : ℕ → ℕ → ℕ → ZoneRecord
record_of generation kind pointer = record { generation = generation; condition = condition_of_number (kind % 256) pointer; owner = owner_of_number (kind / 256) }

-- the record in the sixteen bytes from `at`
unfoldable pub record_from : List ℕ → ℕ → ZoneRecord
record_from xs at = record_of (read_le 8 xs at) (read_le 4 xs (at + 8)) (read_le 4 xs (at + 12))

-- ---- the state, of a volume of this geometry
-- the lost drive and the records of the first n zones
abbrev pub records_to : ℕ → State → List ℕ
records_to zero s = bytes_le 8 (s.lost % 256)
records_to (suc n) s = records_to n s ++ record_to (record_at s n)

-- so many shares it has
abbrev pub shares_of : Geometry → ℕ
shares_of g = g.drives * hosts

-- before anything is put there
abbrev pub no_records : List ℕ
no_records = replicate shares_start 0

abbrev pub no_shares : List ℕ
no_shares = replicate all_share_bytes 0

-- the head with the records of the first n zones, and the first k shares: all zero past them
abbrev pub records_part : ℕ → State → List ℕ
records_part n s = records_to n s ++ drop (head_bytes + record_bytes * n) no_records

abbrev pub shares_part : ℕ → State → List ℕ
shares_part k s = words_to k s.shares ++ drop (k * share_bytes) no_shares

unfoldable pub state_to : Geometry → State → List ℕ
state_to g s = records_part g.zones s ++ shares_part (shares_of g) s

-- the shares of which the first k are f's, and those past them 0
abbrev pub shares_below : (ℕ → ℕ) → ℕ → List ℕ
shares_below f k = tabulate f k ++ replicate (max_shares - k) 0

-- the state that bytes hold
unfoldable pub state_from : Geometry → List ℕ → State
state_from g xs = record {
  lost = read_le 8 xs 0;
  zones = records_below (λ z. record_from xs (head_bytes + record_bytes * z)) g.zones;
  shares = shares_below (λ i. read_le 4 xs (shares_start + i * share_bytes)) (shares_of g);
}

-- whether bytes have the form: what is read from them, written again, is they
unfoldable pub state_well_formed : Geometry → List ℕ → Bool
state_well_formed g xs = same_bytes (state_to g (state_from g xs)) xs

-- ---- a zone's descriptor: a condition's number is below 256, so its eight bytes are itself and seven zeros
unfoldable pub descriptor_to : ZoneDescriptor → List ℕ
descriptor_to d = bytes_le 8 d.start ++ bytes_le 8 d.capacity ++ bytes_le 8 d.pointer ++ bytes_le 8 (told_number d.condition)
