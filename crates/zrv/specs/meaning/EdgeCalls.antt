-- The functions of the C edge on bytes and numbers: each is the call on tables (volume's CallContracts), made on what the bytes hold. Before it, bytes
-- that hold no tables or no state are refused. In each: g the geometry, mask the drives named, count the count of stores, m the byte ranges.
use Rattle.std.specs.Prelude.{Bool, ◌&&◌, not, ℕ, zero, suc, ◌+◌, ◌-◌, ◌*◌, ◌/◌, ◌%◌, List, [], ◌∷◌, ◌++◌, length, get_or, drop, replicate, eqb}
use Rattle.tables.specs.declared.Geometry.{Geometry}
use Rattle.tables.specs.meaning.Basics.{pick}
use Rattle.tables.specs.meaning.Below.{each_below}
use Rattle.tables.specs.meaning.Geometry.{geometry_of, cells, max_zones}
use Rattle.tables.specs.meaning.GeometryTest.{is_valid}
use Rattle.tables.specs.meaning.Tables.{Tables, tables_of}
use Rattle.volume.specs.declared.Answer.{Answer}
use Rattle.volume.specs.declared.Answer.TheVariants.{Finished, Unfinished, Refused, BadLog}
use Rattle.volume.specs.declared.State.{State}
use Rattle.volume.specs.declared.Outcome.{Outcome}
use Rattle.volume.specs.meaning.State.{max_shares}
use Rattle.volume.specs.meaning.Refusals.{state_within, WriteAsked}
use Rattle.volume.specs.meaning.CallContracts.{blank_record, view_state, answer_number, Result, flush_on, look_on, mount_on, format_on, reset_on, write_on, compact_on, ReadResult, read_on, peek_number, byte_of}
use Rattle.volume.specs.declared.ZoneDescriptor.{ZoneDescriptor}
use Rattle.volume.specs.declared.ReportedCondition.TheVariants as told
use Rattle.volume.specs.meaning.Report.{ReportResult, report_on}
use Rattle.zrv.specs.meaning.Bytes.{state_bytes, table_from, table_to, state_from, state_to, state_well_formed, descriptor_to}
use Rattle.tables.specs.meaning.LittleEndian.{bytes_le}
use Rattle.volume.specs.meaning.Answers.{place_of}

-- ---- the version of the interface: the major number times 65,536, and the minor one
abbrev pub version : ℕ
version = 131072

-- ---- numbers
-- the geometry of a call's first five numbers
unfoldable pub shape_of : ℕ → ℕ → ℕ → ℕ → ℕ → Geometry
shape_of d b u l c = geometry_of d b u l c

-- the lowest k bits of a number
abbrev pub bits_of : ℕ → ℕ → List Bool
bits_of zero m = []
bits_of (suc k) m = eqb (m % 2) 1 ∷ bits_of k (m / 2)

-- the drives that a mask names: drive d by its bit d; bits 8 and above name nothing
unfoldable pub named_of : ℕ → List Bool
named_of m = bits_of 8 m

-- ---- what is refused before the call
-- the lengths of the state and of the two tables, in bytes
unfoldable pub sizes_fit : Geometry → ℕ → ℕ → ℕ → Bool
sizes_fit g n w d = eqb n state_bytes && (eqb w (cells g * 4) && eqb d (cells g * 4))

-- a state of its length that has not its form, or is out of document 01's bounds
unfoldable pub state_bad : Geometry → List ℕ → Bool
state_bad g st = eqb (length st) state_bytes && not (state_well_formed g st && state_within g (view_state (state_from g st)))

-- a call that reads the state
unfoldable pub input_number : Geometry → List ℕ → ℕ → ℕ → ℕ
input_number g st w d = pick (is_valid g) (pick (state_bad g st) 1 (pick (sizes_fit g (length st) w d) 0 2)) 1

-- a call that only writes it
unfoldable pub sizes_number : Geometry → ℕ → ℕ → ℕ → ℕ
sizes_number g n w d = pick (is_valid g) (pick (sizes_fit g n w d) 0 2) 1

-- ---- what the ranges hold
-- the bytes of the sectors, the two tables and the state
pub record Ranges : Type 0 where
  pub sectors : List ℕ
  pub written : List ℕ
  pub durable : List ℕ
  pub state : List ℕ

abbrev pub ranges : List ℕ → List ℕ → List ℕ → List ℕ → Ranges
ranges xs wb db st = record { sectors = xs; written = wb; durable = db; state = st }

-- the tables
abbrev pub tables_in : Geometry → Ranges → Tables
tables_in g m = tables_of m.sectors (table_from (cells g) m.written) (table_from (cells g) m.durable)

-- the state
abbrev pub state_in : Geometry → Ranges → State
state_in g m = state_from g m.state

-- in place of the state that a format, look or mount never reads
unfoldable pub unread_state : State
unread_state = record { lost = 0; zones = replicate max_zones blank_record; shares = replicate max_shares 0 }

-- ---- what a call leaves
-- what a call returns, and what it leaves of what it may change
pub record Answered (A : Type 0) : Type 0 where
  pub code : ℕ
  pub left : A

abbrev pub answered : {A : Type 0} → ℕ → A → Answered A
answered n a = record { code = n; left = a }

-- some return their answer in the low 32 bits, and a number in the high 32
abbrev pub with_number : ℕ → ℕ → ℕ
with_number answer n = answer + 4294967296 * n

-- n: what is refused before the call, 0 if nothing is; refused, everything stays
unfoldable pub unless_refused : {A : Type 0} → ℕ → Answered A → A → Answered A
unless_refused n r a = pick (eqb n 0) r (answered n a)

-- a call that reads the state
abbrev pub reading_state : {A : Type 0} → Geometry → Ranges → Answered A → A → Answered A
reading_state g m r a = unless_refused (input_number g m.state (length m.written) (length m.durable)) r a

-- a call that only writes it
abbrev pub writing_state : Geometry → Ranges → Answered Ranges → Answered Ranges
writing_state g m r = unless_refused (sizes_number g (length m.state) (length m.written) (length m.durable)) r m

-- the state's bytes: new only where the call is finished
unfoldable pub state_after : Geometry → Outcome → List ℕ → List ℕ
state_after g o st = pick (eqb (answer_number o.answer) 0) (state_to g o.state) st

-- m: the sectors and the tables as the call leaves them, the state as it was
abbrev pub handed_back : Geometry → Outcome → Ranges → Answered Ranges
handed_back g o m = answered (answer_number o.answer) (ranges m.sectors m.written m.durable (state_after g o m.state))

-- a call that may store in all three tables
unfoldable pub stored_all : Geometry → Result → Ranges → Answered Ranges
stored_all g r m = handed_back g r.outcome (ranges r.tables.sectors (table_to r.tables.written) (table_to r.tables.durable) m.state)

-- a call that flushes alone: only `durable` changes
unfoldable pub stored_flushes : Geometry → Result → Ranges → Answered Ranges
stored_flushes g r m = handed_back g r.outcome (ranges m.sectors m.written (table_to r.tables.durable) m.state)

-- a look and a mount return a place beside their answer: with 6, 16 and 17 that of the first bad sector of a log, its drive, physical zone and number in
-- the zone; else 0
abbrev pub place_number : Answer → ℕ
place_number Finished = 0
place_number Unfinished = 0
place_number (Refused n) = 0
place_number (BadLog b) = b.drive * 16777216 + (b.zone * 65536 + b.sector)

abbrev pub with_place : Answer → Answered Ranges → Answered Ranges
with_place a r = answered (with_number r.code (place_number a)) r.left

-- with its answer alone
abbrev pub without_place : Answered Ranges → Answered Ranges
without_place r = answered (r.code % 4294967296) r.left

-- ---- the calls that store, and look: each first as the call on what the ranges hold
abbrev pub format_of_bytes : Geometry → ℕ → ℕ → ℕ → Ranges → Result
format_of_bytes g mask array count m = format_on g (named_of mask) array unread_state count (tables_in g m)

abbrev pub format_edge : Geometry → ℕ → ℕ → ℕ → Ranges → Answered Ranges
format_edge g mask array count m = writing_state g m (stored_all g (format_of_bytes g mask array count m) m)

abbrev pub look_of_bytes : Geometry → ℕ → Ranges → Outcome
look_of_bytes g mask m = look_on g (named_of mask) unread_state (tables_in g m)

abbrev pub look_edge : Geometry → ℕ → Ranges → Answered Ranges
look_edge g mask m = writing_state g m (with_place (look_of_bytes g mask m).answer (handed_back g (look_of_bytes g mask m) m))

abbrev pub mount_of_bytes : Geometry → ℕ → ℕ → Ranges → Result
mount_of_bytes g mask count m = mount_on g (named_of mask) unread_state count (tables_in g m)

abbrev pub mount_edge : Geometry → ℕ → ℕ → Ranges → Answered Ranges
mount_edge g mask count m = writing_state g m (with_place (mount_of_bytes g mask count m).outcome.answer (stored_all g (mount_of_bytes g mask count m) m))

-- write by a host of k sectors, the given bytes, at an address
abbrev pub write_of : ℕ → ℕ → ℕ → List ℕ → WriteAsked
write_of host address k bytes = record { host = host; address = address; count = k; buffer = bytes }

abbrev pub write_of_bytes : Geometry → ℕ → WriteAsked → ℕ → Ranges → Result
write_of_bytes g mask a count m = write_on g (named_of mask) (state_in g m) a count (tables_in g m)

abbrev pub write_edge : Geometry → ℕ → WriteAsked → ℕ → Ranges → Answered Ranges
write_edge g mask a count m = reading_state g m (stored_all g (write_of_bytes g mask a count m) m) m

abbrev pub flush_of_bytes : Geometry → ℕ → ℕ → Ranges → Result
flush_of_bytes g mask count m = flush_on g (named_of mask) (state_in g m) count (tables_in g m)

abbrev pub flush_edge : Geometry → ℕ → ℕ → Ranges → Answered Ranges
flush_edge g mask count m = reading_state g m (stored_flushes g (flush_of_bytes g mask count m) m) m

-- reset of zone z
abbrev pub reset_of_bytes : Geometry → ℕ → ℕ → ℕ → Ranges → Result
reset_of_bytes g mask z count m = reset_on g (named_of mask) (state_in g m) z count (tables_in g m)

abbrev pub reset_edge : Geometry → ℕ → ℕ → ℕ → Ranges → Answered Ranges
reset_edge g mask z count m = reading_state g m (stored_all g (reset_of_bytes g mask z count m) m) m

-- compact of drive d
abbrev pub compact_of_bytes : Geometry → ℕ → ℕ → ℕ → Ranges → Result
compact_of_bytes g mask d count m = compact_on g (named_of mask) (state_in g m) d count (tables_in g m)

abbrev pub compact_edge : Geometry → ℕ → ℕ → ℕ → Ranges → Answered Ranges
compact_edge g mask d count m = reading_state g m (stored_all g (compact_of_bytes g mask d count m) m) m

-- ---- the calls that answer in a buffer of their own, and change nothing else
-- read of k sectors from address a
unfoldable pub read_answer : ReadResult → Answered (List ℕ)
read_answer r = answered (answer_number r.answer) r.buffer

abbrev pub read_edge : Geometry → ℕ → ℕ → ℕ → Ranges → List ℕ → Answered (List ℕ)
read_edge g mask a k m out = reading_state g m (read_answer (read_on g (named_of mask) (state_in g m) a k out (tables_in g m))) out

-- peek: the place of a held sector, as its offset in `sectors`, eight bytes
abbrev pub offset_at : Geometry → ℕ → ℕ
offset_at g a = byte_of g (place_of g a)

-- n: the peek's number
unfoldable pub place_answer : Geometry → ℕ → ℕ → List ℕ → Answered (List ℕ)
place_answer g a n place = answered n (pick (eqb n 0) (bytes_le 8 (offset_at g a)) place)

-- a place that is not eight bytes is refused too, after what others refuse
unfoldable pub place_sized : List ℕ → Answered (List ℕ) → Answered (List ℕ)
place_sized place r = pick (eqb (length place) 8) r (answered 2 place)

abbrev pub peek_edge : Geometry → ℕ → ℕ → Ranges → List ℕ → Answered (List ℕ)
peek_edge g mask a m place = reading_state g m (place_sized place (place_answer g a (peek_number g (named_of mask) (state_in g m) a (tables_in g m)) place)) place

-- report, from the state alone: what is refused before it
unfoldable pub report_input : Geometry → List ℕ → ℕ
report_input g st = pick (is_valid g) (pick (state_bad g st) 1 (pick (eqb (length st) state_bytes) 0 2)) 1

-- a list of so many bytes has room for so many descriptors
abbrev pub descriptors_in : List ℕ → ℕ
descriptors_in list = length list / 32

-- so many descriptors, lent to the call in place of the list's bytes: what they hold is never read
abbrev pub unread_descriptor : ZoneDescriptor
unread_descriptor = record { start = 0; capacity = 0; pointer = 0; condition = told.Empty }

abbrev pub lent_for : List ℕ → List ZoneDescriptor
lent_for list = replicate (descriptors_in list) unread_descriptor

-- the bytes of the first n descriptors in place of the list's; those past them, and bytes that are no whole descriptor, stay
unfoldable pub filled_bytes : List ZoneDescriptor → ℕ → List ℕ → List ℕ
filled_bytes ds n list = each_below (λ z. descriptor_to (get_or ds z unread_descriptor)) n ++ drop (n * 32) list

-- a report's answer with the number of descriptors, and what it leaves of the list
abbrev pub report_bytes : ReportResult (List ZoneDescriptor) → List ℕ → Answered (List ℕ)
report_bytes r list = answered (with_number (answer_number r.answer) r.number) (filled_bytes r.list r.number list)

abbrev pub report_of_bytes : Geometry → List ℕ → List ℕ → ReportResult (List ZoneDescriptor)
report_of_bytes g st list = report_on g (view_state (state_from g st)) (lent_for list)

abbrev pub report_edge : Geometry → List ℕ → List ℕ → Answered (List ℕ)
report_edge g st list = unless_refused (report_input g st) (report_bytes (report_of_bytes g st list) list) list
