-- Each call as its contract states it: on the flat tables, with the code's own state and answers. The rules (Refusals, Calls, Mount) speak of the
-- device that the tables stand for and of the state as `view_state` shows it; here they decide what is stored in the tables, and which
-- state and answer are handed back.
use Rattle.std.specs.Prelude.{Bool, false, ◌-◌, ℕ, ◌+◌, ◌++◌, List, [], length, get_or, replicate, ltb, eqb}
use Rattle.tables.specs.declared.Geometry.{Geometry}
use Rattle.tables.specs.meaning.Basics.{pick}
use Rattle.tables.specs.meaning.Device.{Store, Device}
use Rattle.tables.specs.meaning.Tables.{Tables, run_stores, pointers_bad, device_of, byte_at, sector_at}
use Rattle.volume.specs.declared.Condition.TheVariants.{Empty}
use Rattle.volume.specs.declared.Owner.TheVariants.{Nobody}
use Rattle.volume.specs.declared.ZoneRecord.{ZoneRecord}
use Rattle.volume.specs.declared.State.{State}
use Rattle.volume.specs.declared.Answer.{Answer}
use Rattle.volume.specs.declared.Answer.TheVariants.{Finished, Unfinished, Refused, BadLog}
use Rattle.volume.specs.declared.BadPlace.{BadPlace}
use Rattle.volume.specs.declared.Outcome.{Outcome}
use Rattle.volume.specs.meaning.State.{StateView, with_shares, max_shares, call_present, pointer_in}
use Rattle.volume.specs.meaning.Refusals.{Verdict, refuse, accept, first_refusal, TableLengths, WriteAsked, zone_asked, flush_rows, reset_rows, write_rows, compact_rows, zone_of, offset_of, format_rows, look_rows, mount_rows, read_rows, peek_rows}
use Rattle.volume.specs.meaning.Calls.{flush_stores, flush_state, reset_state, format_stores, format_state}
use Rattle.volume.specs.meaning.Hosts.{fresh_shares, written_state, compact_state}
use Rattle.volume.specs.meaning.Answers.{lost_in, sectors_in, left_out, named_drives, Place, place_of, present_in, lost_drive_in, bad_place_of, refused_at, told_at}
use Rattle.volume.specs.meaning.Roles.{Roles, roles, by_roles}
use Rattle.volume.specs.meaning.Emptying.{write_all, reset_all, compact_stores}
use Rattle.tables.specs.meaning.Below.{tabulate, tabulate_from}
use Rattle.volume.specs.meaning.Rules.{value_at, ZoneShown}
use Rattle.volume.specs.declared.ZoneLook.{ZoneLook}
use Rattle.tables.specs.meaning.Lists.{concat}
use Rattle.tables.specs.meaning.Geometry.{max_zones}
use Rattle.volume.specs.meaning.Mount.{phases_before_entries, phases_of_parity_logs, phases_of_entries, shown_state}

-- ---- the state. What a call makes of it is defined once, as the rules see it (Calls, Mount); `state_held` brings it back into the code's struct.
-- past its end the array of records is all empty
abbrev pub blank_record : ZoneRecord
blank_record = record { generation = 0; condition = Empty; owner = Nobody }

abbrev pub record_at : State → ℕ → ZoneRecord
record_at s z = get_or s.zones z blank_record

-- as the rules see it
abbrev pub view_state : State → StateView
view_state s = record { lost = s.lost; generation = λ z. (record_at s z).generation; condition = λ z. (record_at s z).condition; owner = λ z. (record_at s z).owner; share = λ i. get_or s.shares i 0 }

-- and back: of the first n zones what the rules see, blank past them. A format and a look hand on what is so of the volume's zones; a write, a flush and a
-- reset leave records past the last zone as they were (n = max_zones).
abbrev pub record_seen : StateView → ℕ → ZoneRecord
record_seen v z = record { generation = v.generation z; condition = v.condition z; owner = v.owner z }

unfoldable pub records_below : (ℕ → ZoneRecord) → ℕ → List ZoneRecord
records_below f n = tabulate f n ++ replicate (max_zones - n) blank_record

abbrev pub state_held : ℕ → StateView → State
state_held n v = record { lost = v.lost; zones = records_below (record_seen v) n; shares = tabulate v.share max_shares }

-- the drives named, as the rules see them
abbrev pub is_set : List Bool → ℕ → Bool
is_set named d = get_or named d false

-- ---- answers, by document 01's numbers: 0 finished, 255 unfinished, else the refusal's number
abbrev pub answer_number : Answer → ℕ
answer_number Finished = 0
answer_number Unfinished = 255
answer_number (Refused n) = n
answer_number (BadLog b) = b.number

-- the number of a refusal, 0 if there is none
abbrev pub verdict_number : Verdict → ℕ
verdict_number (refuse n) = n
verdict_number accept = 0

-- the tables' lengths
abbrev pub lengths_of : Tables → TableLengths
lengths_of t = record { sectors = length t.sectors; written = length t.written; durable = length t.durable }

-- row 3 by the tables' numbers
abbrev pub bad_in : Geometry → List Bool → Tables → Bool
bad_in g named t = pointers_bad g named t.written t.durable

-- the drives' roles in the tables, and the device by them
abbrev pub roles_of : Geometry → Tables → ℕ → Roles
roles_of g t = roles g (device_of g t)

abbrev pub seen_in : Geometry → Tables → Device
seen_in g t = by_roles g (device_of g t)

-- ---- a storing call: the outcome, and the tables that it leaves
pub record Result : Type 0 where
  pub outcome : Outcome
  pub tables : Tables

-- n: the refusal's number, 0 if there is none. Refused: nothing is stored and the state stays. Unfinished: the count stopped the stores, and the
-- state stays. Finished: the new state.
abbrev pub storing_on : Geometry → ℕ → List Store → State → State → ℕ → Tables → Result
storing_on g n ss new old count t = record {
  outcome = pick (eqb n 0) (pick (ltb count (length ss)) (record { answer = Unfinished; state = old }) (record { answer = Finished; state = new })) (record { answer = Refused n; state = old });
  tables = pick (eqb n 0) (run_stores g count ss t) t;
}

-- ==== flush
unfoldable pub flush_verdict : Geometry → List Bool → State → Tables → Verdict
flush_verdict g named s t = first_refusal (flush_rows g (lengths_of t) (bad_in g named t) (is_set named) (view_state s) (device_of g t))

unfoldable pub flush_on : Geometry → List Bool → State → ℕ → Tables → Result
flush_on g named s count t =
    storing_on g (verdict_number (flush_verdict g named s t)) (flush_stores g (call_present g (is_set named) (view_state s))) (state_held max_zones (flush_state (lost_in g (is_set named) (view_state s)) (view_state s))) s count t

-- ==== reset
unfoldable pub reset_verdict : Geometry → List Bool → State → ℕ → Tables → Verdict
reset_verdict g named s z t = first_refusal (reset_rows g (lengths_of t) (bad_in g named t) (is_set named) (view_state s) z (roles_of g t) (seen_in g t))

unfoldable pub reset_on : Geometry → List Bool → State → ℕ → ℕ → Tables → Result
reset_on g named s z count t =
    storing_on g (verdict_number (reset_verdict g named s z t)) (reset_all g (call_present g (is_set named) (view_state s)) (roles_of g t) (seen_in g t) (view_state s) z)
    (state_held max_zones (reset_state (lost_in g (is_set named) (view_state s)) (view_state s) z)) s count t

-- ==== write
unfoldable pub write_verdict : Geometry → List Bool → State → WriteAsked → Tables → Verdict
write_verdict g named s a t = first_refusal (write_rows g (lengths_of t) (bad_in g named t) (is_set named) (view_state s) a (roles_of g t) (seen_in g t))

-- the pointer of zone z in the state
abbrev pub pointer_of : State → ℕ → ℕ
pointer_of s z = pointer_in (record_at s z).condition

unfoldable pub write_on : Geometry → List Bool → State → WriteAsked → ℕ → Tables → Result
write_on g named s a count t =
    storing_on g (verdict_number (write_verdict g named s a t)) (write_all g (call_present g (is_set named) (view_state s)) (roles_of g t) (seen_in g t) (view_state s) (zone_asked g a) (sectors_in g a.count a.buffer))
    (state_held max_zones (written_state g (call_present g (is_set named) (view_state s)) (lost_in g (is_set named) (view_state s)) a.host (view_state s) (zone_asked g a) a.count)) s count t

-- ==== compact: drive d
unfoldable pub compact_verdict : Geometry → List Bool → State → ℕ → Tables → Verdict
compact_verdict g named s d t = first_refusal (compact_rows g (lengths_of t) (bad_in g named t) (is_set named) (view_state s) d (roles_of g t) (seen_in g t))

unfoldable pub compact_on : Geometry → List Bool → State → ℕ → ℕ → Tables → Result
compact_on g named s d count t =
    storing_on g (verdict_number (compact_verdict g named s d t)) (compact_stores g (call_present g (is_set named) (view_state s)) (roles_of g t) (seen_in g t) (view_state s) d)
    (state_held max_zones (compact_state g (call_present g (is_set named) (view_state s)) (lost_in g (is_set named) (view_state s)) (seen_in g t) (view_state s) d)) s count t

-- ==== format
unfoldable pub format_verdict : Geometry → List Bool → Tables → Verdict
format_verdict g named t = first_refusal (format_rows g (lengths_of t) (bad_in g named t) (is_set named) (device_of g t))

-- old: what the host held before; a format neither reads nor changes it, and hands it back if it is refused or unfinished
unfoldable pub format_on : Geometry → List Bool → ℕ → State → ℕ → Tables → Result
format_on g named array old count t =
    storing_on g (verdict_number (format_verdict g named t)) (format_stores g (named_drives g (is_set named)) (left_out g (is_set named)) array)
    (state_held g.zones (with_shares (fresh_shares g (named_drives g (is_set named))) (format_state (left_out g (is_set named))))) old count t

-- ---- what is shown of a zone, as the code's record: all but the values
abbrev pub zone_look_of : ZoneShown → ZoneLook
zone_look_of s = record { generation = s.generation; condition = s.condition; pointer = s.pointer; by_reset = s.by_reset; clean = s.clean }

-- ==== look
unfoldable pub look_verdict : Geometry → List Bool → Tables → Verdict
look_verdict g named t = first_refusal (look_rows g (lengths_of t) (bad_in g named t) (is_set named) (roles_of g t) (seen_in g t))

-- the first bad place of the logs that a look reads
abbrev pub bad_place_on : Geometry → List Bool → Tables → BadPlace
bad_place_on g named t = bad_place_of g (is_set named) (device_of g t)

-- refused: the state stays; else what is shown is the state from then on. Nothing is stored.
unfoldable pub look_on : Geometry → List Bool → State → Tables → Outcome
look_on g named old t =
    pick (eqb (verdict_number (look_verdict g named t)) 0)
    (record { answer = Finished; state = state_held g.zones (shown_state g (present_in g (is_set named) (device_of g t)) (lost_drive_in g (is_set named) (device_of g t)) (device_of g t)) })
    (record { answer = refused_at (bad_place_on g named t) (verdict_number (look_verdict g named t)); state = old })

-- ==== mount
unfoldable pub mount_verdict : Geometry → List Bool → Tables → Verdict
mount_verdict g named t = first_refusal (mount_rows g (lengths_of t) (bad_in g named t) (is_set named) (roles_of g t) (seen_in g t))

-- the stores up to step 9; of step 10; of step 11, each by what those before have made of the tables
unfoldable pub stores_before : Geometry → (ℕ → Bool) → ℕ → Tables → List Store
stores_before g present x t = concat (phases_before_entries g present x (device_of g t))

abbrev pub after_stores : Geometry → List Store → Tables → Tables
after_stores g ss t = run_stores g (length ss) ss t

unfoldable pub parity_log_stores : Geometry → (ℕ → Bool) → ℕ → Tables → List Store
parity_log_stores g present x t = concat (phases_of_parity_logs g present x (device_of g t) (device_of g (after_stores g (stores_before g present x t) t)))

unfoldable pub stores_to_parity_logs : Geometry → (ℕ → Bool) → ℕ → Tables → List Store
stores_to_parity_logs g present x t = stores_before g present x t ++ parity_log_stores g present x t

unfoldable pub mount_stores_on : Geometry → (ℕ → Bool) → ℕ → Tables → List Store
mount_stores_on g present x t =
    stores_to_parity_logs g present x t ++ concat (phases_of_entries g present x (device_of g t) (device_of g (after_stores g (stores_to_parity_logs g present x t) t)))

-- "It shows what a look shows after its last store"
unfoldable pub mount_shown_on : Geometry → (ℕ → Bool) → ℕ → Tables → State
mount_shown_on g present x t = state_held g.zones (shown_state g present x (device_of g (after_stores g (mount_stores_on g present x t) t)))

-- its answer tells the bad place
abbrev pub telling_at : BadPlace → Result → Result
telling_at b r = record { outcome = record { answer = told_at b r.outcome.answer; state = r.outcome.state }; tables = r.tables }

unfoldable pub mount_on : Geometry → List Bool → State → ℕ → Tables → Result
mount_on g named old count t = telling_at (bad_place_on g named t)
    (storing_on g (verdict_number (mount_verdict g named t)) (mount_stores_on g (present_in g (is_set named) (device_of g t)) (lost_drive_in g (is_set named) (device_of g t)) t)
    (mount_shown_on g (present_in g (is_set named) (device_of g t)) (lost_drive_in g (is_set named) (device_of g t)) t) old count t)

-- ==== read: its answer, and its buffer
unfoldable pub read_number : Geometry → List Bool → State → ℕ → ℕ → ℕ → Tables → ℕ
read_number g named s a count len t = verdict_number (first_refusal (read_rows g (lengths_of t) (bad_in g named t) (is_set named) (view_state s) a count len (seen_in g t)))

pub record ReadResult : Type 0 where
  pub answer : Answer
  pub buffer : List ℕ

-- the values, sector after sector
unfoldable pub values_on : Geometry → (ℕ → Bool) → Device → ℕ → ℕ → ℕ → ℕ → List ℕ
values_on g present v z n offset count = concat (tabulate_from (value_at g present v z n) offset count)

unfoldable pub read_on : Geometry → List Bool → State → ℕ → ℕ → List ℕ → Tables → ReadResult
read_on g named s a count out t = record {
  answer = pick (eqb (read_number g named s a count (length out) t) 0) Finished (Refused (read_number g named s a count (length out) t));
  buffer = pick (eqb (read_number g named s a count (length out) t) 0) (values_on g (call_present g (is_set named) (view_state s)) (seen_in g t) (zone_of g a) (record_at s (zone_of g a)).generation (offset_of g a) count) out;
}

-- ==== peek
unfoldable pub peek_number : Geometry → List Bool → State → ℕ → Tables → ℕ
peek_number g named s a t = verdict_number (first_refusal (peek_rows g (lengths_of t) (bad_in g named t) (is_set named) (view_state s) a (seen_in g t)))

abbrev pub part_at : Geometry → List ℕ → Place → List ℕ
part_at g xs p = sector_at g xs p.drive p.zone p.sector

-- the first byte of a place, counted from the first of the sectors
abbrev pub byte_of : Geometry → Place → ℕ
byte_of g p = byte_at g p.drive p.zone p.sector

-- "gives the part of the lent sectors where that sector sits"; "a refused peek gives an empty part": its bytes, and where in the sectors it begins
unfoldable pub peek_on : Geometry → List Bool → State → ℕ → Tables → List ℕ
peek_on g named s a t = pick (eqb (peek_number g named s a t) 0) (part_at g t.sectors (place_of g a)) []

unfoldable pub peek_from : Geometry → List Bool → State → ℕ → Tables → ℕ
peek_from g named s a t = pick (eqb (peek_number g named s a t) 0) (byte_of g (place_of g a)) 0

-- the pointer (a block of memory, and an offset in it) n bytes past another
abbrev pub past : ℕ → ℕ × ℕ → ℕ × ℕ
past n p = (p.0, n + p.1)
