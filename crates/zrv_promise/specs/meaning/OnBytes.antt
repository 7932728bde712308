-- THE PROMISE ON BYTES: the volume as a host in C has it. Its memory is the three byte ranges that are lent, the host holds the state's bytes and names drives by
-- a mask, and each call is what the function of include/zrv.h does to those ranges (zrv's EdgeCalls, which the functions' contracts cite). So whatever a host
-- in C does is an instance of the claim.
use Rattle.std.specs.Prelude.{◌≡◌, ℕ, ◌/◌, ◌%◌, ◌<◌, List, [], length, get_or, take, drop, replicate, eqb}
use Rattle.tables.specs.declared.Geometry.{Geometry}
use Rattle.tables.specs.meaning.Basics.{pick}
use Rattle.tables.specs.meaning.Tables.{Tables, device_of, TablesCut, TablesLoss}
use Rattle.tables.specs.meaning.LittleEndian.{number_le}
use Rattle.volume.specs.declared.Answer.{Answer}
use Rattle.volume.specs.declared.Answer.TheVariants.{Finished, Unfinished, Refused}
use Rattle.volume.specs.meaning.Answers.{CallResult}
use Rattle.volume.specs.meaning.Report.{ReportResult}
use Rattle.volume.specs.meaning.Rules.{Shown}
use Rattle.volume.specs.meaning.CallContracts.{view_state, is_set, ReadResult}
use Rattle.promise.specs.meaning.Claim.{Call, mounts, writes, flushes, resets, formats, compacts, Peeked, Volume, KeepsPromise}
use Rattle.promise.specs.meaning.OnDevice.{report_shown}
use Rattle.promise.specs.meaning.OnTables.{shown_in, on_tables}
use Rattle.zrv.specs.meaning.Bytes.{state_from, state_to}
use Rattle.zrv.specs.meaning.EdgeCalls.{named_of, Ranges, ranges, tables_in, Answered, without_place, format_edge, look_edge, mount_edge, write_edge, flush_edge, reset_edge, compact_edge, read_edge, peek_edge, lent_for, report_bytes, report_edge}

-- the ranges of the sectors and of the two tables
pub record LentBytes : Type 0 where
  pub sectors : List ℕ
  pub written : List ℕ
  pub durable : List ℕ

-- with the state's
abbrev pub ranges_of : LentBytes → List ℕ → Ranges
ranges_of m st = ranges m.sectors m.written m.durable st

-- the tables that they hold
abbrev pub tables_at : Geometry → LentBytes → Tables
tables_at g m = tables_in g (ranges_of m [])

-- what a function returns: 0 finished, 255 unfinished, else the refusal's number (a look and a mount in the low 32 bits; so their refusals for a log are
-- numbers here too, and where a refusal has to be 14 it is neither 6, 16 nor 17)
abbrev pub answer_of : ℕ → Answer
answer_of n = pick (eqb n 0) Finished (pick (eqb n 255) Unfinished (Refused n))

abbrev pub edge_of : Geometry → Call → ℕ → ℕ → Ranges → Answered Ranges
edge_of g mounts mask count m = without_place (mount_edge g mask count m)
edge_of g (writes w) mask count m = write_edge g mask w count m
edge_of g flushes mask count m = flush_edge g mask count m
edge_of g (resets z) mask count m = reset_edge g mask z count m
edge_of g (formats array) mask count m = format_edge g mask array count m
edge_of g (compacts d) mask count m = compact_edge g mask d count m

abbrev pub bytes_result : Answered Ranges → CallResult LentBytes (List ℕ)
bytes_result e = record { answer = answer_of e.code; memory = record { sectors = e.left.sectors; written = e.left.written; durable = e.left.durable }; state = e.left.state }

abbrev pub read_bytes : Answered (List ℕ) → ReadResult
read_bytes e = record { answer = answer_of e.code; buffer = e.left }

-- the part that lies where the eight bytes of place say
abbrev pub peeked_bytes : Geometry → Answered (List ℕ) → LentBytes → Peeked
peeked_bytes g e m = record { number = e.code; from = number_le e.left; part = pick (eqb e.code 0) (take g.sector (drop (number_le e.left) m.sectors)) [] }

-- eight bytes for a place
abbrev pub no_place : List ℕ
no_place = replicate 8 0

-- what a report returns: its answer in the low 32 bits, the number of descriptors in the high 32
abbrev pub reported_bytes : Answered (List ℕ) → ReportResult (List ℕ)
reported_bytes e = record { answer = answer_of (e.code % 4294967296); number = e.code / 4294967296; list = e.left }

-- the bytes of a report of the conditions shown
abbrev pub shown_bytes : Geometry → Shown → List ℕ → ReportResult (List ℕ)
shown_bytes g k list = reported_bytes (report_bytes (report_shown g k (lent_for list)) list)

-- what a cut or a loss leaves is bytes, as many as before
pub record StillBytes (m u : LentBytes) : Type 0 where
  pub written_long : length u.written ≡ length m.written
  pub durable_long : length u.durable ≡ length m.durable
  pub written_bytes : (i : ℕ) → get_or u.written i 0 < 256
  pub durable_bytes : (i : ℕ) → get_or u.durable i 0 < 256

abbrev pub on_bytes : Geometry → Volume
on_bytes g = record {
  Memory = LentBytes;
  State = List ℕ;
  Names = ℕ;
  is_named = λ mask. is_set (named_of mask);
  call = λ c mask st count m. bytes_result (edge_of g c mask count (ranges_of m st));
  look = λ mask st m. bytes_result (without_place (look_edge g mask (ranges_of m st)));
  read = λ mask st a k out m. read_bytes (read_edge g mask a k (ranges_of m st) out);
  peek = λ mask st a m. peeked_bytes g (peek_edge g mask a (ranges_of m st) no_place) m;
  Listing = List ℕ;
  report = λ st list. reported_bytes (report_edge g st list);
  shows = λ mask m u. shown_in g (named_of mask) (tables_at g m) (tables_at g u);
  state_of = λ mask m u. state_to g ((on_tables g).state_of (named_of mask) (tables_at g m) (tables_at g u));
  finished_report = shown_bytes g;
  view = λ st. view_state (state_from g st);
  seen = λ m. device_of g (tables_at g m);
  CutTo = λ x m u. StillBytes m u × TablesCut g x (tables_at g m) (tables_at g u);
  LossTo = λ x m u. StillBytes m u × TablesLoss g x (tables_at g m) (tables_at g u);
}

abbrev pub BytesClaim : Type 0
BytesClaim = (g : Geometry) → KeepsPromise g (on_bytes g)
