-- THE PROMISE ON THE TABLES: the volume as the code is. Its memory is the lent tables, the host holds the code's own state, and each call is what its contract
-- in volume's src/ states (CallContracts), on any input. So the claim is about the code, and no reader has to join a model to it.
use Rattle.std.specs.Prelude.{Bool, ℕ, List}
use Rattle.tables.specs.declared.Geometry.{Geometry}
use Rattle.tables.specs.meaning.Tables.{Tables, TablesCut, TablesLoss, device_of}
use Rattle.volume.specs.declared.State.{State}
use Rattle.volume.specs.declared.Outcome.{Outcome}
use Rattle.volume.specs.declared.ZoneDescriptor.{ZoneDescriptor}
use Rattle.volume.specs.meaning.Rules.{Shown}
use Rattle.volume.specs.meaning.Answers.{CallResult}
use Rattle.volume.specs.meaning.CallContracts.{view_state, is_set, Result, flush_on, reset_on, write_on, format_on, compact_on, look_on, state_held, mount_on, read_on, peek_number, peek_from, peek_on}
use Rattle.volume.specs.meaning.Report.{report_on}
use Rattle.promise.specs.meaning.Claim.{Call, mounts, writes, flushes, resets, formats, compacts, Volume, KeepsPromise}
use Rattle.promise.specs.meaning.OnDevice.{shown_by, state_shown, report_shown}

abbrev pub result_on : Geometry → Call → List Bool → State → ℕ → Tables → Result
result_on g mounts named state stop t = mount_on g named state stop t
result_on g (writes w) named state stop t = write_on g named state w stop t
result_on g flushes named state stop t = flush_on g named state stop t
result_on g (resets z) named state stop t = reset_on g named state z stop t
result_on g (formats array) named state stop t = format_on g named array state stop t
result_on g (compacts d) named state stop t = compact_on g named state d stop t

abbrev pub result_of : Outcome → Tables → CallResult Tables State
result_of o t = record { answer = o.answer; memory = t; state = o.state }

abbrev pub call_result : Result → CallResult Tables State
call_result r = result_of r.outcome r.tables

-- what the drives present in tables t show in tables u
abbrev pub shown_in : Geometry → List Bool → Tables → Tables → Shown
shown_in g named t u = shown_by g (is_set named) (device_of g t) (device_of g u)

abbrev pub on_tables : Geometry → Volume
on_tables g = record {
  Memory = Tables;
  State = State;
  Names = List Bool;
  is_named = is_set;
  call = λ c named state stop t. call_result (result_on g c named state stop t);
  look = λ named state t. result_of (look_on g named state t) t;
  read = read_on g;
  peek = λ named state a t. record { number = peek_number g named state a t; from = peek_from g named state a t; part = peek_on g named state a t };
  Listing = List ZoneDescriptor;
  report = λ state list. report_on g (view_state state) list;
  shows = shown_in g;
  state_of = λ named t u. state_held g.zones (state_shown g (is_set named) (device_of g t) (device_of g u));
  finished_report = report_shown g;
  view = view_state;
  seen = device_of g;
  CutTo = TablesCut g;
  LossTo = TablesLoss g;
}

abbrev pub TablesClaim : Type 0
TablesClaim = (g : Geometry) → KeepsPromise g (on_tables g)
