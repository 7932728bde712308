-- The volume as the rules see it: its memory is the device, the host holds the state as the rules see it, and each call is that of volume's Answers.
use Rattle.std.specs.Prelude.{Bool, ℕ, List, [], length, get_or}
use Rattle.tables.specs.meaning.Lists.{concat}
use Rattle.tables.specs.meaning.Device.{Device, Cut, Loss}
use Rattle.tables.specs.declared.Geometry.{Geometry}
use Rattle.volume.specs.declared.Answer.TheVariants.{Finished, Refused}
use Rattle.volume.specs.meaning.State.{StateView}
use Rattle.volume.specs.meaning.Rules.{Shown, showing}
use Rattle.volume.specs.meaning.Roles.{by_roles}
use Rattle.volume.specs.meaning.Refusals.{TableLengths}
use Rattle.volume.specs.meaning.State.{with_shares}
use Rattle.volume.specs.meaning.Hosts.{shares_in}
use Rattle.volume.specs.meaning.Mount.{mount_state, shown_state}
use Rattle.volume.specs.meaning.Answers.{CallResult, carried_out, StoringCall, Given, refused, given, Place, present_in, lost_drive_in, format_call, mount_call, write_call, flush_call, reset_call, compact_call, look_call, read_call, peek_call}
use Rattle.volume.specs.declared.ZoneDescriptor.{ZoneDescriptor}
use Rattle.volume.specs.meaning.CallContracts.{ReadResult, byte_of}
use Rattle.volume.specs.meaning.Report.{ReportResult, report_of, report_on}
use Rattle.promise.specs.meaning.Claim.{Call, mounts, writes, flushes, resets, formats, compacts, Peeked, Volume, KeepsPromise}

abbrev pub call_of : Geometry → TableLengths → Call → (ℕ → Bool) → StateView → Device → StoringCall
call_of g t mounts named state v = mount_call g t named v
call_of g t (writes w) named state v = write_call g t named state w v
call_of g t flushes named state v = flush_call g t named state v
call_of g t (resets z) named state v = reset_call g t named state z v
call_of g t (formats array) named state v = format_call g t named array v
call_of g t (compacts d) named state v = compact_call g t named state d v

-- (shares: by the logs that the look finds)
abbrev pub look_result : Given Shown → (ℕ → ℕ) → StateView → Device → CallResult Device StateView
look_result (refused n) shares state v = record { answer = Refused n; memory = v; state = state }
look_result (given k) shares state v = record { answer = Finished; memory = v; state = with_shares shares (mount_state k) }

abbrev pub read_result : Given (List (List ℕ)) → List ℕ → ReadResult
read_result (refused n) out = record { answer = Refused n; buffer = out }
read_result (given ss) out = record { answer = Finished; buffer = concat ss }

abbrev pub peek_result : Geometry → Given Place → Device → Peeked
peek_result g (refused n) v = record { number = n; from = 0; part = [] }
peek_result g (given p) v = record { number = 0; from = byte_of g p; part = get_or (v p.drive p.zone).sectors p.sector [] }

-- what the drives that a look finds present in v show in w
abbrev pub shown_by : Geometry → (ℕ → Bool) → Device → Device → Shown
shown_by g named v w = showing g (present_in g named v) (lost_drive_in g named v) (by_roles g w)

abbrev pub state_shown : Geometry → (ℕ → Bool) → Device → Device → StateView
state_shown g named v w = shown_state g (present_in g named v) (lost_drive_in g named v) w

-- a report of the conditions shown
abbrev pub report_shown : Geometry → Shown → List ZoneDescriptor → ReportResult (List ZoneDescriptor)
report_shown g k list = report_of g (λ z. (k.zone z).condition) list

-- (t: the lengths of the tables, the same in every call, since the tables are)
abbrev pub on_device : Geometry → TableLengths → Volume
on_device g t = record {
  Memory = Device;
  State = StateView;
  Names = ℕ → Bool;
  is_named = λ named. named;
  call = λ c named state stop v. carried_out (call_of g t c named state v) state stop v;
  look = λ named state v. look_result (look_call g t named v) (shares_in g (present_in g named v) v) state v;
  read = λ named state a count out v. read_result (read_call g t named state a count (length out) v) out;
  peek = λ named state a v. peek_result g (peek_call g t named state a v) v;
  Listing = List ZoneDescriptor;
  report = report_on g;
  shows = shown_by g;
  state_of = state_shown g;
  finished_report = report_shown g;
  view = λ state. state;
  seen = λ v. v;
  CutTo = Cut;
  LossTo = Loss;
}

-- the claim of the rules
abbrev pub DeviceClaim : Type 0
DeviceClaim = (g : Geometry) (t : TableLengths) → KeepsPromise g (on_device g t)
