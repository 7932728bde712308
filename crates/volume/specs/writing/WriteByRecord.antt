-- A write by one zone's record (src/by_record.rt): made, it is the write of the call by every state that says so of the zone and of the host.
use Rattle.std.specs.Prelude.{◌≡◌, Bool, not, ℕ, ◌+◌, ◌<◌, List, length, eqb, Option, Some, None}
use Rattle.std.proofs.Common.{sym, ap, ap₂, ◌∙◌}
use Rattle.tables.specs.meaning.Basics.{pick}
use Rattle.tables.specs.meaning.Drives.{find_below}
use Rattle.tables.specs.meaning.Geometry.{Valid, zone_sectors, max_zones}
use Rattle.tables.specs.meaning.Tables.{Tables, tables_of}
use Rattle.volume.specs.declared.Answer.TheVariants.{Finished, Unfinished}
use Rattle.volume.specs.declared.Outcome.{Outcome}
use Rattle.volume.specs.declared.State.{State}
use Rattle.volume.specs.declared.ZoneRecord.{ZoneRecord}
use Rattle.volume.specs.declared.by_record.ByRecord.{ByRecord}
use Rattle.volume.specs.declared.by_record.Recorded.{Recorded}
use Rattle.volume.specs.declared.hosts.Allowance.{Allowance}
use Rattle.volume.specs.declared.write_directly.WriteMade.{WriteMade}
use Rattle.volume.specs.declared.write_room.EntryTaken.{EntryTaken}
use Rattle.volume.specs.declared.writing.Run.{Run}
use Rattle.volume.specs.meaning.Content.{parity_drive_at}
use Rattle.volume.specs.meaning.Refusals.{WriteAsked, zone_asked, offset_of}
use Rattle.volume.specs.meaning.Calls.{open_state}
use Rattle.volume.specs.meaning.Hosts.{entry_taken, owned_state}
use Rattle.volume.specs.meaning.CallContracts.{record_at, is_set, Result, write_on, state_held, view_state}
use Rattle.volume.specs.checks.CheckLaws.{present_list, opened_from, opens}
use Rattle.volume.specs.checks.ByRecord.{RecordFits, SaysOf, present_named, opening_by}
use Rattle.volume.specs.writing.Allowances.{allowance_of}
use Rattle.volume.specs.writing.WriteRun.{end_of, RunAsked, RunStated, ended_with, write_asked_on}
use Rattle.volume.specs.writing.WriteDirectly.{MadeOn}
use Rattle.volume.specs.writing.WriteTried.{tried_made}
use Rattle.volume.specs.writing.Writing.{run_now, buffer_is, write_asked_on_lem}

-- the drives that are present
abbrev pub present_by : ByRecord → ℕ → Bool
present_by by = is_set (present_list by.geometry by.named by.lost)

-- a write that ends at pointer n gives the state this: the zone open there and the host's, the entry off the host's share, a drive lost (x, or none)
abbrev pub state_written : ByRecord → WriteAsked → ℕ → ℕ → State → State
state_written by a x n s = state_held max_zones (owned_state by.geometry (present_by by) a.host (zone_asked by.geometry a) n (open_state x (view_state s) (zone_asked by.geometry a) n))

-- `count` stores at most; q: what the host is allowed
pub record RecordedBy (by : ByRecord) (a : WriteAsked) (q : Allowance) (count : ℕ) (xs ws xs' ws' : List ℕ) (r : Recorded) : Type 0 where
  pub in_zone_lem : zone_asked by.geometry a < by.geometry.zones
  pub drive_is : r.drive ≡ parity_drive_at by.geometry (zone_asked by.geometry a) r.pointer
  pub taken_is : r.taken ≡ entry_taken by.geometry (present_by by) (zone_asked by.geometry a) r.pointer
  pub done : (s : State) (ds : List ℕ) → SaysOf by a.address s ws ds → q ≡ allowance_of by.geometry (view_state s) a.host (zone_asked by.geometry a) (offset_of by.geometry a.address + a.count)
      → write_on by.geometry by.named s a count (tables_of xs ws ds)
      ≡ record { outcome = pick (eqb r.rest 0) (record { answer = Unfinished; state = s }) (record { answer = Finished; state = state_written by a r.lost r.pointer s }); tables = tables_of xs' ws' ds }

-- not made, it has left the sectors
abbrev pub WrittenBy : ByRecord → WriteAsked → Allowance → ℕ → List ℕ → List ℕ → List ℕ → List ℕ → Option Recorded → Type 0
WrittenBy by a q count xs ws xs' ws' None = xs' ≡ xs
WrittenBy by a q count xs ws xs' ws' (Some r) = RecordedBy by a q count xs ws xs' ws' r

-- what is told of a write that was made
abbrev pub recorded_of : Run → WriteMade → Recorded
recorded_of run t = record {
  rest = t.rest;
  lost = find_below (λ (d : ℕ). not (is_set run.zone.here d)) run.zone.geometry.drives;
  pointer = end_of run;
  drive = t.entry.drive;
  taken = t.entry.sectors;
}

-- the run that is asked
abbrev pub run_by : ByRecord → WriteAsked → Allowance → Run
run_by by a q = record {
  zone = record { geometry = by.geometry; here = present_list by.geometry by.named by.lost; number = zone_asked by.geometry a; generation = by.record.generation };
  pointer = offset_of by.geometry a.address;
  count = a.count;
  host = a.host;
  allowance = q;
}

module _ (by : ByRecord) (a : WriteAsked) (q : Allowance) (count : ℕ) (xs ws : List ℕ) (ok : Valid by.geometry) (f : RecordFits by ws) (o : opened_from by.geometry by.named by.lost a.count (length a.buffer) (length xs) by.bad ≡ 0) (h : zone_asked by.geometry a < by.geometry.zones)
    (starts : offset_of by.geometry a.address < zone_sectors by.geometry) (small : a.count < 4294967296) where
  pub run_by_asked : RunAsked (run_by by a q) by.record.condition xs ws a.buffer
  run_by_asked =
      let p = opens by.geometry by.named by.lost a.count (length a.buffer) (length xs) by.bad o in
      record {
        sized = record { sectors_long = p.sectors_long; written_long = f.written_long };
        logs_first = f.logs_first;
        one_absent = p.one_absent;
        in_zones = λ d y hd e hy. f.in_zones p.good d y hd (present_named by.geometry by.named by.lost d e) hy;
        zone_in_lem = h;
        pointer_in_lem = f.pointer_in_lem;
        starts_in = starts;
        count_small = small;
        buffer_long = buffer_is by.geometry a.count (length a.buffer) p.buffer;
      }

  made_by_lem : (xs' ws' : List ℕ) (t : WriteMade) → MadeOn (run_by by a q) by.record.condition count a.buffer xs ws xs' ws' t → (s : State) (ds : List ℕ) → SaysOf by a.address s ws ds
      → q ≡ allowance_of by.geometry (view_state s) a.host (zone_asked by.geometry a) (offset_of by.geometry a.address + a.count)
      → write_on by.geometry by.named s a count (tables_of xs ws ds) ≡ record { outcome = ended_with (run_by by a q) s t.rest; tables = tables_of xs' ws' ds }
  made_by_lem xs' ws' t tried s ds y e =
      let g = by.geometry in
      let stated : RunStated (run_by by a q) by.record.condition s = record {
        generation_is = ap (λ (r : ZoneRecord). r.generation) (sym y.record_is);
        condition_is = ap (λ (r : ZoneRecord). r.condition) (sym y.record_is);
        allowance_is = e;
      } in
      let (u, v) = tried_made (run_by by a q) by.record.condition s count a.buffer xs ws xs' ws' ok run_by_asked stated t tried ds in
      let run : ℕ → ZoneRecord → Allowance → Run = λ x r i. record { zone = record { geometry = g; here = present_list g by.named x; number = zone_asked g a; generation = r.generation }; pointer = offset_of g a.address; count = a.count; host = a.host; allowance = i } in
      let wrote : Run → Result = λ r. write_asked_on r s a.buffer count (tables_of xs ws ds) in
      let same : wrote (run_by by a q) ≡ wrote (run_now g by.named s a) = ap₂ (λ (x : ℕ) (r : ZoneRecord). wrote (run x r q)) (sym y.lost_is) (sym y.record_is) ∙ ap (λ (i : Allowance). wrote (run s.lost (record_at s (zone_asked g a)) i)) e in
      sym (same ∙ write_asked_on_lem g by.named s a xs ws ds count (sym (opening_by by a.address a.count (length a.buffer) (length xs) s ws ds f.written_long y) ∙ o) h)
      ∙ ap₂ (λ (x : Outcome) (w : Tables). record { outcome = x; tables = w }) (sym u) (sym v)

  -- WHAT WAS MADE is the call
  pub written_by : (xs' ws' : List ℕ) (t : WriteMade) → MadeOn (run_by by a q) by.record.condition count a.buffer xs ws xs' ws' t → RecordedBy by a q count xs ws xs' ws' (recorded_of (run_by by a q) t)
  written_by xs' ws' t tried = record {
    in_zone_lem = h;
    drive_is = ap (λ (x : EntryTaken). x.drive) tried.entry_is.0;
    taken_is = ap (λ (x : EntryTaken). x.sectors) tried.entry_is.0;
    done = λ s ds. made_by_lem xs' ws' t tried s ds;
  }
