-- A write to a zone that has passed the refusals before 14, as the code makes it and as the rules say it.
use Rattle.std.specs.Prelude.{◌≡◌, Bool, true, false, not, ℕ, ◌+◌, ◌*◌, ◌≤◌, ◌<◌, List, length, get_or, ltb, eqb}
use Rattle.std.proofs.Common.{sym, ap, ◌∙◌, ltb-true}
use Rattle.tables.specs.meaning.Basics.{pick}
use Rattle.tables.specs.meaning.Below.{count_below}
use Rattle.tables.specs.meaning.Drives.{find_below}
use Rattle.tables.specs.meaning.Geometry.{zone_sectors, physical_zones, max_zones}
use Rattle.tables.specs.meaning.Device.{Store}
use Rattle.tables.specs.meaning.Phases.{on_present}
use Rattle.tables.specs.meaning.Tables.{Tables, tables_of, cell}
use Rattle.volume.specs.declared.Answer.TheVariants.{Finished, Unfinished, Refused}
use Rattle.volume.specs.declared.Condition.{Condition}
use Rattle.volume.specs.declared.Outcome.{Outcome}
use Rattle.volume.specs.declared.State.{State}
use Rattle.volume.specs.declared.hosts.Allowance.{Allowance}
use Rattle.volume.specs.declared.roles.LogPlaces.{LogPlaces}
use Rattle.volume.specs.declared.writing.Run.{Run}
use Rattle.volume.specs.meaning.State.{hosts, pointer_in}
use Rattle.volume.specs.meaning.Calls.{write_with, open_state}
use Rattle.volume.specs.meaning.Hosts.{owned_state}
use Rattle.volume.specs.meaning.Answers.{sectors_in}
use Rattle.volume.specs.meaning.Refusals.{write_full, gone_before}
use Rattle.volume.specs.meaning.Emptying.{write_all}
use Rattle.volume.specs.meaning.CallContracts.{record_at, view_state, is_set, roles_of, seen_in, Result, storing_on, pointer_of, state_held}
use Rattle.volume.specs.looking.DriveLogs.{Sized}
use Rattle.volume.specs.looking.Knowing.{read_device}
use Rattle.volume.specs.writing.Allowances.{allowance_of, allowance_known}
use Rattle.volume.specs.writing.WriteChecks.{RunFits, ZonePassed, zone_number}
use Rattle.volume.specs.writing.WriteStores.{run_content}

-- the pointer after it
abbrev pub end_of : Run → ℕ
end_of run = run.pointer + run.count

-- the run, read where the logs lie
abbrev pub at_places : Run → LogPlaces → Run
at_places run p = record {
  zone = record { geometry = p.geometry; here = run.zone.here; number = run.zone.number; generation = run.zone.generation };
  pointer = run.pointer;
  count = run.count;
  host = run.host;
  allowance = run.allowance;
}

-- the write's own stores
unfoldable pub run_stores_of : Run → List ℕ → List ℕ → List ℕ → List Store
run_stores_of run xs ps buffer =
    let z = run.zone in
    on_present (is_set z.here) (write_with z.geometry z.number z.generation (run_content z.geometry (is_set z.here) (read_device z.geometry xs ps) z.number z.generation run.pointer (sectors_in z.geometry run.count buffer)) run.pointer run.count)

-- ---- what the functions rely on, before the state is asked
pub record RunPlaced (run : Run) (ws buffer : List ℕ) : Type 0 where
  pub in_zones : (d y : ℕ) → d < run.zone.geometry.drives → is_set run.zone.here d ≡ true → y < physical_zones run.zone.geometry → get_or ws (cell run.zone.geometry d y) 0 ≤ run.zone.geometry.capacity
  pub zone_in_lem : run.zone.number < run.zone.geometry.zones
  pub inside : end_of run ≤ zone_sectors run.zone.geometry
  pub buffer_long : length buffer ≡ run.count * run.zone.geometry.sector

-- and with what it says
pub record RunReady (run : Run) (s : State) (ws buffer : List ℕ) : Type 0 where
  pub placed : RunPlaced run ws buffer
  pub generation_is : run.zone.generation ≡ (record_at s run.zone.number).generation
  pub pointer_is : run.pointer ≡ pointer_of s run.zone.number
  pub host_in : run.host < hosts

-- a run that has passed refusals 1 to 4, in a zone that there is; c is the zone's condition
pub record RunAsked (run : Run) (c : Condition) (xs ws buffer : List ℕ) : Type 0 where
  pub sized : Sized run.zone.geometry xs ws
  pub logs_first : run.zone.geometry.logs ≡ 0
  pub one_absent : ltb 1 (count_below (λ d. not (is_set run.zone.here d)) run.zone.geometry.drives) ≡ false
  pub in_zones : (d y : ℕ) → d < run.zone.geometry.drives → is_set run.zone.here d ≡ true → y < physical_zones run.zone.geometry → get_or ws (cell run.zone.geometry d y) 0 ≤ run.zone.geometry.capacity
  pub zone_in_lem : run.zone.number < run.zone.geometry.zones
  pub pointer_in_lem : pointer_in c ≤ zone_sectors run.zone.geometry
  pub starts_in : run.pointer < zone_sectors run.zone.geometry
  pub count_small : run.count < 4294967296
  pub buffer_long : length buffer ≡ run.count * run.zone.geometry.sector

-- what the state says of its zone and its host
pub record RunStated (run : Run) (c : Condition) (s : State) : Type 0 where
  pub generation_is : run.zone.generation ≡ (record_at s run.zone.number).generation
  pub condition_is : c ≡ (record_at s run.zone.number).condition
  pub allowance_is : run.allowance ≡ allowance_of run.zone.geometry (view_state s) run.host run.zone.number (end_of run)

pub asked_placed : (run : Run) (c : Condition) (xs ws buffer : List ℕ) → RunAsked run c xs ws buffer → RunFits run.zone.geometry c run.pointer run.count → RunPlaced run ws buffer
asked_placed run c xs ws buffer h f = record { in_zones = h.in_zones; zone_in_lem = h.zone_in_lem; inside = f.inside; buffer_long = h.buffer_long }

pub asked_ready : (run : Run) (c : Condition) (s : State) (xs ws buffer : List ℕ) → RunAsked run c xs ws buffer → RunStated run c s → ZonePassed run c ws → RunReady run s ws buffer
asked_ready run c s xs ws buffer h q f =
    let known = sym (allowance_known run.zone.geometry (view_state s) run.host run.zone.number (end_of run)) ∙ sym (ap (λ (a : Allowance). a.known) q.allowance_is) ∙ f.known in
    record { placed = asked_placed run c xs ws buffer h f.fits; generation_is = q.generation_is; pointer_is = f.fits.pointer ∙ ap pointer_in q.condition_is; host_in = ltb-true run.host hosts known }

-- ---- the state that it hands on, and how it ends with so much left of its budget of stores
abbrev pub handed_on : Run → State → State
handed_on run s =
    let z = run.zone in
    state_held max_zones (owned_state z.geometry (is_set z.here) run.host z.number (end_of run) (open_state (find_below (λ (d : ℕ). not (is_set z.here d)) z.geometry.drives) (view_state s) z.number (end_of run)))

abbrev pub ended_with : Run → State → ℕ → Outcome
ended_with run s rest = pick (eqb rest 0) (record { answer = Unfinished; state = s }) (record { answer = Finished; state = handed_on run s })

-- what a call gives back, and the tables that it leaves
abbrev pub Gives : Result → Outcome → Tables → Type 0
Gives x r t = (r ≡ x.outcome) × (t ≡ x.tables)

-- whatever is durable
abbrev pub GivesAny : (List ℕ → Result) → Outcome → List ℕ → List ℕ → Type 0
GivesAny x r xs ws = (ds : List ℕ) → Gives (x ds) r (tables_of xs ws ds)

-- ---- the rules' refusals 14 and 15, and the write, by the drives that are here
abbrev pub run_full : Run → Tables → Bool
run_full run t = let z = run.zone in write_full z.geometry (is_set z.here) (roles_of z.geometry t) (seen_in z.geometry t) run.allowance.share z.number (end_of run)

abbrev pub run_gone : Run → Tables → Bool
run_gone run t = let z = run.zone in gone_before z.geometry (is_set z.here) (seen_in z.geometry t) z.number z.generation run.pointer

abbrev pub last_number : Run → Tables → ℕ
last_number run t = pick (run_full run t) 14 (pick (run_gone run t) 15 0)

abbrev pub all_stores : Run → State → List ℕ → Tables → List Store
all_stores run s buffer t = let z = run.zone in write_all z.geometry (is_set z.here) (roles_of z.geometry t) (seen_in z.geometry t) (view_state s) z.number (sectors_in z.geometry run.count buffer)

unfoldable pub write_zone_on : Run → State → List ℕ → ℕ → Tables → Result
write_zone_on run s buffer count t = storing_on run.zone.geometry (last_number run t) (all_stores run s buffer t) (handed_on run s) s count t

-- the same with the refusals before 14
abbrev pub asked_number : Run → State → List ℕ → ℕ
asked_number run s ws = zone_number run (record_at s run.zone.number).condition ws

unfoldable pub write_asked_on : Run → State → List ℕ → ℕ → Tables → Result
write_asked_on run s buffer count t = pick (eqb (asked_number run s t.written) 0) (write_zone_on run s buffer count t) (record { outcome = record { answer = Refused (asked_number run s t.written); state = s }; tables = t })
