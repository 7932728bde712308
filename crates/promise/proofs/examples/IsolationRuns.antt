-- Runs of two desks on a shelf, written as scripts: what each line asks, the run that it makes from a finished format on, and that it is one. Each call names every
-- drive that is not lost.
use Rattle.std.specs.Prelude.{◌≡◌, Bool, true, false, ◌&&◌, ℕ, ◌+◌, ◌*◌, List, [], ◌∷◌, replicate, eqb, ltb}
use Rattle.std.proofs.Math.Path.{refl}
use Rattle.std.proofs.Common.{sym, inl, true≢false, eqb-true, ltb-true}
use Rattle.tables.specs.declared.Geometry.{Geometry}
use Rattle.tables.specs.meaning.Tables.{zone_place, log_place}
use Rattle.tables.specs.meaning.Device.{Device, blank_zone, Loss}
use Rattle.tables.specs.meaning.Drives.{no_drive}
use Rattle.tables.specs.laws.Basics.{and_split}
use Rattle.volume.specs.meaning.Refusals.{TableLengths, compact_full, stale_somewhere, compact_rows}
use Rattle.volume.specs.meaning.Emptying.{compact_stores}
use Rattle.volume.specs.meaning.Hosts.{open_zones, zones_of, over_limit, over_open, shares_by}
use Rattle.volume.specs.meaning.Calls.{format_state}
use Rattle.volume.specs.meaning.Answers.{CallResult}
use Rattle.volume.specs.meaning.State.{StateView}
use Rattle.promise.specs.meaning.Claim.{writes, flushes, resets, formats, compacts, Volume, Mode, ready, stopped, down, System, Event, calls, reads, peeks, loses, next, all_but, NamesAll, Duty, Dutiful, start}
use Rattle.promise.specs.meaning.OnDevice.{on_device}
use Rattle.promise.specs.meaning.Isolation.{Step, MayStand, events_in, AllMayStand, Run, Moment, calls_in}
use Rattle.promise.proofs.examples.Opened.{device_open}

-- what a run computes through
unfoldable pub runs_open : Bool
unfolding device_open zone_place log_place compact_full stale_somewhere compact_rows compact_stores open_zones zones_of over_limit over_open shares_by
runs_open = true

-- ==== a shelf of a geometry, with tables to fit, and its format
abbrev pub lengths_for : Geometry → TableLengths
lengths_for g = let n = g.drives * (g.zones + 3) in record { sectors = n * g.capacity * g.sector; written = n; durable = n }

abbrev pub shelf : Geometry → Volume
shelf g = on_device g (lengths_for g)

-- "A count of 2^32 − 1 stops no call"
abbrev pub no_stop : ℕ
no_stop = 4294967295

abbrev pub blank : Device
blank d z = blank_zone

abbrev pub formatting : Geometry → CallResult Device StateView
formatting g = (shelf g).call (formats 7) (all_but no_drive) (format_state no_drive) no_stop blank

abbrev pub formatted : (g : Geometry) → System (shelf g)
formatted g = start g (shelf g) (all_but no_drive) (formatting g)

-- ==== scripts
pub data Ask : Type 0 where
  write : ℕ → ℕ → ℕ → Ask  -- address; sectors; the value of their bytes
  compact : ℕ → Ask  -- drive
  flush : Ask
  reset : ℕ → Ask  -- zone
  read : ℕ → ℕ → Ask  -- address; sectors
  peek : ℕ → Ask  -- address

pub data Line : Type 0 where
  by : ℕ → Ask → Line  -- desk
  up_to : ℕ → ℕ → Ask → Line  -- count of stores; desk
  goes : ℕ → Line  -- a drive is lost, and its memory stays as it was

abbrev is_ready : Mode → Bool
is_ready ready = true
is_ready stopped = false
is_ready down = false

ready_is : (m : Mode) → is_ready m ≡ true → m ≡ ready
ready_is ready e = refl
ready_is stopped e = absurd (true≢false (sym e))
ready_is down e = absurd (true≢false (sym e))

module _ (g : Geometry) where
  abbrev pub asking : System (shelf g) → ℕ → ℕ → Ask → Event (shelf g)  -- count of stores; desk
  asking s n h (write a k b) = calls (writes (record { host = h; address = a; count = k; buffer = replicate (k * g.sector) b })) (all_but s.lost) n
  asking s n h (compact d) = calls (compacts d) (all_but s.lost) n
  asking s n h flush = calls flushes (all_but s.lost) n
  asking s n h (reset z) = calls (resets z) (all_but s.lost) n
  asking s n h (read a k) = reads (all_but s.lost) a k (replicate (k * g.sector) 0)
  asking s n h (peek a) = peeks (all_but s.lost) a

  abbrev pub step_of : System (shelf g) → Line → Step (shelf g)
  step_of s (by h x) = record { desk = h; event = asking s no_stop h x }
  step_of s (up_to n h x) = record { desk = h; event = asking s n h x }
  step_of s (goes d) = record { desk = 0; event = loses d s.memory }

  abbrev pub steps_from : System (shelf g) → List Line → List (Step (shelf g))
  steps_from s [] = []
  steps_from s (l ∷ ls) = step_of s l ∷ steps_from (next g (shelf g) s (step_of s l).event) ls

  -- from the format on
  abbrev pub run : List Line → List (Step (shelf g))
  run ls = steps_from (formatted g) ls

  -- the calls of desk h in it
  abbrev pub calls_of : ℕ → List Line → List (Moment g (shelf g))
  calls_of h ls = calls_in g (shelf g) h (formatted g) [] (run ls)

  -- ==== a script makes a run if every call but its last finishes or is refused, and no more than one drive goes
  abbrev pub line_test : System (shelf g) → Line → Bool
  line_test s (by h x) = is_ready s.mode
  line_test s (up_to n h x) = is_ready s.mode
  line_test s (goes d) = ltb d g.drives && eqb s.lost no_drive

  abbrev pub run_test : System (shelf g) → List Line → Bool
  run_test s [] = true
  run_test s (l ∷ ls) = line_test s l && run_test (next g (shelf g) s (step_of s l).event) ls

  names_all : (s : System (shelf g)) → NamesAll g (shelf g) s (all_but s.lost)
  names_all s = record { drives = λ d h. refl }

  asking_duty : (s : System (shelf g)) (n h : ℕ) (x : Ask) → s.mode ≡ ready → Duty g (shelf g) s (asking s n h x)
  asking_duty s n h (write a k b) e = (names_all s, e, tt)
  asking_duty s n h (compact d) e = (names_all s, e, tt)
  asking_duty s n h flush e = (names_all s, e, tt)
  asking_duty s n h (reset z) e = (names_all s, e, tt)
  asking_duty s n h (read a k) e = (names_all s, e)
  asking_duty s n h (peek a) e = (names_all s, e)

  asking_stands : (s : System (shelf g)) (n h : ℕ) (x : Ask) → MayStand h (asking s n h x)
  asking_stands s n h (write a k b) = refl
  asking_stands s n h (compact d) = tt
  asking_stands s n h flush = tt
  asking_stands s n h (reset z) = tt
  asking_stands s n h (read a k) = tt
  asking_stands s n h (peek a) = tt

  stays : (d : ℕ) (v : Device) → Loss d v v
  unfolding Loss
  stays d v e y n = refl

  line_duty : (s : System (shelf g)) (l : Line) → line_test s l ≡ true → Duty g (shelf g) s (step_of s l).event
  line_duty s (by h x) t = asking_duty s no_stop h x (ready_is s.mode t)
  line_duty s (up_to n h x) t = asking_duty s n h x (ready_is s.mode t)
  line_duty s (goes d) t = let (p, q) = and_split (ltb d g.drives) (eqb s.lost no_drive) t in (ltb-true d g.drives p, inl (eqb-true s.lost no_drive q), stays d s.memory)

  line_stands : (s : System (shelf g)) (l : Line) → MayStand (step_of s l).desk (step_of s l).event
  line_stands s (by h x) = asking_stands s no_stop h x
  line_stands s (up_to n h x) = asking_stands s n h x
  line_stands s (goes d) = tt

  all_dutiful : (s : System (shelf g)) (ls : List Line) → run_test s ls ≡ true → Dutiful g (shelf g) s (events_in g (shelf g) (steps_from s ls))
  all_dutiful s [] t = tt
  all_dutiful s (l ∷ ls) t =
      let s' = next g (shelf g) s (step_of s l).event in let (p, q) = and_split (line_test s l) (run_test s' ls) t in
      (line_duty s l p, all_dutiful s' ls q)

  all_stand : (s : System (shelf g)) (ls : List Line) → AllMayStand g (shelf g) (steps_from s ls)
  all_stand s [] = tt
  all_stand s (l ∷ ls) = (line_stands s l, all_stand (next g (shelf g) s (step_of s l).event) ls)

  pub is_run : (ls : List Line) → run_test (formatted g) ls ≡ true → Run g (shelf g) (formatted g) (run ls)
  is_run ls t = record { dutiful = all_dutiful (formatted g) ls t; may_stand = all_stand (formatted g) ls }
