-- WHAT HOLDS OF THE CALLS ON ANY INPUT, by name. A call's contract (meaning/CallContracts) says exactly what it does; these statements say of all calls what follows for
-- the memory of absent drives, for counts of stores, and for what a mount shows. Each stands with the theorem that proves it.
use Rattle.std.specs.Prelude.{◌≡◌, ◌≢◌, Bool, ℕ, ◌-◌, ◌^◌, List}
use Rattle.tables.specs.declared.Geometry.{Geometry}
use Rattle.tables.specs.meaning.Tables.{Tables}
use Rattle.tables.specs.laws.NamedDrives.{AgreeOn}
use Rattle.volume.specs.declared.State.{State}
use Rattle.volume.specs.declared.Answer.TheVariants.{Finished, Unfinished}
use Rattle.volume.specs.meaning.CallContracts.{is_set, flush_on, reset_on, write_on, compact_on, format_on, look_on, mount_on, read_on, peek_number, peek_on}
use Rattle.volume.specs.meaning.Refusals.{WriteAsked}
use Rattle.volume.specs.laws.AbsentDrives.{LeavesAbsent, format_absent, flush_absent, reset_absent, write_absent, compact_absent, read_absent, peek_absent}
use Rattle.volume.specs.laws.MountAbsentDrives.{look_absent, mount_absent}
use Rattle.volume.specs.laws.StoreCounts.{flush_ends, reset_ends, format_ends, write_ends, compact_ends}
use Rattle.volume.specs.laws.MountStoreCounts.{mount_ends}
use Rattle.volume.specs.laws.MountShowsLook.{mount_shows_the_look}

-- "An absent drive's memory is neither read nor changed": by a storing call (LeavesAbsent); nor read by a look, a read or a peek, which change no memory
pub record AbsentUntouched (g : Geometry) (named : List Bool) : Type 0 where
  pub format : (array : ℕ) (old : State) (count : ℕ) → LeavesAbsent g named (format_on g named array old count)
  pub mount : (old : State) (count : ℕ) → LeavesAbsent g named (mount_on g named old count)
  pub write : (s : State) (a : WriteAsked) (count : ℕ) → LeavesAbsent g named (write_on g named s a count)
  pub flush : (s : State) (count : ℕ) → LeavesAbsent g named (flush_on g named s count)
  pub reset : (s : State) (z count : ℕ) → LeavesAbsent g named (reset_on g named s z count)
  pub compact : (s : State) (d count : ℕ) → LeavesAbsent g named (compact_on g named s d count)
  pub look : (old : State) (t u : Tables) → AgreeOn g (is_set named) t u → look_on g named old t ≡ look_on g named old u
  pub read : (s : State) (a count : ℕ) (out : List ℕ) (t u : Tables) → AgreeOn g (is_set named) t u → read_on g named s a count out t ≡ read_on g named s a count out u
  pub peek : (s : State) (a : ℕ) (t u : Tables) → AgreeOn g (is_set named) t u → (peek_number g named s a t ≡ peek_number g named s a u) × (peek_on g named s a t ≡ peek_on g named s a u)

pub absent_untouched : (g : Geometry) (named : List Bool) → AbsentUntouched g named
absent_untouched g named = record {
  format = format_absent g named;
  mount = mount_absent g named;
  write = write_absent g named;
  flush = flush_absent g named;
  reset = reset_absent g named;
  compact = compact_absent g named;
  look = λ old t u same. look_absent g named t u same old;
  read = read_absent g named;
  peek = peek_absent g named;
}

-- "A count of 2^32 − 1 stops no call"
pub record NeverStopped (g : Geometry) (named : List Bool) (t : Tables) : Type 0 where
  pub format : (array : ℕ) (old : State) → (format_on g named array old (2 ^ 32 - 1) t).outcome.answer ≢ Unfinished
  pub mount : (old : State) → (mount_on g named old (2 ^ 32 - 1) t).outcome.answer ≢ Unfinished
  pub write : (s : State) (a : WriteAsked) → (write_on g named s a (2 ^ 32 - 1) t).outcome.answer ≢ Unfinished
  pub flush : (s : State) → (flush_on g named s (2 ^ 32 - 1) t).outcome.answer ≢ Unfinished
  pub reset : (s : State) (z : ℕ) → (reset_on g named s z (2 ^ 32 - 1) t).outcome.answer ≢ Unfinished
  pub compact : (s : State) (d : ℕ) → (compact_on g named s d (2 ^ 32 - 1) t).outcome.answer ≢ Unfinished

pub never_stopped : (g : Geometry) (named : List Bool) (t : Tables) → NeverStopped g named t
never_stopped g named t = record {
  format = λ array old. format_ends g named array old t;
  mount = λ old. mount_ends g named old t;
  write = λ s a. write_ends g named s a t;
  flush = λ s. flush_ends g named s t;
  reset = λ s z. reset_ends g named s z t;
  compact = λ s d. compact_ends g named s d t;
}

-- "It shows what a look shows after its last store": a look on the tables that a finished mount leaves, with the same drives named, finishes and leaves the mount's
-- state (old, before: what the host held)
abbrev pub MountShowsLook : Geometry → List Bool → Tables → Type 0
MountShowsLook g named t = (old before : State) (count : ℕ) → let r = mount_on g named old count t in r.outcome.answer ≡ Finished → look_on g named before r.tables ≡ record { answer = Finished; state = r.outcome.state }

pub mount_shows_look : (g : Geometry) (named : List Bool) (t : Tables) → MountShowsLook g named t
mount_shows_look g named t old before count = mount_shows_the_look g named old before count t
