-- "Once a reset has come back as finished, the old take must never be heard again" (document 02, 2.4), said of any volume and any history of it: after a finished
-- reset of zone z, whatever follows, every sector of the zone that a look or a finished mount shows, or that a read or a peek gives, was written since.
use Rattle.std.specs.Prelude.{◌≡◌, ℕ, ◌^◌, ◌<◌, eqb}
use mathlib.Core.List.{List, [], ◌∷◌, ◌++◌, Memᴰ}
use Rattle.tables.specs.meaning.Basics.{pick}
use Rattle.tables.specs.meaning.Lists.{concat}
use Rattle.tables.specs.declared.Geometry.{Geometry}
use Rattle.volume.specs.declared.Answer.TheVariants.{Finished}
use Rattle.volume.specs.meaning.Refusals.{zone_of, zone_asked}
use Rattle.volume.specs.meaning.Answers.{sectors_in}
use Rattle.promise.specs.meaning.Ledger.{Reply, is_refused, is_unfinished, is_finished}
use Rattle.promise.specs.meaning.Claim.{Call, mounts, writes, flushes, resets, formats, compacts, Volume, System, Event, calls, looks, reads, peeks, reports, cuts, loses, ready, reply_to, next, answered, read_out, peeked_at, heard, NamesAll, MayMount, Dutiful, start}
use Rattle.promise.specs.meaning.Histories.{after_all}

-- sectors handed to a call, unless it is refused
abbrev pub taken_unless_refused : Reply → List (List ℕ) → List (List ℕ)
taken_unless_refused is_refused ss = []
taken_unless_refused is_unfinished ss = ss
taken_unless_refused is_finished ss = ss

-- the sectors that a call is handed for zone z
abbrev pub handed_to : Geometry → ℕ → Call → List (List ℕ)
handed_to g z mounts = []
handed_to g z (writes w) = pick (eqb z (zone_asked g w)) (sectors_in g w.count w.buffer) []
handed_to g z flushes = []
handed_to g z (resets y) = []
handed_to g z (formats array) = []
handed_to g z (compacts d) = []

module _ (g : Geometry) (vol : Volume) where
  -- the sectors that an event writes to zone z
  abbrev pub written_in : ℕ → System vol → Event vol → List (List ℕ)
  written_in z s (calls c named stop) = taken_unless_refused (reply_to (vol.call c named s.state stop s.memory).answer) (handed_to g z c)
  written_in z s (looks named) = []
  written_in z s (reads named a count out) = []
  written_in z s (peeks named a) = []
  written_in z s (reports list) = []
  written_in z s (cuts m) = []
  written_in z s (loses d m) = []

  -- and events one after the other
  abbrev pub written_to : ℕ → System vol → List (Event vol) → List (List ℕ)
  written_to z s [] = []
  written_to z s (e ∷ es) = written_in z s e ++ written_to z (next g vol s e) es

  -- every sector of zone z that is shown or read is one of these
  pub record OnlyOf (z : ℕ) (new : List (List ℕ)) (s : System vol) : Type 0 where
    pub look : (named : vol.Names) → NamesAll g vol s named → let k = vol.shows named s.memory s.memory in (a : ℕ) → a < (k.zone z).pointer → Memᴰ ((k.zone z).value a) new
    pub mount : (named : vol.Names) → NamesAll g vol s named → MayMount s.mode → (stop : ℕ) → heard s (calls mounts named stop) ≡ answered Finished
        → let k = vol.shows named s.memory (next g vol s (calls mounts named stop)).memory in (a : ℕ) → a < (k.zone z).pointer → Memᴰ ((k.zone z).value a) new
    pub read : (named : vol.Names) → NamesAll g vol s named → s.mode ≡ ready → (a count : ℕ) (out bytes : List ℕ) → zone_of g a ≡ z → heard s (reads named a count out) ≡ read_out Finished bytes
        → (ss : List (List ℕ)) × (bytes ≡ concat ss) × ((sector : List ℕ) → Memᴰ sector ss → Memᴰ sector new)
    pub peek : (named : vol.Names) → NamesAll g vol s named → s.mode ≡ ready → (a from : ℕ) (part : List ℕ) → zone_of g a ≡ z → heard s (peeks named a) ≡ peeked_at 0 from part → Memᴰ part new

  -- THE STATEMENT: of any history, as in the claim, with a finished reset of zone z in it, and what follows that
  abbrev pub ResetsLast : Type 0
  ResetsLast = (named : vol.Names) (array : ℕ) (old : vol.State) (stop : ℕ) (m : vol.Memory) → array < 256 ^ 8
      → let r = vol.call (formats array) named old stop m in let s0 = start g vol named r in
      r.answer ≡ Finished → (before after : List (Event vol)) (z : ℕ) (by : vol.Names) (count : ℕ) → z < g.zones → Dutiful g vol s0 (before ++ (calls (resets z) by count ∷ after))
      → let s = after_all g vol s0 before in let t = next g vol s (calls (resets z) by count) in
      heard s (calls (resets z) by count) ≡ answered Finished → OnlyOf z (written_to z t after) (after_all g vol t after)
