-- NEITHER DESK CAN TELL WHAT THE OTHER DOES, beyond what they share (document 02, 2.6): "From one finished mount to the next, under demand 3's conditions, where two runs
-- agree on a desk's calls and, at each, on the zones it shares, the number open, past emptyings and what the parity logs had unused then, the general logs and the lost
-- drive, it hears the same from writes, flushes, resets, reads and peeks." Said of any volume. Of a desk's own compacts nothing is promised.
use Rattle.std.specs.Prelude.{◌≡◌, Bool, true, false, ◌&&◌, ◌||◌, not, ℕ, ◌^◌, ◌<◌, List, [], ◌∷◌, ◌++◌, map, eqb}
use Rattle.tables.specs.declared.Geometry.{Geometry}
use Rattle.tables.specs.meaning.Basics.{pick}
use Rattle.tables.specs.meaning.Device.{Device}
use Rattle.logs.specs.meaning.Entry.{general_zone}
use Rattle.volume.specs.declared.Answer.{Answer}
use Rattle.volume.specs.declared.Answer.TheVariants.{Finished, Unfinished, Refused, BadLog}
use Rattle.volume.specs.meaning.State.{StateView}
use Rattle.volume.specs.meaning.Roles.{roles, by_roles}
use Rattle.volume.specs.meaning.Emptying.{unused_in}
use Rattle.volume.specs.meaning.Hosts.{open_zones}
use Rattle.volume.specs.meaning.Refusals.{TableLengths, WriteAsked, zone_of, zone_asked}
use Rattle.promise.specs.meaning.Claim.{Call, mounts, writes, flushes, resets, formats, compacts, Volume, System, Event, calls, looks, reads, peeks, reports, cuts, loses, next, Heard, answered, heard, all_but, Dutiful, start}
use Rattle.promise.specs.meaning.Histories.{after_all}
use Rattle.promise.specs.meaning.OnDevice.{on_device}
use Rattle.promise.specs.meaning.OnTables.{on_tables}
use Rattle.promise.specs.meaning.Caches.{on_caching_device}
use Rattle.promise.specs.meaning.CachesOnTables.{on_caching_tables}

-- ==== runs
-- an event, and the desk that makes it: 0 or 1 (of the loss of a drive the desk says nothing)
pub record Step (vol : Volume) : Type 0 where
  pub desk : ℕ
  pub event : Event vol

-- what a desk asks for, without the names of the drives: two calls that ask the same are the same call (L: what is lent for a report)
pub data Asked (L : Type 0) : Type 0 where
  to_store : Call → ℕ → Asked L  -- count of stores
  to_look : Asked L
  to_read : ℕ → ℕ → List ℕ → Asked L  -- address; count of sectors; buffer
  to_peek : ℕ → Asked L  -- address
  to_report : L → Asked L
  nothing : Asked L

abbrev pub asked_by : {vol : Volume} → Event vol → Asked vol.Listing
asked_by (calls c named stop) = to_store c stop
asked_by (looks named) = to_look
asked_by (reads named a count out) = to_read a count out
asked_by (peeks named a) = to_peek a
asked_by (reports list) = to_report list
asked_by (cuts m) = nothing
asked_by (loses d m) = nothing

abbrev pub is_call : {vol : Volume} → Event vol → Bool
is_call (calls c named stop) = true
is_call (looks named) = true
is_call (reads named a count out) = true
is_call (peeks named a) = true
is_call (reports list) = true
is_call (cuts m) = false
is_call (loses d m) = false

-- "no format, mount or cut among the events", and a write's desk is its host
abbrev pub MayStand : {vol : Volume} → ℕ → Event vol → Type 0
MayStand desk (calls mounts named stop) = ⊥
MayStand desk (calls (writes w) named stop) = w.host ≡ desk
MayStand desk (calls flushes named stop) = Unit {0}
MayStand desk (calls (resets z) named stop) = Unit {0}
MayStand desk (calls (formats array) named stop) = ⊥
MayStand desk (calls (compacts d) named stop) = Unit {0}
MayStand desk (looks named) = Unit {0}
MayStand desk (reads named a count out) = Unit {0}
MayStand desk (peeks named a) = Unit {0}
MayStand desk (reports list) = Unit {0}
MayStand desk (cuts m) = ⊥
MayStand desk (loses d m) = Unit {0}

-- ---- the zone that an event names, and the zone that it changes if it finishes
abbrev pub stores_to : Geometry → {vol : Volume} → Event vol → ℕ → Bool
stores_to g (calls mounts named stop) z = false
stores_to g (calls (writes w) named stop) z = eqb z (zone_asked g w)
stores_to g (calls flushes named stop) z = false
stores_to g (calls (resets y) named stop) z = eqb z y
stores_to g (calls (formats array) named stop) z = false
stores_to g (calls (compacts d) named stop) z = false
stores_to g (looks named) z = false
stores_to g (reads named a count out) z = false
stores_to g (peeks named a) z = false
stores_to g (reports list) z = false
stores_to g (cuts m) z = false
stores_to g (loses d m) z = false

abbrev pub reads_from : Geometry → {vol : Volume} → Event vol → ℕ → Bool
reads_from g (calls c named stop) z = false
reads_from g (looks named) z = false
reads_from g (reads named a count out) z = eqb z (zone_of g a)
reads_from g (peeks named a) z = eqb z (zone_of g a)
reads_from g (reports list) z = false
reads_from g (cuts m) z = false
reads_from g (loses d m) z = false

abbrev pub has_finished : Answer → Bool
has_finished Finished = true
has_finished Unfinished = false
has_finished (Refused n) = false
has_finished (BadLog b) = false

-- the drive of a compact
abbrev pub drive_of_compact : {vol : Volume} → Event vol → List ℕ
drive_of_compact (calls mounts named stop) = []
drive_of_compact (calls (writes w) named stop) = []
drive_of_compact (calls flushes named stop) = []
drive_of_compact (calls (resets z) named stop) = []
drive_of_compact (calls (formats array) named stop) = []
drive_of_compact (calls (compacts d) named stop) = d ∷ []
drive_of_compact (looks named) = []
drive_of_compact (reads named a count out) = []
drive_of_compact (peeks named a) = []
drive_of_compact (reports list) = []
drive_of_compact (cuts m) = []
drive_of_compact (loses d m) = []

-- an emptying by a compact: its drive, and what the new log has unused at its end
pub record Compacted : Type 0 where
  pub drive : ℕ
  pub unused : ℕ

-- the counting general log of a drive, as far as it is written
abbrev pub general_log : Geometry → Device → ℕ → List (List ℕ)
general_log g v d = (by_roles g v d general_zone).sectors

module _ (g : Geometry) (vol : Volume) where
  abbrev pub finishes : System vol → Event vol → Bool
  finishes s (calls c named stop) = has_finished (vol.call c named s.state stop s.memory).answer
  finishes s (looks named) = false
  finishes s (reads named a count out) = false
  finishes s (peeks named a) = false
  finishes s (reports list) = false
  finishes s (cuts m) = false
  finishes s (loses d m) = false

  -- desk h names zone z in some call
  abbrev pub named_in : ℕ → List (Step vol) → ℕ → Bool
  named_in h [] z = false
  named_in h (x ∷ xs) z = (eqb x.desk h && (stores_to g x.event z || reads_from g x.event z)) || named_in h xs z

  -- a finished write or reset of another desk changes it
  abbrev pub changed_in : ℕ → System vol → List (Step vol) → ℕ → Bool
  changed_in h s [] z = false
  changed_in h s (x ∷ xs) z = (not (eqb x.desk h) && (finishes s x.event && stores_to g x.event z)) || changed_in h (next g vol s x.event) xs z

  -- what a compact, if it finishes, adds to the emptyings
  abbrev pub compacted_in : System vol → Event vol → List Compacted
  compacted_in s e = let v = vol.seen (next g vol s e).memory in pick (finishes s e) (map (λ d. record { drive = d; unused = unused_in g true (roles g v) (by_roles g v) d }) (drive_of_compact e)) []

  -- a call of a desk: the system in which it is made, and the emptyings before it
  pub record Moment : Type 0 where
    pub system : System vol
    pub past : List Compacted
    pub event : Event vol

  -- the calls of desk h, in order
  abbrev pub calls_in : ℕ → System vol → List Compacted → List (Step vol) → List Moment
  calls_in h s past [] = []
  calls_in h s past (x ∷ xs) =
      let later = calls_in h (next g vol s x.event) (past ++ compacted_in s x.event) xs in
      pick (eqb x.desk h && is_call x.event) (record { system = s; past = past; event = x.event } ∷ later) later

  -- a run: the hosts do their duties
  abbrev pub events_in : List (Step vol) → List (Event vol)
  events_in [] = []
  events_in (x ∷ xs) = x.event ∷ events_in xs

  abbrev pub AllMayStand : List (Step vol) → Type 0
  AllMayStand [] = Unit {0}
  AllMayStand (x ∷ xs) = MayStand x.desk x.event × AllMayStand xs

  pub record Run (s : System vol) (xs : List (Step vol)) : Type 0 where
    pub dutiful : Dutiful g vol s (events_in xs)
    pub may_stand : AllMayStand xs

  -- ==== what two runs agree on at a call (shared: the zones that the desk shares)
  -- a zone's record, with its owner, and its sectors: between finished calls the ledger's content (Promise: pointer-is, read-gives)
  pub record SameZone (s t : System vol) (z : ℕ) : Type 0 where
    pub generation : (vol.view s.state).generation z ≡ (vol.view t.state).generation z
    pub condition : (vol.view s.state).condition z ≡ (vol.view t.state).condition z
    pub owner : (vol.view s.state).owner z ≡ (vol.view t.state).owner z
    pub content : s.ledger.content z ≡ t.ledger.content z

  pub record AgreeAt (shared : ℕ → Bool) (p q : Moment) : Type 0 where
    pub same_call : asked_by p.event ≡ asked_by q.event
    pub zones : (z : ℕ) → z < g.zones → shared z ≡ true → SameZone p.system q.system z
    pub open_zones_lem : open_zones g (vol.view p.system.state) ≡ open_zones g (vol.view q.system.state)
    pub emptyings : p.past ≡ q.past
    pub general_logs_lem : (d : ℕ) → d < g.drives → all_but p.system.lost d ≡ true → general_log g (vol.seen p.system.memory) d ≡ general_log g (vol.seen q.system.memory) d
    pub lost : p.system.lost ≡ q.system.lost

  -- "the same ones in the same order", and at each of them they agree
  abbrev pub AllAgree : (ℕ → Bool) → List Moment → List Moment → Type 0
  AllAgree shared [] [] = Unit {0}
  AllAgree shared [] (q ∷ qs) = ⊥
  AllAgree shared (p ∷ ps) [] = ⊥
  AllAgree shared (p ∷ ps) (q ∷ qs) = AgreeAt shared p q × AllAgree shared ps qs

  -- "every zone that desk h names in some call and that a finished write or reset of the other desk changes in either run"
  abbrev pub shared_in : ℕ → System vol → List (Step vol) → List (Step vol) → ℕ → Bool
  shared_in h s xs ys z = named_in h xs z && (changed_in h s xs z || changed_in h s ys z)

  -- ==== it hears the same
  abbrev pub is_promised : Event vol → Bool
  is_promised (calls mounts named stop) = false
  is_promised (calls (writes w) named stop) = true
  is_promised (calls flushes named stop) = true
  is_promised (calls (resets z) named stop) = true
  is_promised (calls (formats array) named stop) = false
  is_promised (calls (compacts d) named stop) = false
  is_promised (looks named) = false
  is_promised (reads named a count out) = true
  is_promised (peeks named a) = true
  is_promised (reports list) = false
  is_promised (cuts m) = false
  is_promised (loses d m) = false

  abbrev pub AllHearSame : List Moment → List Moment → Type 0
  AllHearSame [] [] = Unit {0}
  AllHearSame [] (q ∷ qs) = ⊥
  AllHearSame (p ∷ ps) [] = ⊥
  AllHearSame (p ∷ ps) (q ∷ qs) = (is_promised p.event ≡ true → heard p.system p.event ≡ heard q.system q.event) × AllHearSame ps qs

  -- of two runs from one system
  abbrev pub Isolated : ℕ → System vol → Type 0
  Isolated h s = (xs ys : List (Step vol)) → Run s xs → Run s ys → AllAgree (shared_in h s xs ys) (calls_in h s [] xs) (calls_in h s [] ys) → AllHearSame (calls_in h s [] xs) (calls_in h s [] ys)

  -- THE STATEMENT: of any history, as in the claim, from its format on and from each finished mount on
  pub record IsolatedFrom (s0 : System vol) : Type 0 where
    pub from_format : (h : ℕ) → Isolated h s0
    pub from_mount : (before : List (Event vol)) (by : vol.Names) (count : ℕ) → Dutiful g vol s0 (before ++ (calls mounts by count ∷ []))
        → let s = after_all g vol s0 before in heard s (calls mounts by count) ≡ answered Finished → (h : ℕ) → Isolated h (next g vol s (calls mounts by count))

  abbrev pub DesksIsolated : Type 0
  DesksIsolated = (named : vol.Names) (array : ℕ) (old : vol.State) (stop : ℕ) (m : vol.Memory) → array < 256 ^ 8
      → let r = vol.call (formats array) named old stop m in r.answer ≡ Finished → IsolatedFrom (start g vol named r)

-- THE CLAIMS, of the rules' calls and of the code's, on older drives and on drives that cache resets
abbrev pub IsolationClaim : Type 0
IsolationClaim = (g : Geometry) (t : TableLengths) → DesksIsolated g (on_device g t) × DesksIsolated g (on_caching_device g t)

abbrev pub IsolationTablesClaim : Type 0
IsolationTablesClaim = (g : Geometry) → DesksIsolated g (on_tables g) × DesksIsolated g (on_caching_tables g)
