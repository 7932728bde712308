-- What a volume promises, as one claim about lists of events (document 01, demand 3, "The book", with what reads and peeks give). The events are calls with
-- any input, refused and stopped ones included, power cuts, and the loss of a drive. The hypotheses are the host's duties and what a cut and a loss can do;
-- the claim speaks of looks, mounts, reads, peeks, reports and the ledger alone. It is stated once, of any `Volume`; OnDevice.antt and OnTables.antt say of which.
use Rattle.std.specs.Prelude.{◌≡◌, ◌≢◌, ◌⊎◌, Bool, true, not, ℕ, zero, ◌+◌, ◌*◌, ◌^◌, ◌≤◌, ◌<◌, List, [], ◌∷◌, length, eqb}
use Rattle.tables.specs.meaning.Below.{tabulate_from}
use Rattle.tables.specs.meaning.Lists.{concat}
use Rattle.tables.specs.meaning.Device.{Device}
use Rattle.tables.specs.meaning.Drives.{no_drive}
use Rattle.tables.specs.meaning.Placement.{drive_of}
use Rattle.tables.specs.declared.Geometry.{Geometry}
use Rattle.tables.specs.meaning.Geometry.{zone_sectors}
use Rattle.logs.specs.meaning.Entry.{worn_generation}
use Rattle.volume.specs.declared.Answer.{Answer}
use Rattle.volume.specs.declared.Answer.TheVariants.{Finished, Unfinished, Refused, BadLog}
use Rattle.volume.specs.meaning.State.{StateView, pointer_in, is_sealed, is_worn, hosts, share_at}
use Rattle.volume.specs.meaning.Content.{at, inside_stripe, parity_drive_at}
use Rattle.volume.specs.meaning.Roles.{roles, by_roles}
use Rattle.volume.specs.meaning.Emptying.{unused_in, reserve, entry_size}
use Rattle.volume.specs.meaning.Hosts.{over_limit, over_open, share_left}
use Rattle.volume.specs.meaning.Rules.{Shown}
use Rattle.volume.specs.meaning.Refusals.{WriteAsked, zone_of, offset_of, zone_asked, end_asked}
use Rattle.volume.specs.meaning.Answers.{CallResult, left_out, sectors_in, place_of}
use Rattle.volume.specs.meaning.CallContracts.{ReadResult, byte_of}
use Rattle.volume.specs.meaning.Report.{ReportResult}
use Rattle.promise.specs.meaning.Ledger.{Ledger, fresh_ledger, Reply, is_refused, is_unfinished, is_finished, LedgerNote, note_write, note_flush, note_reset, note_mount, note_format, note_compact, noted, Fits}

-- ==== the calls that store
pub data Call : Type 0 where
  mounts : Call
  writes : WriteAsked → Call
  flushes : Call
  resets : ℕ → Call  -- zone
  formats : ℕ → Call  -- array number
  compacts : ℕ → Call  -- drive

-- ==== a volume: what its memory is and what the host holds, and what each call leaves and gives
pub record Peeked : Type 0 where
  pub number : ℕ  -- the refusal's, 0 if there is none
  pub from : ℕ  -- where in the lent sectors the part begins
  pub part : List ℕ  -- its bytes

pub record Volume : Type 1 where
  pub Memory : Type 0
  pub State : Type 0
  pub Names : Type 0  -- how the host names drives
  pub is_named : Names → ℕ → Bool
  pub call : Call → Names → State → ℕ → Memory → CallResult Memory State  -- with a count of stores
  pub look : Names → State → Memory → CallResult Memory State
  pub read : Names → State → ℕ → ℕ → List ℕ → Memory → ReadResult  -- address; count of sectors; buffer
  pub peek : Names → State → ℕ → Memory → Peeked  -- address
  pub Listing : Type 0  -- what the host lends for a report
  pub report : State → Listing → ReportResult Listing
  pub shows : Names → Memory → Memory → Shown  -- what the drives that a look finds present in the first memory show in the second
  pub state_of : Names → Memory → Memory → State  -- the state that hands on what those drives show there, with the shares by their logs there
  pub finished_report : Shown → Listing → ReportResult Listing  -- the finished report that tells the conditions shown
  pub view : State → StateView  -- as the rules see it: the drive that is lost, the zones' generations, conditions and owners, the shares
  pub seen : Memory → Device  -- the device that a memory stands for
  pub CutTo : ℕ → Memory → Memory → Type 0  -- what a power cut may leave, while a drive is lost
  pub LossTo : ℕ → Memory → Memory → Type 0  -- what the loss of a drive may leave: of that drive anything

-- a zone's write pointer, as the host holds it
abbrev pub pointer_held : (vol : Volume) → vol.State → ℕ → ℕ
pointer_held vol state z = pointer_in ((vol.view state).condition z)

-- ==== the host, the volume and the ledger
-- ready: the last call finished. stopped: it did not, and "only a cut may follow". down: after a cut, "looks and mounts" until a mount finishes.
pub data Mode : Type 0 where
  ready : Mode
  stopped : Mode
  down : Mode

pub record System (vol : Volume) : Type 0 where
  pub memory : vol.Memory
  pub lost : ℕ  -- the drive that is lost, or no_drive
  pub mode : Mode
  pub state : vol.State  -- what the host holds
  pub ledger : Ledger

-- ==== events. Every call is handed the format's geometry, the drives that the host names, and the state that the last finished storing call left: what the host
-- holds. A look's state is not handed on; what it serves for is said below (Serves).
pub data Event (vol : Volume) : Type 0 where
  calls : Call → vol.Names → ℕ → Event vol  -- count of stores
  looks : vol.Names → Event vol
  reads : vol.Names → ℕ → ℕ → List ℕ → Event vol  -- address; count of sectors; buffer
  peeks : vol.Names → ℕ → Event vol  -- address
  reports : vol.Listing → Event vol  -- what is lent
  cuts : vol.Memory → Event vol  -- what it leaves
  loses : ℕ → vol.Memory → Event vol  -- a drive; what is left of the memory

-- ---- what an event does. A refused call changes nothing; an unfinished one has made its stores and handed on no state.
abbrev pub reply_to : Answer → Reply
reply_to Finished = is_finished
reply_to Unfinished = is_unfinished
reply_to (Refused n) = is_refused
reply_to (BadLog b) = is_refused

abbrev pub mode_after : Answer → Mode → Mode
mode_after Finished m = ready
mode_after Unfinished m = stopped
mode_after (Refused n) m = m
mode_after (BadLog b) m = m

-- what the ledger is told of a call that shows k when it has finished
abbrev pub note_of : Geometry → Call → Shown → Reply → LedgerNote
note_of g mounts k r = note_mount k r
note_of g (writes w) k r = note_write (zone_asked g w) (sectors_in g w.count w.buffer) r
note_of g flushes k r = note_flush r
note_of g (resets z) k r = note_reset z r
note_of g (formats array) k r = note_format r
note_of g (compacts d) k r = note_compact r

module _ (g : Geometry) (vol : Volume) where
  -- after a call with this result
  abbrev pub settled : System vol → CallResult vol.Memory vol.State → Ledger → System vol
  settled s r l = record { memory = r.memory; lost = s.lost; mode = mode_after r.answer s.mode; state = r.state; ledger = l }

  -- the ledger after a call with this result
  abbrev pub ledger_after : System vol → Call → vol.Names → CallResult vol.Memory vol.State → Ledger
  ledger_after s c named r = noted s.ledger (note_of g c (vol.shows named s.memory r.memory) (reply_to r.answer))

  abbrev pub next : System vol → Event vol → System vol
  next s (calls c named stop) = let r = vol.call c named s.state stop s.memory in settled s r (ledger_after s c named r)
  next s (looks named) = s
  next s (reads named a count out) = s
  next s (peeks named a) = s
  next s (reports list) = s
  next s (cuts m) = record { memory = m; lost = s.lost; mode = down; state = s.state; ledger = s.ledger }
  next s (loses d m) = record { memory = m; lost = d; mode = s.mode; state = s.state; ledger = s.ledger }

-- ---- what is heard of it: answers, bytes, numbers (S: what a state is; L: what is lent for a report)
pub data Heard (S L : Type 0) : Type 0 where
  answered : Answer → Heard S L  -- of a storing call
  looked : Answer → S → Heard S L  -- with the state that tells what is shown
  read_out : Answer → List ℕ → Heard S L  -- with what the buffer holds then
  peeked_at : ℕ → ℕ → List ℕ → Heard S L  -- number; from; part (Peeked)
  reported : ReportResult L → Heard S L
  nothing : Heard S L  -- of a cut, and of the loss of a drive

abbrev pub heard : {vol : Volume} → System vol → Event vol → Heard vol.State vol.Listing
heard {vol} s (calls c named stop) = answered (vol.call c named s.state stop s.memory).answer
heard {vol} s (looks named) = let r = vol.look named s.state s.memory in looked r.answer r.state
heard {vol} s (reads named a count out) = let r = vol.read named s.state a count out s.memory in read_out r.answer r.buffer
heard {vol} s (peeks named a) = let r = vol.peek named s.state a s.memory in peeked_at r.number r.from r.part
heard {vol} s (reports list) = reported (vol.report s.state list)
heard {vol} s (cuts m) = nothing
heard {vol} s (loses d m) = nothing

-- ==== the host's duties
-- every drive but x
abbrev pub all_but : ℕ → ℕ → Bool
all_but x d = not (eqb d x)

-- "the host .. names every drive not lost, and never names a lost one again" (what it says of drives at or above D is free)
pub record NamesAll (g : Geometry) (vol : Volume) (s : System vol) (named : vol.Names) : Type 0 where
  pub drives : (d : ℕ) → d < g.drives → vol.is_named named d ≡ all_but s.lost d

-- looks and mounts may come
abbrev pub MayMount : Mode → Type 0
MayMount ready = Unit {0}
MayMount stopped = ⊥
MayMount down = Unit {0}

-- when a call may come: "finishes a mount after each cut before anything but looks and mounts"
abbrev pub MayCome : Call → Mode → Type 0
MayCome mounts m = MayMount m
MayCome (writes w) m = m ≡ ready
MayCome flushes m = m ≡ ready
MayCome (resets z) m = m ≡ ready
MayCome (formats array) m = m ≡ ready
MayCome (compacts d) m = m ≡ ready

abbrev pub NotStopped : Answer → Type 0
NotStopped Finished = Unit {0}
NotStopped Unfinished = ⊥
NotStopped (Refused n) = Unit {0}
NotStopped (BadLog b) = Unit {0}

-- a later format is not stopped half way: the ledger says nothing of a volume that is half gone; and its array number has 64 bits
abbrev pub Completes : Call → Answer → Type 0
Completes mounts a = Unit {0}
Completes (writes w) a = Unit {0}
Completes flushes a = Unit {0}
Completes (resets z) a = Unit {0}
Completes (formats array) a = (array < 256 ^ 8) × NotStopped a
Completes (compacts d) a = Unit {0}

module _ (g : Geometry) (vol : Volume) where
  -- (a cut does what document 01 says of it; no more than one drive is lost, and of its memory anything may become, then and later)
  abbrev pub Duty : System vol → Event vol → Type 0
  Duty s (calls c named stop) = NamesAll g vol s named × MayCome c s.mode × Completes c (vol.call c named s.state stop s.memory).answer
  Duty s (looks named) = NamesAll g vol s named × MayMount s.mode
  Duty s (reads named a count out) = NamesAll g vol s named × (s.mode ≡ ready)
  Duty s (peeks named a) = NamesAll g vol s named × (s.mode ≡ ready)
  Duty s (reports list) = s.mode ≡ ready
  Duty s (cuts m) = vol.CutTo s.lost s.memory m
  Duty s (loses d m) = (d < g.drives) × ((s.lost ≡ no_drive) ⊎ (s.lost ≡ d)) × vol.LossTo d s.memory m

  abbrev pub Dutiful : System vol → List (Event vol) → Type 0
  Dutiful s [] = Unit {0}
  Dutiful s (e ∷ es) = Duty s e × Dutiful (next g vol s e) es

-- ==== what is promised at every point of the list
-- count sectors of a zone's content from an offset on, one after the other
abbrev pub content_bytes : Ledger → ℕ → ℕ → ℕ → List ℕ
content_bytes l z offset count = concat (tabulate_from (at (l.content z)) offset count)

-- two states say the same of the volume's zones
pub record SameZones (g : Geometry) (a b : StateView) : Type 0 where
  pub generations : (z : ℕ) → z < g.zones → a.generation z ≡ b.generation z
  pub conditions : (z : ℕ) → z < g.zones → a.condition z ≡ b.condition z

-- a state that serves reads, peeks and reports: they give what they give by the state that the host holds
pub record Serves (g : Geometry) (vol : Volume) (s : System vol) (state : vol.State) : Type 0 where
  pub reads_same : (named : vol.Names) → NamesAll g vol s named → (a count : ℕ) (out : List ℕ) → vol.read named state a count out s.memory ≡ vol.read named s.state a count out s.memory
  pub peeks_same : (named : vol.Names) → NamesAll g vol s named → (a : ℕ) → vol.peek named state a s.memory ≡ vol.peek named s.state a s.memory
  pub reports_same : (list : vol.Listing) → vol.report state list ≡ vol.report s.state list

-- an answer that is no refusal, or one for its cause (Cause: what a number is given for); and none for a bad log
abbrev pub RefusedOnly : (ℕ → Type 0) → Answer → Type 0
RefusedOnly Cause Finished = Unit {0}
RefusedOnly Cause Unfinished = Unit {0}
RefusedOnly Cause (Refused n) = Cause n
RefusedOnly Cause (BadLog b) = ⊥

-- why a reset of zone z may be refused, and by which number n (generation: the zone's, as the host holds it)
pub data ResetRefusal (g : Geometry) (generation z n : ℕ) : Type 0 where
  no_such_zone : n ≡ 8 → g.zones ≤ z → ResetRefusal g generation z n
  worn_out : n ≡ 12 → worn_generation ≤ generation → ResetRefusal g generation z n
  general_log_full : n ≡ 14 → ResetRefusal g generation z n

-- a write's entry is larger than what is left of its host's share of the drive that gets it, which is there (x: the lost drive; held: the state)
pub record PastShare (g : Geometry) (x : ℕ) (held : StateView) (w : WriteAsked) : Type 0 where
  pub ends_inside : inside_stripe g (end_asked g held w) ≡ true
  pub drive_there : all_but x (parity_drive_at g (zone_asked g w) (end_asked g held w)) ≡ true
  pub larger : share_left g held w.host (zone_asked g w) (end_asked g held w) < entry_size g (end_asked g held w)

-- and why a write may be refused
pub data WriteRefusal (g : Geometry) (x : ℕ) (held : StateView) (w : WriteAsked) (n : ℕ) : Type 0 where
  buffer_length : n ≡ 2 → length w.buffer ≢ w.count * g.sector → WriteRefusal g x held w n
  no_such_address : n ≡ 8 → g.zones ≤ zone_asked g w → WriteRefusal g x held w n
  no_such_host : n ≡ 8 → hosts ≤ w.host → WriteRefusal g x held w n
  no_sectors : n ≡ 9 → w.count ≡ zero → WriteRefusal g x held w n
  past_the_end : n ≡ 9 → zone_sectors g < offset_of g w.address + w.count → WriteRefusal g x held w n
  not_at_pointer : n ≡ 10 → offset_of g w.address ≢ pointer_in (held.condition (zone_asked g w)) → WriteRefusal g x held w n
  sealed_zone : n ≡ 11 → is_sealed (held.condition (zone_asked g w)) ≡ true → WriteRefusal g x held w n
  worn_zone : n ≡ 12 → is_worn (held.condition (zone_asked g w)) ≡ true → WriteRefusal g x held w n
  host_at_limit : n ≡ 18 → over_limit g held w.host (zone_asked g w) (end_asked g held w) ≡ true → WriteRefusal g x held w n
  no_more_open : n ≡ 19 → over_open g held (zone_asked g w) (end_asked g held w) ≡ true → WriteRefusal g x held w n
  share_used : n ≡ 14 → PastShare g x held w → WriteRefusal g x held w n

-- and a compact of drive d
pub data CompactRefusal (g : Geometry) (x d n : ℕ) : Type 0 where
  not_present : n ≡ 8 → (g.drives ≤ d) ⊎ (d ≡ x) → CompactRefusal g x d n
  parity_log_full : n ≡ 14 → CompactRefusal g x d n

-- what is left of both hosts' shares of drive d fits its parity log beside the reserve, or nothing is left (v: the device)
abbrev pub SharesFit : Geometry → Device → StateView → ℕ → Type 0
SharesFit g v state d =
    (reserve g + (state.share (share_at d 0) + state.share (share_at d 1)) ≤ unused_in g true (roles g v) (by_roles g v) d)
    ⊎ ((state.share (share_at d 0) ≡ 0) × (state.share (share_at d 1) ≡ 0))

pub record Promise (g : Geometry) (vol : Volume) (s : System vol) : Type 0 where
  -- "Look: the zones it shows must fit." No look is refused; its state is what is shown; and what is shown fits
  pub look_fits : (named : vol.Names) → NamesAll g vol s named
      → (vol.look named s.state s.memory ≡ record { answer = Finished; memory = s.memory; state = vol.state_of named s.memory s.memory })
      × Fits g s.ledger (vol.shows named s.memory s.memory)
  -- "Finished mount: the same"
  pub mount_fits : (named : vol.Names) → NamesAll g vol s named → MayMount s.mode → (stop : ℕ) → heard s (calls mounts named stop) ≡ answered Finished
      → let t = next g vol s (calls mounts named stop) in (t.state ≡ vol.state_of named s.memory t.memory) × Fits g s.ledger (vol.shows named s.memory t.memory)
  -- a mount is refused by 14, log full, alone: it meets no bad place of a log, so never 6, 16 or 17
  pub mount_refused : (named : vol.Names) → NamesAll g vol s named → (stop : ℕ) (a : Answer) → heard s (calls mounts named stop) ≡ answered a → RefusedOnly (λ n. n ≡ 14) a
  -- between finished calls the state's pointers are the lengths of the contents
  pub pointer_is : s.mode ≡ ready → (z : ℕ) → z < g.zones → pointer_held vol s.state z ≡ length (s.ledger.content z)
  -- and a look's state says of every zone what the host's says, but for its owner, and the drive that is lost
  pub look_holds : (named : vol.Names) → NamesAll g vol s named → s.mode ≡ ready
      → let told = vol.view (vol.look named s.state s.memory).state in (told.lost ≡ s.lost) × SameZones g told (vol.view s.state)
  -- so it serves for whatever stores nothing
  pub look_serves : (named : vol.Names) → NamesAll g vol s named → s.mode ≡ ready → Serves g vol s (vol.look named s.state s.memory).state
  -- and no flush is refused, and a reset or write only for its cause: never by 1, 3, 4, 7 or 15, and none of them for a bad log
  pub flush_accepted : (named : vol.Names) → NamesAll g vol s named → s.mode ≡ ready → (stop : ℕ) (a : Answer) → heard s (calls flushes named stop) ≡ answered a → RefusedOnly (λ n. ⊥) a
  pub reset_refused : (named : vol.Names) → NamesAll g vol s named → s.mode ≡ ready → (z stop : ℕ) (a : Answer) → heard s (calls (resets z) named stop) ≡ answered a
      → RefusedOnly (ResetRefusal g ((vol.view s.state).generation z) z) a
  pub write_refused : (named : vol.Names) → NamesAll g vol s named → s.mode ≡ ready → (w : WriteAsked) (stop : ℕ) (a : Answer) → heard s (calls (writes w) named stop) ≡ answered a
      → RefusedOnly (WriteRefusal g s.lost (vol.view s.state) w) a
  -- a write is refused where its entry is larger than what is left of its host's share: so for 14 there and nowhere else
  pub share_asked : (named : vol.Names) → NamesAll g vol s named → s.mode ≡ ready → (w : WriteAsked) → PastShare g s.lost (vol.view s.state) w → (stop : ℕ)
      → (heard s (calls (writes w) named stop) ≢ answered Finished) × (heard s (calls (writes w) named stop) ≢ answered Unfinished)
  pub compact_refused : (named : vol.Names) → NamesAll g vol s named → s.mode ≡ ready → (d stop : ℕ) (a : Answer) → heard s (calls (compacts d) named stop) ≡ answered a → RefusedOnly (CompactRefusal g s.lost d) a
  -- and the shares fit the logs
  pub shares_fit : s.mode ≡ ready → (d : ℕ) → d < g.drives → all_but s.lost d ≡ true → SharesFit g (vol.seen s.memory) (vol.view s.state) d
  -- an accepted read leaves the content in the buffer, and a read below the pointer is accepted
  pub read_gives : (named : vol.Names) → NamesAll g vol s named → s.mode ≡ ready → (a count : ℕ) (out bytes : List ℕ) → heard s (reads named a count out) ≡ read_out Finished bytes
      → (offset_of g a + count ≤ length (s.ledger.content (zone_of g a))) × (bytes ≡ content_bytes s.ledger (zone_of g a) (offset_of g a) count)
  pub read_accepted : (named : vol.Names) → NamesAll g vol s named → s.mode ≡ ready → (a count : ℕ) (out : List ℕ) → zone_of g a < g.zones → zero < count → length out ≡ count * g.sector
      → offset_of g a + count ≤ pointer_held vol s.state (zone_of g a) → heard s (reads named a count out) ≡ read_out Finished (content_bytes s.ledger (zone_of g a) (offset_of g a) count)
  -- an accepted peek gives the place of the address, and there lies the content's sector; a peek below the pointer is accepted where the sector's drive is
  -- not lost
  pub peek_gives : (named : vol.Names) → NamesAll g vol s named → s.mode ≡ ready → (a from : ℕ) (part : List ℕ) → heard s (peeks named a) ≡ peeked_at 0 from part
      → (offset_of g a < length (s.ledger.content (zone_of g a))) × (from ≡ byte_of g (place_of g a)) × (part ≡ at (s.ledger.content (zone_of g a)) (offset_of g a))
  pub peek_accepted : (named : vol.Names) → NamesAll g vol s named → s.mode ≡ ready → (a : ℕ) → zone_of g a < g.zones → offset_of g a < pointer_held vol s.state (zone_of g a)
      → all_but s.lost (drive_of g.drives g.unit (zone_of g a) (offset_of g a)) ≡ true → heard s (peeks named a) ≡ peeked_at 0 (byte_of g (place_of g a)) (at (s.ledger.content (zone_of g a)) (offset_of g a))
  -- no report is refused, and it tells what a look of the same moment shows
  pub report_gives : (named : vol.Names) → NamesAll g vol s named → s.mode ≡ ready → (list : vol.Listing) → heard s (reports list) ≡ reported (vol.finished_report (vol.shows named s.memory s.memory) list)

module _ (g : Geometry) (vol : Volume) where
  -- before each event, and after the last
  abbrev pub Throughout : System vol → List (Event vol) → Type 0
  Throughout s [] = Promise g vol s
  Throughout s (e ∷ es) = Promise g vol s × Throughout (next g vol s e) es

  -- after the format at the head; "a drive left out of an accepted format .. is lost"
  abbrev pub start : vol.Names → CallResult vol.Memory vol.State → System vol
  start named r = record { memory = r.memory; lost = left_out g (vol.is_named named); mode = ready; state = r.state; ledger = fresh_ledger }

  -- THE CLAIM: of any memory and any finished format of it, under a 64-bit array number (old: what the host held before, anything), and any list of
  -- events in which the host does its duties
  abbrev pub KeepsPromise : Type 0
  KeepsPromise = (named : vol.Names) (array : ℕ) (old : vol.State) (stop : ℕ) (m : vol.Memory) → array < 256 ^ 8
      → let r = vol.call (formats array) named old stop m in
      r.answer ≡ Finished → (es : List (Event vol)) → Dutiful g vol (start named r) es → Throughout (start named r) es
