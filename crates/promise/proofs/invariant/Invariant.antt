-- The invariant: what holds of the device and the ledger after every single store, cut and loss (Inv), and what holds between finished calls
-- (Rest). Each zone is Live, and every look shows what fits its content; or Dying, and every look shows it empty. Every clause speaks of all
-- that is written or of what is durable: that is why a cut cannot break it. The ghosts say what the logs hold, exactly, so that a cut
-- shortens them. x is the lost drive, or no_drive; the drives present are those with Here g x d.
use Rattle.std.specs.Prelude.{◌≡◌, ◌⊎◌, Bool, true, false, ℕ, zero, ◌+◌, ◌-◌, ◌*◌, ◌^◌, ◌≤◌, ◌<◌, length, get_or, take}
use Rattle.std.proofs.Common.{inl, le_trans}
use mathlib.Core.List.{List, [], ◌∷◌, map, Memᴰ}
use Rattle.tables.specs.meaning.Device.{Device, ZoneView}
use Rattle.tables.specs.laws.Lists.{Prefix}
use Rattle.tables.specs.meaning.Placement.{needed}
use Rattle.tables.specs.declared.Geometry.{Geometry}
use Rattle.tables.specs.meaning.Geometry.{stripe_sectors, zone_sectors, parity_drive_of, first_drive_of, physical_zones, data_zone}
use Rattle.logs.specs.meaning.Entry.{general_zone, parity_zone, worn_generation, Header, label, counters, zone_reset, partial_parity, seal, closing, Entry, encode}
use Rattle.tables.specs.meaning.Drives.{no_drive, present_but}
use Rattle.logs.specs.laws.Walk.{sectors_of_all, Reads, Whole, WellFormedLog, log_extent, cut_entries}
use Rattle.volume.specs.meaning.Content.{at, row_xor_below, entry_header, inside_stripe, parity_drive_at}
use Rattle.promise.proofs.content.Columns.{column}
use Rattle.logs.specs.meaning.Heads.{generation_in, last_lost}
use Rattle.logs.specs.laws.Heads.{zone_gen}
use Rattle.volume.specs.declared.Condition.{Condition}
use Rattle.volume.specs.declared.Condition.TheVariants.{Empty, Open, Sealed, Worn}
use Rattle.volume.specs.meaning.State.{pointer_in, StateView}
use Rattle.promise.specs.meaning.Ledger.{Ledger}

-- of each drive, the generations of its general and its parity log: of their first closing entries, 0 where a log has none
abbrev pub LogGenerations : Type 0
LogGenerations = ℕ → ℕ × ℕ

pub record Ghost : Type 0 where
  pub laid : ℕ → List (List ℕ)  -- the sectors that a zone's places follow, of which its content is a beginning
  pub generation : ℕ → ℕ  -- the zone's generation when the tables were last at rest
  pub general : ℕ → List Header  -- what drive d's general log holds
  pub parity : ℕ → List Entry  -- what drive d's parity log holds, the last entry perhaps torn
  pub array : ℕ
  pub closed : LogGenerations

abbrev pub Here : Geometry → ℕ → ℕ → Type 0
Here g x d = present_but g x d ≡ true

-- a closing entry has no rows
abbrev pub closing_entry : ℕ → ℕ → Entry
closing_entry k n = record { head = closing k n; rows = [] }

-- ---- the logs
-- a label names no drive or the lost one
abbrev pub Names : ℕ → ℕ → Type 0
Names x y = (y ≡ no_drive) ⊎ (y ≡ x)

-- so does a log's last one, whatever a cut keeps (n: how much of the log is durable). Earlier ones may name a drive that has been rebuilt
abbrev pub LastNames : ℕ → ℕ → List Header → Type 0
LastNames x n hs = (j : ℕ) → n ≤ j → Names x (last_lost no_drive (take j hs))

-- a label that may join: it also carries the array's number, as every label does, so a log may begin with any of them
abbrev pub LabelFits : ℕ → ℕ → ℕ → ℕ → Type 0
LabelFits x array y a = Names x y × (a ≡ array)

pub record LogsIn (g : Geometry) (x : ℕ) (v : Device) (general : ℕ → List Header) (parity : ℕ → List Entry) (array : ℕ) (closed : LogGenerations) : Type 0 where
  pub lost_ok : (x ≡ no_drive) ⊎ (x < g.drives)
  pub array_lt : array < 256 ^ 8
  pub general_is : (d : ℕ) → Here g x d → (v d general_zone).sectors ≡ map (encode g d) (general d)
  pub general_reads : (d : ℕ) → Here g x d → (h : Header) → Memᴰ h (general d) → Reads g d false h
  pub first : (d : ℕ) → Here g x d → (y : ℕ) × (hs : List Header) × (general d ≡ label y array ∷ hs)
  pub first_lasts : (d : ℕ) → Here g x d → 1 ≤ (v d general_zone).durable
  pub arrays : (d : ℕ) → Here g x d → (y a : ℕ) → Memᴰ (label y a) (general d) → a ≡ array
  pub labels : (d : ℕ) → Here g x d → LastNames x (v d general_zone).durable (general d)
  -- closing entries: all of one generation, and one lasts; or none
  pub general_closes : (d : ℕ) → Here g x d → (k n : ℕ) → Memᴰ (closing k n) (general d) → n ≡ (closed d).0
  pub general_closed : (d : ℕ) → Here g x d → 0 < (closed d).0 → Memᴰ (closing 0 (closed d).0) (take (v d general_zone).durable (general d))
  pub parity_closes : (d : ℕ) → Here g x d → (e : Entry) → Memᴰ e (parity d) → (k n : ℕ) → e.head ≡ closing k n → n ≡ (closed d).1
  pub parity_closed_lem : (d : ℕ) → Here g x d → 0 < (closed d).1 → Memᴰ (closing_entry 1 (closed d).1) (cut_entries g d true (parity d) (v d parity_zone).durable)
  pub parity_is : (d : ℕ) → Here g x d → (v d parity_zone).sectors ≡ sectors_of_all g d true (parity d)
  pub parity_lawful : (d : ℕ) → Here g x d → WellFormedLog g d true (parity d)
  pub parity_fits : (d : ℕ) → Here g x d → log_extent g d true (parity d) ≤ g.capacity
  pub lasting : (d y : ℕ) → Here g x d → y < physical_zones g → (v d y).durable ≤ length (v d y).sectors
  pub place_fits : (d y : ℕ) → Here g x d → y < physical_zones g → length (v d y).sectors ≤ g.capacity

-- they speak of no zone's sectors and generation
abbrev pub LogsOk : Geometry → ℕ → Device → Ghost → Type 0
LogsOk g x v γ = LogsIn g x v γ.general γ.parity γ.array γ.closed

-- ---- what a zone's clauses speak of
-- the zone's cap: on every present drive a current seal at or below c lasts (a copied log keeps only its least seal)
abbrev pub Capped : Geometry → ℕ → Device → Ghost → ℕ → ℕ → Type 0
Capped g x v γ z c = (d : ℕ) → Here g x d → (b : ℕ) × (b ≤ c) × Memᴰ (seal z b (γ.generation z)) (take (v d general_zone).durable (γ.general d))

abbrev pub CappedBelow : Geometry → ℕ → Device → Ghost → ℕ → ℕ → Type 0
CappedBelow g x v γ z n = (c : ℕ) × (Capped g x v γ z c) × (c < n)

-- the rows that are there of an entry for stripe s, fill f, are those of the sectors E
pub record TrueRows (g : Geometry) (E : List (List ℕ)) (s f : ℕ) (rows : List (List ℕ)) : Type 0 where
  pub within : s * stripe_sectors g + f ≤ length E
  pub rows_are : (r : ℕ) → r < length rows → get_or rows r [] ≡ row_xor_below g.drives g.unit (at E) s (s * stripe_sectors g + f) r

-- the generation that drive d's last counters give zone z, whatever a cut keeps, is such that P
abbrev pub Counts : Geometry → ℕ → Device → Ghost → ℕ → (ℕ → Type 0) → Type 0
Counts g x v γ z P = (d : ℕ) → Here g x d → (j : ℕ) → (v d general_zone).durable ≤ j → P (generation_in z (take j (γ.general d)))

-- every entry of types 3 to 5 of zone z on a present drive has a generation such that P
pub record EntriesIn (g : Geometry) (x : ℕ) (general : ℕ → Header → Type 0) (parity : ℕ → Entry → Type 0) (z : ℕ) (P : ℕ → Type 0) : Type 0 where
  pub in_general_lem : (d : ℕ) → Here g x d → (h : Header) → general d h → zone_gen h (λ y n. y ≡ z → P n)
  pub in_parity_lem : (d : ℕ) → Here g x d → (e : Entry) → parity d e → zone_gen e.head (λ y n. y ≡ z → P n)

abbrev pub Entries : Geometry → ℕ → Ghost → ℕ → (ℕ → Type 0) → Type 0
Entries g x γ z P = EntriesIn g x (λ d h. Memᴰ h (γ.general d)) (λ d e. Memᴰ e (γ.parity d)) z P

-- all below n is there whichever drive is lost, in places of lengths len and parity logs par
pub record SurvivesLossIn (g : Geometry) (x : ℕ) (z generation n : ℕ) (len : ℕ → ℕ) (par : ℕ → Entry → Type 0) : Type 0 where
  pub places : (d : ℕ) → Here g x d → needed g.drives g.unit z n d ≤ len d
  pub entry : inside_stripe g n ≡ true → Here g x (parity_drive_at g z n)
      → (e : Entry) × par (parity_drive_at g z n) e × Whole g (parity_drive_at g z n) true e × (e.head ≡ entry_header g z generation n)

abbrev pub SurvivesLoss : Geometry → ℕ → ℕ → ℕ → ℕ → (ℕ → ℕ) → (ℕ → List Entry) → Type 0
SurvivesLoss g x z generation n len par = SurvivesLossIn g x z generation n len (λ d e. Memᴰ e (par d))

-- and stays so where no place is shorter and each whole entry is there still (y: the drive that is lost then)
pub survives_still : (g : Geometry) (x y z generation n : ℕ) {len len' : ℕ → ℕ} {par par' : ℕ → Entry → Type 0} → ((d : ℕ) → Here g y d → Here g x d) → ((d : ℕ) → Here g y d → len d ≤ len' d)
    → ((d : ℕ) → Here g y d → (e : Entry) → Whole g d true e → par d e → par' d e) → SurvivesLossIn g x z generation n len par → SurvivesLossIn g y z generation n len' par'
survives_still g x y z generation n here deep lasts s = record {
  places = λ d a. le_trans (s.places d (here d a)) (deep d a);
  entry = λ i a. let p = parity_drive_at g z n in let (e, m, w, q) = s.entry i (here p a) in (e, lasts p a e w m, w, q);
}

-- what is durable of the parity logs
abbrev pub durable_entries : Geometry → Device → Ghost → ℕ → List Entry
durable_entries g v γ d = cut_entries g d true (γ.parity d) (v d parity_zone).durable

-- ---- WHAT THE LOGS SAY of a zone: all that the invariant asks of them
pub record Said : Type 1 where
  pub general : ℕ → Header → Type 0  -- drive d's general log holds the header
  pub general_lasts : ℕ → Header → Type 0  -- and keeps it in a cut
  pub counts : ℕ → (ℕ → Type 0) → Type 0  -- the generation that its last counters give, whatever a cut keeps, is such
  pub parity : ℕ → Entry → Type 0  -- drive d's parity log holds the entry
  pub parity_lasts : ℕ → Entry → Type 0

abbrev pub said : Geometry → Device → Ghost → ℕ → Said
said g v γ z = record {
  general = λ d h. Memᴰ h (γ.general d);
  general_lasts = λ d h. Memᴰ h (take (v d general_zone).durable (γ.general d));
  counts = λ d P. (j : ℕ) → (v d general_zone).durable ≤ j → P (generation_in z (take j (γ.general d)));
  parity = λ d e. Memᴰ e (γ.parity d);
  parity_lasts = λ d e. Memᴰ e (cut_entries g d true (γ.parity d) (v d parity_zone).durable);
}

-- a zone: what is laid out there, its generation, and what the ledger says of it
pub record ZoneFacts : Type 0 where
  pub laid : List (List ℕ)
  pub generation : ℕ
  pub content : List (List ℕ)
  pub committed : ℕ
  pub resetting : Bool

abbrev pub facts_of : Ghost → Ledger → ℕ → ZoneFacts
facts_of γ l z = record { laid = γ.laid z; generation = γ.generation z; content = l.content z; committed = l.committed z; resetting = l.resetting z }

-- on drive d a seal at or below c, of generation n, lasts
abbrev pub SealLasts : Said → ℕ → ℕ → ℕ → ℕ → Type 0
SealLasts s z n c d = (b : ℕ) × (b ≤ c) × s.general_lasts d (seal z b n)

abbrev pub CappedIn : Geometry → ℕ → Said → ℕ → ℕ → ℕ → Type 0
CappedIn g x s z n c = (d : ℕ) → Here g x d → SealLasts s z n c d

abbrev pub CappedBelowIn : Geometry → ℕ → Said → ℕ → ℕ → ℕ → Type 0
CappedBelowIn g x s z n m = (c : ℕ) × (CappedIn g x s z n c) × (c < m)

-- ---- a zone that shows its content (held: drive d's zone)
pub record LiveZone (g : Geometry) (x z : ℕ) (f : ZoneFacts) (s : Said) (held : ℕ → ZoneView) : Type 0 where
  -- what is laid out: sectors of B bytes, no more than the zone has
  pub sizes : (a : ℕ) → a < length f.laid → length (at f.laid a) ≡ g.sector
  pub fits : length f.laid ≤ zone_sectors g
  pub generation_top : f.generation ≤ worn_generation
  pub committed_most : f.committed ≤ length f.content
  -- the content is a beginning of it: all of it, or as much as the cap allows
  pub front : Prefix f.content f.laid
  pub capped : (length f.content ≡ length f.laid) ⊎ CappedIn g x s z f.generation (length f.content)
  -- each present drive holds a front of its column
  pub places : (d : ℕ) → Here g x d → Prefix (held d).sectors (column g.drives g.unit z f.laid d)
  -- each current partial parity entry, whole or torn, tells the truth, or ends past the cap
  pub tells : (d : ℕ) → Here g x d → (e : Entry) → s.parity d e → (i k : ℕ) → e.head ≡ partial_parity z i k f.generation
      → TrueRows g f.laid i k e.rows ⊎ CappedBelowIn g x s z f.generation (i * stripe_sectors g + k)
  -- each current seal lies between what is committed and what is laid out
  pub seals : (d : ℕ) → Here g x d → (c : ℕ) → s.general d (seal z c f.generation) → (f.committed ≤ c) × (c ≤ length f.laid)
  -- an entry that makes sector 0 known alone (no other sector of row 0 below its end) ends at or below every current seal, or past the cap
  pub alone : (d e : ℕ) → Here g x d → Here g x e → (c : ℕ) → s.general d (seal z c f.generation)
      → (p : Entry) → s.parity e p → Whole g e true p → (k : ℕ) → p.head ≡ partial_parity z zero k f.generation → k ≤ g.unit
      → (k ≤ c) ⊎ CappedBelowIn g x s z f.generation k
  -- what is committed is durable, whichever drive is lost
  pub strong : SurvivesLossIn g x z f.generation f.committed (λ d. (held d).durable) s.parity_lasts
  -- whatever a cut keeps, each present drive's last counters give the zone's generation
  pub counts : (d : ℕ) → Here g x d → s.counts d (λ n. n ≡ f.generation)
  -- there is no current reset entry, unless a reset was stopped
  pub no_reset : (f.resetting ≡ true) ⊎ ((d : ℕ) → Here g x d → s.general d (zone_reset z f.generation) → ⊥)
  -- no entry is of a later generation; of the last one there are none, and the zone is empty
  pub entries : EntriesIn g x s.general s.parity z (λ n. n ≤ f.generation)
  pub worn_empty : f.generation ≡ worn_generation → (f.laid ≡ []) × EntriesIn g x s.general s.parity z (λ n. n < f.generation)

abbrev pub Live : Geometry → ℕ → Device → Ghost → Ledger → ℕ → Type 0
Live g x v γ l z = LiveZone g x z (facts_of γ l z) (said g v γ z) (λ d. v d (data_zone z))

-- ---- a zone that every look shows empty
-- a cap, but for drives whose counters have passed the generation: no look goes by it any more, and an emptied log (document 02, 2.2) keeps
-- no seal of it
abbrev pub SealSpent : Said → ℕ → ℕ → ℕ → ℕ → Type 0
SealSpent s z n c d = SealLasts s z n c d ⊎ s.counts d (λ i. n < i)

abbrev pub SpentIn : Geometry → ℕ → Said → ℕ → ℕ → ℕ → Type 0
SpentIn g x s z n m = (c : ℕ) × ((d : ℕ) → Here g x d → SealSpent s z n c d) × (c < m)

pub spent_of : (g : Geometry) (x : ℕ) (s : Said) (z n m : ℕ) → CappedBelowIn g x s z n m → SpentIn g x s z n m
spent_of g x s z n m h = (h.0, λ d a. inl (h.1 d a), h.2)

abbrev pub Spent : Geometry → ℕ → Device → Ghost → ℕ → ℕ → Type 0
Spent g x v γ z m = SpentIn g x (said g v γ z) z (γ.generation z) m

pub data LoggedIn (s : Said) (z n d : ℕ) : Type 0 where
  reset_lasts : s.general_lasts d (zone_reset z n) → LoggedIn s z n d
  counts_past : s.counts d (λ m. n < m) → LoggedIn s z n d

abbrev pub Logged : Geometry → Device → Ghost → ℕ → ℕ → Type 0
Logged g v γ z d = LoggedIn (said g v γ z) z (γ.generation z) d

pub data WhyIn (g : Geometry) (x z n : ℕ) (s : Said) (held : ℕ → ZoneView) : Type 0 where
  -- on each present one of its two drives its reset lasts, or no cut gives its generation any more (a copied log keeps only the reset of
  -- the generation in force)
  logged : ((d : ℕ) → Here g x d → (d ≡ first_drive_of g z) ⊎ (d ≡ parity_drive_of g z 0) → LoggedIn s z n d) → WhyIn g x z n s held
  -- no data is left, and no entry makes sector 0 known alone, unless it ends past the cap
  bare : ((d : ℕ) → Here g x d → (held d).sectors ≡ [])
      → ((d : ℕ) → Here g x d → (p : Entry) → s.parity d p → Whole g d true p → (k : ℕ) → p.head ≡ partial_parity z zero k n → (g.unit < k) ⊎ SpentIn g x s z n k)
      → WhyIn g x z n s held
  -- no cut of any present drive gives its generation any more
  passed : ((d : ℕ) → Here g x d → s.counts d (λ m. n < m)) → WhyIn g x z n s held

abbrev pub Why : Geometry → ℕ → Device → Ghost → ℕ → Type 0
Why g x v γ z = WhyIn g x z (γ.generation z) (said g v γ z) (λ d. v d (data_zone z))

pub record DyingZone (g : Geometry) (x z : ℕ) (f : ZoneFacts) (s : Said) (held : ℕ → ZoneView) : Type 0 where
  -- nothing is committed, or a reset was stopped: empty fits
  pub idle : (f.committed ≡ zero) ⊎ (f.resetting ≡ true)
  pub generation_top : f.generation < worn_generation
  -- no entry is of a later generation, and no cut of a present drive gives an earlier one
  pub entries : EntriesIn g x s.general s.parity z (λ n. n ≤ f.generation)
  pub counts : (d : ℕ) → Here g x d → s.counts d (λ n. (f.generation ≤ n) × (n ≤ worn_generation))
  -- if some cut of some drive gives a later one, the zone's data is gone from every present drive
  pub raised : (d : ℕ) → Here g x d → s.counts d (λ n. f.generation < n → (e : ℕ) → Here g x e → (held e).sectors ≡ [])
  pub why : WhyIn g x z f.generation s held

abbrev pub Dying : Geometry → ℕ → Device → Ghost → Ledger → ℕ → Type 0
Dying g x v γ l z = DyingZone g x z (facts_of γ l z) (said g v γ z) (λ d. v d (data_zone z))

pub record Inv (g : Geometry) (x : ℕ) (v : Device) (l : Ledger) (γ : Ghost) : Type 0 where
  pub logs : LogsOk g x v γ
  pub zones : (z : ℕ) → z < g.zones → Live g x v γ l z ⊎ Dying g x v γ l z

-- ---- between finished calls, with the state st
-- an empty or open zone: the drives hold just its content, and there is no current seal
pub record Plain (g : Geometry) (x : ℕ) (v : Device) (γ : Ghost) (l : Ledger) (z : ℕ) : Type 0 where
  pub all_content : γ.laid z ≡ l.content z
  pub just : (d : ℕ) → Here g x d → length (v d (data_zone z)).sectors ≡ needed g.drives g.unit z (length (l.content z)) d
  pub no_seal : (d : ℕ) → Here g x d → (c : ℕ) → Memᴰ (seal z c (γ.generation z)) (γ.general d) → ⊥
  pub unworn : γ.generation z < worn_generation

abbrev pub Shape : Geometry → ℕ → Device → Ghost → Ledger → ℕ → Condition → Type 0
Shape g x v γ l z Empty = Plain g x v γ l z
Shape g x v γ l z (Open n) = Plain g x v γ l z
Shape g x v γ l z (Sealed n) = Capped g x v γ z (length (l.content z)) × (γ.generation z < worn_generation) × (l.committed z ≡ length (l.content z))
Shape g x v γ l z (Worn n) = γ.generation z ≡ worn_generation

-- an open or sealed zone has sectors
abbrev pub HasSectors : Condition → Type 0
HasSectors Empty = Unit {0}
HasSectors (Open n) = zero < n
HasSectors (Sealed n) = zero < n
HasSectors (Worn n) = Unit {0}

pub record RestZone (g : Geometry) (x : ℕ) (v : Device) (state : StateView) (l : Ledger) (γ : Ghost) (z : ℕ) : Type 0 where
  pub live : Live g x v γ l z
  pub generation_is : γ.generation z ≡ state.generation z
  pub pointer_is : length (l.content z) ≡ pointer_in (state.condition z)
  pub strong_now : SurvivesLoss g x z (γ.generation z) (length (l.content z)) (λ d. length (v d (data_zone z)).sectors) γ.parity
  pub shape : Shape g x v γ l z (state.condition z)
  pub sectors : HasSectors (state.condition z)
  pub no_flag : l.resetting z ≡ false

pub record Rest (g : Geometry) (x : ℕ) (v : Device) (state : StateView) (l : Ledger) (γ : Ghost) : Type 0 where
  pub logs : LogsOk g x v γ
  pub zones : (z : ℕ) → z < g.zones → RestZone g x v state l γ z
  pub whole : (d : ℕ) → Here g x d → (e : Entry) → Memᴰ e (γ.parity d) → Whole g d true e
  pub lost_is : Names x state.lost

pub rest_inv : (g : Geometry) (x : ℕ) (v : Device) (state : StateView) (l : Ledger) (γ : Ghost) → Rest g x v state l γ → Inv g x v l γ
rest_inv g x v state l γ r = record { logs = r.logs; zones = λ z h. inl (r.zones z h).live }
