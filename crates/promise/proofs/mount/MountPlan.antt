-- What the look at a mount's start saw of each zone (its fate), and what holds after each step: of zones that stay, that they are Live; of
-- the others, how far they have been emptied. w: the device after the first flush; γ: the ghosts there; k: the look there; l: the ledger.
use Rattle.std.specs.Prelude.{◌≡◌, ◌⊎◌, true, false, ℕ, zero, ◌+◌, ◌*◌, ◌≤◌, ◌<◌, length}
use mathlib.Core.List.{List, [], Memᴰ}
use Rattle.tables.specs.meaning.Device.{Device}
use Rattle.tables.specs.laws.Lists.{Prefix}
use Rattle.tables.specs.meaning.Below.{count_below}
use Rattle.tables.specs.meaning.Placement.{needed}
use Rattle.tables.specs.declared.Geometry.{Geometry}
use Rattle.tables.specs.meaning.Geometry.{stripe_sectors, data_zone}
use Rattle.logs.specs.meaning.Entry.{parity_zone, worn_generation, Header, zone_reset, partial_parity, seal, Entry}
use Rattle.tables.specs.meaning.Drives.{present_but}
use Rattle.logs.specs.laws.Walk.{Whole, log_extent}
use Rattle.logs.specs.meaning.Heads.{last_counters, generation_in}
use Rattle.volume.specs.meaning.Content.{at}
use Rattle.volume.specs.declared.Condition.TheVariants.{Empty, Open, Sealed, Worn}
use Rattle.volume.specs.meaning.State.{is_sealed}
use Rattle.volume.specs.meaning.Rules.{Shown, showing}
use Rattle.volume.specs.meaning.Mount.{next_generation}
use Rattle.promise.specs.meaning.Ledger.{Ledger}
use Rattle.promise.proofs.invariant.Invariant.{Ghost, Here, LogsOk, Capped, CappedBelow, Counts, Live, Dying, Inv}
use Rattle.promise.proofs.invariant.HoldsLess.{with_logs}
use Rattle.promise.proofs.mount.MountRuns.{AllDurable}

-- ---- fates
-- an open zone is clean: nothing past the pointer, no current seal
pub record Clean (g : Geometry) (x : ℕ) (w : Device) (γ : Ghost) (k : Shown) (z : ℕ) : Type 0 where
  pub fits : (d : ℕ) → Here g x d → length (w d (data_zone z)).sectors ≤ needed g.drives g.unit z (k.zone z).pointer d
  pub ends_in : (d : ℕ) → Here g x d → (e : Entry) → Memᴰ e (γ.parity d) → (s f : ℕ) → e.head ≡ partial_parity z s f (γ.generation z) → s * stripe_sectors g + f ≤ (k.zone z).pointer
  pub no_seal : (d : ℕ) → Here g x d → (c : ℕ) → Memᴰ (seal z c (γ.generation z)) (γ.general d) → ⊥

-- shown open or sealed
pub record Stays (g : Geometry) (x : ℕ) (w : Device) (γ : Ghost) (l : Ledger) (k : Shown) (z : ℕ) : Type 0 where
  pub live : Live g x w γ l z
  pub generation_is : (k.zone z).generation ≡ γ.generation z
  pub unworn : γ.generation z < worn_generation
  pub not_reset : (k.zone z).by_reset ≡ false
  pub some : zero < (k.zone z).pointer
  pub least : l.committed z ≤ (k.zone z).pointer
  pub most : (k.zone z).pointer ≤ length (γ.laid z)
  pub values : (a : ℕ) → a < (k.zone z).pointer → (k.zone z).value a ≡ at (γ.laid z) a
  pub seals_past : (d : ℕ) → Here g x d → (c : ℕ) → Memᴰ (seal z c (γ.generation z)) (γ.general d) → (k.zone z).pointer ≤ c
  pub alone : (e : ℕ) → Here g x e → (p : Entry) → Memᴰ p (γ.parity e) → Whole g e true p → (f : ℕ) → p.head ≡ partial_parity z zero f (γ.generation z) → f ≤ g.unit → (f ≤ (k.zone z).pointer) ⊎ CappedBelow g x w γ z f
  pub no_reset : (d : ℕ) → Here g x d → Memᴰ (zone_reset z (γ.generation z)) (γ.general d) → ⊥
  pub how : (((k.zone z).condition ≡ Open (k.zone z).pointer) × Clean g x w γ k z) ⊎ ((k.zone z).condition ≡ Sealed (k.zone z).pointer)

-- of the greatest generation, Live: nothing is done with it
pub record WornZone (g : Geometry) (x : ℕ) (w : Device) (γ : Ghost) (l : Ledger) (k : Shown) (z : ℕ) : Type 0 where
  pub live : Live g x w γ l z
  pub generation_is : (k.zone z).generation ≡ γ.generation z
  pub most : γ.generation z ≡ worn_generation
  pub not_reset : (k.zone z).by_reset ≡ false
  pub none : (k.zone z).pointer ≡ zero
  pub condition_is : (k.zone z).condition ≡ Worn zero

-- emptied by rule 3
pub record Emptied (g : Geometry) (x : ℕ) (w : Device) (γ : Ghost) (l : Ledger) (k : Shown) (z : ℕ) : Type 0 where
  pub zone : (Live g x w γ l z × (l.resetting z ≡ true)) ⊎ Dying g x w γ l z
  pub generation_is : (k.zone z).generation ≡ γ.generation z
  pub unworn : γ.generation z < worn_generation
  pub is_reset_lem : (k.zone z).by_reset ≡ true
  pub none : (k.zone z).pointer ≡ zero
  pub condition_is : (k.zone z).condition ≡ Empty

-- pointer 0 otherwise, under its own generation
pub record Bare (g : Geometry) (x : ℕ) (w : Device) (γ : Ghost) (l : Ledger) (k : Shown) (z : ℕ) : Type 0 where
  pub zone : (Live g x w γ l z × (l.committed z ≡ zero)) ⊎ Dying g x w γ l z
  pub generation_is : (k.zone z).generation ≡ γ.generation z
  pub unworn : γ.generation z < worn_generation
  pub not_reset : (k.zone z).by_reset ≡ false
  pub none : (k.zone z).pointer ≡ zero
  pub condition_is : (k.zone z).condition ≡ Empty
  pub gone : ((k.zone z).clean ≡ false) ⊎ ((d : ℕ) → Here g x d → (w d (data_zone z)).sectors ≡ [])
  pub no_entry_lem : (d : ℕ) → Here g x d → (p : Entry) → Memᴰ p (γ.parity d) → Whole g d true p → (f : ℕ) → p.head ≡ partial_parity z zero f (γ.generation z) → (g.unit < f) ⊎ CappedBelow g x w γ z f

-- some drive's counters were raised
pub record Raised (g : Geometry) (x : ℕ) (w : Device) (γ : Ghost) (l : Ledger) (k : Shown) (z : ℕ) : Type 0 where
  pub dying : Dying g x w γ l z
  pub generation_past : γ.generation z < (k.zone z).generation
  pub not_reset : (k.zone z).by_reset ≡ false
  pub none : (k.zone z).pointer ≡ zero
  pub condition_is : (((k.zone z).condition ≡ Empty) × ((k.zone z).generation < worn_generation)) ⊎ (((k.zone z).condition ≡ Worn zero) × ((k.zone z).generation ≡ worn_generation))
  pub gone : (d : ℕ) → Here g x d → (w d (data_zone z)).sectors ≡ []

pub data Gone (g : Geometry) (x : ℕ) (w : Device) (γ : Ghost) (l : Ledger) (k : Shown) (z : ℕ) : Type 0 where
  emptied : Emptied g x w γ l k z → Gone g x w γ l k z
  bare_one : Bare g x w γ l k z → Gone g x w γ l k z
  raised_one : Raised g x w γ l k z → Gone g x w γ l k z

pub data Fate (g : Geometry) (x : ℕ) (w : Device) (γ : Ghost) (l : Ledger) (k : Shown) (z : ℕ) : Type 0 where
  stays : Stays g x w γ l k z → Fate g x w γ l k z
  worn_out : WornZone g x w γ l k z → Fate g x w γ l k z
  gone : Gone g x w γ l k z → Fate g x w γ l k z

-- ---- what holds throughout, in the device u with the logs G and P: n entries joined each general log
pub record Base (g : Geometry) (x : ℕ) (w : Device) (γ : Ghost) (u : Device) (G : ℕ → List Header) (P : ℕ → List Entry) (n : ℕ) : Type 0 where
  pub logs : LogsOk g x u (with_logs γ G P)
  pub settled : AllDurable g x u
  pub grows : (d : ℕ) → Here g x d → Prefix (γ.general d) (G d)
  pub used : (d : ℕ) → Here g x d → length (G d) ≤ length (γ.general d) + n

-- a zone that stays
pub record Staying (g : Geometry) (x : ℕ) (w : Device) (γ : Ghost) (l : Ledger) (k : Shown) (u : Device) (G : ℕ → List Header) (P : ℕ → List Entry) (z : ℕ) : Type 0 where
  pub live : Live g x u (with_logs γ G P) l z
  pub no_seal : (k.zone z).condition ≡ Open (k.zone z).pointer → (d : ℕ) → Here g x d → (c : ℕ) → Memᴰ (seal z c (γ.generation z)) (G d) → ⊥
  pub no_reset : (d : ℕ) → Here g x d → Memᴰ (zone_reset z (γ.generation z)) (G d) → ⊥
  pub seals_past : (d : ℕ) → Here g x d → (c : ℕ) → Memᴰ (seal z c (γ.generation z)) (G d) → (k.zone z).pointer ≤ c
  pub ends_in : (k.zone z).condition ≡ Open (k.zone z).pointer → (d : ℕ) → Here g x d → (e : Entry) → Memᴰ e (P d) → (s f : ℕ) → e.head ≡ partial_parity z s f (γ.generation z) → s * stripe_sectors g + f ≤ (k.zone z).pointer

-- the zones that live on; same: their data is untouched yet
pub record Lives (g : Geometry) (x : ℕ) (w : Device) (γ : Ghost) (l : Ledger) (k : Shown) (u : Device) (G : ℕ → List Header) (P : ℕ → List Entry) : Type 0 where
  pub staying : (z : ℕ) → z < g.zones → Stays g x w γ l k z → Staying g x w γ l k u G P z
  pub worn_live : (z : ℕ) → z < g.zones → WornZone g x w γ l k z → Live g x u (with_logs γ G P) l z

pub record Same (g : Geometry) (x : ℕ) (w : Device) (γ : Ghost) (l : Ledger) (k : Shown) (u : Device) : Type 0 where
  pub data_same : (z : ℕ) → z < g.zones → Stays g x w γ l k z → (d : ℕ) → Here g x d → u d (data_zone z) ≡ w d (data_zone z)

abbrev pub NoData : Geometry → ℕ → Device → ℕ → Type 0
NoData g x u z = (d : ℕ) → Here g x d → (u d (data_zone z)).sectors ≡ []

-- after the labels, before type 3 is stored again: n entries joined each general log
pub record LabelsDone (g : Geometry) (x : ℕ) (w : Device) (γ : Ghost) (l : Ledger) (k : Shown) (u : Device) (G : ℕ → List Header) (n : ℕ) : Type 0 where
  pub base : Base g x w γ u G γ.parity n
  pub lives : Lives g x w γ l k u G γ.parity
  pub counters_same : (d : ℕ) → Here g x d → last_counters [] (G d) ≡ last_counters [] (γ.general d)
  pub same : Same g x w γ l k u
  pub reset_zone : (z : ℕ) → z < g.zones → Emptied g x w γ l k z → (Live g x u (with_logs γ G γ.parity) l z × (l.resetting z ≡ true)) ⊎ Dying g x u (with_logs γ G γ.parity) l z
  pub bare_zone : (z : ℕ) → z < g.zones → Bare g x w γ l k z → ((Live g x u (with_logs γ G γ.parity) l z × (l.committed z ≡ zero)) ⊎ Dying g x u (with_logs γ G γ.parity) l z) × (((k.zone z).clean ≡ false) ⊎ NoData g x u z)
  pub raised_zone : (z : ℕ) → z < g.zones → Raised g x w γ l k z → Dying g x u (with_logs γ G γ.parity) l z × NoData g x u z

-- after it: every zone emptied by rule 3 is dying
pub record ResetsLogged (g : Geometry) (x : ℕ) (w : Device) (γ : Ghost) (l : Ledger) (k : Shown) (u : Device) (G : ℕ → List Header) (n : ℕ) : Type 0 where
  pub base : Base g x w γ u G γ.parity n
  pub lives : Lives g x w γ l k u G γ.parity
  pub counters_same : (d : ℕ) → Here g x d → last_counters [] (G d) ≡ last_counters [] (γ.general d)
  pub same : Same g x w γ l k u
  pub reset_zone : (z : ℕ) → z < g.zones → Emptied g x w γ l k z → Dying g x u (with_logs γ G γ.parity) l z
  pub bare_zone : (z : ℕ) → z < g.zones → Bare g x w γ l k z → ((Live g x u (with_logs γ G γ.parity) l z × (l.committed z ≡ zero)) ⊎ Dying g x u (with_logs γ G γ.parity) l z) × (((k.zone z).clean ≡ false) ⊎ NoData g x u z)
  pub raised_zone : (z : ℕ) → z < g.zones → Raised g x w γ l k z → Dying g x u (with_logs γ G γ.parity) l z × NoData g x u z

-- after the resets of zones: all that do not stay are dying and hold no data
pub record ZonesCleared (g : Geometry) (x : ℕ) (w : Device) (γ : Ghost) (l : Ledger) (k : Shown) (u : Device) (G : ℕ → List Header) (n : ℕ) : Type 0 where
  pub base : Base g x w γ u G γ.parity n
  pub lives : Lives g x w γ l k u G γ.parity
  pub counters_same : (d : ℕ) → Here g x d → last_counters [] (G d) ≡ last_counters [] (γ.general d)
  pub same : Same g x w γ l k u
  pub gone_zone : (z : ℕ) → z < g.zones → Gone g x w γ l k z → Dying g x u (with_logs γ G γ.parity) l z × NoData g x u z

-- a zone whose generation has passed
pub record Passed (g : Geometry) (x : ℕ) (γ : Ghost) (l : Ledger) (u : Device) (G : ℕ → List Header) (P : ℕ → List Entry) (z : ℕ) : Type 0 where
  pub dying : Dying g x u (with_logs γ G P) l z
  pub no_data : NoData g x u z
  pub past : Counts g x u (with_logs γ G P) z (λ n. γ.generation z < n)

-- after the counters: their generations have passed
pub record CountersDone (g : Geometry) (x : ℕ) (w : Device) (γ : Ghost) (l : Ledger) (k : Shown) (u : Device) (G : ℕ → List Header) (P : ℕ → List Entry) (n : ℕ) : Type 0 where
  pub base : Base g x w γ u G P n
  pub lives : Lives g x w γ l k u G P
  pub gone_zone : (z : ℕ) → z < g.zones → Gone g x w γ l k z → Passed g x γ l u G P z
  pub counted : (d : ℕ) → Here g x d → (z : ℕ) → z < g.zones → generation_in z (G d) ≡ next_generation k z

-- after the seals: every zone shown sealed has its cap
pub record Caps (g : Geometry) (x : ℕ) (w : Device) (γ : Ghost) (l : Ledger) (k : Shown) (u : Device) (G : ℕ → List Header) (P : ℕ → List Entry) : Type 0 where
  pub cap : (z : ℕ) → z < g.zones → Stays g x w γ l k z → (k.zone z).condition ≡ Sealed (k.zone z).pointer → Capped g x u (with_logs γ G P) z (k.zone z).pointer

-- after the torn rows: every entry is whole, and no log is longer than it was by more than the rows of one entry
pub record Wholes (g : Geometry) (x : ℕ) (w : Device) (P : ℕ → List Entry) : Type 0 where
  pub whole : (d : ℕ) → Here g x d → (e : Entry) → Memᴰ e (P d) → Whole g d true e
  pub extent : (d : ℕ) → Here g x d → log_extent g d true (P d) ≤ length (w d parity_zone).sectors + g.unit

-- after the fill: all below the pointer is there
pub record Full (g : Geometry) (x : ℕ) (w : Device) (γ : Ghost) (l : Ledger) (k : Shown) (u : Device) : Type 0 where
  pub places : (z : ℕ) → z < g.zones → Stays g x w γ l k z → (d : ℕ) → Here g x d → needed g.drives g.unit z (k.zone z).pointer d ≤ length (u d (data_zone z)).sectors
  pub just : (z : ℕ) → z < g.zones → Stays g x w γ l k z → (k.zone z).condition ≡ Open (k.zone z).pointer → (d : ℕ) → Here g x d → length (u d (data_zone z)).sectors ≡ needed g.drives g.unit z (k.zone z).pointer d

-- ---- as predicates of the device
abbrev pub AfterLabels : Geometry → ℕ → Device → Ghost → Ledger → Shown → ℕ → Device → Type 0
AfterLabels g x w γ l k n u = (G : ℕ → List Header) × LabelsDone g x w γ l k u G n

abbrev pub AfterResetEntries : Geometry → ℕ → Device → Ghost → Ledger → Shown → ℕ → Device → Type 0
AfterResetEntries g x w γ l k n u = (G : ℕ → List Header) × ResetsLogged g x w γ l k u G n

abbrev pub AfterZoneResets : Geometry → ℕ → Device → Ghost → Ledger → Shown → ℕ → Device → Type 0
AfterZoneResets g x w γ l k n u = (G : ℕ → List Header) × ZonesCleared g x w γ l k u G n

abbrev pub AfterCounters : Geometry → ℕ → Device → Ghost → Ledger → Shown → ℕ → Device → Type 0
AfterCounters g x w γ l k n u = (G : ℕ → List Header) × CountersDone g x w γ l k u G γ.parity n × Same g x w γ l k u

abbrev pub AfterSeals : Geometry → ℕ → Device → Ghost → Ledger → Shown → ℕ → Device → Type 0
AfterSeals g x w γ l k n u = (G : ℕ → List Header) × CountersDone g x w γ l k u G γ.parity n × Same g x w γ l k u × Caps g x w γ l k u G γ.parity

abbrev pub AfterTornRows : Geometry → ℕ → Device → Ghost → Ledger → Shown → ℕ → Device → Type 0
AfterTornRows g x w γ l k n u = (G : ℕ → List Header) × (P : ℕ → List Entry) × CountersDone g x w γ l k u G P n × Same g x w γ l k u × Caps g x w γ l k u G P × Wholes g x w P

abbrev pub AfterFill : Geometry → ℕ → Device → Ghost → Ledger → Shown → ℕ → Device → Type 0
AfterFill g x w γ l k n u = (G : ℕ → List Header) × (P : ℕ → List Entry) × CountersDone g x w γ l k u G P n × Caps g x w γ l k u G P × Wholes g x w P × Full g x w γ l k u

-- ---- what the steps know of the start
pub record Start (g : Geometry) (x : ℕ) (w : Device) (γ : Ghost) (l : Ledger) (k : Shown) : Type 0 where
  pub inv : Inv g x w l γ
  pub settled : AllDurable g x w
  pub look : k ≡ showing g (present_but g x) x w
  pub fate : (z : ℕ) → z < g.zones → Fate g x w γ l k z
  pub general_room : (d : ℕ) → Here g x d → length (γ.general d) + (g.zones + 2) ≤ g.capacity

-- how many entries have joined each general log
abbrev pub count_reset : Geometry → Shown → ℕ
count_reset g k = count_below (λ z. (k.zone z).by_reset) g.zones

abbrev pub count_sealed : Geometry → Shown → ℕ
count_sealed g k = count_below (λ z. is_sealed (k.zone z).condition) g.zones
