-- What each call owes the invariant, as types, over the device by its roles and where no log has to be emptied: the files named ..Keeps prove them,
-- roles/RoledCalls carries them to the physical zones. A call that is stopped after any n of its stores keeps the invariant; a finished one
-- leaves all at rest. And what its proof needs of an accepted call. (With logs that are emptied: RoomAsked.antt, device/CallsOwed.antt.)
use Rattle.std.specs.Prelude.{◌≡◌, ◌⊎◌, Bool, true, ℕ, zero, suc, ◌+◌, ◌*◌, ◌≤◌, ◌<◌, ◌^◌, min, List, length, take}
use Rattle.tables.specs.meaning.Device.{Device, apply_all, Cut, Loss}
use Rattle.tables.specs.declared.Geometry.{Geometry}
use Rattle.tables.specs.meaning.Geometry.{zone_sectors}
use Rattle.tables.specs.meaning.Drives.{no_drive, present_but}
use Rattle.logs.specs.meaning.Entry.{general_zone, parity_zone, worn_generation}
use Rattle.volume.specs.declared.Condition.{Condition}
use Rattle.volume.specs.declared.Condition.TheVariants.{Empty, Open, Sealed, Worn}
use Rattle.volume.specs.meaning.State.{pointer_in, StateView}
use Rattle.volume.specs.meaning.Content.{at, inside_stripe, fill_of, parity_drive_at}
use Rattle.volume.specs.meaning.Calls.{write_stores, write_state, flush_stores, flush_state, reset_stores, reset_state, format_stores, format_state}
use Rattle.promise.specs.meaning.Ledger.{Ledger, fresh_ledger, after_write, after_flush, after_reset, after_stopped_reset}
use Rattle.promise.proofs.invariant.Invariant.{Ghost, Inv, Rest, Plain, Shape, LogGenerations}

-- ---- accepted calls
abbrev pub Writable : Condition → Type 0
Writable Empty = Unit {0}
Writable (Open n) = Unit {0}
Writable (Sealed n) = ⊥
Writable (Worn n) = ⊥

pub writable_plain : (g : Geometry) (x : ℕ) (v : Device) (γ : Ghost) (l : Ledger) (z : ℕ) (c : Condition) → Writable c → Shape g x v γ l z c → Plain g x v γ l z
writable_plain g x v γ l z Empty w s = s
writable_plain g x v γ l z (Open n) w s = s
writable_plain g x v γ l z (Sealed n) w s = absurd w
writable_plain g x v γ l z (Worn n) w s = absurd w

-- a write of ss at the pointer of zone z (refusals 2, 8, 9, 11, 12, 14)
pub record WriteOk (g : Geometry) (present : ℕ → Bool) (v : Device) (state : StateView) (z : ℕ) (ss : List (List ℕ)) : Type 0 where
  pub zone_ok : z < g.zones
  pub writable : Writable (state.condition z)
  pub some : zero < length ss
  pub run : pointer_in (state.condition z) + length ss ≤ zone_sectors g
  pub sizes : (a : ℕ) → a < length ss → length (at ss a) ≡ g.sector
  pub room : inside_stripe g (pointer_in (state.condition z) + length ss) ≡ true → present (parity_drive_at g z (pointer_in (state.condition z) + length ss)) ≡ true
      → length (v (parity_drive_at g z (pointer_in (state.condition z) + length ss)) parity_zone).sectors + (suc (min (fill_of g (pointer_in (state.condition z) + length ss)) g.unit) + (g.zones * (1 + g.unit) + g.unit)) ≤ g.capacity

-- a reset of zone z (refusals 8, 12, 14)
pub record ResetOk (g : Geometry) (present : ℕ → Bool) (v : Device) (state : StateView) (z : ℕ) : Type 0 where
  pub zone_ok : z < g.zones
  pub not_worn : state.generation z < worn_generation
  pub room : (d : ℕ) → present d ≡ true → length (v d general_zone).sectors + (g.zones + 4) ≤ g.capacity

-- ---- some ghosts make the invariant hold
-- (c: the logs' generations)
abbrev pub Invs : LogGenerations → Geometry → ℕ → Device → Ledger → Type 0
Invs c g x v l = (γ : Ghost) × Inv g x v l γ × (γ.closed ≡ c)

abbrev pub Rests : LogGenerations → Geometry → ℕ → Device → StateView → Ledger → Type 0
Rests c g x v state l = (γ : Ghost) × Rest g x v state l γ × (γ.closed ≡ c)

-- as a format leaves them
abbrev pub never_emptied : LogGenerations
never_emptied d = (zero, zero)

-- ---- cuts and losses
abbrev pub CutKeeps : Geometry → Type 0
CutKeeps g = (c : LogGenerations) (x : ℕ) (v w : Device) (l : Ledger) → Invs c g x v l → Cut x v w → Invs c g x w l

-- drive d is lost, or was before (x)
abbrev pub LossKeeps : Geometry → Type 0
LossKeeps g = (c : LogGenerations) (x d : ℕ) (v w : Device) (l : Ledger) → d < g.drives → (x ≡ no_drive) ⊎ (x ≡ d) → Loss d v w → Invs c g x v l → Invs c g d w l

abbrev pub LossRests : Geometry → Type 0
LossRests g = (c : LogGenerations) (x d : ℕ) (v w : Device) (state : StateView) (l : Ledger) → d < g.drives → (x ≡ no_drive) ⊎ (x ≡ d) → Loss d v w → Rests c g x v state l → Rests c g d w state l

-- ---- calls
abbrev pub WriteKeeps : Geometry → Type 0
WriteKeeps g = (c : LogGenerations) (x : ℕ) (v : Device) (state : StateView) (l : Ledger) (z : ℕ) (ss : List (List ℕ)) (n : ℕ) → Rests c g x v state l → WriteOk g (present_but g x) v state z ss
    → Invs c g x (apply_all (take n (write_stores g (present_but g x) v state z ss)) v) (after_write l z ss)

abbrev pub WriteRests : Geometry → Type 0
WriteRests g = (c : LogGenerations) (x : ℕ) (v : Device) (state : StateView) (l : Ledger) (z : ℕ) (ss : List (List ℕ)) → Rests c g x v state l → WriteOk g (present_but g x) v state z ss
    → Rests c g x (apply_all (write_stores g (present_but g x) v state z ss) v) (write_state x state z (length ss)) (after_write l z ss)

abbrev pub FlushKeeps : Geometry → Type 0
FlushKeeps g = (c : LogGenerations) (x : ℕ) (v : Device) (l : Ledger) (n : ℕ) → Invs c g x v l → Invs c g x (apply_all (take n (flush_stores g (present_but g x))) v) l

abbrev pub FlushRests : Geometry → Type 0
FlushRests g = (c : LogGenerations) (x : ℕ) (v : Device) (state : StateView) (l : Ledger) → Rests c g x v state l → Rests c g x (apply_all (flush_stores g (present_but g x)) v) (flush_state x state) (after_flush l)

abbrev pub ResetKeeps : Geometry → Type 0
ResetKeeps g = (c : LogGenerations) (x : ℕ) (v : Device) (state : StateView) (l : Ledger) (z n : ℕ) → Rests c g x v state l → ResetOk g (present_but g x) v state z
    → Invs c g x (apply_all (take n (reset_stores g (present_but g x) state z)) v) (after_stopped_reset l z)

abbrev pub ResetRests : Geometry → Type 0
ResetRests g = (c : LogGenerations) (x : ℕ) (v : Device) (state : StateView) (l : Ledger) (z : ℕ) → Rests c g x v state l → ResetOk g (present_but g x) v state z
    → Rests c g x (apply_all (reset_stores g (present_but g x) state z) v) (reset_state x state z) (after_reset l z)

-- of any device
abbrev pub FormatRests : Geometry → Type 0
FormatRests g = (x a : ℕ) (v : Device) → (x ≡ no_drive) ⊎ (x < g.drives) → a < 256 ^ 8 → Rests never_emptied g x (apply_all (format_stores g (present_but g x) x a) v) (format_state x) fresh_ledger
