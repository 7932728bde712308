-- The stores of write, flush, reset and format, in document 01's order, and the state that each hands on. A call's stores are written
-- down as if every drive were there; those to a lost drive are skipped at the end (on_present). Zones are those of the device by its roles.
-- (With the logs that a reset empties first, and a compact: Emptying.antt. Mount: Mount.antt.)
use Rattle.std.specs.Prelude.{Bool, true, ◌||◌, ℕ, zero, suc, ◌+◌, ◌-◌, ◌%◌, List, [], ◌∷◌, ◌++◌, length, ltb, eqb}
use Rattle.tables.specs.meaning.Basics.{pick}
use Rattle.tables.specs.meaning.Below.{each_below, tabulate_from}
use Rattle.tables.specs.meaning.Lists.{concat}
use Rattle.tables.specs.meaning.Device.{Device, Store, append, reset}
use Rattle.tables.specs.meaning.Phases.{flush_all, on_present, each_on_present}
use Rattle.tables.specs.meaning.Placement.{drive_of, stripe_of, stripe_length, parity_drive}
use Rattle.tables.specs.declared.Geometry.{Geometry}
use Rattle.tables.specs.meaning.Geometry.{parity_drive_of, first_drive_of, physical_zones, data_zone}
use Rattle.logs.specs.meaning.Entry.{general_zone, parity_zone, worn_generation, Header, label, counters, zone_reset, encode}
use Rattle.logs.specs.meaning.Walk.{sectors_of}
use Rattle.volume.specs.declared.Condition.{Condition}
use Rattle.volume.specs.declared.Condition.TheVariants.{Empty, Open, Worn}
use Rattle.volume.specs.declared.Owner.TheVariants.{Nobody}
use Rattle.volume.specs.meaning.State.{pointer_in, StateView, set_at}
use Rattle.volume.specs.meaning.Content.{at, row_xor, inside_stripe, parity_drive_at, entry_at}
use Rattle.volume.specs.meaning.Rules.{value_at}

-- sectors appended one after the other to zone y of drive d
abbrev pub append_all : ℕ → ℕ → List (List ℕ) → List Store
append_all d y [] = []
append_all d y (s ∷ ss) = append d y s ∷ append_all d y ss

-- one header on the general log of drive d
abbrev pub append_general : Geometry → Header → ℕ → List Store
append_general g h d = append d general_zone (encode g d h) ∷ []

-- f i, f (i + 1), .., n of them: the generations of a counters entry
abbrev pub generations_from : (ℕ → ℕ) → ℕ → ℕ → List ℕ
generations_from f i zero = []
generations_from f i (suc n) = f i ∷ generations_from f (suc i) n

-- ==== write: "stripe by stripe its data sectors by address, then U parity sectors if the stripe is complete; if it ends inside a stripe,
-- one type 4 entry on the parity drive." (S: the zone's content with what is written)
abbrev pub parity_stores : ℕ → ℕ → ℕ → (ℕ → List ℕ) → ℕ → List Store
parity_stores D U z S s = append_all (parity_drive D z s) (data_zone z) (tabulate_from (row_xor D U S s) zero U)

-- sector a, and the stripe's parity if a is its last
abbrev pub sector_stores : ℕ → ℕ → ℕ → (ℕ → List ℕ) → ℕ → List Store
sector_stores D U z S a = append (drive_of D U z a) (data_zone z) (S a) ∷ pick (eqb (suc (a % stripe_length D U)) (stripe_length D U)) (parity_stores D U z S (stripe_of D U a)) []

-- k sectors from a on
abbrev pub data_stores : ℕ → ℕ → ℕ → (ℕ → List ℕ) → ℕ → ℕ → List Store
data_stores D U z S a zero = []
data_stores D U z S a (suc k) = sector_stores D U z S a ++ data_stores D U z S (suc a) k

-- the entry at pointer n
abbrev pub entry_stores : Geometry → ℕ → ℕ → (ℕ → List ℕ) → ℕ → List Store
entry_stores g z generation S n = append_all (parity_drive_at g z n) parity_zone (sectors_of g (parity_drive_at g z n) true (entry_at g z generation S n))

-- k sectors from pointer n on
unfoldable pub write_with : Geometry → ℕ → ℕ → (ℕ → List ℕ) → ℕ → ℕ → List Store
write_with g z generation S n k = data_stores g.drives g.unit z S n k ++ pick (inside_stripe g (n + k)) (entry_stores g z generation S (n + k)) []

-- the zone's content: below the pointer by rule 4, then the sectors ss
unfoldable pub zone_content : Geometry → (ℕ → Bool) → Device → StateView → ℕ → List (List ℕ) → ℕ → List ℕ
zone_content g present v state z ss a = pick (ltb a (pointer_in (state.condition z))) (value_at g present v z (state.generation z) a) (at ss (a - pointer_in (state.condition z)))

unfoldable pub write_stores : Geometry → (ℕ → Bool) → Device → StateView → ℕ → List (List ℕ) → List Store
write_stores g present v state z ss = on_present present (write_with g z (state.generation z) (zone_content g present v state z ss) (pointer_in (state.condition z)) (length ss))

-- the zone open at pointer n (x: the lost drive, in this and the following states)
abbrev pub open_state : ℕ → StateView → ℕ → ℕ → StateView
open_state x state z n = record { lost = x; generation = state.generation; condition = set_at state.condition z (Open n); owner = state.owner; share = state.share }

-- k sectors past where its pointer was (and with its host: Hosts.antt)
abbrev pub write_state : ℕ → StateView → ℕ → ℕ → StateView
write_state x state z k = open_state x state z (pointer_in (state.condition z) + k)

-- ==== flush: "flush all"
unfoldable pub flush_stores : Geometry → (ℕ → Bool) → List Store
flush_stores g present = on_present present (flush_all g.drives)

abbrev pub flush_state : ℕ → StateView → StateView
flush_state x state = record { lost = x; generation = state.generation; condition = state.condition; owner = state.owner; share = state.share }

-- ==== reset: "type 3 on the drives of the first unit and of parity of stripe 0; flush all; reset the zone on all; counters raised, on all;
-- flush all." And document 02: "Reset and format therefore flush all present drives at once after document 01's zone resets."
abbrev pub logs_reset : Geometry → ℕ → ℕ → Bool
logs_reset g z d = eqb d (first_drive_of g z) || eqb d (parity_drive_of g z 0)

abbrev pub raised_at : StateView → ℕ → ℕ → ℕ
raised_at state z = set_at state.generation z (suc (state.generation z))

abbrev pub reset_phases : Geometry → StateView → ℕ → List (List Store)
reset_phases g state z =
    each_below (λ d. pick (logs_reset g z d) (append_general g (zone_reset z (state.generation z)) d) []) g.drives
    ∷ flush_all g.drives
    ∷ each_below (λ d. reset d (data_zone z) ∷ []) g.drives
    ∷ flush_all g.drives
    ∷ each_below (λ d. append_general g (counters (generations_from (raised_at state z) zero g.zones)) d) g.drives
    ∷ flush_all g.drives
    ∷ []

unfoldable pub reset_stores : Geometry → (ℕ → Bool) → StateView → ℕ → List Store
reset_stores g present state z = concat (each_on_present present (reset_phases g state z))

-- a zone without content under generation n: empty, or worn where that is 2^64 − 1
abbrev pub empty_condition : ℕ → Condition
empty_condition n = pick (eqb n worn_generation) (Worn zero) Empty

abbrev pub reset_state : ℕ → StateView → ℕ → StateView
reset_state x state z = record {
  lost = x;
  generation = raised_at state z;
  condition = set_at state.condition z (empty_condition (suc (state.generation z)));
  owner = set_at state.owner z Nobody;
  share = state.share;
}

-- ==== format: "reset every zone; label, then counters (all 1), drive by drive; flush all", with that flush after the resets (x: the drive left out, or no_drive; a: the array
-- number)
abbrev pub format_phases : Geometry → ℕ → ℕ → List (List Store)
format_phases g x a =
    each_below (λ d. each_below (λ y. reset d y ∷ []) (physical_zones g)) g.drives
    ∷ flush_all g.drives
    ∷ each_below (λ d. append_general g (label x a) d ++ append_general g (counters (generations_from (λ z. 1) zero g.zones)) d) g.drives
    ∷ flush_all g.drives
    ∷ []

unfoldable pub format_stores : Geometry → (ℕ → Bool) → ℕ → ℕ → List Store
format_stores g present x a = concat (each_on_present present (format_phases g x a))

-- (with its shares: Hosts.antt)
abbrev pub format_state : ℕ → StateView
format_state x = record { lost = x; generation = λ z. 1; condition = λ z. Empty; owner = λ z. Nobody; share = λ i. 0 }
