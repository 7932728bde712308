-- What a call checks of its zone, on the written pointers: refusal 7, and how far a log is used (refusal 14). Once refusal 3 has passed
-- they are what the rules say of the device that the tables stand for.
use Rattle.std.specs.Prelude.{◌≡◌, refl, Bool, true, false, ◌&&◌, ◌||◌, not, ℕ, ◌*◌, ◌≤◌, ◌<◌, List, length, get_or, ltb, leb, eqb}
use Rattle.std.proofs.Common.{ap, arith, lt-ltb, ltb-false, leb-true, eqb-true}
use Rattle.tables.specs.declared.Geometry.{Geometry}
use Rattle.tables.specs.laws.Basics.{and_split, not_not, not_both}
use Rattle.tables.specs.meaning.Drives.{no_drive}
use Rattle.tables.specs.meaning.Below.{all_below, any_below, count_below}
use Rattle.tables.specs.laws.Below.{any_below_cong, any_below_false, all_below_all}
use Rattle.tables.specs.meaning.Geometry.{physical_zones, zone_sectors, stripe_sectors, data_zone}
use Rattle.tables.specs.meaning.Placement.{needed, stripe_of}
use Rattle.tables.specs.meaning.Tables.{Tables, tables_of, cell, device_of, pointers_bad}
use Rattle.tables.specs.laws.Tables.{device_pointer}
use Rattle.tables.specs.laws.TablesFrame.{pointers_good}
use Rattle.volume.specs.declared.Condition.{Condition}
use Rattle.volume.specs.declared.Condition.TheVariants.{Empty, Open, Sealed, Worn}
use Rattle.volume.specs.declared.State.{State}
use Rattle.volume.specs.meaning.State.{pointer_in, StateView, call_present}
use Rattle.volume.specs.meaning.Refusals.{stale_in, stale, state_within}
use Rattle.volume.specs.meaning.CallContracts.{view_state, record_at, is_set}

-- refusal 7 of a zone that there is
unfoldable pub stale_on : Geometry → (ℕ → Bool) → List ℕ → Condition → ℕ → Bool
stale_on g present ws c z = any_below (λ d. present d && stale_in c (get_or ws (cell g d (data_zone z)) 0) (needed g.drives g.unit z (pointer_in c) d)) g.drives

-- reading below `end`, which is at or below pointer n, needs the logs: a drive is absent, and the pointer's own stripe is read
unfoldable pub needs_log : Geometry → List Bool → ℕ → ℕ → Bool
needs_log g here n end = ltb 0 (count_below (λ d. not (is_set here d)) g.drives) && ltb (stripe_of g.drives g.unit n * stripe_sectors g) end

-- ---- what passing refusals 4 and 7 gives of a zone with pointer n: at most one drive is absent, and every other has at least what n needs
pub record PointersReach (g : Geometry) (here : List Bool) (ws : List ℕ) (z n : ℕ) : Type 0 where
  pub one_absent : count_below (λ d. not (is_set here d)) g.drives ≤ 1
  pub reaches : (d : ℕ) → d < g.drives → is_set here d ≡ true → needed g.drives g.unit z n d ≤ get_or ws (cell g d (data_zone z)) 0

pub second_fails : (p q : Bool) → p ≡ true → p && q ≡ false → q ≡ false
second_fails true q e h = h
second_fails false q e h = not_both false e refl

not_stale_reaches : (c : Condition) (written needs : ℕ) → stale_in c written needs ≡ false → needs ≤ written
not_stale_reaches Empty written needs h = omega (arith, eqb-true written needs (not_not (eqb written needs) h))
not_stale_reaches (Open n) written needs h = omega (arith, eqb-true written needs (not_not (eqb written needs) h))
not_stale_reaches (Sealed n) written needs h = ltb-false written needs h
not_stale_reaches (Worn n) written needs h = ltb-false written needs h

pub reached : (g : Geometry) (here : List Bool) (ws : List ℕ) (c : Condition) (z : ℕ) → ltb 1 (count_below (λ d. not (is_set here d)) g.drives) ≡ false → stale_on g (is_set here) ws c z ≡ false → PointersReach g here ws z (pointer_in c)
unfolding stale_on
reached g here ws c z h fresh = record {
  one_absent = ltb-false 1 (count_below (λ d. not (is_set here d)) g.drives) h;
  reaches = λ d hd e. not_stale_reaches c (get_or ws (cell g d (data_zone z)) 0) (needed g.drives g.unit z (pointer_in c) d)
      (second_fails (is_set here d) (stale_in c (get_or ws (cell g d (data_zone z)) 0) (needed g.drives g.unit z (pointer_in c) d)) e (any_below_false (λ d. is_set here d && stale_in c (get_or ws (cell g d (data_zone z)) 0) (needed g.drives g.unit z (pointer_in c) d)) g.drives d fresh hd));
}

-- ---- they are the rules'
and_cong : (a b c : Bool) → (a ≡ true → b ≡ c) → a && b ≡ a && c
and_cong true b c h = h refl
and_cong false b c h = refl

-- where the pointers of present drives are within their zones
stale_is : (g : Geometry) (present : ℕ → Bool) (t : Tables) (state : StateView) (z : ℕ) → z < g.zones
    → ((d : ℕ) → d < g.drives → present d ≡ true → get_or t.written (cell g d (data_zone z)) 0 ≤ g.capacity)
    → stale g present (device_of g t) state z ≡ stale_on g present t.written (state.condition z) z
unfolding stale stale_on
stale_is g present t state z hz good = rw (lt-ltb z g.zones hz) (any_below_cong
    (λ d. present d && stale_in (state.condition z) (length (device_of g t d (data_zone z)).sectors) (needed g.drives g.unit z (pointer_in (state.condition z)) d))
    (λ d. present d && stale_in (state.condition z) (get_or t.written (cell g d (data_zone z)) 0) (needed g.drives g.unit z (pointer_in (state.condition z)) d)) g.drives (λ d h.
    and_cong (present d) (stale_in (state.condition z) (length (device_of g t d (data_zone z)).sectors) (needed g.drives g.unit z (pointer_in (state.condition z)) d)) (stale_in (state.condition z) (get_or t.written (cell g d (data_zone z)) 0) (needed g.drives g.unit z (pointer_in (state.condition z)) d)) (λ p.
    ap (λ (m : ℕ). stale_in (state.condition z) m (needed g.drives g.unit z (pointer_in (state.condition z)) d)) (device_pointer g t d (data_zone z) h (omega arith) (good d h p)))))

-- a drive of the call is named, so refusal 3 has looked at its pointers
present_named : (g : Geometry) (named : List Bool) (s : State) (d : ℕ) → call_present g (is_set named) (view_state s) d ≡ true → is_set named d ≡ true
unfolding call_present
present_named g named s d h = (and_split (is_set named d) (not (eqb d s.lost)) (and_split (ltb d g.drives) (is_set named d && not (eqb d s.lost)) h).1).0

pub present_good : (g : Geometry) (named : List Bool) (s : State) (ws ds : List ℕ) → pointers_bad g named ws ds ≡ false → (d y : ℕ) → d < g.drives → y < physical_zones g → call_present g (is_set named) (view_state s) d ≡ true
    → get_or ws (cell g d y) 0 ≤ g.capacity
present_good g named s ws ds h d y hd hy p = (pointers_good g named ws ds d y h hd (present_named g named s d p) hy).0

-- refusal 7 of a call that has passed refusal 3
pub stale_on_tables : (g : Geometry) (named : List Bool) (s : State) (xs ws ds : List ℕ) (z : ℕ) → pointers_bad g named ws ds ≡ false → z < g.zones
    → stale g (call_present g (is_set named) (view_state s)) (device_of g (tables_of xs ws ds)) (view_state s) z ≡ stale_on g (call_present g (is_set named) (view_state s)) ws (record_at s z).condition z
stale_on_tables g named s xs ws ds z h hz = stale_is g (call_present g (is_set named) (view_state s)) (tables_of xs ws ds) (view_state s) z hz (λ d hd p. present_good g named s ws ds h d (data_zone z) hd (omega arith) p)

-- what passing refusal 1 says of the zone's pointer
pub pointer_within : (g : Geometry) (s : State) (z : ℕ) → state_within g (view_state s) ≡ true → z < g.zones → pointer_in (record_at s z).condition ≤ zone_sectors g
unfolding state_within
pointer_within g s z h hz =
    let b = (and_split (ltb s.lost g.drives || eqb s.lost no_drive) (all_below (λ (y : ℕ). leb (pointer_in (record_at s y).condition) (zone_sectors g)) g.zones) h).1 in
    leb-true (pointer_in (record_at s z).condition) (zone_sectors g) (all_below_all (λ (y : ℕ). leb (pointer_in (record_at s y).condition) (zone_sectors g)) g.zones z b hz)
