-- The look that a mount's code keeps (struct Look), as the rules see it, and when it tells the truth about what is shown.
use Rattle.std.specs.Prelude.{◌≡◌, refl, ◌≢◌, Bool, true, false, ◌&&◌, ◌||◌, not, ℕ, suc, ◌-◌, ◌^◌, ◌≤◌, ◌<◌, ltb, eqb, List, []}
use Rattle.std.proofs.Common.{ap, ◌∙◌, arith, lt-ltb, le-ltb, ne_eqb}
use Rattle.tables.specs.declared.Geometry.{Geometry}
use Rattle.tables.specs.meaning.Geometry.{zone_sectors, data_zone}
use Rattle.volume.specs.declared.ZoneLook.{ZoneLook}
use Rattle.volume.specs.declared.Look.{Look}
use Rattle.volume.specs.meaning.State.{is_empty, is_worn}
use Rattle.volume.specs.meaning.Rules.{Shown, ZoneShown}
use Rattle.volume.specs.meaning.Mount.{needs_reset}
use Rattle.volume.specs.checks.Records.{zone_look}

-- a look with values is what is shown
abbrev pub zone_with : ZoneLook → (ℕ → List ℕ) → ZoneShown
zone_with s value = record { generation = s.generation; condition = s.condition; pointer = s.pointer; value = value; by_reset = s.by_reset; clean = s.clean }

abbrev pub shown_with : Look → (ℕ → ℕ → List ℕ) → Shown
shown_with k value = record { lost = k.lost; array = k.array; zone = λ z. zone_with (zone_look k z) (value z) }

-- without values: steps 1 to 5 ask for none
abbrev pub shown_by : Look → Shown
shown_by k = shown_with k (λ z a. [])

-- it tells the truth about what is shown, values apart
pub record LookShows (g : Geometry) (k : Look) (s : Shown) : Type 0 where
  pub lost_is : k.lost ≡ s.lost
  pub array_is : k.array ≡ s.array
  pub zone_is_lem : (z : ℕ) → z < g.zones → zone_with (zone_look k z) (s.zone z).value ≡ s.zone z

-- its numbers are in range: what code relies on
pub record LookWithin (g : Geometry) (k : Look) : Type 0 where
  pub lost_small : k.lost < 256
  pub pointer_most : (z : ℕ) → z < g.zones → (zone_look k z).pointer ≤ zone_sectors g
  pub generation_small : (z : ℕ) → z < g.zones → (zone_look k z).generation < 2 ^ 64
  pub raises : (z : ℕ) → z < g.zones → is_empty (zone_look k z).condition ≡ true → suc (zone_look k z).generation < 2 ^ 64
  pub reset_empty : (z : ℕ) → z < g.zones → (zone_look k z).by_reset ≡ true → (zone_look k z).pointer ≡ 0

-- "resets of those zones and of unclean ones with pointer 0, worn zones excepted"
abbrev pub reset_needed : ZoneLook → Bool
reset_needed s = needs_reset (zone_with s (λ a. []))

-- the physical zones that a mount does not reset: there it only appends
unfoldable pub stays : Look → ℕ → Bool
stays k y = ltb y 3 || not (reset_needed (zone_look k (y - 3)))

pub log_stays : (k : Look) (y : ℕ) → y < 3 → stays k y ≡ true
unfolding stays
log_stays k y h = rw (lt-ltb y 3 h) refl

pub data_stays : (k : Look) (z : ℕ) → stays k (data_zone z) ≡ not (reset_needed (zone_look k z))
unfolding stays
data_stays k z =
    let e : data_zone z - 3 ≡ z = omega arith in
    rw (le-ltb (data_zone z) 3 (omega arith), e) refl

-- a zone with a pointer past 0 is one of them
pub pointed_stays : (g : Geometry) (k : Look) (z : ℕ) → LookWithin g k → z < g.zones → (zone_look k z).pointer ≢ 0 → stays k (data_zone z) ≡ true
pointed_stays g k z w h p = data_stays k z ∙ ap not (kept (is_worn (zone_look k z).condition) (zone_look k z).by_reset refl (zone_look k z).clean)
  where
    kept : (worn b : Bool) → (zone_look k z).by_reset ≡ b → (clean : Bool) → not worn && (b || (not clean && eqb (zone_look k z).pointer 0)) ≡ false
    kept true b e clean = refl
    kept false true e clean = absurd (p (w.reset_empty z h e))
    kept false false e true = refl
    kept false false e false = ne_eqb (zone_look k z).pointer 0 p
