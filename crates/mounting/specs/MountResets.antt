-- Step 3 of a mount: the resets of zones, drive by drive.
use Rattle.std.specs.Prelude.{◌≡◌, refl, Bool, true, false, ◌&&◌, ℕ, ◌≤◌, ◌<◌, List, [], ◌∷◌}
use Rattle.std.proofs.Common.{◌∙◌, arith}
use Rattle.tables.specs.declared.Geometry.{Geometry}
use Rattle.tables.specs.meaning.Basics.{pick}
use Rattle.tables.specs.meaning.Below.{each_below}
use Rattle.tables.specs.meaning.Device.{Store, reset}
use Rattle.tables.specs.meaning.Phases.{on_present}
use Rattle.tables.specs.laws.Made.{store_if}
use Rattle.volume.specs.declared.Look.{Look}
use Rattle.volume.specs.meaning.Mount.{zone_reset_step}
use Rattle.volume.specs.rows.KeptBelow.{StoresIn, each_in, pick_in}
use Rattle.volume.specs.checks.Records.{zone_look}
use Rattle.mounting.specs.MountLook.{shown_by, reset_needed, stays, data_stays}
use Rattle.tables.specs.meaning.Geometry.{data_zone}

-- the resets of drive d's zones below n
abbrev pub zone_resets : Look → ℕ → ℕ → List Store
zone_resets k d n = each_below (λ z. pick (reset_needed (zone_look k z)) (reset d (data_zone z) ∷ []) []) n

pub zone_reset_steps : (g : Geometry) (k : Look) → zone_reset_step g (shown_by k) ≡ each_below (λ d. zone_resets k d g.zones) g.drives
unfolding zone_reset_step
zone_reset_steps g k = refl

-- one of them on the present drives
pub reset_one : (a : ℕ → Bool) (needed : Bool) (d y : ℕ) → on_present a (pick needed (reset d y ∷ []) []) ≡ store_if (a d && needed) (reset d y)
reset_one a needed d y = go (a d) refl needed
  where
    go : (b : Bool) → a d ≡ b → (n : Bool) → on_present a (pick n (reset d y ∷ []) []) ≡ store_if (b && n) (reset d y)
    go true e true = rw e refl
    go false e true = rw e refl
    go true e false = refl
    go false e false = refl

-- they touch no zone that stays
zone_resets_in : (g : Geometry) (k : Look) (d n : ℕ) → d < g.drives → n ≤ g.zones → StoresIn g (stays k) (zone_resets k d n)
zone_resets_in g k d n hd hn = each_in g (stays k) (λ z. pick (reset_needed (zone_look k z)) (reset d (data_zone z) ∷ []) []) n (λ z h. pick_in g (stays k) (reset_needed (zone_look k z)) (reset d (data_zone z) ∷ []) (λ e. ((hd, omega arith, data_stays k z ∙ rw e refl), tt)))

pub zone_reset_steps_in : (g : Geometry) (k : Look) (m : ℕ) → m ≤ g.drives → StoresIn g (stays k) (each_below (λ d. zone_resets k d g.zones) m)
zone_reset_steps_in g k m h = each_in g (stays k) (λ d. zone_resets k d g.zones) m (λ d l. zone_resets_in g k d g.zones (omega arith) (omega arith))
