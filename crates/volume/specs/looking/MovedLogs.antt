-- The logs after an emptying, as the code places them (src/roles.rt, `move_logs`): on each drive whose log of the kind was emptied, that log lies where the spare
-- lay. By the roles: that is `roles_after`.
use Rattle.std.specs.Prelude.{◌≡◌, refl, Bool, true, false, ◌&&◌, not, ℕ, zero, suc, ◌+◌, ◌*◌, ◌^◌, ◌≤◌, ◌<◌, List, get_or, Option, Some, None, is_some}
use Rattle.std.proofs.Common.{ap, arith, add-one}
use Rattle.std.proofs.Math.Decide.{dec_lt}
use Rattle.tables.specs.declared.Geometry.{Geometry}
use Rattle.tables.specs.meaning.Basics.{pick}
use Rattle.tables.specs.meaning.Below.{sum_below}
use Rattle.tables.specs.meaning.Tables.{zone_place}
use Rattle.tables.specs.laws.ZonePlaces.{place_injective, place_of_other}
use Rattle.volume.specs.declared.roles.LogZones.{LogZones}
use Rattle.volume.specs.meaning.Roles.{Roles, zone_of_role, roles_after}
use Rattle.volume.specs.laws.LogPlaces.{with_logs, with_roles, bits_of, logs_of, Proper, zone_by_role, digits_small}

-- the generations of the new logs, of the drives whose logs of a kind are emptied
abbrev pub is_emptied : List (Option ℕ) → ℕ → Bool
is_emptied l d = is_some (get_or l d None)

abbrev pub generation_or_0 : Option ℕ → ℕ
generation_or_0 None = 0
generation_or_0 (Some n) = n

abbrev pub new_generation : List (Option ℕ) → ℕ → ℕ
new_generation l d = generation_or_0 (get_or l d None)

-- of drive d: where its logs lie after its log of the kind was emptied, if it was
abbrev pub zones_after : Geometry → Bool → Bool → ℕ → LogZones
zones_after g par emptied d = record {
  general = zone_place g d (pick (emptied && not par) 2 0);
  parity = zone_place g d (pick (emptied && par) 2 1);
  lacks_general = false;
  lacks_parity = false;
}

abbrev pub bits_after : Geometry → Bool → (ℕ → Bool) → ℕ → ℕ
bits_after g par emptied d = (zones_after g par (emptied d) d).general + 4 * (zones_after g par (emptied d) d).parity

abbrev pub moved_logs : Geometry → Bool → (ℕ → Bool) → ℕ → ℕ
moved_logs g par emptied n = sum_below (λ d. bits_after g par emptied d * 2 ^ (4 * d)) n

-- ---- numbers that stay small
place_below : (g : Geometry) (d z : ℕ) → z < 3 → zone_place g d z < 3
place_below g d z h = go (dec_lt (zone_place g d z) 3)
  where
    go : Dec (zone_place g d z < 3) → zone_place g d z < 3
    go (yes k) = k
    go (no k) = absurd (k (rw (place_injective g d (zone_place g d z) z (place_of_other g d (zone_place g d z) (omega arith))) h))

pub zones_after_small : (g : Geometry) (par emptied : Bool) (d : ℕ) → ((zones_after g par emptied d).general < 3) × ((zones_after g par emptied d).parity < 3)
zones_after_small g true true d = (place_below g d 0 (omega arith), place_below g d 2 (omega arith))
zones_after_small g true false d = (place_below g d 0 (omega arith), place_below g d 1 (omega arith))
zones_after_small g false true d = (place_below g d 2 (omega arith), place_below g d 1 (omega arith))
zones_after_small g false false d = (place_below g d 0 (omega arith), place_below g d 1 (omega arith))

pub moved_small : (g : Geometry) (par : Bool) (emptied : ℕ → Bool) (n : ℕ) → n ≤ 8 → moved_logs g par emptied n < 4294967296
moved_small g par emptied n h = digits_small (bits_after g par emptied) (λ d. let k = zones_after_small g par (emptied d) d in omega (arith, k.0, k.1)) n h

pub moved_more : (g : Geometry) (par : Bool) (emptied : ℕ → Bool) (d x b : ℕ) (z : LogZones) → x ≡ moved_logs g par emptied d → b ≡ (z.general + 4 * z.parity) * 2 ^ (4 * d)
    → z ≡ zones_after g par (emptied d) d → x + b ≡ moved_logs g par emptied (d + 1)
moved_more g par emptied d x b z p q e = rw (p, q, e, add-one) refl

-- ---- by the roles
module _ (g : Geometry) (r : ℕ → Roles) (proper : (d : ℕ) → Proper (r d)) (par : Bool) (emptied : ℕ → Bool) where
  bits_by_roles : (d : ℕ) → d < g.drives → bits_after (with_roles g r) par emptied d ≡ bits_of (roles_after par emptied r d)
  bits_by_roles d h = rw (zone_by_role g r proper d h (pick (emptied d && not par) 2 0), zone_by_role g r proper d h (pick (emptied d && par) 2 1)) (go par (emptied d))
    where
      go : (p e : Bool) → zone_of_role (r d) (pick (e && not p) 2 0) + 4 * zone_of_role (r d) (pick (e && p) 2 1) ≡ bits_of (roles_after p (λ k. e) r d)
      go true true = refl
      go true false = refl
      go false true = refl
      go false false = refl

  sums_by_roles : (n : ℕ) → n ≤ g.drives → moved_logs (with_roles g r) par emptied n ≡ logs_of (roles_after par emptied r) n
  sums_by_roles zero h = refl
  sums_by_roles (suc n) h = rw (sums_by_roles n (omega arith), bits_by_roles n (omega arith)) refl

  -- THE GEOMETRY AFTER AN EMPTYING is that of the roles after it
  pub moved_by_roles : with_logs (with_roles g r) (moved_logs (with_roles g r) par emptied g.drives) ≡ with_roles g (roles_after par emptied r)
  moved_by_roles = ap (with_logs g) (sums_by_roles g.drives (omega arith))
