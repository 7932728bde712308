-- When a sector that no call stored may be appended, and what that test gives.
use Rattle.std.specs.Prelude.{Bool, true, false, ◌&&◌, ◌≡◌, refl, ℕ, ◌+◌, ◌<◌, eqb, ltb}
use Rattle.std.proofs.Common.{arith, ltb-true, eqb-true}
use Rattle.tables.specs.declared.Geometry.{Geometry}
use Rattle.tables.specs.meaning.Basics.{pick}
use Rattle.tables.specs.meaning.Geometry.{Valid, physical_zones}
use Rattle.tables.specs.meaning.GeometryTest.{is_valid}
use Rattle.tables.specs.laws.GeometryTest.{valid_if_test}
use Rattle.tables.specs.meaning.Tables.{lengths_fit}

-- the tables are the geometry's, the sector one of its sectors, the drive and its zone are there
unfoldable pub may_append : Geometry → ℕ → ℕ → ℕ → ℕ → ℕ → Bool
may_append g xs ws b drive zone = pick (is_valid g) (lengths_fit g xs ws ws && (eqb b g.sector && (ltb drive g.drives && ltb zone (g.zones + 3)))) false

-- ---- what the test gives
pub record MayAppend (g : Geometry) (xs ws b drive zone : ℕ) : Type 0 where
  pub valid : Valid g
  pub lengths : lengths_fit g xs ws ws ≡ true
  pub whole : b ≡ g.sector
  pub drive_in : drive < g.drives
  pub zone_in_lem : zone < physical_zones g

pub may_append_lem : (g : Geometry) (xs ws b drive zone : ℕ) → may_append g xs ws b drive zone ≡ true → MayAppend g xs ws b drive zone
unfolding may_append
may_append_lem g xs ws b drive zone h = go (is_valid g) (lengths_fit g xs ws ws) (eqb b g.sector) (ltb drive g.drives) (ltb zone (g.zones + 3)) refl refl refl refl refl h
  where
    go : (v l w d z : Bool) → is_valid g ≡ v → lengths_fit g xs ws ws ≡ l → eqb b g.sector ≡ w → ltb drive g.drives ≡ d → ltb zone (g.zones + 3) ≡ z → pick v (l && (w && (d && z))) false ≡ true → MayAppend g xs ws b drive zone
    go true true true true true ev el ew ed ez k = record { valid = valid_if_test g ev; lengths = el; whole = eqb-true b g.sector ew; drive_in = ltb-true drive g.drives ed; zone_in_lem = omega (arith, ltb-true zone (g.zones + 3) ez) }
    go true true true true false ev el ew ed ez k = absurd (let y : ◌≡◌ {A = ℕ} 0 1 = cc in omega arith)
    go true true true false z ev el ew ed ez k = absurd (let y : ◌≡◌ {A = ℕ} 0 1 = cc in omega arith)
    go true true false d z ev el ew ed ez k = absurd (let y : ◌≡◌ {A = ℕ} 0 1 = cc in omega arith)
    go true false w d z ev el ew ed ez k = absurd (let y : ◌≡◌ {A = ℕ} 0 1 = cc in omega arith)
    go false l w d z ev el ew ed ez k = absurd (let y : ◌≡◌ {A = ℕ} 0 1 = cc in omega arith)
