-- What a pointer needs of each drive, by its stripe, how far that is filled, and the stripe's parity drive: found once, they serve every drive.
use Rattle.std.specs.Prelude.{◌≡◌, refl, true, false, ℕ, zero, ◌+◌, ◌-◌, ◌*◌, ◌/◌, ◌%◌, ◌≤◌, ◌<◌, min, eqb}
use Rattle.std.proofs.Common.{arith}
use Rattle.tables.specs.declared.Geometry.{Geometry}
use Rattle.tables.specs.declared.placement.StripeAt.{StripeAt}
use Rattle.tables.specs.meaning.Geometry.{Valid, zone_sectors}
use Rattle.tables.specs.meaning.Placement.{stripe_length, stripe_of, parity_drive, unit_of, needed}
use Rattle.tables.specs.laws.Placement.{parity_drive_below}
use Rattle.tables.specs.laws.Sizes.{stripes_most}

abbrev pub stripe_at : ℕ → ℕ → ℕ → ℕ → StripeAt
stripe_at D U z n = record { stripe = stripe_of D U n; fill = n % stripe_length D U; parity = parity_drive D z (stripe_of D U n) }

abbrev pub needed_of : ℕ → ℕ → StripeAt → ℕ → ℕ
needed_of D U at d =
    elim (eqb d at.parity) [
      | true ↦ at.stripe * U
      | false ↦ at.stripe * U + min (at.fill - unit_of D at.parity d * U) U
    ]

pub needed_at : (D U z n d : ℕ) → needed_of D U (stripe_at D U z n) d ≡ needed D U z n d
unfolding needed
needed_at D U z n d = refl

-- a pointer of a zone lies in one of its stripes or at its end, and a stripe's parity on one of the drives
pub stripe_at_fits : (g : Geometry) → Valid g → (z n : ℕ) → n ≤ zone_sectors g → (stripe_of g.drives g.unit n ≤ 65536) × (parity_drive g.drives z (stripe_of g.drives g.unit n) < g.drives)
stripe_at_fits g ok z n h = (omega (arith, stripes_most g n ok h, ok.zone_most), parity_drive_below g.drives g.unit z (omega (arith, ok.drives_least)) ok.unit_least (stripe_of g.drives g.unit n))
