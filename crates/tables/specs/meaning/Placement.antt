-- Placement (document 01, "Placement"): where the sectors of a logical zone lie. D drives, units of U sectors, zone z.
-- Stripe s has its parity on drive p = (z + s + D − 1) mod D and unit j on drive (p + 1 + j) mod D, from sector s × U. An address
-- counts from the zone's first sector. The laws are in laws/Placement.
use Rattle.std.specs.Prelude.{true, false, ℕ, ◌+◌, ◌-◌, ◌*◌, ◌/◌, ◌%◌, min, eqb}

-- K: the data sectors of a stripe
unfoldable pub stripe_length : ℕ → ℕ → ℕ
stripe_length D U = (D - 1) * U

-- the parity drive of stripe s
unfoldable pub parity_drive : ℕ → ℕ → ℕ → ℕ
parity_drive D z s = (z + s + D - 1) % D

-- the drive of unit j of a stripe whose parity drive is p
unfoldable pub unit_drive : ℕ → ℕ → ℕ → ℕ
unit_drive D p j = (p + 1 + j) % D

-- the unit that drive d holds of a stripe whose parity drive is p
unfoldable pub unit_of : ℕ → ℕ → ℕ → ℕ
unit_of D p d = (d + D - (p + 1)) % D

-- ---- from an address: its stripe, unit and row; its drive, and its sector there
unfoldable pub stripe_of : ℕ → ℕ → ℕ → ℕ
stripe_of D U a = a / stripe_length D U

unfoldable pub unit_index : ℕ → ℕ → ℕ → ℕ
unit_index D U a = a % stripe_length D U / U

unfoldable pub row_index : ℕ → ℕ → ℕ → ℕ
row_index D U a = a % stripe_length D U % U

unfoldable pub drive_of : ℕ → ℕ → ℕ → ℕ → ℕ
drive_of D U z a = unit_drive D (parity_drive D z (stripe_of D U a)) (unit_index D U a)

unfoldable pub sector_of : ℕ → ℕ → ℕ → ℕ
sector_of D U a = stripe_of D U a * U + row_index D U a

-- ---- back: the address of row r of unit j of stripe s, and the one at sector x of drive d
unfoldable pub address : ℕ → ℕ → ℕ → ℕ → ℕ → ℕ
address D U s j r = s * stripe_length D U + (j * U + r)

unfoldable pub address_at : ℕ → ℕ → ℕ → ℕ → ℕ → ℕ
address_at D U z d x = x / U * stripe_length D U + (unit_of D (parity_drive D z (x / U)) d * U + x % U)

-- the sectors that a pointer n needs of drive d: data below it, and the parity of its complete stripes
unfoldable pub needed : ℕ → ℕ → ℕ → ℕ → ℕ → ℕ
needed D U z n d =
    elim (eqb d (parity_drive D z (stripe_of D U n))) [
      | true ↦ stripe_of D U n * U
      | false ↦ stripe_of D U n * U + min (n % stripe_length D U - unit_of D (parity_drive D z (stripe_of D U n)) d * U) U
    ]
