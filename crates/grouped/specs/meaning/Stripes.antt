-- Which blocks are a stripe, and what a missing drive's block, address and timestamp are. In each: s the numbers of the segment, ms the bytes of the
-- metadata, xs those of the blocks, x the missing drive, d a drive, n a stripe. Blocks are counted over all drives, drive by drive: block i of drive d
-- is d × N + i. Stripe n is that with ID n mod G in group n div G.
use Rattle.std.specs.Prelude.{Bool, ◌&&◌, not, ℕ, zero, suc, ◌+◌, ◌-◌, ◌*◌, ◌/◌, ◌%◌, List, eqb}
use Rattle.std.specs.Int.Bits.{bit_xor}
use Rattle.tables.specs.meaning.Basics.{pick}
use Rattle.tables.specs.meaning.Below.{any_below, count_below}
use Rattle.tables.specs.meaning.LittleEndian.{read_le}
use Rattle.tables.specs.meaning.Tables.{sector_no}
use Rattle.tables.specs.meaning.Xor.{xor_below, without}
use Rattle.grouped.specs.declared.Segment.{Segment}
use Rattle.grouped.specs.meaning.Segment.{record_bytes}

-- ---- the metadata of block k
unfoldable pub block_address : List ℕ → ℕ → ℕ
block_address ms k = read_le 8 ms (k * record_bytes)

unfoldable pub timestamp_at : List ℕ → ℕ → ℕ
timestamp_at ms k = read_le 8 ms (k * record_bytes + 8)

unfoldable pub id_at : List ℕ → ℕ → ℕ
id_at ms k = read_le 4 ms (k * record_bytes + 16)

-- ---- the blocks of a stripe: those with its ID in its group, one on each drive
-- block i of drive d is of stripe n
unfoldable pub of_stripe : Segment → List ℕ → ℕ → ℕ → ℕ → Bool
of_stripe s ms d n i = eqb (i / s.group) (n / s.group) && eqb (id_at ms (d * s.blocks + i)) (n % s.group)

-- 23: on some present drive some stripe has no block, or several
unfoldable pub wrong_drive : Segment → List ℕ → ℕ → Bool
wrong_drive s ms d = any_below (λ n. not (eqb (count_below (of_stripe s ms d n) s.blocks) 1)) s.blocks

unfoldable pub wrong_i_ds : Segment → List ℕ → ℕ → Bool
wrong_i_ds s ms x = any_below (λ d. not (eqb d x) && wrong_drive s ms d) s.drives

-- one more than the last below n that passes a test; 0 if none does
abbrev pub last_below : (ℕ → Bool) → ℕ → ℕ
last_below p zero = zero
last_below p (suc n) = pick (p n) (suc n) (last_below p n)

-- the block of drive d in stripe n
unfoldable pub block_place : Segment → List ℕ → ℕ → ℕ → ℕ
block_place s ms d n = d * s.blocks + last_below (of_stripe s ms d n) s.blocks - 1

-- the drive of a stripe's parity; the others hold data
abbrev pub stripe_parity : Segment → ℕ → ℕ
stripe_parity s n = n % s.drives

-- ---- what drive d holds of stripe n; of the missing drive it is the exclusive or of what the others hold
abbrev pub xor_numbers : (ℕ → ℕ) → ℕ → ℕ
xor_numbers f zero = zero
xor_numbers f (suc n) = bit_xor (xor_numbers f n) (f n)

-- all but x's
abbrev pub except : ℕ → (ℕ → ℕ) → ℕ → ℕ
except x f d = pick (eqb d x) 0 (f d)

unfoldable pub address_of : Segment → List ℕ → ℕ → ℕ → ℕ → ℕ
address_of s ms x d n = pick (eqb d x) (xor_numbers (except x (λ e. block_address ms (block_place s ms e n))) s.drives) (block_address ms (block_place s ms d n))

unfoldable pub timestamp_of : Segment → List ℕ → ℕ → ℕ → ℕ → ℕ
timestamp_of s ms x d n = pick (eqb d x) (xor_numbers (except x (λ e. timestamp_at ms (block_place s ms e n))) s.drives) (timestamp_at ms (block_place s ms d n))

unfoldable pub block_of : Segment → List ℕ → List ℕ → ℕ → ℕ → ℕ → List ℕ
block_of s xs ms x d n =
    pick (eqb d x) (xor_below (without (λ e. sector_no s.block xs (block_place s ms e n)) x) s.drives) (sector_no s.block xs (block_place s ms d n))
