-- The bounds of a segment as facts, and its sizes.
use Rattle.std.specs.Prelude.{◌≡◌, refl, Bool, true, false, ℕ, zero, suc, ◌+◌, ◌*◌, ◌/◌, ◌%◌, ◌≤◌, ◌<◌, List, length}
use Rattle.std.proofs.Common.{sym, ◌∙◌, true≢false, mul-le-mul, div-add-mod', div-lt_iff_lt-mul, arith, leb-true, ne_eqb}
use Rattle.std.proofs.Math.Decide.{dec_lt}
use Rattle.std.proofs.Math.Arith.{digits_lt}
use Rattle.tables.specs.laws.GeometryTest.{all_at}
use Rattle.tables.specs.meaning.Basics.{pick}
use Rattle.tables.specs.meaning.Drives.{find_below}
use Rattle.tables.specs.meaning.GeometryTest.{all, sector_size}
use Rattle.grouped.specs.declared.Segment.{Segment}
use Rattle.grouped.specs.meaning.Segment.{segment_bounds, total_blocks}

pub record Valid (s : Segment) : Type 0 where
  pub drives_least : 3 ≤ s.drives
  pub drives_most : s.drives ≤ 8
  pub block_most : s.block ≤ 4096
  pub group_least : 1 ≤ s.group
  pub group_most : s.group ≤ 256
  pub blocks_most : s.blocks ≤ 65536

size_most : (b : ℕ) → sector_size b ≡ true → b ≤ 4096
size_most b h = go (dec_lt 4096 b)
  where
    go : Dec (4096 < b) → b ≤ 4096
    go (yes k) =
        let e : sector_size b ≡ false = rw (ne_eqb b 64 (omega arith), ne_eqb b 128 (omega arith), ne_eqb b 256 (omega arith), ne_eqb b 512 (omega arith), ne_eqb b 1024 (omega arith), ne_eqb b 2048 (omega arith), ne_eqb b 4096 (omega arith)) refl in
        absurd (true≢false (sym h ∙ e))
    go (no k) = omega arith

pub ranged : (s : Segment) → all (segment_bounds s) ≡ true → Valid s
ranged s h =
    let at = all_at (segment_bounds s) h in
    record {
      drives_least = leb-true _ _ (at 0);
      drives_most = leb-true _ _ (at 1);
      block_most = size_most s.block (at 2);
      group_least = leb-true _ _ (at 3);
      group_most = leb-true _ _ (at 4);
      blocks_most = leb-true _ _ (at 5);
    }

-- ---- sizes
pub total_small : (s : Segment) → Valid s → total_blocks s ≤ 524288
total_small s v = mul-le-mul {n₂ = 8} {m₂ = 65536} v.drives_most v.blocks_most

pub bytes_small : (s : Segment) → Valid s → total_blocks s * s.block ≤ 2147483648
bytes_small s v = mul-le-mul {n₂ = 524288} {m₂ = 4096} (total_small s v) v.block_most

-- what drive d has in place i is below the total
pub cell_in : (s : Segment) (d i : ℕ) → d < s.drives → i < s.blocks → d * s.blocks + i < total_blocks s
cell_in s d i h k = digits_lt h k

-- the missing drive's number is small, also where none is missing
pub find_most : (p : ℕ → Bool) (n : ℕ) → n ≤ 256 → find_below p n ≤ 255
find_most p zero h = omega arith
find_most p (suc n) h = go (p n) (find_most p n (omega arith))
  where
    go : (t : Bool) → find_below p n ≤ 255 → pick t n (find_below p n) ≤ 255
    go true k = omega arith
    go false k = k

-- ---- what a call is lent, once refusals 1 and 2 are past
pub record Sized (s : Segment) (ms ws : List ℕ) : Type 0 where
  pub valid : Valid s
  pub whole : s.blocks % s.group ≡ 0
  pub metadata_long : length ms ≡ total_blocks s * 20
  pub work_long : length ws ≡ total_blocks s * 8

-- the groups are whole: an ID below G in a block's group is a stripe
pub stripe_in_lem : (s : Segment) (i k : ℕ) → 1 ≤ s.group → s.blocks % s.group ≡ 0 → i < s.blocks → k < s.group → i / s.group * s.group + k < s.blocks
stripe_in_lem s i k g e h l =
    let q : s.blocks / s.group * s.group ≡ s.blocks = omega (arith, div-add-mod' s.blocks s.group) in
    let b : i / s.group < s.blocks / s.group = (div-lt_iff_lt-mul g).1 (rw q h) in
    rw q at (digits_lt b l)
