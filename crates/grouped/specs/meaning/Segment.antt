-- The numbers of a segment, and refusals 1, 2 and 4: its bounds, the lengths of what is lent, the drives named.
use Rattle.std.specs.Prelude.{Bool, false, ◌&&◌, not, ℕ, ◌*◌, ◌%◌, List, [], ◌∷◌, get_or, ltb, leb, eqb}
use Rattle.tables.specs.meaning.Below.{count_below}
use Rattle.tables.specs.meaning.Drives.{find_below}
use Rattle.tables.specs.meaning.GeometryTest.{all, sector_size}
use Rattle.grouped.specs.declared.Segment.{Segment}

-- ---- 1: D, B and G in their bounds, at most 65,536 blocks a drive, whole groups
abbrev pub segment_bounds : Segment → List Bool
segment_bounds s =
    leb 3 s.drives ∷ leb s.drives 8
    ∷ sector_size s.block
    ∷ leb 1 s.group ∷ leb s.group 256
    ∷ leb s.blocks 65536 ∷ []

unfoldable pub is_segment : Segment → Bool
is_segment s = all (segment_bounds s) && eqb (s.blocks % s.group) 0

-- ---- 2: every lent length is exact, in bytes
-- the blocks of all drives
abbrev pub total_blocks : Segment → ℕ
total_blocks s = s.drives * s.blocks

-- the metadata of a block: address, timestamp, stripe ID
abbrev pub record_bytes : ℕ
record_bytes = 20

-- the work table: two numbers of 32 bits for each block
abbrev pub work_bytes : ℕ
work_bytes = 8

unfoldable pub ranges_fit : Segment → ℕ → ℕ → ℕ → ℕ → Bool
ranges_fit s blocks metadata work answer =
    eqb blocks (total_blocks s * s.block) && (eqb metadata (total_blocks s * record_bytes) && (eqb work (total_blocks s * work_bytes) && eqb answer s.block))

-- ---- 4: one drive at most is not named
abbrev pub is_missing : List Bool → ℕ → Bool
is_missing named d = not (get_or named d false)

unfoldable pub two_missing : Segment → List Bool → Bool
two_missing s named = ltb 1 (count_below (is_missing named) s.drives)

-- the drive that is not named; no_drive if every one is
unfoldable pub missing_drive : Segment → List Bool → ℕ
missing_drive s named = find_below (is_missing named) s.drives
