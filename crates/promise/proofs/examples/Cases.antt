-- Document 01, "Both edges": its thirteen cases as rows with their letters; and apart from them more of the same kinds. The checker computes each table
-- from the definitions, bytes and logs included.
use Rattle.volume.specs.meaning.Calls.{append_general, reset_stores}
use Rattle.logs.specs.meaning.Entry.{encode, partial_parity, seal, closing, parity_zone}
use Rattle.promise.proofs.examples.Example.{blank, geo, lengths, every, no_stop, does, number_of, formatted, formatted_state, bytes, asked, written_state, written_device, kept, two_left, one_left}
use Rattle.volume.specs.meaning.Answers.{CallResult, format_call, Given, refused, given, look_call, mount_call, write_call, compact_call, Place, place_of}
use Rattle.std.specs.Prelude.{Bool, true, ◌&&◌, false, ◌||◌, ℕ, ◌+◌, ◌*◌, suc, List, [], ◌∷◌, map, length, get_or, take, replicate, eqb, T}
use Prim.Native.Char.{Char}
use Rattle.tables.specs.meaning.Device.{Device, apply_all}
use Rattle.tables.specs.meaning.Placement.{needed}
use Rattle.tables.specs.meaning.Drives.{no_drive, present_but}
use Rattle.volume.specs.meaning.Rules.{Shown}
use Rattle.volume.specs.declared.Condition.{Condition}
use Rattle.volume.specs.declared.Condition.TheVariants.{Empty, Open, Sealed, Worn}
use Rattle.volume.specs.meaning.State.{StateView, pointer_in, share_at}
use Rattle.promise.specs.meaning.Claim.{all_but}
use Rattle.tables.specs.meaning.Below.{all_below, tabulate_from}
use Rattle.tables.specs.meaning.Lists.{concat}
use Rattle.tables.specs.meaning.LittleEndian.{same_bytes}
use Rattle.tables.specs.meaning.Xor.{xor_bytes}
use Rattle.promise.proofs.examples.Opened.{device_open}

pub data Case : Type 0 where
  -- an address; its drive, physical zone and sector
  placed : ℕ → ℕ → ℕ → ℕ → Case
  -- a stripe of zone 0; the drive and the two sectors that hold its parity when it has been written
  parity_placed : ℕ → ℕ → ℕ → ℕ → Case
  -- a pointer in zone 0; the sectors that it needs of each drive
  needs : ℕ → List ℕ → Case
  -- a write of so many sectors to a fresh zone 0; a drive; the sectors logged on it
  logged : ℕ → ℕ → ℕ → Case
  -- what a look shows of zone 0, by all drives but one
  shows : Device → ℕ → Condition → Case
  -- the lost drive that a look shows when every drive is named
  lost_shown : Device → ℕ → Case
  -- what host 0's writes made, and what is left of its share of drive 3's parity log; then a write of one sector to zone 0 by that host: its answer, and what the drive's zone 1 holds, sector by sector
  share_left : CallResult Device StateView → ℕ → ℕ → List (List ℕ) → Case
  -- the same, then a compact of drive 3: what its zones 1 and 2 hold, and what is left of each host's share
  compacted : CallResult Device StateView → List (List ℕ) → List (List ℕ) → ℕ → Case
  -- a reset of zone 0 with five sectors, stopped after so many stores; then a look by all drives but one: as before, or empty
  reset_stops : ℕ → ℕ → Case

-- the kind of a condition, and its pointer
abbrev pub condition_kind : Condition → ℕ
condition_kind Empty = 0
condition_kind (Open n) = 1
condition_kind (Sealed n) = 2
condition_kind (Worn n) = 3

abbrev pub same_condition : Condition → Condition → Bool
same_condition c d = eqb (condition_kind c) (condition_kind d) && eqb (pointer_in c) (pointer_in d)

abbrev same_place : Place → ℕ → ℕ → ℕ → Bool
same_place p d y x = eqb p.drive d && (eqb p.zone y && eqb p.sector x)

abbrev condition_shown : Given Shown → (Condition → Bool) → Bool
condition_shown (refused n) p = false
condition_shown (given k) p = p (k.zone 0).condition

abbrev lost_of : Given Shown → ℕ
lost_of (refused n) = no_drive
lost_of (given k) = k.lost

-- sector i of a buffer whose sectors all differ; the device after a write of its first n stripes (of 6 sectors); the parity of row r of stripe s
abbrev sector_of_own : ℕ → List ℕ
sector_of_own i = replicate 64 (3 * i + 1)

abbrev stripes_written : ℕ → Device
stripes_written n = (does (write_call geo lengths every formatted_state (record { host = 0; address = 0; count = n * 6; buffer = concat (tabulate_from sector_of_own 0 (n * 6)) })) formatted_state no_stop formatted).memory

abbrev row_parity : ℕ → ℕ → List ℕ
row_parity s r = xor_bytes (sector_of_own (s * 6 + r)) (xor_bytes (sector_of_own (s * 6 + 2 + r)) (sector_of_own (s * 6 + 4 + r)))

abbrev same_sectors : List (List ℕ) → List (List ℕ) → Bool
same_sectors ss ts = eqb (length ss) (length ts) && all_below (λ i. same_bytes (get_or ss i []) (get_or ts i [])) (length ts)

-- a partial parity entry on drive 3: zone, stripe, sectors of the stripe below its end; its rows, each of one byte's value
abbrev entry : ℕ → ℕ → ℕ → List ℕ → List (List ℕ)
entry z s f rows = encode geo 3 (partial_parity z s f 1) ∷ map (bytes 1) rows

abbrev holds : Case → Bool
holds (placed a d y x) = same_place (place_of geo a) d y x
holds (parity_placed s d x y) = same_bytes (get_or (stripes_written (suc s) d 3).sectors x []) (row_parity s 0) && same_bytes (get_or (stripes_written (suc s) d 3).sectors y []) (row_parity s 1)
holds (needs n ks) = all_below (λ d. eqb (needed 4 2 0 n d) (get_or ks d 0)) 4
holds (logged n d k) = eqb (length (written_device n d parity_zone).sectors) k
holds (shows v x c) = condition_shown (look_call geo lengths (all_but x) v) (same_condition c)
holds (lost_shown v x) = eqb (lost_of (look_call geo lengths every v)) x
holds (share_left before left answer p) =
    let r = does (write_call geo lengths every before.state (asked 0 0 1 9)) before.state no_stop before.memory in
    (eqb (before.state.share (share_at 3 0)) left && eqb (number_of r) answer) && same_sectors (r.memory 3 1).sectors p
holds (compacted before p q left) =
    let r = does (compact_call geo lengths every before.state 3) before.state no_stop before.memory in
    (eqb (number_of r) 0 && (same_sectors (r.memory 3 1).sectors p && same_sectors (r.memory 3 2).sectors q)) && (eqb (r.state.share (share_at 3 0)) left && eqb (r.state.share (share_at 3 1)) left)
holds (reset_stops n x) =
    condition_shown (look_call geo lengths (all_but x) (apply_all (take n (reset_stores geo (present_but geo no_drive) (written_state 5) 0)) (written_device 5))) (λ c. same_condition (Open 5) c || same_condition Empty c)

-- what is left of five sectors; and a mount of it by all drives but x
abbrev left : List ℕ → ℕ → Device
left ks p = kept ks p (written_device 5)

abbrev mounted : ℕ → Device → Device
mounted x v = (does (mount_call geo lengths (all_but x)) formatted_state no_stop v).memory

-- m sectors written, then n more: the parity log of drive 3 has an entry for each write
abbrev written_twice : ℕ → ℕ → Device
written_twice m n = (does (write_call geo lengths every (written_state m) (asked 0 m n 8)) (written_state m) no_stop (written_device m)).memory

-- a mount stopped after so many stores
abbrev mounted_part : ℕ → Device → Device
mounted_part n v = (does (mount_call geo lengths every) formatted_state n v).memory

-- the paper's cases, each with its letter. (In case m the bytes of a sector are the address of its write: 6 is 114 xor 116, and so on.)
pub paper_cases : List (Char × Case)
paper_cases =
    ("a", placed 0 0 3 0)
    ∷ ("b", placed 7 1 3 3)
    ∷ ("c", placed 95 1 3 31)
    ∷ ("d", placed 96 1 4 0)
    ∷ ("e", parity_placed 1 0 2 3)
    ∷ ("f", needs 5 (2 ∷ 2 ∷ 1 ∷ 0 ∷ []))
    ∷ ("g", needs 6 (2 ∷ 2 ∷ 2 ∷ 2 ∷ []))
    ∷ ("h", needs 7 (2 ∷ 3 ∷ 2 ∷ 2 ∷ []))
    ∷ ("i", logged 1 3 2)
    ∷ ("j", shows (left (2 ∷ 1 ∷ 1 ∷ 0 ∷ []) 0) no_drive (Sealed 3))
    ∷ ("k", shows (left (2 ∷ 1 ∷ 1 ∷ 0 ∷ []) 3) no_drive (Open 5))
    ∷ ("l", shows (left (0 ∷ 0 ∷ 0 ∷ 0 ∷ []) 3) no_drive Empty)
    -- by document 02's shares: with two sectors left the entry is stored behind those of the writes before, with one the answer is 14
    ∷ ("m", share_left two_left 2 0 (concat (entry 1 3 1 (114 ∷ []) ∷ entry 1 3 2 (114 ∷ 115 ∷ []) ∷ entry 1 3 3 (6 ∷ 115 ∷ []) ∷ entry 1 7 1 (117 ∷ []) ∷ entry 0 0 1 (9 ∷ []) ∷ [])))
    ∷ ("m", share_left one_left 1 14 (concat (entry 1 3 1 (114 ∷ []) ∷ entry 1 3 2 (114 ∷ 115 ∷ []) ∷ entry 1 3 3 (6 ∷ 115 ∷ []) ∷ entry 1 3 4 (6 ∷ 6 ∷ []) ∷ [])))
    ∷ []

-- later ones
pub more_cases : List Case
more_cases =
    -- after a compact: zone 1's entry at its pointer and the closing entry in the new log, and half of what it has unused past eight sectors
    compacted one_left [] (concat (entry 1 3 4 (6 ∷ 6 ∷ []) ∷ (encode geo 3 (closing 1 1) ∷ []) ∷ [])) 10
    -- a fresh zone; five sectors; with the entry torn; with a drive lost
    ∷ shows formatted no_drive Empty
    ∷ shows (written_device 5) no_drive (Open 5)
    ∷ shows (left (2 ∷ 1 ∷ 1 ∷ 0 ∷ []) 2) no_drive (Sealed 3)
    ∷ shows (written_device 5) 2 (Open 5)
    -- two stripes
    ∷ shows (written_device 10) no_drive (Open 10)
    -- slips the field has seen. The newest entry leans on data that was lost with the cut, the older one does not (drive 0 is lost)
    ∷ shows (kept (2 ∷ 1 ∷ 0 ∷ 0 ∷ []) 6 (written_twice 3 2)) 0 (Sealed 3)
    -- a seal on one drive is enough
    ∷ shows (apply_all (append_general geo (seal 0 3 1) 0) (written_device 5)) no_drive (Sealed 3)
    -- a mount stopped where it would complete the torn entry: the zone is sealed by then
    ∷ shows (mounted_part 13 (left (2 ∷ 1 ∷ 1 ∷ 0 ∷ []) 2)) no_drive (Sealed 3)
    -- a reset found on drive 0 alone, redone, and drive 0 lost: the entry of the first write does not bring sector 0 back
    ∷ shows (mounted_part 14 (apply_all (take 1 (reset_stores geo (present_but geo no_drive) (written_state 5) 0)) (written_twice 1 4))) 0 Empty
    -- a drive left out of the format is lost for good: the others' labels say so
    ∷ lost_shown (does (format_call geo lengths (all_but 2) 7) formatted_state no_stop blank).memory 2
    ∷ lost_shown formatted no_drive
    -- after a mount
    ∷ shows (mounted no_drive (left (2 ∷ 1 ∷ 1 ∷ 0 ∷ []) 0)) no_drive (Sealed 3)
    ∷ shows (mounted no_drive (left (2 ∷ 1 ∷ 1 ∷ 0 ∷ []) 2)) no_drive (Sealed 3)
    ∷ shows (mounted no_drive (left (2 ∷ 1 ∷ 1 ∷ 0 ∷ []) 3)) no_drive (Open 5)
    ∷ shows (mounted no_drive (left (0 ∷ 0 ∷ 0 ∷ 0 ∷ []) 3)) no_drive Empty
    ∷ shows (mounted 0 (left (2 ∷ 1 ∷ 1 ∷ 0 ∷ []) 3)) 0 (Sealed 1)
    -- a stopped reset, with every drive and with drive 2 lost
    ∷ reset_stops 1 no_drive
    ∷ reset_stops 1 2
    ∷ reset_stops 6 no_drive
    ∷ reset_stops 9 2
    ∷ reset_stops 13 no_drive
    ∷ reset_stops 16 2
    ∷ []

abbrev all_hold : List Case → Bool
all_hold [] = true
all_hold (c ∷ cs) = holds c && all_hold cs

pub paper_cases_hold : T (all_hold (map (λ (r : Char × Case). r.1) paper_cases))
unfolding device_open paper_cases
paper_cases_hold = tt

pub more_cases_hold : T (all_hold more_cases)
unfolding device_open more_cases
more_cases_hold = tt
