-- The read of a block by its address: which block an address names, what is refused, what the answer buffer holds afterwards. What the drives hold of the
-- stripes is counted by c: drive c div N, stripe c mod N. The work table has no part in it: what it holds afterwards is left open.
use Rattle.std.specs.Prelude.{Bool, true, ◌&&◌, not, ℕ, zero, suc, ◌-◌, ◌/◌, ◌%◌, List, length, ltb, eqb}
use Rattle.tables.specs.meaning.Basics.{pick}
use Rattle.tables.specs.meaning.Below.{any_below}
use Rattle.grouped.specs.declared.Segment.{Segment}
use Rattle.grouped.specs.meaning.Segment.{is_segment, ranges_fit, two_missing, missing_drive, total_blocks}
use Rattle.grouped.specs.meaning.Stripes.{wrong_i_ds, stripe_parity, address_of, timestamp_of, block_of}

-- the address of a filler block, 2^64 − 1
abbrev pub filler : ℕ
filler = 18446744073709551615

unfoldable pub address_in : Segment → List ℕ → ℕ → ℕ → ℕ
address_in s ms x c = address_of s ms x (c / s.blocks) (c % s.blocks)

unfoldable pub timestamp_in : Segment → List ℕ → ℕ → ℕ → ℕ
timestamp_in s ms x c = timestamp_of s ms x (c / s.blocks) (c % s.blocks)

-- a data block that is no filler
unfoldable pub is_data : Segment → ℕ → Bool
is_data s c = not (eqb (c / s.blocks) (stripe_parity s (c % s.blocks)))

unfoldable pub counts : Segment → List ℕ → ℕ → ℕ → Bool
counts s ms x c = is_data s c && not (eqb (address_in s ms x c) filler)

-- 24: two of them with equal address and timestamp
unfoldable pub alike : Segment → List ℕ → ℕ → ℕ → ℕ → Bool
alike s ms x b c = eqb (address_in s ms x b) (address_in s ms x c) && eqb (timestamp_in s ms x b) (timestamp_in s ms x c)

unfoldable pub some_alike : Segment → List ℕ → ℕ → Bool
some_alike s ms x = any_below (λ c. counts s ms x c && any_below (λ b. counts s ms x b && alike s ms x b c) c) (total_blocks s)

-- ---- the data block with address a and the greatest timestamp, as one more than its c; 0 if no data block has a
abbrev pub is_later : Segment → List ℕ → ℕ → ℕ → ℕ → Bool
is_later s ms x zero c = true
is_later s ms x (suc b) c = ltb (timestamp_in s ms x b) (timestamp_in s ms x c)

abbrev pub later_of : Segment → List ℕ → ℕ → ℕ → ℕ → ℕ → ℕ
later_of s ms x a found c = pick (counts s ms x c && (eqb (address_in s ms x c) a && is_later s ms x found c)) (suc c) found

abbrev pub newest_below : Segment → List ℕ → ℕ → ℕ → ℕ → ℕ
newest_below s ms x a zero = zero
newest_below s ms x a (suc c) = later_of s ms x a (newest_below s ms x a c) c

unfoldable pub newest : Segment → List ℕ → ℕ → ℕ → ℕ
newest s ms x a = newest_below s ms x a (total_blocks s)

-- ---- the call, on the numbers s, the drives named, the blocks xs, the metadata ms, a work table of so many bytes, address a, the answer buffer out
pub record Request : Type 0 where
  pub segment : Segment
  pub named : List Bool
  pub blocks : List ℕ
  pub metadata : List ℕ
  pub work : ℕ  -- the bytes of the work table
  pub address : ℕ

abbrev pub request : Segment → List Bool → List ℕ → List ℕ → ℕ → ℕ → Request
request s named xs ms w a = record { segment = s; named = named; blocks = xs; metadata = ms; work = w; address = a }

-- what the numbers, the lengths and the drives named refuse, 0 if nothing; what the metadata refuse; then the address
unfoldable pub numbers_refused : Segment → List Bool → ℕ → ℕ → ℕ → ℕ → ℕ
numbers_refused s named blocks metadata work answer =
    pick (is_segment s) (pick (ranges_fit s blocks metadata work answer) (pick (two_missing s named) 4 0) 2) 1

unfoldable pub metadata_number : Segment → List ℕ → ℕ → ℕ
metadata_number s ms x = pick (wrong_i_ds s ms x) 23 (pick (some_alike s ms x) 24 0)

unfoldable pub address_number : Segment → List ℕ → ℕ → ℕ → ℕ
address_number s ms x a = pick (eqb (newest s ms x a) 0) 13 0

-- the first that refuses
abbrev pub number_or : ℕ → ℕ → ℕ
number_or n m = pick (eqb n 0) m n

unfoldable pub grouped_number : Request → List ℕ → ℕ
grouped_number r out =
    let s = r.segment in
    let x = missing_drive s r.named in
    number_or (numbers_refused s r.named (length r.blocks) (length r.metadata) r.work (length out))
    (number_or (metadata_number s r.metadata x) (address_number s r.metadata x r.address))

-- the bytes of what is counted by c
unfoldable pub block_in : Segment → List ℕ → List ℕ → ℕ → ℕ → List ℕ
block_in s xs ms x c = block_of s xs ms x (c / s.blocks) (c % s.blocks)

-- the answer buffer afterwards: as it was after a refusal
unfoldable pub grouped_left : Request → List ℕ → List ℕ
grouped_left r out =
    let s = r.segment in
    let x = missing_drive s r.named in
    pick (eqb (grouped_number r out) 0) (block_in s r.blocks r.metadata x (newest s r.metadata x r.address - 1)) out
