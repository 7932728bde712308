-- The calls' answers computed on document 01's example: every number of the table of refusals is met, each beside an input that is
-- just not refused. A check of the definitions, no part of the proof.
use Rattle.std.specs.Prelude.{Bool, true, ◌&&◌, not, ℕ, List, [], ◌∷◌, ◌++◌, length, get_or, take, replicate, eqb, ltb, leb, T}
use Rattle.tables.specs.meaning.Device.{Device, put_zone}
use Rattle.tables.specs.meaning.Basics.{pick}
use Rattle.tables.specs.meaning.Drives.{no_drive}
use Rattle.tables.specs.declared.Geometry.{Geometry}
use Rattle.tables.specs.meaning.Geometry.{geometry_of}
use Rattle.logs.specs.meaning.Entry.{encode, counters, closing}
use Rattle.tables.specs.meaning.LittleEndian.{same_bytes}
use Rattle.volume.specs.declared.Condition.{Condition}
use Rattle.volume.specs.declared.Condition.TheVariants.{Empty, Open, Sealed, Worn}
use Rattle.volume.specs.declared.Owner.{Owner}
use Rattle.volume.specs.declared.Owner.TheVariants.{Nobody, Host0, Host1}
use Rattle.volume.specs.meaning.State.{StateView}
use Rattle.volume.specs.meaning.Hosts.{over_limit, over_open}
use Rattle.volume.specs.meaning.Refusals.{TableLengths, WriteAsked}
use Rattle.volume.specs.meaning.Calls.{format_state}
use Rattle.volume.specs.meaning.Answers.{Given, refused, given, format_call, look_call, mount_call, write_call, flush_call, reset_call, compact_call, read_call, peek_call}
use Rattle.promise.proofs.examples.Example.{geo, lengths, every, no_stop, does, number_of, given_number, blank, formatted, formatted_state, asked, written_state, written_device, filled, two_left, one_left}
use Rattle.promise.specs.meaning.Claim.{all_but}
use Rattle.promise.proofs.examples.Opened.{device_open}

-- zone 0 in another condition or generation
abbrev being : Condition → ℕ → StateView
being c n = record { lost = no_drive; generation = λ z. n; condition = λ z. pick (eqb z 0) c Empty; owner = λ z. Nobody; share = λ i. 12 }

-- a general log of n counters after the label
abbrev long_log : ℕ → Device
long_log n = put_zone formatted 2 0 (record { sectors = take 1 (formatted 2 0).sectors ++ replicate n (encode geo 2 (counters (1 ∷ 1 ∷ []))); durable = 0 })

abbrev zero_sector : List ℕ
zero_sector = replicate 64 0

-- with a sector written in the spare zone of drive d
abbrev spared : ℕ → Device → Device
spared d v = put_zone v d 2 (record { sectors = zero_sector ∷ []; durable = 0 })

-- writes, and compacts of drive d, by these drives and this state
abbrev writes : (ℕ → Bool) → StateView → WriteAsked → Device → ℕ
writes named state w v = number_of (does (write_call geo lengths named state w) state no_stop v)

abbrev compacts : (ℕ → Bool) → StateView → ℕ → Device → ℕ
compacts named state d v = number_of (does (compact_call geo lengths named state d) state no_stop v)

-- drive 3's parity log behind a closing entry of generation n
abbrev closed_log : ℕ → Device → Device
closed_log n v = put_zone v 3 1 (record { sectors = encode geo 3 (closing 1 n) ∷ (v 3 1).sectors; durable = 0 })

-- sixteen zones; n of them from zone 1 on are open and of this owner, the others empty; and a write of a sector to zone 0 by host h
abbrev wide : Geometry
wide = geometry_of 4 256 2 16 64

abbrev wide_lengths : TableLengths
wide_lengths = record { sectors = 1245184; written = 76; durable = 76 }

abbrev opened : ℕ → Owner → StateView
opened n o = record { lost = no_drive; generation = λ z. 1; condition = λ z. pick (ltb 0 z && leb z n) (Open 6) Empty; owner = λ z. o; share = λ i. 7 }

abbrev widely : StateView → ℕ → ℕ
widely state h = number_of (does (write_call wide wide_lengths every state (record { host = h; address = 0; count = 1; buffer = replicate 256 9 })) state no_stop (does (format_call wide wide_lengths every 7) state no_stop blank).memory)

abbrev holds : List (ℕ × ℕ) → Bool
holds [] = true
holds ((a, b) ∷ rows) = eqb a b && holds rows

-- what a call answers, and the number of the table (0: finished; 255: unfinished)
pub answered : List (ℕ × ℕ)
answered =
    (number_of (does (format_call geo lengths every 7) formatted_state no_stop blank), 0)
    ∷ (number_of (does (format_call geo lengths every 7) formatted_state 3 blank), 255)
    ∷ (number_of (does (format_call (geometry_of 2 64 2 2 32) lengths every 7) formatted_state no_stop blank), 1)
    ∷ (number_of (does (format_call geo lengths (λ d. ltb d 2) 7) formatted_state no_stop blank), 4)
    ∷ (given_number (look_call geo lengths every formatted), 0)
    ∷ (number_of (does (mount_call geo lengths every) formatted_state no_stop formatted), 0)
    ∷ (number_of (does (flush_call geo lengths every formatted_state) formatted_state no_stop formatted), 0)
    ∷ (number_of (does (flush_call geo lengths every formatted_state) formatted_state 4 formatted), 0)
    ∷ (number_of (does (flush_call geo lengths every formatted_state) formatted_state 3 formatted), 255)
    ∷ (number_of (does (flush_call geo lengths (all_but 2) formatted_state) formatted_state 3 formatted), 0)
    ∷ (number_of (does (reset_call geo lengths every formatted_state 1) formatted_state no_stop formatted), 0)
    -- 1
    ∷ (number_of (does (flush_call geo lengths every (format_state 4)) (format_state 4) no_stop formatted), 1)
    ∷ (number_of (does (flush_call geo lengths every (being (Open 97) 1)) (being (Open 97) 1) no_stop formatted), 1)
    ∷ (number_of (does (flush_call geo lengths every (being (Open 96) 1)) (being (Open 96) 1) no_stop formatted), 0)
    -- 2
    ∷ (given_number (look_call geo (record { sectors = 40959; written = 20; durable = 20 }) every formatted), 2)
    ∷ (writes every formatted_state (record { host = 0; address = 0; count = 1; buffer = replicate 63 0 }) formatted, 2)
    -- 3: also in the spare zone
    ∷ (given_number (look_call geo lengths every (filled 3 2 33 zero_sector)), 3)
    ∷ (given_number (look_call geo lengths every (put_zone formatted 1 4 (record { sectors = []; durable = 1 }))), 3)
    ∷ (given_number (look_call geo lengths (all_but 3) (filled 3 2 33 zero_sector)), 0)
    -- 4
    ∷ (given_number (look_call geo lengths (λ d. ltb d 2) formatted), 4)
    ∷ (number_of (does (flush_call geo lengths (all_but 1) (format_state 2)) (format_state 2) no_stop formatted), 4)
    ∷ (number_of (does (flush_call geo lengths (all_but 2) (format_state 2)) (format_state 2) no_stop formatted), 0)
    -- 5, 6
    ∷ (given_number (look_call geo lengths every blank), 5)
    ∷ (given_number (look_call geo lengths every (filled 2 1 1 zero_sector)), 6)
    -- 7, 8
    ∷ (writes every formatted_state (asked 0 0 1 9) (filled 2 3 1 zero_sector), 7)
    ∷ (given_number (read_call geo lengths every (being (Sealed 1) 1) 0 1 64 (filled 0 3 2 zero_sector)), 0)
    ∷ (given_number (read_call geo lengths every (being (Sealed 1) 1) 0 1 64 formatted), 7)
    ∷ (writes every formatted_state (asked 0 192 1 9) formatted, 8)
    ∷ (writes every formatted_state (asked 2 0 1 9) formatted, 8)
    ∷ (writes every formatted_state (asked 1 0 1 9) formatted, 0)
    ∷ (number_of (does (reset_call geo lengths every formatted_state 2) formatted_state no_stop formatted), 8)
    -- 9, 10, 11, 12
    ∷ (writes every formatted_state (asked 0 0 0 9) formatted, 9)
    ∷ (given_number (read_call geo lengths every formatted_state 95 2 128 formatted), 9)
    ∷ (writes every formatted_state (asked 0 1 1 9) formatted, 10)
    ∷ (writes every (being (Sealed 0) 1) (asked 0 0 1 9) formatted, 11)
    ∷ (writes every (being (Worn 0) 1) (asked 0 0 1 9) formatted, 12)
    ∷ (number_of (does (reset_call geo lengths every (being (Worn 0) 1) 0) (being (Worn 0) 1) no_stop formatted), 12)
    ∷ (number_of (does (reset_call geo lengths every (being Empty 18446744073709551615) 0) (being Empty 18446744073709551615) no_stop formatted), 12)
    -- 13
    ∷ (given_number (read_call geo lengths every formatted_state 0 1 64 formatted), 13)
    ∷ (given_number (peek_call geo lengths every formatted_state 0 formatted), 13)
    -- 14: of a write, by what is left of its host's share; the other host has its own, and a drive that is left out is not asked
    ∷ (writes every two_left.state (asked 0 0 1 9) two_left.memory, 0)
    ∷ (writes every one_left.state (asked 0 0 1 9) one_left.memory, 14)
    ∷ (writes every one_left.state (asked 1 0 1 9) one_left.memory, 0)
    ∷ (writes (all_but 3) one_left.state (asked 0 0 1 9) one_left.memory, 0)
    -- and by the log's room, whatever the shares
    ∷ (writes every formatted_state (asked 0 0 1 9) (filled 3 1 22 zero_sector), 0)
    ∷ (writes every formatted_state (asked 0 0 1 9) (filled 3 1 23 zero_sector), 14)
    -- of a reset: a log with just the room is not emptied; one with a sector less is, but for a spare that is written, which a mount resets
    ∷ (number_of (does (reset_call geo lengths every formatted_state 0) formatted_state no_stop (spared 2 (long_log 25))), 0)
    ∷ (number_of (does (reset_call geo lengths every formatted_state 0) formatted_state no_stop (long_log 26)), 0)
    ∷ (number_of (does (reset_call geo lengths every formatted_state 0) formatted_state no_stop (spared 2 (long_log 26))), 14)
    ∷ (number_of (does (mount_call geo lengths every) formatted_state no_stop (long_log 27)), 0)
    ∷ (number_of (does (mount_call geo lengths every) formatted_state no_stop (spared 2 (long_log 28))), 0)
    ∷ (given_number (look_call geo lengths every (long_log 28)), 0)
    -- of a compact: a spare that is written, or a log of the last generation; 8, a drive that is none, or is left out; 7, any stale zone
    ∷ (compacts every one_left.state 3 one_left.memory, 0)
    ∷ (compacts every one_left.state 3 (spared 3 one_left.memory), 14)
    ∷ (compacts every one_left.state 3 (spared 2 one_left.memory), 0)
    ∷ (compacts every one_left.state 3 (closed_log 18446744073709551614 one_left.memory), 0)
    ∷ (compacts every one_left.state 3 (closed_log 18446744073709551615 one_left.memory), 14)
    ∷ (compacts every formatted_state 4 formatted, 8)
    ∷ (compacts (all_but 3) formatted_state 3 formatted, 8)
    ∷ (compacts every formatted_state 3 (filled 2 3 1 zero_sector), 7)
    -- 18, 19: with fourteen zones of its own, with four, and with fourteen in all
    ∷ (widely (opened 13 Host0) 0, 0)
    ∷ (widely (opened 14 Host0) 0, 18)
    ∷ (widely (opened 3 Host1) 1, 0)
    ∷ (widely (opened 4 Host1) 1, 18)
    ∷ (widely (opened 13 Nobody) 1, 0)
    ∷ (widely (opened 14 Nobody) 1, 19)
    -- 15
    ∷ (writes (all_but 0) (being (Open 1) 1) (asked 0 1 1 9) formatted, 15)
    ∷ (compacts (all_but 0) (being (Open 1) 1) 3 formatted, 15)
    ∷ (compacts (all_but 0) (being (Open 1) 1) 2 formatted, 0)
    ∷ (given_number (read_call geo lengths (all_but 0) (being (Open 1) 1) 0 1 64 formatted), 15)
    ∷ (given_number (peek_call geo lengths (all_but 0) (being (Open 1) 1) 0 formatted), 15)
    -- five sectors
    ∷ (given_number (read_call geo lengths every (written_state 5) 0 5 320 (written_device 5)), 0)
    ∷ (given_number (read_call geo lengths (all_but 0) (written_state 5) 0 5 320 (written_device 5)), 0)
    ∷ (given_number (peek_call geo lengths every (written_state 5) 4 (written_device 5)), 0)
    ∷ (given_number (peek_call geo lengths (all_but 2) (written_state 5) 4 (written_device 5)), 15)
    ∷ []

pub answers_are : T (holds answered)
unfolding device_open answered
answers_are = tt

-- a write that reaches the zone's end, and one to a zone of its host, are never over a limit
pub within_limits : T (not (over_limit wide (opened 14 Host0) 0 0 192) && (not (over_open wide (opened 14 Host0) 0 192) && (not (over_limit wide (opened 14 Host0) 0 1 7) && not (over_open wide (opened 15 Nobody) 1 7))))
unfolding device_open
within_limits = tt

abbrev sectors_read : Given (List (List ℕ)) → List (List ℕ)
sectors_read (refused n) = []
sectors_read (given ss) = ss

-- what is read of five sectors with drive 1 lost: four sectors from address 1, the third of them all 9
pub read_with_a_drive_lost : T (eqb (length (sectors_read (read_call geo lengths (all_but 1) (written_state 5) 1 4 256 (written_device 5)))) 4
    && same_bytes (get_or (sectors_read (read_call geo lengths (all_but 1) (written_state 5) 1 4 256 (written_device 5))) 2 []) (replicate 64 9))
unfolding device_open
read_with_a_drive_lost = tt
