-- Isolation, worked: two runs that meet every hypothesis, in which the other desk does other things and is not heard; and for each hypothesis two runs that differ in it
-- alone, in which the desk hears something else. So none of them can be left out. All is computed from the definitions, from a finished format on.
use Rattle.std.specs.Prelude.{refl, ℕ, zero, suc, ◌*◌, List, [], ◌∷◌, ◌++◌, replicate}
use Rattle.tables.specs.declared.Geometry.{Geometry}
use Rattle.tables.specs.meaning.Geometry.{geometry_of}
use Rattle.promise.specs.meaning.Isolation.{AllAgree}
use Rattle.promise.proofs.examples.IsolationRuns.{runs_open, shelf, write, compact, flush, reset, read, peek, Line, by, up_to, goes}
use Rattle.promise.proofs.examples.IsolationTests.{Hypothesis, zones_shared, number_open, past_emptyings, general_logs, lost_drive}
use Rattle.promise.proofs.examples.IsolationPairs.{every, every_but, Pair, first_calls, second_calls, shared_zones, Compared, compared, runs_agree, IsolatedWithout, refuted}

-- n calls answered by the same number
abbrev pub answers : ℕ → ℕ → List (List ℕ)
answers n k = replicate n (k ∷ [])

-- ==== the other desk is not heard
-- desk 0 writes, reads, peeks at and resets zone 0, while the other writes zone 1 and compacts drive 1. It hears 0, 0, 14, seven sectors, the place of one, 0, 0
abbrev ending : List Line
ending = by 0 (write 7 6 1) ∷ by 0 (read 0 7) ∷ by 0 (peek 6) ∷ by 0 (reset 0) ∷ by 0 (write 0 2 1) ∷ []

abbrev heard_in_both : List (List ℕ)
heard_in_both = answers 2 0 ++ ((14 ∷ []) ∷ (0 ∷ replicate (7 * 64) 1) ∷ (0 ∷ 2880 ∷ replicate 64 1) ∷ answers 2 0)

abbrev pub unheard : Pair
unheard = record {
  shape = geometry_of 3 64 1 2 14;
  desk = 0;
  first = by 1 (write 28 5 1) ∷ by 0 (write 0 1 1) ∷ by 1 (compact 1) ∷ by 1 (write 33 1 1) ∷ by 0 (write 1 6 1) ∷ ending;
  second = by 1 (write 28 7 1) ∷ by 0 (write 0 1 1) ∷ by 1 flush ∷ by 1 (compact 1) ∷ by 0 (write 1 6 1) ∷ by 1 (write 35 20 9) ∷ ending;
  met = every;
  first_heard = heard_in_both;
  second_heard = heard_in_both;
}

pub other_desk_unheard : Compared unheard
unfolding runs_open
other_desk_unheard = compared unheard refl tt

-- they meet what isolation asks for
pub they_agree : AllAgree unheard.shape (shelf unheard.shape) (shared_zones unheard) (first_calls unheard) (second_calls unheard)
they_agree = runs_agree unheard other_desk_unheard (λ y. refl)

-- ==== "the zones it shares"
abbrev small : Geometry
small = geometry_of 3 64 1 2 8

-- their pointers: the other desk wrote zone 0, or it wrote zone 1
abbrev pub other_pointer : Pair
other_pointer = record {
  shape = small;
  desk = 0;
  first = by 1 (write 0 2 1) ∷ by 0 (write 0 2 1) ∷ [];
  second = by 1 (write 16 2 1) ∷ by 0 (write 0 2 1) ∷ [];
  met = every_but zones_shared;
  first_heard = answers 1 10;
  second_heard = answers 1 0;
}

pub pointer_heard : Compared other_pointer
unfolding runs_open
pointer_heard = compared other_pointer refl tt

-- their sectors: of bytes 5, or of bytes 6
abbrev pub other_sectors : Pair
other_sectors = record {
  shape = small;
  desk = 0;
  first = by 1 (write 0 2 5) ∷ by 0 (read 0 2) ∷ [];
  second = by 1 (write 0 2 6) ∷ by 0 (read 0 2) ∷ [];
  met = every_but zones_shared;
  first_heard = (0 ∷ replicate 128 5) ∷ [];
  second_heard = (0 ∷ replicate 128 6) ∷ [];
}

pub sectors_heard : Compared other_sectors
unfolding runs_open
sectors_heard = compared other_sectors refl tt

-- ==== "the number open": 14, or 13
abbrev wide : Geometry
wide = geometry_of 3 256 1 15 33

-- a stripe to each of n zones from zone z on
abbrev opening : ℕ → ℕ → ℕ → List Line  -- host; zone
opening h z zero = []
opening h z (suc n) = by h (write (z * 66) 2 1) ∷ opening h (suc z) n

-- the other desk's
abbrev pub other_open : Pair
other_open = record {
  shape = wide;
  desk = 1;
  first = opening 0 1 14 ++ opening 1 0 1;
  second = opening 0 1 13 ++ opening 1 0 1;
  met = every_but number_open;
  first_heard = answers 1 19;
  second_heard = answers 1 0;
}

pub open_heard : Compared other_open
unfolding runs_open
open_heard = compared other_open refl tt

-- its own but for one
abbrev pub own_open : Pair
own_open = record {
  shape = wide;
  desk = 0;
  first = opening 0 0 13 ++ (opening 1 13 1 ++ opening 0 14 1);
  second = opening 0 0 13 ++ opening 0 14 1;
  met = every_but number_open;
  first_heard = answers 13 0 ++ answers 1 19;
  second_heard = answers 14 0;
}

pub open_heard_by_0 : Compared own_open
unfolding runs_open
open_heard_by_0 = compared own_open refl tt

-- ==== "past emptyings": of drive 2, or of drive 1
abbrev pub other_emptying : Pair
other_emptying = record {
  shape = geometry_of 3 64 1 2 12;
  desk = 0;
  first = by 0 (write 0 1 1) ∷ by 1 (compact 2) ∷ by 0 (write 1 6 1) ∷ [];
  second = by 0 (write 0 1 1) ∷ by 1 (compact 1) ∷ by 0 (write 1 6 1) ∷ [];
  met = every_but past_emptyings;
  first_heard = answers 2 0;
  second_heard = answers 1 0 ++ answers 1 14;
}

pub emptying_heard : Compared other_emptying
unfolding runs_open
emptying_heard = compared other_emptying refl tt

-- "and what the parity logs had unused then": the new log begins with an entry of zone 1, or has none
abbrev pub other_unused : Pair
other_unused = record {
  shape = geometry_of 3 64 1 2 10;
  desk = 0;
  first = by 1 (write 20 5 1) ∷ by 1 (compact 2) ∷ by 0 (write 0 1 1) ∷ [];
  second = by 1 (write 20 6 1) ∷ by 1 (compact 2) ∷ by 0 (write 0 1 1) ∷ [];
  met = every_but past_emptyings;
  first_heard = answers 1 14;
  second_heard = answers 1 0;
}

pub unused_heard : Compared other_unused
unfolding runs_open
unused_heard = compared other_unused refl tt

-- ==== "the general logs": after the other desk's reset, or without
abbrev pub other_logs : Pair
other_logs = record {
  shape = small;
  desk = 0;
  first = by 1 (reset 1) ∷ by 0 (reset 0) ∷ [];
  second = by 0 (reset 0) ∷ [];
  met = every_but general_logs;
  first_heard = answers 1 14;
  second_heard = answers 1 0;
}

pub logs_heard : Compared other_logs
unfolding runs_open
logs_heard = compared other_logs refl tt

-- by the stores of its own reset: it empties logs first, or not yet
abbrev pub other_logs_by_count : Pair
other_logs_by_count = record {
  shape = geometry_of 3 64 1 2 13;
  desk = 0;
  first = by 1 (reset 1) ∷ by 1 (reset 1) ∷ by 1 (reset 1) ∷ up_to 17 0 (reset 0) ∷ [];
  second = by 1 (reset 1) ∷ by 1 (reset 1) ∷ up_to 17 0 (reset 0) ∷ [];
  met = every_but general_logs;
  first_heard = answers 1 255;
  second_heard = answers 1 0;
}

pub logs_heard_by_count : Compared other_logs_by_count
unfolding runs_open
logs_heard_by_count = compared other_logs_by_count refl tt

-- ==== "and the lost drive": drive 0 goes, or stays
abbrev pub other_drive : Pair
other_drive = record {
  shape = small;
  desk = 0;
  first = by 0 (write 0 2 1) ∷ goes 0 ∷ by 0 (peek 0) ∷ [];
  second = by 0 (write 0 2 1) ∷ by 0 (peek 0) ∷ [];
  met = every_but lost_drive;
  first_heard = (0 ∷ []) ∷ (15 ∷ 0 ∷ []) ∷ [];
  second_heard = (0 ∷ []) ∷ (0 ∷ 1536 ∷ replicate 64 1) ∷ [];
}

pub loss_heard : Compared other_drive
unfolding runs_open
loss_heard = compared other_drive refl tt

-- by the stores of its write
abbrev pub other_drive_by_count : Pair
other_drive_by_count = record {
  shape = small;
  desk = 0;
  first = goes 0 ∷ up_to 2 0 (write 0 2 1) ∷ [];
  second = up_to 2 0 (write 0 2 1) ∷ [];
  met = every_but lost_drive;
  first_heard = answers 1 0;
  second_heard = answers 1 255;
}

pub loss_heard_by_count : Compared other_drive_by_count
unfolding runs_open
loss_heard_by_count = compared other_drive_by_count refl tt

-- ==== NONE CAN BE LEFT OUT
pub none_to_spare : (x : Hypothesis) → IsolatedWithout x → ⊥
unfolding runs_open
none_to_spare zones_shared = refuted zones_shared other_pointer refl pointer_heard tt
none_to_spare number_open = refuted number_open other_open refl open_heard tt
none_to_spare past_emptyings = refuted past_emptyings other_emptying refl emptying_heard tt
none_to_spare general_logs = refuted general_logs other_logs refl logs_heard tt
none_to_spare lost_drive = refuted lost_drive other_drive refl loss_heard tt
