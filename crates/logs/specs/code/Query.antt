-- The headers of a walked log, and what is seen of the first one and of a torn one.
use Rattle.std.specs.Prelude.{Bool, true, false, ℕ, List, [], ◌∷◌, map}
use Rattle.tables.specs.declared.Geometry.{Geometry}
use Rattle.logs.specs.declared.Found.{Found}
use Rattle.logs.specs.declared.Found.TheVariants.{Bad, Label, Counters, Resets, Partial, Seal, Closing}
use Rattle.logs.specs.meaning.Entry.{Header, Entry}
use Rattle.logs.specs.meaning.Walk.{walk_log, Walked, Ending, at_pointer, no_entry, torn}
use Rattle.logs.specs.code.WalkCode.{log_sectors}
use Rattle.logs.specs.code.Judge.{seen}

abbrev pub head_of : Entry → Header
head_of e = e.head

-- the headers of the whole entries
abbrev pub heads_of : Walked → List Header
heads_of l = map head_of l.entries

-- those of the log in the first n sectors of a zone
abbrev pub log_heads : Geometry → ℕ → Bool → ℕ → ℕ → List ℕ → List Header
log_heads g d par z n xs = heads_of (walk_log g d par (log_sectors g d z xs n))

-- ---- the first whole entry, and the torn one
abbrev pub first_seen : List Header → Found
first_seen [] = Bad
first_seen (h ∷ hs) = seen h

abbrev pub label_seen : Found → Bool
label_seen Bad = false
label_seen (Label x a) = true
label_seen Counters = false
label_seen (Resets z n) = false
label_seen (Partial z s f n) = false
label_seen (Seal z p n) = false
label_seen (Closing gen) = false

abbrev pub array_seen : Found → ℕ
array_seen Bad = 0
array_seen (Label x a) = a
array_seen Counters = 0
array_seen (Resets z n) = 0
array_seen (Partial z s f n) = 0
array_seen (Seal z p n) = 0
array_seen (Closing gen) = 0

-- the generation of a closing entry; 0 of anything else
abbrev pub closing_seen : Found → ℕ
closing_seen Bad = 0
closing_seen (Label x a) = 0
closing_seen Counters = 0
closing_seen (Resets z n) = 0
closing_seen (Partial z s f n) = 0
closing_seen (Seal z p n) = 0
closing_seen (Closing gen) = gen

abbrev pub torn_seen : Ending → Found
torn_seen at_pointer = Bad
torn_seen (no_entry f) = Bad
torn_seen (torn h rs) = seen h
