-- The documents' numbers of the refusals (the code's own enum).
use Rattle.std.specs.Prelude.{ℕ, Result, Ok, Err}
use Rattle.volume.specs.declared.Refusal.{Refusal}
use Rattle.volume.specs.declared.Refusal.TheVariants.{Geometry, Length, Pointer, TwoLost, Label, Log, Stale, Address, Run, Order, Sealed, Worn, Unwritten, LogFull, Gone, HostLimit, OpenLimit}

abbrev pub refusal_number : Refusal → ℕ
refusal_number Geometry = 1
refusal_number Length = 2
refusal_number Pointer = 3
refusal_number TwoLost = 4
refusal_number Label = 5
refusal_number Log = 6
refusal_number Stale = 7
refusal_number Address = 8
refusal_number Run = 9
refusal_number Order = 10
refusal_number Sealed = 11
refusal_number Worn = 12
refusal_number Unwritten = 13
refusal_number LogFull = 14
refusal_number Gone = 15
refusal_number HostLimit = 18
refusal_number OpenLimit = 19

-- the number of what a check of refusals came to: 0 if none applies
abbrev pub number_of : {A : Type 0} → Result A Refusal → ℕ
number_of (Ok x) = 0
number_of (Err r) = refusal_number r
