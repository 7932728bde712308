-- The documents' numbers of a read's refusals (the code's own enum).
use Rattle.std.specs.Prelude.{ℕ, Result, Ok, Err}
use Rattle.grouped.specs.declared.Refusal.{Refusal}
use Rattle.grouped.specs.declared.Refusal.TheVariants.{Segment, Length, TwoMissing, Unwritten, StripeLacks, Alike}

abbrev pub refusal_number : Refusal → ℕ
refusal_number Segment = 1
refusal_number Length = 2
refusal_number TwoMissing = 4
refusal_number Unwritten = 13
refusal_number StripeLacks = 23
refusal_number Alike = 24

-- the number of what a check of refusals came to: 0 if none applies
abbrev pub number_of : {A : Type 0} → Result A Refusal → ℕ
number_of (Ok x) = 0
number_of (Err r) = refusal_number r
