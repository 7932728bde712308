-- What the refusals' numbers say of the Results of the code: none is 0.
use Rattle.std.specs.Prelude.{◌≡◌, ◌≢◌, ℕ, Result, Ok, Err, IsErrAnd}
use Rattle.std.proofs.Common.{ap, arith}
use Rattle.grouped.specs.declared.Refusal.{Refusal}
use Rattle.grouped.specs.declared.Refusal.TheVariants.{Segment, Length, TwoMissing, Unwritten, StripeLacks, Alike}
use Rattle.grouped.specs.meaning.RefusalNumbers.{refusal_number, number_of}

pub refusal_not_none : (r : Refusal) → refusal_number r ≢ 0
refusal_not_none Segment e = absurd (omega arith)
refusal_not_none Length e = absurd (omega arith)
refusal_not_none TwoMissing e = absurd (omega arith)
refusal_not_none Unwritten e = absurd (omega arith)
refusal_not_none StripeLacks e = absurd (omega arith)
refusal_not_none Alike e = absurd (omega arith)

-- an error that is handed on
pub number_err : {A : Type 0} (r : Result A Refusal) (x : Refusal) → IsErrAnd r (λ y. y ≡ x) → number_of r ≡ refusal_number x
number_err (Ok u) x e = absurd e
number_err (Err y) x e = ap refusal_number e
