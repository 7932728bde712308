-- What the refusals' numbers say of the Results of the code: none is 0.
use Rattle.std.specs.Prelude.{◌≡◌, ◌≢◌, true, false, Ok, Err, Result, IsErrAnd, is_err}
use Rattle.std.proofs.Common.{arith, ap, sym, refl, true≢false}
use Rattle.volume.specs.declared.Refusal.{Refusal}
use Rattle.volume.specs.declared.Refusal.TheVariants.{Geometry, Length, Pointer, TwoLost, Label, Log, Stale, Address, Run, Order, Sealed, Worn, Unwritten, LogFull, Gone, HostLimit, OpenLimit}
use Rattle.volume.specs.meaning.RefusalNumbers.{refusal_number, number_of}

pub refusal_not_none : (r : Refusal) → refusal_number r ≢ 0
refusal_not_none Geometry e = absurd (omega arith)
refusal_not_none Length e = absurd (omega arith)
refusal_not_none Pointer e = absurd (omega arith)
refusal_not_none TwoLost e = absurd (omega arith)
refusal_not_none Label e = absurd (omega arith)
refusal_not_none Log e = absurd (omega arith)
refusal_not_none Stale e = absurd (omega arith)
refusal_not_none Address e = absurd (omega arith)
refusal_not_none Run e = absurd (omega arith)
refusal_not_none Order e = absurd (omega arith)
refusal_not_none Sealed e = absurd (omega arith)
refusal_not_none Worn e = absurd (omega arith)
refusal_not_none Unwritten e = absurd (omega arith)
refusal_not_none LogFull e = absurd (omega arith)
refusal_not_none Gone e = absurd (omega arith)
refusal_not_none HostLimit e = absurd (omega arith)
refusal_not_none OpenLimit e = absurd (omega arith)

-- an error that is handed on, none that was found
pub number_err : {A : Type 0} (r : Result A Refusal) (x : Refusal) → IsErrAnd r (λ y. y ≡ x) → number_of r ≡ refusal_number x
number_err (Ok u) x e = absurd e
number_err (Err y) x e = ap refusal_number e

pub number_ok : {A : Type 0} (r : Result A Refusal) → is_err r ≡ false → number_of r ≡ 0
number_ok (Ok u) e = refl
number_ok (Err y) e = absurd (true≢false e)

pub number_some : {A : Type 0} (r : Result A Refusal) → is_err r ≡ true → number_of r ≢ 0
number_some (Ok u) e k = absurd (true≢false (sym e))
number_some (Err y) e k = refusal_not_none y k
