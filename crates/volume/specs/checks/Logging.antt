-- Headers written into a buffer and appended: what its first sector holds, and the store that is made with it.
use Rattle.std.specs.Prelude.{◌≡◌, Bool, ℕ, ◌≤◌, List, ◌++◌, length, take}
use Rattle.std.proofs.Common.{sym, ◌∙◌, arith, length-append, take_at}
use Rattle.tables.specs.declared.Geometry.{Geometry}
use Rattle.tables.specs.meaning.Device.{append}
use Rattle.tables.specs.laws.Made.{MadeAppends, store_if}

-- a buffer whose first n bytes were written
pub front_fits : (n : ℕ) (front rest : List ℕ) → length front ≡ n → n ≤ length (front ++ rest)
front_fits n front rest h = rw length-append (omega arith)

pub front_is : (n : ℕ) (front rest s : List ℕ) → length front ≡ n → front ≡ s → take n (front ++ rest) ≡ s
front_is n front rest s h e = take_at front rest n h ∙ e

pub front_long : (n : ℕ) (front rest : List ℕ) → length front ≡ n → n ≡ length (take n (front ++ rest))
front_long n front rest h = rw (take_at front rest n h) (sym h)

-- an append of equal bytes
pub appended_as : (g : Geometry) (budget left : ℕ) (here : Bool) (d z : ℕ) (s s' xs ws xs' ws' : List ℕ) → s ≡ s' → MadeAppends g budget left (store_if here (append d z s)) xs ws xs' ws'
    → MadeAppends g budget left (store_if here (append d z s')) xs ws xs' ws'
appended_as g budget left here d z s s' xs ws xs' ws' e m = rw (← e) m
