-- A test passed by some member, a list of lists joined, one list laid over a part of another.
use Rattle.std.specs.Prelude.{Bool, true, false, ◌||◌, ℕ, ◌+◌, List, [], ◌∷◌, ◌++◌, length, take, drop}

-- ---- some member passes a test
abbrev pub any_of : {A : Type 0} → (A → Bool) → List A → Bool
any_of p [] = false
any_of p (x ∷ xs) = p x || any_of p xs

abbrev pub is_nil : {A : Type 0} → List A → Bool
is_nil [] = true
is_nil (x ∷ xs) = false

-- ---- a list of lists, joined
abbrev pub concat : {A : Type 0} → List (List A) → List A
concat [] = []
concat (p ∷ ps) = p ++ concat ps

-- ---- xs with src laid over it from `at`
abbrev pub overlay : List ℕ → ℕ → List ℕ → List ℕ
overlay xs at src = take at xs ++ src ++ drop (at + length src) xs
