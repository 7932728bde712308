-- A call made of phases: the stores to a lost drive skipped; a flush of all drives.
use Rattle.std.specs.Prelude.{Bool, ℕ, zero, suc, List, [], ◌∷◌, ◌++◌}
use Rattle.tables.specs.meaning.Basics.{pick}
use Rattle.tables.specs.meaning.Device.{Store, flush, store_drive}

-- ---- definitions
-- "Stores to a lost drive are skipped": the stores whose drive is present
abbrev pub on_present : (ℕ → Bool) → List Store → List Store
on_present a [] = []
on_present a (x ∷ xs) = pick (a (store_drive x)) (x ∷ on_present a xs) (on_present a xs)

-- the same, phase by phase
abbrev pub each_on_present : (ℕ → Bool) → List (List Store) → List (List Store)
each_on_present al [] = []
each_on_present al (p ∷ ps) = on_present al p ∷ each_on_present al ps

-- flush of all drives below n, ascending
abbrev pub flush_all : ℕ → List Store
flush_all zero = []
flush_all (suc n) = flush_all n ++ (flush n ∷ [])
