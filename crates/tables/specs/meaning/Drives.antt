-- The number that names no drive, the one drive that is missing, and the drives but that one.
use Rattle.std.specs.Prelude.{Bool, ◌&&◌, not, ℕ, zero, suc, ltb, eqb}
use Rattle.tables.specs.declared.Geometry.{Geometry}
use Rattle.tables.specs.meaning.Basics.{pick}

-- the number that names no drive: nothing is lost
abbrev pub no_drive : ℕ
no_drive = 255

-- the last drive below n that passes a test; no_drive if none does
abbrev pub find_below : (ℕ → Bool) → ℕ → ℕ
find_below p zero = no_drive
find_below p (suc n) = pick (p n) n (find_below p n)

-- the drives of a volume that has lost drive x (or no_drive)
abbrev pub present_but : Geometry → ℕ → ℕ → Bool
present_but g x d = ltb d g.drives && not (eqb d x)
