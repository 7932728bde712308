-- The bounds of a geometry as the test that code makes (refusal 1).
use Rattle.std.specs.Prelude.{Bool, true, ◌&&◌, ◌||◌, ℕ, ◌+◌, ◌*◌, ◌%◌, List, [], ◌∷◌, leb, eqb}
use Rattle.tables.specs.declared.Geometry.{Geometry}
use Rattle.tables.specs.meaning.Geometry.{max_drives, max_zones}

-- all of them hold
abbrev pub all : List Bool → Bool
all [] = true
all (b ∷ []) = b
all (b ∷ c ∷ bs) = b && all (c ∷ bs)

-- a power of two from 64 to 4096
abbrev pub sector_size : ℕ → Bool
sector_size b = eqb b 64 || eqb b 128 || eqb b 256 || eqb b 512 || eqb b 1024 || eqb b 2048 || eqb b 4096

-- each field lies in its range
abbrev pub bound_tests : Geometry → List Bool
bound_tests g =
    leb 3 g.drives ∷ leb g.drives max_drives
    ∷ sector_size g.sector
    ∷ leb 1 g.unit ∷ leb g.unit 16
    ∷ leb 1 g.zones ∷ leb g.zones max_zones
    ∷ leb g.capacity 65536
    ∷ eqb g.logs 0 ∷ []  -- where the logs lie is found on the drives, not handed in

-- the fields fit each other
abbrev pub fits : Geometry → List Bool
fits g =
    leb (32 + 8 * g.zones) g.sector
    ∷ eqb (g.capacity % g.unit) 0
    ∷ leb (g.zones * (1 + g.unit) + 2 * g.unit + 1) g.capacity
    ∷ leb (g.zones + 6) g.capacity ∷ []

unfoldable pub is_valid : Geometry → Bool
is_valid g = all (bound_tests g) && all (fits g)
