-- What a function that stores states (`Made`): of a list of stores as many were made as the budget allowed, and that much of it is left. And what
-- stores need: their place, and their room.
use Rattle.std.specs.Prelude.{◌≡◌, Bool, true, false, ℕ, ◌-◌, ◌<◌, List, [], ◌∷◌, length}
use Rattle.tables.specs.declared.Geometry.{Geometry}
use Rattle.tables.specs.meaning.Geometry.{physical_zones, cells, total_bytes}
use Rattle.tables.specs.meaning.Device.{Device, Store, append, reset, flush, apply}
use Rattle.tables.specs.meaning.Tables.{Tables, tables_of, run_stores}

-- one store, if its drive is present
abbrev pub store_if : Bool → Store → List Store
store_if true s = s ∷ []
store_if false s = []

-- ---- what a storing function states. It is handed a budget, one more than the stores that may still be made, and hands on what is left of
-- it: so a call has made all its stores exactly if its budget, begun at its count of stores plus one, does not end at 0.
pub record Made (g : Geometry) (budget rest : ℕ) (ss : List Store) (t u : Tables) : Type 0 where
  pub rest_is : rest ≡ budget - length ss
  pub tables_are : u ≡ run_stores g (budget - 1) ss t

-- the same of one that is handed only the tables it changes: so it is whatever the third one holds
pub record MadeAppends (g : Geometry) (budget rest : ℕ) (ss : List Store) (xs ws xs' ws' : List ℕ) : Type 0 where
  pub made : (ds : List ℕ) → Made g budget rest ss (tables_of xs ws ds) (tables_of xs' ws' ds)

pub record MadePointers (g : Geometry) (budget rest : ℕ) (ss : List Store) (ws ds ws' ds' : List ℕ) : Type 0 where
  pub made : (xs : List ℕ) → Made g budget rest ss (tables_of xs ws ds) (tables_of xs ws' ds')

-- ---- what code relies on
-- the tables have the lengths that the geometry gives
pub record WellSized (g : Geometry) (t : Tables) : Type 0 where
  pub sectors_long : length t.sectors ≡ total_bytes g
  pub written_long : length t.written ≡ cells g
  pub durable_long : length t.durable ≡ cells g

-- a store has its place: a drive and zone of the geometry, a sector of its size
abbrev pub Placed : Geometry → Store → Type 0
Placed g (append d z s) = (d < g.drives) × (z < physical_zones g) × (length s ≡ g.sector)
Placed g (reset d z) = (d < g.drives) × (z < physical_zones g)
Placed g (flush d) = d < g.drives

abbrev pub AllPlaced : Geometry → List Store → Type 0
AllPlaced g [] = Unit {0}
AllPlaced g (s ∷ ss) = Placed g s × AllPlaced g ss

-- a store has its place and its room
abbrev pub Fits : Geometry → Store → Device → Type 0
Fits g (append d z s) v = (d < g.drives) × (z < physical_zones g) × (length s ≡ g.sector) × (length (v d z).sectors < g.capacity)
Fits g (reset d z) v = (d < g.drives) × (z < physical_zones g)
Fits g (flush d) v = d < g.drives

abbrev pub FitsAll : Geometry → List Store → Device → Type 0
FitsAll g [] v = Unit {0}
FitsAll g (s ∷ ss) v = Fits g s v × FitsAll g ss (apply s v)
