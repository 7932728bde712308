-- The walk of a log: its whole entries, how it ends, and where.
use Rattle.std.specs.Prelude.{Bool, ℕ, zero, suc, ◌+◌, List, [], ◌∷◌, ◌++◌, leb}
use Rattle.tables.specs.meaning.Basics.{pick}
use Rattle.tables.specs.declared.Geometry.{Geometry}
use Rattle.logs.specs.declared.Fault.{Fault}
use Rattle.logs.specs.declared.Fault.TheVariants.{RowsPast}
use Rattle.logs.specs.meaning.Entry.{Header, Entry, Decoded, legal, bad, rows_of, encode, decode}

pub data Ending : Type 0 where
  at_pointer : Ending  -- at the written pointer
  no_entry : Fault → Ending  -- at a sector that is no entry, and why: not legal, or with rows past the zone's end
  torn : Header → List (List ℕ) → Ending  -- at an entry whose rows reach past the written pointer

-- position: the sector where the log's legal part ends
pub record Walked : Type 0 where
  pub entries : List Entry
  pub last : Ending
  pub position : ℕ

abbrev pub with_entry : Entry → Walked → Walked
with_entry e l = record { entries = e ∷ l.entries; last = l.last; position = l.position }

-- between entries; or inside one that begins at x, with k + 1 rows to come, those so far
pub data WalkState : Type 0 where
  between : WalkState
  in_entry : ℕ → Header → ℕ → List (List ℕ) → WalkState

-- the entry that begins at sector x, if its rows have room in the zone
abbrev pub in_zone : Geometry → ℕ → Decoded → Decoded
in_zone g x (legal h) = pick (leb (x + suc (rows_of g h)) g.capacity) (legal h) (bad RowsPast)
in_zone g x (bad f) = bad f

abbrev pub decode_at : Geometry → ℕ → Bool → ℕ → List ℕ → Decoded
decode_at g d par x s = in_zone g x (decode g d par s)

module _ (g : Geometry) (d : ℕ) (par : Bool) where
  abbrev pub walk : ℕ → WalkState → List (List ℕ) → Walked
  walk x between [] = record { entries = []; last = at_pointer; position = x }
  walk x (in_entry y h k acc) [] = record { entries = []; last = torn h acc; position = y }
  walk x between (s ∷ ss) = elim (decode_at g d par x s) [
    | legal h ↦ elim (rows_of g h) [ zero ↦ with_entry (record { head = h; rows = [] }) (walk (suc x) between ss) | suc k ↦ walk (suc x) (in_entry x h k []) ss ]
    | bad f ↦ record { entries = []; last = no_entry f; position = x }
  ]
  walk x (in_entry y h zero acc) (s ∷ ss) = with_entry (record { head = h; rows = acc ++ (s ∷ []) }) (walk (suc x) between ss)
  walk x (in_entry y h (suc k) acc) (s ∷ ss) = walk (suc x) (in_entry y h k (acc ++ (s ∷ []))) ss

  abbrev pub walk_log : List (List ℕ) → Walked
  walk_log ss = walk zero between ss

  -- ---- the sectors of entries
  abbrev pub sectors_of : Entry → List (List ℕ)
  sectors_of e = encode g d e.head ∷ e.rows
