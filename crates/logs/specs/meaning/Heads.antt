-- What the headers of a log say: its first label, its last label, its last counters, resets and seals, its first closing entry. And the
-- tests on headers.
use Rattle.std.specs.Prelude.{Bool, true, false, ◌&&◌, ℕ, zero, ◌+◌, ◌*◌, min, List, [], ◌∷◌, get_or, ltb, eqb}
use Rattle.tables.specs.meaning.Basics.{pick}
use Rattle.tables.specs.declared.Geometry.{Geometry}
use Rattle.tables.specs.meaning.Geometry.{stripe_sectors}
use Rattle.logs.specs.meaning.Entry.{Header, label, counters, zone_reset, partial_parity, seal, closing}

-- ---- labels
abbrev pub labelled : List Header → Bool
labelled [] = false
labelled (label x a ∷ hs) = true
labelled (counters cs ∷ hs) = false
labelled (zone_reset z n ∷ hs) = false
labelled (partial_parity z s f n ∷ hs) = false
labelled (seal z p n ∷ hs) = false
labelled (closing kind gen ∷ hs) = false

-- the array number with which it begins
abbrev pub array_in : List Header → ℕ
array_in [] = zero
array_in (label x a ∷ hs) = a
array_in (counters cs ∷ hs) = zero
array_in (zone_reset z n ∷ hs) = zero
array_in (partial_parity z s f n ∷ hs) = zero
array_in (seal z p n ∷ hs) = zero
array_in (closing kind gen ∷ hs) = zero

-- the lost drive of the last label; x0 if there is no label
abbrev pub last_lost : ℕ → List Header → ℕ
last_lost x0 [] = x0
last_lost x0 (label x a ∷ hs) = last_lost x hs
last_lost x0 (counters cs ∷ hs) = last_lost x0 hs
last_lost x0 (zone_reset z n ∷ hs) = last_lost x0 hs
last_lost x0 (partial_parity z s f n ∷ hs) = last_lost x0 hs
last_lost x0 (seal z p n ∷ hs) = last_lost x0 hs
last_lost x0 (closing kind gen ∷ hs) = last_lost x0 hs

-- ---- the last counters; c0 if there are none
abbrev pub last_counters : List ℕ → List Header → List ℕ
last_counters c0 [] = c0
last_counters c0 (label x a ∷ hs) = last_counters c0 hs
last_counters c0 (counters cs ∷ hs) = last_counters cs hs
last_counters c0 (zone_reset z n ∷ hs) = last_counters c0 hs
last_counters c0 (partial_parity z s f n ∷ hs) = last_counters c0 hs
last_counters c0 (seal z p n ∷ hs) = last_counters c0 hs
last_counters c0 (closing kind gen ∷ hs) = last_counters c0 hs

-- the generation that they give zone z; 0 if there are none
abbrev pub generation_in : ℕ → List Header → ℕ
generation_in z hs = get_or (last_counters [] hs) z zero

-- ---- tests
abbrev pub is_reset : ℕ → ℕ → Header → Bool
is_reset z n (label x a) = false
is_reset z n (counters cs) = false
is_reset z n (zone_reset y m) = eqb y z && eqb m n
is_reset z n (partial_parity y s f m) = false
is_reset z n (seal y p m) = false
is_reset z n (closing kind gen) = false

abbrev pub is_seal : ℕ → ℕ → Header → Bool
is_seal z n (label x a) = false
is_seal z n (counters cs) = false
is_seal z n (zone_reset y m) = false
is_seal z n (partial_parity y s f m) = false
is_seal z n (seal y p m) = eqb y z && eqb m n
is_seal z n (closing kind gen) = false

-- a seal with just that pointer
abbrev pub is_seal_at : ℕ → ℕ → ℕ → Header → Bool
is_seal_at z n q (label x a) = false
is_seal_at z n q (counters cs) = false
is_seal_at z n q (zone_reset y m) = false
is_seal_at z n q (partial_parity y s f m) = false
is_seal_at z n q (seal y p m) = eqb y z && (eqb m n && eqb p q)
is_seal_at z n q (closing kind gen) = false

-- a partial parity entry of zone z and generation n that ends past pointer q
abbrev pub ends_past : Geometry → ℕ → ℕ → ℕ → Header → Bool
ends_past g z n q (label x a) = false
ends_past g z n q (counters cs) = false
ends_past g z n q (zone_reset y m) = false
ends_past g z n q (partial_parity y s f m) = eqb y z && (eqb m n && ltb q (s * stripe_sectors g + f))
ends_past g z n q (seal y p m) = false
ends_past g z n q (closing kind gen) = false

-- one that ends just there
abbrev pub ends_at : Geometry → ℕ → ℕ → ℕ → Header → Bool
ends_at g z n q (label x a) = false
ends_at g z n q (counters cs) = false
ends_at g z n q (zone_reset y m) = false
ends_at g z n q (partial_parity y s f m) = eqb y z && (eqb m n && eqb (s * stripe_sectors g + f) q)
ends_at g z n q (seal y p m) = false
ends_at g z n q (closing kind gen) = false

-- ---- the least pointer of the seals of zone z and generation n, and of q0
abbrev pub least_seal : ℕ → ℕ → ℕ → List Header → ℕ
least_seal z n q0 [] = q0
least_seal z n q0 (label x a ∷ hs) = least_seal z n q0 hs
least_seal z n q0 (counters cs ∷ hs) = least_seal z n q0 hs
least_seal z n q0 (zone_reset y m ∷ hs) = least_seal z n q0 hs
least_seal z n q0 (partial_parity y s f m ∷ hs) = least_seal z n q0 hs
least_seal z n q0 (seal y p m ∷ hs) = least_seal z n (pick (eqb y z && eqb m n) (min q0 p) q0) hs
least_seal z n q0 (closing kind gen ∷ hs) = least_seal z n q0 hs

-- ---- the generation of the first closing entry; 0 if there is none (a legal one has no generation 0)
abbrev pub first_closing : List Header → ℕ
first_closing [] = zero
first_closing (label x a ∷ hs) = first_closing hs
first_closing (counters cs ∷ hs) = first_closing hs
first_closing (zone_reset z n ∷ hs) = first_closing hs
first_closing (partial_parity z s f n ∷ hs) = first_closing hs
first_closing (seal z p n ∷ hs) = first_closing hs
first_closing (closing kind gen ∷ hs) = gen
