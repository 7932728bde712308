-- More tests on headers: where a partial parity entry ends, of which zone and generation an entry is.
use Rattle.std.specs.Prelude.{Bool, true, false, ◌&&◌, ℕ, ◌+◌, ◌*◌, ltb, leb, eqb}
use Rattle.tables.specs.declared.Geometry.{Geometry}
use Rattle.tables.specs.meaning.Geometry.{stripe_sectors}
use Rattle.logs.specs.meaning.Entry.{Header, label, counters, zone_reset, partial_parity, seal, closing}

-- one that ends past pointer low and at most at high
abbrev pub ends_within : Geometry → ℕ → ℕ → ℕ → ℕ → Header → Bool
ends_within g z n low high (label x a) = false
ends_within g z n low high (counters cs) = false
ends_within g z n low high (zone_reset y m) = false
ends_within g z n low high (partial_parity y s f m) = eqb y z && (eqb m n && (ltb low (s * stripe_sectors g + f) && leb (s * stripe_sectors g + f) high))
ends_within g z n low high (seal y p m) = false
ends_within g z n low high (closing kind gen) = false

abbrev pub is_counters : Header → Bool
is_counters (label x a) = false
is_counters (counters cs) = true
is_counters (zone_reset y m) = false
is_counters (partial_parity y s f m) = false
is_counters (seal y p m) = false
is_counters (closing kind gen) = false

-- ---- the zone and generation of an entry of types 3 to 5
abbrev pub zone_gen : Header → (ℕ → ℕ → Type 0) → Type 0
zone_gen (label x a) P = Unit {0}
zone_gen (counters cs) P = Unit {0}
zone_gen (zone_reset z n) P = P z n
zone_gen (partial_parity z s f n) P = P z n
zone_gen (seal z p n) P = P z n
zone_gen (closing kind gen) P = Unit {0}
