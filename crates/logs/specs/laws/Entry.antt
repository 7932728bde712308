-- Laws of reading and writing an entry; each type's number.
use Rattle.std.specs.Prelude.{◌≡◌, refl, Bool, true, false, ◌&&◌, ℕ, ◌+◌, ◌*◌, ◌^◌, ◌≤◌, ◌<◌, List, length}
use Rattle.std.proofs.Common.{arith}
use Rattle.tables.specs.laws.Basics.{and_split}
use Rattle.tables.specs.declared.Geometry.{Geometry}
use Rattle.tables.specs.meaning.Geometry.{stripe_sectors, zone_sectors}
use Rattle.tables.specs.laws.LittleEndian.{Small, same_bytes_refl, same_bytes_eq}
use Rattle.tables.specs.meaning.LittleEndian.{same_bytes}
use Rattle.logs.specs.meaning.Entry.{worn_generation, Header, label, counters, zone_reset, partial_parity, seal, closing, encode, fits_log, read_fields, legal, bad, fault_of, decode}

-- 2^64 − 1 as the code writes it
pub worn_is : worn_generation ≡ 18446744073709551615
unfolding worn_generation
worn_is = refl

-- ---- headers whose numbers have room in their fields read back
abbrev pub FieldsFit : Geometry → Header → Type 0
FieldsFit g (label x a) = a < 256 ^ 8
FieldsFit g (counters cs) = (length cs ≡ g.zones) × Small cs
FieldsFit g (zone_reset z n) = (z < g.zones) × (n < 256 ^ 8)
FieldsFit g (partial_parity z s f n) = (z < g.zones) × (s * stripe_sectors g < zone_sectors g) × (s * stripe_sectors g + f ≤ zone_sectors g) × (n < 256 ^ 8)
FieldsFit g (seal z p n) = (z < g.zones) × (p ≤ zone_sectors g) × (n < 256 ^ 8)
FieldsFit g (closing kind gen) = (kind < 256 ^ 8) × (gen < 256 ^ 8)

pub decode_legal : (g : Geometry) (d : ℕ) (par : Bool) (s : List ℕ) (h : Header) → decode g d par s ≡ legal h → (encode g d h ≡ s) × (fits_log g d par h ≡ true)
decode_legal g d par s h q = go (same_bytes (encode g d (read_fields g s)) s && fits_log g d par (read_fields g s)) refl
  where
    go : (b : Bool) → same_bytes (encode g d (read_fields g s)) s && fits_log g d par (read_fields g s) ≡ b → (encode g d h ≡ s) × (fits_log g d par h ≡ true)
    go true e =
        let m : legal (read_fields g s) ≡ legal h = rw e at q in
        let n : read_fields g s ≡ h = cc in
        let (p, f) = and_split (same_bytes (encode g d (read_fields g s)) s) (fits_log g d par (read_fields g s)) e in
        (rw (← n) (same_bytes_eq (encode g d (read_fields g s)) s p), rw (← n) f)
    go false e =
        let m : bad (fault_of s) ≡ legal h = rw e at q in
        absurd (let z : ◌≡◌ {A = ℕ} 0 1 = cc in omega arith)

-- the fields of what was written are what was written
pub decode_enc : (g : Geometry) (d : ℕ) (par : Bool) (h : Header) → read_fields g (encode g d h) ≡ h → fits_log g d par h ≡ true → decode g d par (encode g d h) ≡ legal h
decode_enc g d par h e f = rw e (rw (same_bytes_refl (encode g d h), f) refl)
