-- Headers and their bytes, both ways: what is legal reads back as it was written, and what was read, written again, is the same bytes.
use Rattle.std.specs.Prelude.{◌≡◌, Bool, true, not, ℕ, suc, ◌+◌, ◌-◌, ◌*◌, ◌^◌, ◌≤◌, ◌<◌, List, length, replicate, eqb}
use Rattle.std.proofs.Common.{ap, ◌∙◌, mul-le-mul_right, lt_of_mul-lt-mul_right, arith, length-append, eqb-true}
use Rattle.std.proofs.lemmas.List.{length-replicate}
use Rattle.tables.specs.laws.Basics.{and_split}
use Rattle.tables.specs.declared.Geometry.{Geometry}
use Rattle.tables.specs.meaning.Geometry.{Valid, stripe_sectors, zone_sectors}
use Rattle.tables.specs.laws.Sizes.{zone_stripes}
use Rattle.tables.specs.laws.LittleEndian.{Small}
use Rattle.tables.specs.meaning.LittleEndian.{words_le}
use Rattle.logs.specs.meaning.Entry.{Header, label, counters, zone_reset, partial_parity, seal, closing, encode, frame, label_bytes, decode, legal, fits_log}
use Rattle.logs.specs.laws.Entry.{decode_legal, FieldsFit}
use Rattle.logs.specs.code.Lays.{length_words}
use Rattle.logs.specs.code.Judge.{reset_small, seal_small, partial_small, closing_fits, kind_small}
use Rattle.logs.specs.laws.Codec.{reads}

-- what a sector holds, written again, is that sector
pub legal_written_again : (g : Geometry) (d : ℕ) (par : Bool) (s : List ℕ) (h : Header) → decode g d par s ≡ legal h → encode g d h ≡ s
legal_written_again g d par s h e = (decode_legal g d par s h e).0

-- and it reads back
pub legal_reads_back : (g : Geometry) (d : ℕ) (par : Bool) (s : List ℕ) (h : Header) → decode g d par s ≡ legal h → decode g d par (encode g d h) ≡ legal h
legal_reads_back g d par s h e = ap (decode g d par) (legal_written_again g d par s h e) ∙ e

pub legal_fits : (g : Geometry) (d : ℕ) (par : Bool) (s : List ℕ) (h : Header) → decode g d par s ≡ legal h → fits_log g d par h ≡ true
legal_fits g d par s h e = (decode_legal g d par s h e).1

-- numbers that have room in 8 bytes
abbrev pub NumbersFit : Header → Type 0
NumbersFit (label x a) = a < 256 ^ 8
NumbersFit (counters cs) = Small cs
NumbersFit (zone_reset z n) = n < 256 ^ 8
NumbersFit (partial_parity z s f n) = n < 256 ^ 8
NumbersFit (seal z p n) = n < 256 ^ 8
NumbersFit (closing kind gen) = gen < 256 ^ 8

-- an entry inside a stripe ends inside its zone
pub stripe_ends : (g : Geometry) (s f : ℕ) → Valid g → s * stripe_sectors g < zone_sectors g → f ≤ stripe_sectors g → s * stripe_sectors g + f ≤ zone_sectors g
stripe_ends g s f ok h k =
    let e : zone_sectors g ≡ ok.units * stripe_sectors g = zone_stripes g ok in
    let l : s * stripe_sectors g < ok.units * stripe_sectors g = omega (arith, e, h) in
    let m : s < ok.units = lt_of_mul-lt-mul_right (stripe_sectors g) l in
    let n : suc s * stripe_sectors g ≤ ok.units * stripe_sectors g = mul-le-mul_right (stripe_sectors g) m in
    omega (arith, e, n, k)

module _ (g : Geometry) (ok : Valid g) (d : ℕ) (par : Bool) where
  -- what fits geometry, drive and log has room in its fields
  pub fits_has_room : (h : Header) → fits_log g d par h ≡ true → NumbersFit h → FieldsFit g h
  fits_has_room (label x a) f n = n
  fits_has_room (counters cs) f n = (eqb-true (length cs) g.zones (and_split (not par) (eqb (length cs) g.zones) f).1, n)
  fits_has_room (zone_reset z m) f n = (reset_small g d par z m f, n)
  fits_has_room (partial_parity z s v m) f n = let k = partial_small g d par z s v m f in (k.0, k.1, stripe_ends g s v ok k.1 (omega (arith, k.2)), n)
  fits_has_room (seal z p m) f n = let k = seal_small g d par z p m f in (k.0, k.1, n)
  fits_has_room (closing kind gen) f n = (omega (arith, (closing_fits g d par kind gen f).0, kind_small par), n)

  -- so it reads back
  pub fits_reads_back : (h : Header) → fits_log g d par h ≡ true → NumbersFit h → decode g d par (encode g d h) ≡ legal h
  fits_reads_back h f n = reads g ok d par h (fits_has_room h f n) f

-- a counters entry has a counter for each zone
abbrev pub CountersFit : Geometry → Header → Type 0
CountersFit g (label x a) = Unit {0}
CountersFit g (counters cs) = length cs ≡ g.zones
CountersFit g (zone_reset z n) = Unit {0}
CountersFit g (partial_parity z s f n) = Unit {0}
CountersFit g (seal z p n) = Unit {0}
CountersFit g (closing kind gen) = Unit {0}

-- a header is one sector
pub header_long : (g : Geometry) (d : ℕ) (h : Header) → Valid g → CountersFit g h → length (encode g d h) ≡ g.sector
unfolding encode frame label_bytes
header_long g d (label x a) ok r = rw (length-replicate {A = ℕ} (g.sector - 56) 0) (omega (arith, ok.sector_least))
header_long g d (counters cs) ok r = rw (length-append (words_le cs) (replicate (g.sector - (32 + 8 * length cs)) 0), length_words cs, length-replicate {A = ℕ} (g.sector - (32 + 8 * length cs)) 0) (omega (arith, r, ok.counters_fit))
header_long g d (zone_reset z n) ok r = rw (length-replicate {A = ℕ} (g.sector - 32) 0) (omega (arith, ok.sector_least))
header_long g d (partial_parity z s f n) ok r = rw (length-replicate {A = ℕ} (g.sector - 32) 0) (omega (arith, ok.sector_least))
header_long g d (seal z p n) ok r = rw (length-replicate {A = ℕ} (g.sector - 32) 0) (omega (arith, ok.sector_least))
header_long g d (closing kind gen) ok r = rw (length-replicate {A = ℕ} (g.sector - 32) 0) (omega (arith, ok.sector_least))
