-- What the code makes of a sector. `found` gives the value of each case of the code's enum Found: the header that the sector holds, with
-- its numbers (`seen`; the counters stay in the sector), or Bad where it holds no legal one. `foundType` gives each case's number.
use Rattle.std.specs.Prelude.{◌≡◌, Bool, true, false, ◌&&◌, ◌||◌, not, ℕ, ◌+◌, ◌-◌, ◌*◌, ◌/◌, ◌%◌, ◌≤◌, ◌<◌, List, take, drop, ltb, leb, eqb}
use Rattle.std.proofs.Math.Path.{refl}
use Rattle.std.proofs.Common.{sym, ap, ◌∙◌, mul-le-mul, div-add-mod', mod-lt, arith, ltb-true, leb-true, eqb-true}
use Rattle.tables.specs.declared.Geometry.{Geometry}
use Rattle.tables.specs.meaning.Basics.{pick}
use Rattle.tables.specs.laws.Basics.{and_split}
use Rattle.tables.specs.meaning.Geometry.{Valid, stripe_sectors, zone_sectors, first_drive_of, parity_drive_of}
use Rattle.logs.specs.declared.Fault.{Fault}
use Rattle.logs.specs.declared.Found.{Found}
use Rattle.logs.specs.declared.Found.TheVariants.{Bad, Label, Counters, Resets, Partial, Seal, Closing}
use Rattle.tables.specs.meaning.LittleEndian.{number_le, same_bytes}
use Rattle.logs.specs.meaning.Entry.{Header, label, counters, zone_reset, partial_parity, seal, closing, Decoded, legal, bad, fault_of, encode, read_fields, kind_of, start_of, end_of, gen_of, kind_of_log, fits_log, decode}
use Rattle.tables.specs.laws.Placement.{stripe_of_sum}
use Rattle.tables.specs.laws.Sizes.{stripe_small, stripes_most, zone_small}

abbrev pub seen : Header → Found
seen (label x a) = Label x a
seen (counters cs) = Counters
seen (zone_reset z n) = Resets z n
seen (partial_parity z s f n) = Partial z s f n
seen (seal z p n) = Seal z p n
seen (closing kind gen) = Closing gen

abbrev pub found : Decoded → Found
found (legal h) = seen h
found (bad f) = Bad

found_pick : (b : Bool) (h : Header) (f : Fault) → found (pick b (legal h) (bad f)) ≡ pick b (seen h) Bad
found_pick true h f = refl
found_pick false h f = refl

pub and_false : (b : Bool) → b && false ≡ false
and_false true = refl
and_false false = refl

-- ---- by the fields
module _ (g : Geometry) (d : ℕ) (par : Bool) (s : List ℕ) (h : Header) (e : read_fields g s ≡ h) where
  pub judged : found (decode g d par s) ≡ pick (same_bytes (encode g d h) s && fits_log g d par h) (seen h) Bad
  judged = found_pick (same_bytes (encode g d (read_fields g s)) s && fits_log g d par (read_fields g s)) (read_fields g s) (fault_of s) ∙ ap (λ (k : Header). pick (same_bytes (encode g d k) s && fits_log g d par k) (seen k) Bad) e

  pub judged_unfit : fits_log g d par h ≡ false → Bad ≡ found (decode g d par s)
  judged_unfit f = sym (judged ∙ rw (f, and_false (same_bytes (encode g d h) s)) refl)

  pub judged_other : same_bytes (encode g d h) s ≡ false → Bad ≡ found (decode g d par s)
  judged_other f = sym (judged ∙ rw f refl)

  pub judged_legal : same_bytes (encode g d h) s ≡ true → fits_log g d par h ≡ true → seen h ≡ found (decode g d par s)
  judged_legal p f = sym (judged ∙ rw (p, f) refl)

-- ---- the fields, by the kind
module _ (g : Geometry) (s : List ℕ) where
  abbrev pub as_reset : Header
  as_reset = zone_reset (number_le (take 8 (drop 8 s)) / zone_sectors g) (number_le (take 8 (drop 24 s)))

  pub fields_reset : kind_of s ≡ 3 → read_fields g s ≡ as_reset
  unfolding read_fields start_of gen_of
  fields_reset k = rw k refl

  abbrev pub as_partial : Header
  as_partial = partial_parity (number_le (take 8 (drop 8 s)) / zone_sectors g) (number_le (take 8 (drop 8 s)) % zone_sectors g / stripe_sectors g) (number_le (take 8 (drop 16 s)) - number_le (take 8 (drop 8 s))) (number_le (take 8 (drop 24 s)))

  pub fields_partial : kind_of s ≡ 4 → read_fields g s ≡ as_partial
  unfolding read_fields start_of end_of gen_of
  fields_partial k = rw k refl

  abbrev pub as_seal : Header
  as_seal = seal (number_le (take 8 (drop 8 s)) / zone_sectors g) (number_le (take 8 (drop 16 s)) - number_le (take 8 (drop 8 s))) (number_le (take 8 (drop 24 s)))

  pub fields_seal : kind_of s ≡ 5 → read_fields g s ≡ as_seal
  unfolding read_fields start_of end_of gen_of
  fields_seal k = rw k refl

  abbrev pub as_closing : Header
  as_closing = closing (number_le (take 8 (drop 8 s))) (number_le (take 8 (drop 24 s)))

  pub fields_closing : kind_of s ≡ 6 → read_fields g s ≡ as_closing
  unfolding read_fields start_of gen_of
  fields_closing k = rw k refl

-- ---- what fits is small
pub reset_small : (g : Geometry) (d : ℕ) (par : Bool) (z n : ℕ) → fits_log g d par (zone_reset z n) ≡ true → z < g.zones
reset_small g d par z n h =
    let (a, b) = and_split (not par) (ltb z g.zones && (eqb d (first_drive_of g z) || eqb d (parity_drive_of g z 0))) h in
    ltb-true z g.zones (and_split (ltb z g.zones) (eqb d (first_drive_of g z) || eqb d (parity_drive_of g z 0)) b).0

pub seal_small : (g : Geometry) (d : ℕ) (par : Bool) (z p n : ℕ) → fits_log g d par (seal z p n) ≡ true → (z < g.zones) × (p ≤ zone_sectors g)
seal_small g d par z p n h =
    let (a, b) = and_split (not par) (ltb z g.zones && (ltb 0 p && leb p (zone_sectors g))) h in
    let (c, e) = and_split (ltb z g.zones) (ltb 0 p && leb p (zone_sectors g)) b in
    let (f, k) = and_split (ltb 0 p) (leb p (zone_sectors g)) e in
    (ltb-true z g.zones c, leb-true p (zone_sectors g) k)

pub partial_small : (g : Geometry) (d : ℕ) (par : Bool) (z s f n : ℕ) → fits_log g d par (partial_parity z s f n) ≡ true → (z < g.zones) × (s * stripe_sectors g < zone_sectors g) × (f < stripe_sectors g)
partial_small g d par z s f n h =
    let t = eqb d (parity_drive_of g z s) in
    let (a, b) = and_split par (ltb z g.zones && (ltb (s * stripe_sectors g) (zone_sectors g) && (ltb 0 f && (ltb f (stripe_sectors g) && t)))) h in
    let (c, e) = and_split (ltb z g.zones) (ltb (s * stripe_sectors g) (zone_sectors g) && (ltb 0 f && (ltb f (stripe_sectors g) && t))) b in
    let (k, l) = and_split (ltb (s * stripe_sectors g) (zone_sectors g)) (ltb 0 f && (ltb f (stripe_sectors g) && t)) e in
    let (m, o) = and_split (ltb 0 f) (ltb f (stripe_sectors g) && t) l in
    let (q, r) = and_split (ltb f (stripe_sectors g)) t o in
    (ltb-true z g.zones c, ltb-true (s * stripe_sectors g) (zone_sectors g) k, ltb-true f (stripe_sectors g) q)

-- a closing entry that fits has the kind of its log, and a generation above 0
pub closing_fits : (g : Geometry) (d : ℕ) (par : Bool) (kind gen : ℕ) → fits_log g d par (closing kind gen) ≡ true → (kind ≡ kind_of_log par) × (0 < gen)
closing_fits g d par kind gen h = let (a, b) = and_split (eqb kind (kind_of_log par)) (ltb 0 gen) h in (eqb-true kind (kind_of_log par) a, ltb-true 0 gen b)

pub kind_small : (par : Bool) → kind_of_log par ≤ 1
kind_small true = omega arith
kind_small false = omega arith

-- a zone's first sector has a small number
pub start_small : (g : Geometry) (z q : ℕ) → Valid g → z < g.zones → q ≤ 458752 → z * q ≤ 7340032
start_small g z q ok h l = mul-le-mul {n₂ = 16} {m₂ = 458752} (omega (arith, h, ok.zones_most)) l

-- a start's stripe lies within the zone
pub stripe_within : (g : Geometry) (x : ℕ) → Valid g → x % zone_sectors g / stripe_sectors g * stripe_sectors g ≤ zone_sectors g
stripe_within g x ok =
    let a : x % zone_sectors g < zone_sectors g = mod-lt x (zone_small g ok).0 in
    omega (arith, a, div-add-mod' (x % zone_sectors g) (stripe_sectors g))

-- a stripe within the zone has a small number
pub stripes_fit : (g : Geometry) (t : ℕ) → Valid g → t * stripe_sectors g ≤ zone_sectors g → t ≤ 65536
stripes_fit g t ok h =
    let e = stripe_of_sum g.drives g.unit t 0 (stripe_small g ok).0 in
    omega (arith, e, stripes_most g (t * stripe_sectors g + 0) ok (omega (arith, h)), ok.zone_most)
