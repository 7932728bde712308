-- No size of a valid geometry is large: what code needs so that its sums and products fit.
use Rattle.std.specs.Prelude.{◌≡◌, refl, ◌≢◌, false, ◌&&◌, ℕ, zero, suc, ◌+◌, ◌-◌, ◌*◌, ◌≤◌, ◌<◌, ◌/◌, ◌%◌, eqb, length}
use Rattle.std.proofs.Common.{mul-le-mul_right, mod-lt, div-add-mod', mul-le-mul, mul-le-mul_left, div-lt_iff_lt-mul, mul-pos, mul-div_cancel, arith, eq-eqb, ne_eqb}
use Rattle.std.proofs.Math.Nat.{mul-mod_left}
use Rattle.std.proofs.Math.Decide.{ℕ_discrete}
use Rattle.tables.specs.meaning.Placement.{stripe_of, stripe_length, unit_index, parity_drive, address_at, needed}
use Rattle.tables.specs.declared.Geometry.{Geometry}
use Rattle.tables.specs.meaning.Geometry.{Valid, stripe_sectors, zone_sectors, cells, total_bytes}
use Rattle.tables.specs.laws.Basics.{le_times}
use Rattle.tables.specs.laws.Placement.{address_at_below, unit_index_below, needed_most}

pub stripe_small : (g : Geometry) → Valid g → (1 ≤ stripe_sectors g) × (stripe_sectors g ≤ 112)
unfolding stripe_length
stripe_small g ok =
    let p : 1 ≤ g.drives - 1 = omega (arith, ok.drives_least) in
    let q : g.drives - 1 ≤ 7 = omega (arith, ok.drives_most) in
    (mul-pos p ok.unit_least, mul-le-mul {n₂ = 7} {m₂ = 16} q ok.unit_most)

pub stripes_most : (g : Geometry) (n : ℕ) → Valid g → n ≤ zone_sectors g → stripe_of g.drives g.unit n ≤ g.capacity
unfolding stripe_of stripe_length zone_sectors
stripes_most g n ok h =
    let e = g.drives - 1 in
    let p : 1 ≤ e = omega (arith, ok.drives_least) in
    let a : suc g.capacity * 1 ≤ suc g.capacity * g.unit = mul-le-mul_left (suc g.capacity) ok.unit_least in
    let b : e * (suc g.capacity * 1) ≤ e * (suc g.capacity * g.unit) = mul-le-mul_left e a in
    let k : n < suc g.capacity * (e * g.unit) = omega (arith, b) in
    let l : n / (e * g.unit) < suc g.capacity = (div-lt_iff_lt-mul (mul-pos p ok.unit_least)).1 k in
    omega arith

-- the same, in the terms that the code computes
pub record Striped (g : Geometry) (n : ℕ) : Type 0 where
  pub long : zero < (g.drives - 1) * g.unit
  pub short : (g.drives - 1) * g.unit ≤ 112
  pub stripes : n / ((g.drives - 1) * g.unit) ≤ 65536
  pub rows : n / ((g.drives - 1) * g.unit) * g.unit ≤ 1048576

pub striped : (g : Geometry) (n : ℕ) → Valid g → n ≤ zone_sectors g → Striped g n
unfolding stripe_length stripe_of
striped g n ok h =
    let a = stripe_small g ok in
    let b : n / ((g.drives - 1) * g.unit) ≤ 65536 = omega (arith, stripes_most g n ok h, ok.zone_most) in
    record { long = a.0; short = a.1; stripes = b; rows = mul-le-mul {n₂ = 65536} {m₂ = 16} b ok.unit_most }

pub zone_small : (g : Geometry) → Valid g → (1 ≤ zone_sectors g) × (zone_sectors g ≤ 458752)
unfolding zone_sectors
zone_small g ok =
    let p : 1 ≤ g.drives - 1 = omega (arith, ok.drives_least) in
    let q : g.drives - 1 ≤ 7 = omega (arith, ok.drives_most) in
    (mul-pos p (omega (arith, ok.general_fits)), mul-le-mul {n₂ = 7} {m₂ = 65536} q ok.zone_most)

-- a zone is a whole number of stripes, and a stripe holds a unit
pub zone_stripes : (g : Geometry) (ok : Valid g) → zone_sectors g ≡ ok.units * stripe_sectors g
unfolding zone_sectors stripe_length
zone_stripes g ok = rw ok.whole_units (omega arith)

pub unit_in_stripe : (g : Geometry) → Valid g → g.unit ≤ stripe_sectors g
unfolding stripe_length
unit_in_stripe g ok = let q : 1 ≤ g.drives - 1 = omega (arith, ok.drives_least) in omega (arith, mul-le-mul_right g.unit q)

pub cells_small : (g : Geometry) → Valid g → cells g ≤ 152
cells_small g ok = mul-le-mul {n₂ = 8} {m₂ = 19} ok.drives_most (omega (arith, ok.zones_most))

pub bytes_small : (g : Geometry) → Valid g → (cells g * g.capacity ≤ 9961472) × (total_bytes g ≤ 40802189312)
bytes_small g ok =
    let a : cells g * g.capacity ≤ 9961472 = mul-le-mul {n₂ = 152} {m₂ = 65536} (cells_small g ok) ok.zone_most in
    (a, mul-le-mul {n₂ = 9961472} {m₂ = 4096} a ok.sector_most)

-- a unit's index and a sector, as the code computes them
pub unit_small : (g : Geometry) (a : ℕ) → Valid g → a % ((g.drives - 1) * g.unit) / g.unit < g.drives
unfolding unit_index stripe_length
unit_small g a ok = omega (arith, unit_index_below g.drives g.unit 0 (omega (arith, ok.drives_least)) ok.unit_least a)

pub sector_small : (g : Geometry) (a : ℕ) → Valid g → a ≤ zone_sectors g → a / ((g.drives - 1) * g.unit) * g.unit + a % ((g.drives - 1) * g.unit) % g.unit ≤ 1048592
sector_small g a ok h =
    let t = striped g a ok h in
    let r : a % ((g.drives - 1) * g.unit) % g.unit < g.unit = mod-lt (a % ((g.drives - 1) * g.unit)) ok.unit_least in
    omega (arith, t.rows, ok.unit_most)

-- a pointer of a zone needs no more than a physical zone holds
pub needed_fits : (g : Geometry) → Valid g → (z n d : ℕ) → n ≤ zone_sectors g → needed g.drives g.unit z n d ≤ g.capacity
unfolding zone_sectors stripe_length
needed_fits g ok z n d h =
    let e : (g.drives - 1) * g.capacity ≡ ok.units * ((g.drives - 1) * g.unit) = rw ok.whole_units (omega arith) in
    rw (← ok.whole_units) at (needed_most g.drives g.unit z (omega (arith, ok.drives_least)) ok.unit_least ok.units n d (omega (arith, e, h)))

-- the address at a sector, as the code computes it
pub record SmallAddress (g : Geometry) (j x : ℕ) : Type 0 where
  pub stripes : x / g.unit ≤ 65536
  pub length : (g.drives - 1) * g.unit ≤ 112
  pub start : x / g.unit * ((g.drives - 1) * g.unit) ≤ 7340032
  pub unit : j * g.unit ≤ 128
  pub row : x % g.unit ≤ 16

pub small_address : (g : Geometry) (j x : ℕ) → Valid g → j < g.drives → x < g.capacity → SmallAddress g j x
small_address g j x ok hj hx =
    let a : x / g.unit ≤ 65536 = omega (arith, div-add-mod' x g.unit, le_times (x / g.unit) ok.unit_least, ok.zone_most) in
    let b : (g.drives - 1) * g.unit ≤ 112 = mul-le-mul {n₂ = 7} {m₂ = 16} (omega (arith, ok.drives_most)) ok.unit_most in
    record {
      stripes = a;
      length = b;
      start = mul-le-mul {n₂ = 65536} {m₂ = 112} a b;
      unit = mul-le-mul {n₂ = 8} {m₂ = 16} (omega (arith, ok.drives_most)) ok.unit_most;
      row = omega (arith, mod-lt x ok.unit_least, ok.unit_most);
    }

pub address_within : (g : Geometry) (z d x : ℕ) → Valid g → d < g.drives → d ≢ parity_drive g.drives z (x / g.unit) → x < g.capacity → address_at g.drives g.unit z d x < zone_sectors g
unfolding zone_sectors stripe_length
address_within g z d x ok hd ne hx =
    let e : ok.units * ((g.drives - 1) * g.unit) ≡ (g.drives - 1) * g.capacity = rw ok.whole_units (omega arith) in
    rw e at (address_at_below g.drives g.unit z (omega (arith, ok.drives_least)) ok.unit_least ok.units d x hd ne (rw (← ok.whole_units) hx))

-- a buffer's length, by division: `count × b` may be too large to compute
pub exact_division : (n b count : ℕ) → zero < b → eqb (n % b) 0 && eqb (n / b) count ≡ eqb n (count * b)
exact_division n b count h = go (ℕ_discrete n (count * b))
  where
    go : Dec (n ≡ count * b) → eqb (n % b) 0 && eqb (n / b) count ≡ eqb n (count * b)
    go (yes e) = rw (eq-eqb n (count * b) e) (rw e (rw (mul-mod_left count b, mul-div_cancel count h, eq-eqb count count refl) refl))
    go (no ne) = rw (ne_eqb n (count * b) ne) (split (ℕ_discrete (n % b) 0) (ℕ_discrete (n / b) count))
      where
        split : Dec (n % b ≡ 0) → Dec (n / b ≡ count) → eqb (n % b) 0 && eqb (n / b) count ≡ false
        split (no p) q = rw (ne_eqb (n % b) 0 p) refl
        split (yes p) (no q) = rw (eq-eqb (n % b) 0 p, ne_eqb (n / b) count q) refl
        split (yes p) (yes q) = absurd (ne (let k : n / b * b ≡ count * b = rw q refl in omega (arith, div-add-mod' n b, k)))

pub unit_within_zone : (g : Geometry) → Valid g → g.unit ≤ zone_sectors g
unfolding zone_sectors
unit_within_zone g ok =
    let a : 1 ≤ g.drives - 1 = omega (arith, ok.drives_least) in
    let b : 1 * g.capacity ≤ (g.drives - 1) * g.capacity = mul-le-mul_right g.capacity a in
    omega (arith, b, ok.logs_fit)
