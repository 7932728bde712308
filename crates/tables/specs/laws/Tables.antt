-- That a store, a list of stores and a cut of the flat tables are those of the device they stand for; what a store leaves alone; and that
-- places lie within the tables.
use Rattle.std.specs.Prelude.{◌≡◌, refl, ◌≢◌, true, false, ◌&&◌, ℕ, zero, suc, ◌+◌, ◌-◌, ◌*◌, ◌≤◌, ◌<◌, min, List, [], ◌∷◌, ◌++◌, length, get_or, take, drop, ltb}
use Rattle.std.proofs.Common.{sym, ◌∙◌, mul-le-mul, mul-le-mul_right, suc-mul, zero-add, suc-add, arith, append_assoc, length-append, length-drop, take_at, take-take, drop_at, drop-drop, length-take-le, lt-ltb, le-ltb}
use Rattle.std.proofs.Math.Path.{ap}
use Rattle.std.proofs.Math.Decide.{dec_lt}
use Rattle.std.proofs.Math.Seq.{take-nil, drop-append-add}
use Rattle.std.proofs.lemmas.List.{take-append-le, drop-append-le}
use Rattle.std.proofs.Math.Arith.{digits_lt, digits_div, digits_mod}
use Rattle.tables.specs.declared.Geometry.{Geometry}
use Rattle.tables.specs.meaning.Basics.{pick}
use Rattle.tables.specs.meaning.Below.{tabulate}
use Rattle.tables.specs.laws.Below.{length_tabulate}
use Rattle.tables.specs.meaning.Lists.{overlay}
use Rattle.tables.specs.meaning.Geometry.{Valid, physical_zones, cells, total_bytes}
use Rattle.tables.specs.meaning.Device.{ZoneView, blank_zone}
use Rattle.tables.specs.laws.Device.{at}
use Rattle.tables.specs.laws.ZonePlaces.{place_in, place_injective}
use Rattle.tables.specs.meaning.Tables.{Tables, zone_place, first_cell, cell, byte_at, sector_no, sector_at, zone_at_cell, device_of}

-- ---- places lie within the tables
pub cell_in : (g : Geometry) (d z : ℕ) → d < g.drives → z < physical_zones g → cell g d z < cells g
cell_in g d z h k = digits_lt h (place_in g d z k)

pub row_in : (g : Geometry) (d : ℕ) → d < g.drives → first_cell g d + physical_zones g ≤ cells g
row_in g d h = omega (arith, rw suc-mul at (mul-le-mul_right (physical_zones g) h))

pub sector_in : (g : Geometry) (d z n : ℕ) → d < g.drives → z < physical_zones g → n < g.capacity → byte_at g d z n + g.sector ≤ total_bytes g
sector_in g d z n h k l =
    let below : cell g d z * g.capacity + n < g.drives * physical_zones g * g.capacity = digits_lt (cell_in g d z h k) l in
    rw (← suc-mul) (mul-le-mul_right g.sector below)

pub cell_injective : (g : Geometry) (d z e y : ℕ) → z < physical_zones g → y < physical_zones g → cell g e y ≡ cell g d z → (e ≡ d) × (y ≡ z)
cell_injective g d z e y h k q =
    let p : e ≡ d = sym (digits_div e (place_in g e y k)) ∙ rw q (digits_div d (place_in g d z h)) in
    let r : zone_place g e y ≡ zone_place g d z = sym (digits_mod e (place_in g e y k)) ∙ rw q (digits_mod d (place_in g d z h)) in
    (p, place_injective g d y z (ap (λ (x : ℕ). zone_place g x y) (sym p) ∙ r))

-- no place of a valid geometry is large
pub record SmallPlace (g : Geometry) (d z n : ℕ) : Type 0 where
  pub row : d * physical_zones g ≤ 152
  pub cell_most : cell g d z < 152
  pub start : cell g d z * g.capacity ≤ 9961472
  pub place : cell g d z * g.capacity + n ≤ 10027008
  pub byte : byte_at g d z n ≤ 41070624768

pub small_place : (g : Geometry) (d z n : ℕ) → Valid g → d < g.drives → z < physical_zones g → n ≤ g.capacity → SmallPlace g d z n
small_place g d z n ok hd hz hn =
    let a : d * physical_zones g ≤ 7 * 19 = mul-le-mul {n₂ = 7} {m₂ = 19} (omega (arith, ok.drives_most)) (omega (arith, ok.zones_most)) in
    let b : cell g d z < 152 = omega (arith, ok.zones_most, place_in g d z hz) in
    let c : cell g d z * g.capacity ≤ 152 * 65536 = mul-le-mul {n₂ = 152} {m₂ = 65536} (omega arith) ok.zone_most in
    let e : cell g d z * g.capacity + n ≤ 10027008 = omega (arith, ok.zone_most) in
    let f : byte_at g d z n ≤ 10027008 * 4096 = mul-le-mul {n₂ = 10027008} {m₂ = 4096} e ok.sector_most in
    record { row = omega arith; cell_most = b; start = omega arith; place = e; byte = omega arith }

-- ---- a sector laid over sector i of a list of bytes
drop_take : (n m : ℕ) (l : List ℕ) → drop n (take (n + m) l) ≡ take m (drop n l)
drop_take zero m l = rw zero-add refl
drop_take (suc n) m [] = rw suc-add (sym (take-nil m))
drop_take (suc n) m (x ∷ l) = rw suc-add (drop_take n m l)

module _ (B : ℕ) (b : List ℕ) (i : ℕ) (s : List ℕ) (hs : length s ≡ B) (fits : i * B + B ≤ length b) where
  head_length : length (take (i * B) b) ≡ i * B
  head_length = length-take-le (i * B) b (omega arith)

  pub sector_laid : sector_no B (overlay b (i * B) s) i ≡ s
  sector_laid = rw append_assoc (rw (drop_at (take (i * B) b) (s ++ drop (i * B + length s) b) (i * B) head_length) (take_at s (drop (i * B + length s) b) B hs))

  pub sector_below : (j : ℕ) → j < i → sector_no B (overlay b (i * B) s) j ≡ sector_no B b j
  sector_below j h =
      let k : suc j * B ≤ i * B = mul-le-mul_right B h in
      let e : i * B ≡ j * B + (i * B - j * B) = omega arith in
      let l : length (drop (j * B) (take (i * B) b)) ≡ i * B - j * B = length-drop (j * B) (take (i * B) b) ∙ rw head_length refl in
      rw append_assoc (rw (drop-append-le (j * B) (take (i * B) b) (s ++ drop (i * B + length s) b) (omega (arith, head_length))) (
      take-append-le B (drop (j * B) (take (i * B) b)) (s ++ drop (i * B + length s) b) (omega arith)
      ∙ ap (λ (m : ℕ). take B (drop (j * B) (take m b))) e
      ∙ rw (drop_take (j * B) (i * B - j * B) b) (take-take B (i * B - j * B) (drop (j * B) b) (omega arith))))

  pub sector_above : (j : ℕ) → i < j → sector_no B (overlay b (i * B) s) j ≡ sector_no B b j
  sector_above j h =
      let k : suc i * B ≤ j * B = mul-le-mul_right B h in
      let l : length (take (i * B) b ++ s) ≡ i * B + length s = length-append (take (i * B) b) s ∙ ap (λ (n : ℕ). n + length s) head_length in
      let e : j * B ≡ length (take (i * B) b ++ s) + (j * B - (i * B + B)) = omega arith in
      let q : i * B + length s + (j * B - (i * B + B)) ≡ j * B = omega arith in
      ap (take B) (ap (λ (m : ℕ). drop m (take (i * B) b ++ s ++ drop (i * B + length s) b)) e
      ∙ drop-append-add (take (i * B) b ++ s) (drop (i * B + length s) b) (j * B - (i * B + B))
      ∙ drop-drop (j * B - (i * B + B)) (i * B + length s) b
      ∙ ap (λ (m : ℕ). drop m b) q)

  -- sectors below or above it
  pub sector_elsewhere : (j : ℕ) → j ≢ i → sector_no B (overlay b (i * B) s) j ≡ sector_no B b j
  sector_elsewhere j n = go (dec_lt j i)
    where
      go : Dec (j < i) → sector_no B (overlay b (i * B) s) j ≡ sector_no B b j
      go (yes l) = sector_below j l
      go (no l) = sector_above j (omega arith)

-- ---- reading the device in the tables
-- a place lies in the geometry, or not
pub data In (g : Geometry) (e y : ℕ) : Type 0 where
  inside : e < g.drives → y < physical_zones g → ltb e g.drives && ltb y (physical_zones g) ≡ true → In g e y
  outside : ltb e g.drives && ltb y (physical_zones g) ≡ false → In g e y

pub in_or_out : (g : Geometry) (e y : ℕ) → In g e y
in_or_out g e y = go (dec_lt e g.drives) (dec_lt y (physical_zones g))
  where
    go : Dec (e < g.drives) → Dec (y < physical_zones g) → In g e y
    go (yes p) (yes q) = inside p q (rw (lt-ltb e g.drives p, lt-ltb y (physical_zones g) q) refl)
    go (yes p) (no q) = outside (rw (lt-ltb e g.drives p, le-ltb y (physical_zones g) (omega arith)) refl)
    go (no p) q = outside (rw (le-ltb e g.drives (omega arith)) refl)

pub device_inside : (g : Geometry) (t : Tables) (d z : ℕ) → ltb d g.drives && ltb z (physical_zones g) ≡ true → device_of g t d z ≡ zone_at_cell g t (cell g d z)
unfolding device_of
device_inside g t d z q = rw (q, pick) refl

pub device_outside : (g : Geometry) (t : Tables) (d z : ℕ) → ltb d g.drives && ltb z (physical_zones g) ≡ false → device_of g t d z ≡ blank_zone
unfolding device_of
device_outside g t d z q = rw (q, pick) refl

module _ (g : Geometry) (t : Tables) (d z : ℕ) (hd : d < g.drives) (hz : z < physical_zones g) where
  pub device_in_lem : device_of g t d z ≡ zone_at_cell g t (cell g d z)
  device_in_lem = device_inside g t d z (rw (lt-ltb d g.drives hd, lt-ltb z (physical_zones g) hz) refl)

  sectors_min : (device_of g t d z).sectors ≡ tabulate (λ n. sector_at g t.sectors d z n) (min (get_or t.written (cell g d z) 0) g.capacity)
  unfolding zone_at_cell
  sectors_min = ap (λ (x : ZoneView). x.sectors) device_in_lem

  -- how many sectors it has: the written pointer, where that is no pointer past the end
  pub device_length : length (device_of g t d z).sectors ≡ min (get_or t.written (cell g d z) 0) g.capacity
  device_length = ap (λ (x : List (List ℕ)). length x) sectors_min ∙ length_tabulate (λ n. sector_at g t.sectors d z n) (min (get_or t.written (cell g d z) 0) g.capacity)

  pub device_durable_min : (device_of g t d z).durable ≡ min (get_or t.durable (cell g d z) 0) g.capacity
  unfolding zone_at_cell
  device_durable_min = ap (λ (x : ZoneView). x.durable) device_in_lem

  pub device_sectors : get_or t.written (cell g d z) 0 ≤ g.capacity → (device_of g t d z).sectors ≡ tabulate (λ n. sector_at g t.sectors d z n) (get_or t.written (cell g d z) 0)
  device_sectors h = let e : min (get_or t.written (cell g d z) 0) g.capacity ≡ get_or t.written (cell g d z) 0 = omega arith in rw e at sectors_min

  pub device_pointer : get_or t.written (cell g d z) 0 ≤ g.capacity → length (device_of g t d z).sectors ≡ get_or t.written (cell g d z) 0
  device_pointer h = omega (arith, device_length)

  pub device_durable : get_or t.durable (cell g d z) 0 ≤ g.capacity → (device_of g t d z).durable ≡ get_or t.durable (cell g d z) 0
  device_durable h = omega (arith, device_durable_min)
