-- A stripe that is written whole from a buffer, as code writes it: unit after unit is laid at its place, and the row of parity grows by it at the same time.
-- In the end the tables are those that its stores leave, one after the other.
use Rattle.std.specs.Prelude.{◌≡◌, ◌≢◌, Bool, true, false, ℕ, zero, suc, ◌+◌, ◌-◌, ◌*◌, ◌≤◌, ◌<◌, take, drop, ltb, eqb}
use Rattle.std.proofs.Math.Path.{refl, sym, ap, ap₂}
use Rattle.std.proofs.Common.{◌∙◌, suc-mul, mul-le-mul_right, arith, length-append, lt-ltb, le-ltb, ne_eqb}
use Rattle.std.proofs.Math.Decide.{dec_lt}
use mathlib.Core.List.{List, ◌++◌}
use Rattle.std.proofs.Math.ListN.{length}
use Rattle.tables.specs.declared.Geometry.{Geometry}
use Rattle.tables.specs.meaning.Basics.{pick}
use Rattle.tables.specs.meaning.Below.{tabulate_from, each_below}
use Rattle.tables.specs.laws.Below.{tabulate_from_cong, length_tabulate_from}
use Rattle.tables.specs.meaning.Lists.{concat, overlay}
use Rattle.tables.specs.laws.Lists.{length_overlay}
use Rattle.tables.specs.meaning.Geometry.{Valid, stripe_sectors, data_zone, total_bytes}
use Rattle.tables.specs.meaning.Device.{Store}
use Rattle.tables.specs.meaning.Phases.{on_present}
use Rattle.tables.specs.meaning.Placement.{parity_drive, unit_drive, address}
use Rattle.tables.specs.laws.Placement.{stripe_length_lem, address_sum, unit_last, unit_row_lt}
use Rattle.tables.specs.meaning.Tables.{tables_of, run_stores, sector_no}
use Rattle.tables.specs.laws.Made.{MadeAppends}
use Rattle.tables.specs.laws.Counted.{run_covered}
use Rattle.tables.specs.meaning.Xor.{xor_bytes, xor_below}
use Rattle.tables.specs.laws.Xor.{length_xor, xor_below_cong}
use Rattle.tables.specs.laws.Within.{Apart, part_long, part_laid, laid_again}
use Rattle.volume.specs.meaning.Content.{row_xor}
use Rattle.volume.specs.laws.Content.{xor_below_full}
use Rattle.volume.specs.meaning.Calls.{append_all, parity_stores, data_stores}
use Rattle.volume.specs.laws.EachBelow.{each_below_cong}
use Rattle.volume.specs.laws.PlacedStores.{AllLong, long_from}
use Rattle.volume.specs.laws.StoreCounts.{appends_long}
use Rattle.volume.specs.rows.RowsInPlace.{row_laid, built_all}
use Rattle.tables.specs.laws.Overlays.{overlay_swap}
use Rattle.volume.specs.stripes.UnitRows.{sectors_joined}
use Rattle.volume.specs.stripes.UnitStores.{unit_place, units_laid, units_passed, UnitsFit, place_in, places_apart, run_units}
use Rattle.volume.specs.stripes.StripeStores.{whole_stripe, parity_joined}

-- the bytes of unit j, of a stripe that begins at byte `from` of a buffer
abbrev pub unit_in : Geometry → List ℕ → ℕ → ℕ → List ℕ
unit_in g buffer from j = take (g.unit * g.sector) (drop (from + j * (g.unit * g.sector)) buffer)

-- what writing it relies on: y is its zone, p the drive of its parity
pub record StripeFits (g : Geometry) (y p from : ℕ) (xs ws buffer : List ℕ) : Type 0 where
  pub parity_in : p < g.drives
  pub fit : UnitsFit g y (unit_drive g.drives p) g.drives xs ws
  pub in_buffer : from + (g.drives - 1) * (g.unit * g.sector) ≤ length buffer

-- where unit j goes; the parity is unit D − 1
abbrev pub stripe_unit_place : Geometry → ℕ → ℕ → List ℕ → ℕ → ℕ
stripe_unit_place g y p ws = unit_place g y (unit_drive g.drives p) ws

-- the bytes with its first j units, and their row
abbrev pub stripe_laid : Geometry → ℕ → ℕ → ℕ → List ℕ → List ℕ → List ℕ → ℕ → List ℕ
stripe_laid g y p from ws buffer xs j = row_laid (units_laid (stripe_unit_place g y p ws) (unit_in g buffer from) xs j) (stripe_unit_place g y p ws (g.drives - 1)) (unit_in g buffer from) j

module _ (g : Geometry) (y p from : ℕ) (xs ws buffer : List ℕ) (f : StripeFits g y p from xs ws buffer) where
  abbrev n : ℕ
  n = g.unit * g.sector

  abbrev unit : ℕ → List ℕ
  unit = unit_in g buffer from

  abbrev place : ℕ → ℕ
  place = stripe_unit_place g y p ws

  abbrev row : ℕ
  row = stripe_unit_place g y p ws (g.drives - 1)

  abbrev laid : ℕ → List ℕ
  laid = units_laid (stripe_unit_place g y p ws) (unit_in g buffer from) xs

  pub unit_inside : (j : ℕ) → j + 1 < g.drives → from + j * (g.unit * g.sector) + g.unit * g.sector ≤ length buffer
  unit_inside j h = let k : suc j ≤ g.drives - 1 = omega arith in omega (arith, rw suc-mul at (mul-le-mul_right (g.unit * g.sector) k), f.in_buffer)

  pub unit_long : (j : ℕ) → j + 1 < g.drives → length (unit_in g buffer from j) ≡ g.unit * g.sector
  unit_long j h = part_long buffer (from + j * n) n (unit_inside j h)

  pub place_inside : (j : ℕ) → j < g.drives → stripe_unit_place g y p ws j + g.unit * g.sector ≤ total_bytes g
  place_inside = place_in g y (unit_drive g.drives p) g.drives xs ws f.fit

  pub place_apart : (i j : ℕ) → i < g.drives → j < g.drives → i ≢ j → Apart (stripe_unit_place g y p ws i) (stripe_unit_place g y p ws j) (g.unit * g.sector)
  place_apart = places_apart g y (unit_drive g.drives p) g.drives xs ws f.fit

  units_long : (j : ℕ) → j + 1 ≤ g.drives → length (laid j) ≡ total_bytes g
  units_long zero h = f.fit.sectors_long
  units_long (suc j) h = let l = units_long j (omega arith) in length_overlay (laid j) (place j) (unit j) (rw (l, unit_long j (omega arith)) (place_inside j (omega arith))) ∙ l

  row_long : (j : ℕ) → j + 1 < g.drives → length (xor_below unit (suc j)) ≡ n
  row_long j h = xor_below_full n unit (suc j) 0 (omega arith) (unit_long 0 (omega arith)) (λ k l. omega (arith, unit_long k (omega arith)))

  -- a unit laid after the row is as one laid before it
  under_row : (j : ℕ) (bytes r : List ℕ) → j + 1 < g.drives → length bytes ≡ total_bytes g → length r ≡ n → overlay (overlay bytes row r) (place j) (unit j) ≡ overlay (overlay bytes (place j) (unit j)) row r
  under_row j bytes r h l m =
      overlay_swap bytes row (place j) r (unit j) (rw (l, m) (place_inside (g.drives - 1) (omega arith))) (rw (l, unit_long j h) (place_inside j (omega arith)))
      (rw (m, unit_long j h) (place_apart (g.drives - 1) j (omega arith) (omega arith) (λ e. omega (arith, e))))

  -- the row begun, and grown, by one unit and by three
  one_first : overlay (overlay xs (stripe_unit_place g y p ws 0) (unit_in g buffer from 0)) (stripe_unit_place g y p ws (g.drives - 1)) (unit_in g buffer from 0) ≡ stripe_laid g y p from ws buffer xs 1
  one_first = refl

  three_first : overlay (overlay (overlay (overlay xs (stripe_unit_place g y p ws 0) (unit_in g buffer from 0)) (stripe_unit_place g y p ws 1) (unit_in g buffer from 1)) (stripe_unit_place g y p ws 2) (unit_in g buffer from 2)) (stripe_unit_place g y p ws (g.drives - 1))
      (xor_bytes (xor_bytes (unit_in g buffer from 0) (unit_in g buffer from 1)) (unit_in g buffer from 2))
      ≡ stripe_laid g y p from ws buffer xs 3
  three_first = refl

  -- the row as it lies there
  row_read : (j : ℕ) → j + 1 < g.drives → take n (drop row (stripe_laid g y p from ws buffer xs (suc j))) ≡ xor_below unit (suc j)
  row_read j h = part_laid (laid (suc j)) row n (xor_below unit (suc j)) (row_long j h) (rw (units_long (suc j) (omega arith)) (place_inside (g.drives - 1) (omega arith)))

  one_more : (j : ℕ) (ys : List ℕ) → 0 < j → j + 1 < g.drives → ys ≡ stripe_laid g y p from ws buffer xs j
      → overlay (overlay ys (stripe_unit_place g y p ws j) (unit_in g buffer from j)) (stripe_unit_place g y p ws (g.drives - 1)) (xor_bytes (take (length (unit_in g buffer from j)) (drop (stripe_unit_place g y p ws (g.drives - 1)) ys)) (unit_in g buffer from j))
      ≡ stripe_laid g y p from ws buffer xs (suc j)
  one_more zero ys pos h e = absurd (omega arith)
  one_more (suc j) ys pos h e =
      let r = xor_below unit (suc j) in
      let lr = row_long j (omega arith) in
      let t : take (length (unit (suc j))) (drop row ys) ≡ r = rw (e, unit_long (suc j) h) (row_read j (omega arith)) in
      let lt : length (xor_bytes r (unit (suc j))) ≡ length r = length_xor r (unit (suc j)) (omega (arith, lr, unit_long (suc j) h)) in
      let ll = units_long (suc (suc j)) (omega arith) in
      rw t (rw (e, under_row (suc j) (laid (suc j)) r h (units_long (suc j) (omega arith)) lr)
      (laid_again (laid (suc (suc j))) row r (xor_bytes r (unit (suc j))) lt (rw (ll, lr) (place_inside (g.drives - 1) (omega arith)))))

  three_more : (j : ℕ) (ys : List ℕ) → 0 < j → j + 3 < g.drives → ys ≡ stripe_laid g y p from ws buffer xs j
      → overlay (overlay (overlay (overlay ys (stripe_unit_place g y p ws j) (unit_in g buffer from j)) (stripe_unit_place g y p ws (suc j)) (unit_in g buffer from (suc j))) (stripe_unit_place g y p ws (suc (suc j))) (unit_in g buffer from (suc (suc j)))) (stripe_unit_place g y p ws (g.drives - 1))
      (xor_bytes (xor_bytes (xor_bytes (take (length (unit_in g buffer from j)) (drop (stripe_unit_place g y p ws (g.drives - 1)) ys)) (unit_in g buffer from j)) (unit_in g buffer from (suc j))) (unit_in g buffer from (suc (suc j))))
      ≡ stripe_laid g y p from ws buffer xs (suc (suc (suc j)))
  three_more zero ys pos h e = absurd (omega arith)
  three_more (suc j) ys pos h e =
      let a = suc j in
      let b = suc a in
      let c = suc b in
      let r = xor_below unit a in
      let lr = row_long j (omega arith) in
      let t : take (length (unit a)) (drop row ys) ≡ r = rw (e, unit_long a (omega arith)) (row_read j (omega arith)) in
      let whole = xor_bytes (xor_bytes (xor_bytes r (unit a)) (unit b)) (unit c) in
      let lt : length whole ≡ length r = row_long c (omega arith) ∙ sym lr in
      let ll = units_long (suc c) (omega arith) in
      rw t (rw (e, under_row a (laid a) r (omega arith) (units_long a (omega arith)) lr) (rw (under_row b (laid b) r (omega arith) (units_long b (omega arith)) lr) (rw (under_row c (laid c) r (omega arith) (units_long c (omega arith)) lr)
      (laid_again (laid (suc c)) row r whole lt (rw (ll, lr) (place_inside (g.drives - 1) (omega arith)))))))

  -- as code says it
  pub one_next : (j : ℕ) (ys : List ℕ) → j + 1 < g.drives → ys ≡ stripe_laid g y p from ws buffer xs j
      → overlay (overlay ys (stripe_unit_place g y p ws j) (unit_in g buffer from j)) (stripe_unit_place g y p ws (g.drives - 1)) (pick (eqb j 0) (unit_in g buffer from j) (xor_bytes (take (length (unit_in g buffer from j)) (drop (stripe_unit_place g y p ws (g.drives - 1)) ys)) (unit_in g buffer from j)))
      ≡ stripe_laid g y p from ws buffer xs (j + 1)
  one_next zero ys h e = rw e one_first
  one_next (suc j) ys h e = let ne : eqb (suc j) 0 ≡ false = ne_eqb (suc j) 0 (λ q. omega (arith, q)) in let f : suc j + 1 ≡ suc (suc j) = omega arith in rw (ne, f) (one_more (suc j) ys (omega arith) h e)

  pub three_next : (j : ℕ) (ys : List ℕ) → j + 3 < g.drives → ys ≡ stripe_laid g y p from ws buffer xs j
      → overlay (overlay (overlay (overlay ys (stripe_unit_place g y p ws j) (unit_in g buffer from j)) (stripe_unit_place g y p ws (j + 1)) (unit_in g buffer from (j + 1))) (stripe_unit_place g y p ws (j + 2)) (unit_in g buffer from (j + 2))) (stripe_unit_place g y p ws (g.drives - 1))
      (xor_bytes (xor_bytes (pick (eqb j 0) (unit_in g buffer from j) (xor_bytes (take (length (unit_in g buffer from j)) (drop (stripe_unit_place g y p ws (g.drives - 1)) ys)) (unit_in g buffer from j))) (unit_in g buffer from (j + 1))) (unit_in g buffer from (j + 2)))
      ≡ stripe_laid g y p from ws buffer xs (j + 3)
  three_next zero ys h e = rw e three_first
  three_next (suc j) ys h e =
      let ne : eqb (suc j) 0 ≡ false = ne_eqb (suc j) 0 (λ q. omega (arith, q)) in
      let a : suc j + 1 ≡ suc (suc j) = omega arith in
      let b : suc j + 2 ≡ suc (suc (suc j)) = omega arith in
      let c : suc j + 3 ≡ suc (suc (suc (suc j))) = omega arith in
      rw (ne, a, b, c) (three_more (suc j) ys (omega arith) (omega arith) e)

-- ---- the stores of the whole stripe, on the tables
units_same : (place : ℕ → ℕ) (f h : ℕ → List ℕ) (xs : List ℕ) (n : ℕ) → ((j : ℕ) → j < n → f j ≡ h j) → units_laid place f xs n ≡ units_laid place h xs n
units_same place f h xs zero e = refl
units_same place f h xs (suc n) e = ap₂ (λ (a b : List ℕ). overlay a (place n) b) (units_same place f h xs n (λ j l. e j (omega arith))) (e n (omega arith))

module _ (g : Geometry) (ok : Valid g) (present : ℕ → Bool) (all : (d : ℕ) → d < g.drives → present d ≡ true) (z : ℕ) (S : ℕ → List ℕ) (s low : ℕ) (xs ws buffer : List ℕ)
    (from_start : low ≤ s * stripe_sectors g) (new : (a : ℕ) → low ≤ a → S a ≡ sector_no g.sector buffer (a - low))
    (f : StripeFits g (data_zone z) (parity_drive g.drives z s) ((s * stripe_sectors g - low) * g.sector) xs ws buffer) where
  abbrev start : ℕ
  start = s * stripe_sectors g

  abbrev from : ℕ
  from = (s * stripe_sectors g - low) * g.sector

  abbrev drive : ℕ → ℕ
  drive = unit_drive g.drives (parity_drive g.drives z s)

  abbrev N : ℕ
  N = g.drives - 1

  more : g.drives ≡ suc N
  more = omega (arith, ok.drives_least)

  -- a unit's sectors joined
  unit_is : (j : ℕ) → concat (tabulate_from S (start + j * g.unit) g.unit) ≡ unit_in g buffer from j
  unit_is j =
      let i = start + j * g.unit - low in
      let q : i ≡ start - low + j * g.unit = omega arith in
      let e : i * g.sector ≡ from + j * (g.unit * g.sector) = rw q (omega arith) in
      ap concat (tabulate_from_cong S (sector_no g.sector buffer) (start + j * g.unit) i g.unit (λ k l. new (start + j * g.unit + k) (omega arith) ∙ ap (sector_no g.sector buffer) (omega arith)))
      ∙ sectors_joined g.sector buffer i g.unit ∙ ap (λ (b : ℕ). take (g.unit * g.sector) (drop b buffer)) e

  sector_long : (a : ℕ) → start ≤ a → a < start + stripe_sectors g → length (S a) ≡ g.sector
  sector_long a h l = ap (λ (x : List ℕ). length x) (new a (omega arith)) ∙ part_long buffer ((a - low) * g.sector) g.sector (let m : suc (a - low) ≤ start - low + N * g.unit = omega (arith, stripe_length_lem g.drives g.unit) in omega (arith, mul-le-mul_right g.sector m, f.in_buffer))

  -- what lies on each drive: data on the first, then the rows
  content : ℕ → List (List ℕ)
  content j = pick (ltb j N) (tabulate_from S (start + j * g.unit) g.unit) (tabulate_from (row_xor g.drives g.unit S s) 0 g.unit)

  content_data : (j : ℕ) → j < N → content j ≡ tabulate_from S (start + j * g.unit) g.unit
  unfolding content
  content_data j h = rw (lt-ltb j N h) refl

  content_rows : content N ≡ tabulate_from (row_xor g.drives g.unit S s) 0 g.unit
  unfolding content
  content_rows = rw (le-ltb N N (omega arith)) refl

  content_full : (j : ℕ) → j < g.drives → length (content j) ≡ g.unit
  content_full j h = go (dec_lt j N)
    where
      go : Dec (j < N) → length (content j) ≡ g.unit
      go (yes l) = ap (λ (x : List (List ℕ)). length x) (content_data j l) ∙ length_tabulate_from S (start + j * g.unit) g.unit
      go (no l) = let e : j ≡ N = omega arith in ap (λ (i : ℕ). length (content i)) e ∙ ap (λ (x : List (List ℕ)). length x) content_rows ∙ length_tabulate_from (row_xor g.drives g.unit S s) 0 g.unit

  row_sized : (r : ℕ) → r < g.unit → length (row_xor g.drives g.unit S s r) ≡ g.sector
  unfolding row_xor
  row_sized r q = xor_below_full g.sector (λ k. S (address g.drives g.unit s k r)) N 0 (omega (arith, ok.drives_least)) (member 0 (omega (arith, ok.drives_least))) (λ k l. omega (arith, member k l))
    where
      member : (k : ℕ) → k < N → length (S (address g.drives g.unit s k r)) ≡ g.sector
      member k l = sector_long (address g.drives g.unit s k r) (omega (arith, address_sum g.drives g.unit s k r)) (omega (arith, address_sum g.drives g.unit s k r, unit_row_lt g.drives g.unit z (omega (arith, ok.drives_least)) ok.unit_least k r (omega arith) q))

  content_long : (j : ℕ) → j < g.drives → AllLong g.sector (content j)
  content_long j h = go (dec_lt j N)
    where
      go : Dec (j < N) → AllLong g.sector (content j)
      go (yes l) = rw (content_data j l) (long_from g.sector S (start + j * g.unit) g.unit (λ k q. sector_long (start + j * g.unit + k) (omega arith) (inside_unit j (start + j * g.unit + k) l (omega arith))))
        where
          inside_unit : (j a : ℕ) → j < N → a < start + j * g.unit + g.unit → a < start + stripe_sectors g
          inside_unit j a l q = let m : suc j ≤ N = omega arith in omega (arith, mul-le-mul_right g.unit m, stripe_length_lem g.drives g.unit)
      go (no l) = let e : j ≡ N = omega arith in rw (e, content_rows) (long_from g.sector (row_xor g.drives g.unit S s) 0 g.unit (λ r q. row_sized (0 + r) (omega arith)))

  stores : List Store
  stores = on_present present (data_stores g.drives g.unit z S start (stripe_sectors g))

  abbrev columns : ℕ → List Store
  columns i = append_all (drive i) (data_zone z) (content i)

  stores_are : stores ≡ each_below columns g.drives
  unfolding stores
  stores_are =
      let p = parity_drive g.drives z s in
      let last : columns N ≡ parity_stores g.drives g.unit z S s = ap₂ (λ (d : ℕ) (c : List (List ℕ)). append_all d (data_zone z) c) (unit_last g.drives p f.parity_in) content_rows in
      whole_stripe g ok present all z S s
      ∙ sym (ap (each_below columns) more
      ∙ ap₂ (λ (a b : List Store). a ++ b) (each_below_cong columns (λ j. append_all (drive j) (data_zone z) (tabulate_from S (start + j * g.unit) g.unit)) N (λ j l. ap (append_all (drive j) (data_zone z)) (content_data j l))) last)

  columns_long : (n : ℕ) → n ≤ g.drives → length (each_below columns n) ≡ n * g.unit
  columns_long zero h = let e : 0 * g.unit ≡ 0 = omega arith in rw e refl
  columns_long (suc n) h = rw (length-append, suc-mul) (ap₂ (λ (a b : ℕ). a + b) (columns_long n (omega arith)) (appends_long (drive n) (data_zone z) (content n) ∙ content_full n (omega arith)))

  long_is : length stores ≡ g.drives * g.unit
  long_is = ap (λ (ss : List Store). length ss) stores_are ∙ columns_long g.drives (omega arith)

  laid_is : units_laid (stripe_unit_place g (data_zone z) (parity_drive g.drives z s) ws) (λ i. concat (content i)) xs g.drives ≡ stripe_laid g (data_zone z) (parity_drive g.drives z s) from ws buffer xs (g.drives - 1)
  laid_is =
      let place = stripe_unit_place g (data_zone z) (parity_drive g.drives z s) ws in
      let unit = unit_in g buffer from in
      let rows : concat (content N) ≡ xor_below unit N = ap concat content_rows ∙ parity_joined g ok present all z S s sector_long ∙ xor_below_cong (λ j. concat (tabulate_from S (start + j * g.unit) g.unit)) unit N (λ j l. unit_is j) in
      ap (units_laid place (λ i. concat (content i)) xs) more
      ∙ ap₂ (λ (a b : List ℕ). overlay a (place N) b) (units_same place (λ i. concat (content i)) unit xs N (λ j l. ap concat (content_data j l) ∙ unit_is j)) rows
      ∙ sym (built_all (units_laid place unit xs N) (place N) unit N (omega (arith, ok.drives_least)))

  pub stripe_made : (budget rest : ℕ) (xs' ws' : List ℕ) → g.drives * g.unit < budget → rest ≡ budget - g.drives * g.unit
      → xs' ≡ stripe_laid g (data_zone z) (parity_drive g.drives z s) from ws buffer xs (g.drives - 1) → ws' ≡ units_passed g (data_zone z) (unit_drive g.drives (parity_drive g.drives z s)) ws g.drives
      → MadeAppends g budget rest (on_present present (data_stores g.drives g.unit z S (s * stripe_sectors g) (stripe_sectors g))) xs ws xs' ws'
  unfolding stores
  stripe_made budget rest xs' ws' enough left bytes pointers =
      record {
        made = λ ds. record {
          rest_is = left ∙ ap (λ (k : ℕ). budget - k) (sym long_is);
          tables_are =
              ap₂ (λ (a b : List ℕ). tables_of a b ds) (bytes ∙ sym laid_is) pointers
              ∙ sym (run_units g (data_zone z) drive g.drives xs ws f.fit content content_full content_long ds g.drives (omega arith))
              ∙ ap (λ (ss : List Store). run_stores g (length ss) ss (tables_of xs ws ds)) (sym stores_are)
              ∙ sym (run_covered g (budget - 1) stores (tables_of xs ws ds) (omega (arith, long_is)));
        };
      }
