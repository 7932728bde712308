-- What stores leave alone, on the flat tables: the memory of every other drive, bytes past its pointers included. So an absent drive's memory
-- is never changed (`run_frame`). And what passing refusals 2 and 3 gives.
use Rattle.std.specs.Prelude.{◌≡◌, refl, ◌≢◌, Bool, true, false, ◌&&◌, ℕ, zero, suc, ◌+◌, ◌*◌, ◌≤◌, ◌<◌, List, [], ◌∷◌, length, get_or, set, ltb, eqb}
use Rattle.std.proofs.Common.{sym, ◌∙◌, true≢false, mul-le-mul_right, arith, get_or-set_other, ltb-true, ltb-false, eq-eqb, eqb-true}
use Rattle.std.proofs.Math.Decide.{dec_lt}
use Rattle.std.proofs.Math.Arith.{digits_lt}
use Rattle.tables.specs.declared.Geometry.{Geometry}
use Rattle.tables.specs.meaning.Basics.{pick}
use Rattle.tables.specs.laws.Basics.{and_split, or_none}
use Rattle.tables.specs.laws.Below.{any_below_false}
use Rattle.tables.specs.laws.Lists.{overlay_below, overlay_above}
use Rattle.tables.specs.meaning.Geometry.{physical_zones, cells, total_bytes}
use Rattle.tables.specs.meaning.Device.{Store, append, reset, flush, store_drive}
use Rattle.tables.specs.meaning.Tables.{has_room, Tables, tables_of, zone_place, cell, byte_at, sectors_after_append, written_after_append, pointers_after_reset, make_store, run_stores, lengths_fit, pointer_bad, pointers_bad}
use Rattle.tables.specs.laws.Made.{Placed, AllPlaced, WellSized}
use Rattle.tables.specs.laws.ZonePlaces.{place_in}
use Rattle.tables.specs.laws.Tables.{sector_in, cell_injective}
use Rattle.tables.specs.laws.TablesRefine.{flush_other, store_sized}
use Rattle.tables.specs.laws.StoresFit.{AllOn}

-- the bytes of one drive
abbrev pub drive_bytes : Geometry → ℕ
drive_bytes g = physical_zones g * g.capacity * g.sector

-- drive e's memory is the same in both
pub record SameDrive (g : Geometry) (e : ℕ) (t u : Tables) : Type 0 where
  pub sectors_same : (i : ℕ) → e * drive_bytes g ≤ i → i < suc e * drive_bytes g → get_or u.sectors i 0 ≡ get_or t.sectors i 0
  pub written_same : (z : ℕ) → z < physical_zones g → get_or u.written (cell g e z) 0 ≡ get_or t.written (cell g e z) 0
  pub durable_same : (z : ℕ) → z < physical_zones g → get_or u.durable (cell g e z) 0 ≡ get_or t.durable (cell g e z) 0

pub same_drive_refl : (g : Geometry) (e : ℕ) (t : Tables) → SameDrive g e t t
same_drive_refl g e t = record { sectors_same = λ i h k. refl; written_same = λ z h. refl; durable_same = λ z h. refl }

pub same_drive_trans : (g : Geometry) (e : ℕ) (t u v : Tables) → SameDrive g e t u → SameDrive g e u v → SameDrive g e t v
same_drive_trans g e t u v p q = record {
  sectors_same = λ i h k. q.sectors_same i h k ∙ p.sectors_same i h k;
  written_same = λ z h. q.written_same z h ∙ p.written_same z h;
  durable_same = λ z h. q.durable_same z h ∙ p.durable_same z h;
}

-- a sector's bytes lie within its drive's
pub sector_within : (g : Geometry) (d z n : ℕ) → z < physical_zones g → n < g.capacity → byte_at g d z n + g.sector ≤ suc d * drive_bytes g
sector_within g d z n h k =
    let below : zone_place g d z * g.capacity + n < physical_zones g * g.capacity = digits_lt (place_in g d z h) k in
    omega (arith, mul-le-mul_right g.sector below)

-- a cell set at drive d is none of drive e's
other_cell : (g : Geometry) (d z e : ℕ) (ps : List ℕ) (x : ℕ) → z < physical_zones g → e ≢ d → (y : ℕ) → y < physical_zones g → get_or (set ps (cell g d z) x) (cell g e y) 0 ≡ get_or ps (cell g e y) 0
other_cell g d z e ps x hz ne y hy = get_or-set_other ps (cell g d z) (cell g e y) x 0 (λ q. ne (cell_injective g d z e y hz hy q).0)

-- ---- a store leaves every other drive's memory alone
append_frame : (g : Geometry) (t : Tables) (d z e : ℕ) (s : List ℕ) (b : Bool) → has_room g d z t.written ≡ b → WellSized g t → d < g.drives → z < physical_zones g → length s ≡ g.sector → e ≢ d
    → SameDrive g e t (pick b (record { sectors = sectors_after_append g d z s t.sectors t.written; written = written_after_append g d z t.written; durable = t.durable }) t)
unfolding sectors_after_append written_after_append
append_frame g t d z e s false q w hd hz hs ne = same_drive_refl g e t
append_frame g t d z e s true q w hd hz hs ne = record {
  sectors_same = λ i h k. go i h k (dec_lt e d);
  written_same = other_cell g d z e t.written (get_or t.written (cell g d z) 0 + 1) hz ne;
  durable_same = λ y h. refl;
}
  where
    n : ℕ
    n = get_or t.written (cell g d z) 0

    room : get_or t.written (cell g d z) 0 < g.capacity
    room = ltb-true (get_or t.written (cell g d z) 0) g.capacity q

    fit : byte_at g d z (get_or t.written (cell g d z) 0) + length s ≤ length t.sectors
    fit = omega (arith, w.sectors_long, hs, sector_in g d z (get_or t.written (cell g d z) 0) hd hz room)

    go : (i : ℕ) → e * drive_bytes g ≤ i → i < suc e * drive_bytes g → Dec (e < d) → get_or (sectors_after_append g d z s t.sectors t.written) i 0 ≡ get_or t.sectors i 0
    go i h k (yes l) = overlay_below t.sectors (byte_at g d z n) s i fit (omega (arith, mul-le-mul_right (drive_bytes g) l))
    go i h k (no l) =
        let m : d < e = omega arith in
        overlay_above t.sectors (byte_at g d z n) s i fit (omega (arith, hs, sector_within g d z n hz room, mul-le-mul_right (drive_bytes g) m))

pub store_frame : (g : Geometry) (x : Store) (t : Tables) (e : ℕ) → WellSized g t → Placed g x → e ≢ store_drive x → SameDrive g e t (make_store g x t)
unfolding pointers_after_reset
store_frame g (append d z s) t e w p ne = append_frame g t d z e s (has_room g d z t.written) refl w p.0 p.1 p.2 ne
store_frame g (reset d z) t e w p ne = record {
  sectors_same = λ i h k. refl;
  written_same = other_cell g d z e t.written 0 p.1 ne;
  durable_same = other_cell g d z e t.durable 0 p.1 ne;
}
store_frame g (flush d) t e w p ne = record { sectors_same = λ i h k. refl; written_same = λ y h. refl; durable_same = λ y h. flush_other g t w d p e y h ne }

-- ---- so any number of stores on present drives leaves an absent drive's memory alone
pub run_frame : (g : Geometry) (present : ℕ → Bool) (k : ℕ) (xs : List Store) (t : Tables) (e : ℕ) → WellSized g t → AllPlaced g xs → AllOn present xs → present e ≡ false → SameDrive g e t (run_stores g k xs t)
run_frame g present k [] t e w p a h = same_drive_refl g e t
run_frame g present zero (x ∷ xs) t e w p a h = same_drive_refl g e t
run_frame g present (suc k) (x ∷ xs) t e w p a h =
    let u = make_store g x t in
    same_drive_trans g e t u (run_stores g k xs u) (store_frame g x t e w p.0 (λ q. true≢false (sym a.0 ∙ rw (← q) h))) (run_frame g present k xs u e (store_sized g x t w p.0) p.1 a.1 h)

-- ---- what passing refusal 2 gives, and what gives it
pub lengths_are : (g : Geometry) (sectors written durable : ℕ) → lengths_fit g sectors written durable ≡ true → (sectors ≡ total_bytes g) × (written ≡ cells g) × (durable ≡ cells g)
unfolding lengths_fit
lengths_are g a b c h =
    let (p, q) = and_split (eqb a (total_bytes g)) (eqb b (cells g) && eqb c (cells g)) h in
    let (r, s) = and_split (eqb b (cells g)) (eqb c (cells g)) q in
    (eqb-true a (total_bytes g) p, eqb-true b (cells g) r, eqb-true c (cells g) s)

pub lengths_sized : (g : Geometry) (xs ws ds : List ℕ) → lengths_fit g (length xs) (length ws) (length ds) ≡ true → WellSized g (tables_of xs ws ds)
lengths_sized g xs ws ds h = let (a, b, c) = lengths_are g (length xs) (length ws) (length ds) h in record { sectors_long = a; written_long = b; durable_long = c }

pub sized_lengths : (g : Geometry) (t : Tables) → WellSized g t → lengths_fit g (length t.sectors) (length t.written) (length t.durable) ≡ true
unfolding lengths_fit
sized_lengths g t w = rw (eq-eqb (length t.sectors) (total_bytes g) w.sectors_long, eq-eqb (length t.written) (cells g) w.written_long, eq-eqb (length t.durable) (cells g) w.durable_long) refl

-- ---- what passing refusal 3 gives: on every named drive durable ≤ written ≤ C
pub pointers_good : (g : Geometry) (named : List Bool) (ws ds : List ℕ) (d z : ℕ) → pointers_bad g named ws ds ≡ false → d < g.drives → get_or named d false ≡ true → z < physical_zones g
    → (get_or ws (cell g d z) 0 ≤ g.capacity) × (get_or ds (cell g d z) 0 ≤ get_or ws (cell g d z) 0)
unfolding pointers_bad
pointers_good g named ws ds d z h hd here hz =
    let w = get_or ws (cell g d z) 0 in
    let k = get_or ds (cell g d z) 0 in
    let a = any_below_false (λ d. get_or named d false && _) g.drives d h hd in
    let b = any_below_false (pointer_bad g ws ds d) (physical_zones g) z (rw here at a) hz in
    let (p, q) = or_none (ltb g.capacity w) (ltb w k) b in
    (ltb-false g.capacity w p, ltb-false w k q)
