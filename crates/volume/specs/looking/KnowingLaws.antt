-- That rule 4 on the tables (Knowing.antt) is rule 4 on the device: held sectors, and rows held as far as an end.
use Rattle.std.specs.Prelude.{◌≡◌, Bool, ◌&&◌, ◌||◌, ℕ, zero, suc, ◌+◌, ◌-◌, ◌*◌, ◌/◌, ◌%◌, ◌≤◌, ◌<◌, min, length}
use Rattle.std.proofs.Math.Path.{refl, ap}
use Rattle.std.proofs.Common.{sym, ap₂, ◌∙◌, true≢false, div-add-mod', mod-lt, mul-le-mul, arith}
use Rattle.std.proofs.Math.Bool.{true, false, not}
use Rattle.std.proofs.Math.Decide.{dec_lt}
use mathlib.Core.List.{List, []}
use Rattle.std.proofs.Math.ListN.{get_or}
use Rattle.std.proofs.Math.Dec.{ltb, leb, eqb}
use borrow.Author.Tests.{ltb-true, le-leb, lt-leb, leb-true}
use Rattle.tables.specs.declared.Geometry.{Geometry}
use Rattle.tables.specs.meaning.Basics.{pick}
use Rattle.tables.specs.laws.Basics.{and_split, not_not}
use Rattle.tables.specs.meaning.Below.{all_below}
use Rattle.tables.specs.laws.Below.{all_below_all, any_below_false, none_any_below, get_d_tabulate}
use Rattle.tables.specs.meaning.Geometry.{Valid, physical_zones, stripe_sectors, zone_sectors, data_zone}
use Rattle.tables.specs.laws.Sizes.{stripe_small, zone_small}
use Rattle.tables.specs.meaning.Placement.{drive_of, sector_of, unit_index, row_index, stripe_of}
use Rattle.tables.specs.laws.Placement.{drive_below, parity_drive_below, unit_drive_below, unit_row_lt, row_index_below, stripe_rest, address_sum}
use Rattle.tables.specs.meaning.Device.{Device, blank_zone}
use Rattle.tables.specs.meaning.Tables.{tables_of, device_of, zone_at_cell, cell, sector_at}
use Rattle.tables.specs.laws.Tables.{device_sectors, device_pointer}
use Rattle.logs.specs.meaning.Entry.{general_zone, parity_zone}
use Rattle.logs.specs.meaning.Walk.{walk_log}
use Rattle.logs.specs.code.WalkCode.{log_sectors}
use Rattle.logs.specs.code.Query.{heads_of}
use Rattle.volume.specs.meaning.Rules.{held_at, known, parity_of, row_drive, row_address, by_parity, general_heads, parity_entries, seal_limit_below, seal_limit, serving_entries, view_of, zone_view}
use Rattle.volume.specs.meaning.Refusals.{gone_in}
use Rattle.volume.specs.meaning.CallContracts.{is_set}
use Rattle.volume.specs.looking.Knowing.{read_device, Readable, held_on, own_held, all_held, least_failing, stripe_end, row_held, reach_of, row_complete}

-- ---- rules 4 and 5 do not look at durable pointers
pub sectors_alike : (g : Geometry) (xs ws ds : List ℕ) (d y : ℕ) → (device_of g (tables_of xs ws ds) d y).sectors ≡ (read_device g xs ws d y).sectors
unfolding device_of zone_at_cell
sectors_alike g xs ws ds d y = go (ltb d g.drives && ltb y (physical_zones g))
  where
    go : (b : Bool) → (pick b (zone_at_cell g (tables_of xs ws ds) (cell g d y)) blank_zone).sectors ≡ (pick b (zone_at_cell g (tables_of xs ws []) (cell g d y)) blank_zone).sectors
    go true = refl
    go false = refl

heads_alike : (g : Geometry) (xs ws ds : List ℕ) (d : ℕ) → general_heads g (device_of g (tables_of xs ws ds)) d ≡ general_heads g (read_device g xs ws) d
unfolding general_heads
heads_alike g xs ws ds d = ap (λ (ss : List (List ℕ)). heads_of (walk_log g d false ss)) (sectors_alike g xs ws ds d general_zone)

entries_alike : (g : Geometry) (xs ws ds : List ℕ) (d : ℕ) → parity_entries g (device_of g (tables_of xs ws ds)) d ≡ parity_entries g (read_device g xs ws) d
unfolding parity_entries
entries_alike g xs ws ds d = ap (λ (ss : List (List ℕ)). (walk_log g d true ss).entries) (sectors_alike g xs ws ds d parity_zone)

limit_below_durable : (g : Geometry) (present : ℕ → Bool) (xs ws ds : List ℕ) (z n d : ℕ) → seal_limit_below g present (device_of g (tables_of xs ws ds)) z n d ≡ seal_limit_below g present (read_device g xs ws) z n d
limit_below_durable g present xs ws ds z n zero = refl
limit_below_durable g present xs ws ds z n (suc d) = rw (limit_below_durable g present xs ws ds z n d, heads_alike g xs ws ds d) refl

pub limit_durable : (g : Geometry) (present : ℕ → Bool) (xs ws ds : List ℕ) (z n : ℕ) → seal_limit g present (device_of g (tables_of xs ws ds)) z n ≡ seal_limit g present (read_device g xs ws) z n
unfolding seal_limit
limit_durable g present xs ws ds z n = limit_below_durable g present xs ws ds z n g.drives

pub view_durable : (g : Geometry) (present : ℕ → Bool) (xs ws ds : List ℕ) (z n : ℕ) → zone_view g present (device_of g (tables_of xs ws ds)) z n ≡ zone_view g present (read_device g xs ws) z n
unfolding zone_view view_of
view_durable g present xs ws ds z n i = record {
  present = present;
  written = λ d. length (sectors_alike g xs ws ds d (data_zone z) i);
  sector_at = λ d x. get_or (sectors_alike g xs ws ds d (data_zone z) i) x [];
  entries = λ d. serving_entries g z n (limit_durable g present xs ws ds z n i) (entries_alike g xs ws ds d i);
}

-- ---- Booleans
pub all_below_cong : (p q : ℕ → Bool) (n : ℕ) → ((k : ℕ) → k < n → p k ≡ q k) → all_below p n ≡ all_below q n
all_below_cong p q zero h = refl
all_below_cong p q (suc n) h = ap₂ (λ (a b : Bool). a && b) (all_below_cong p q n (λ k l. h k (omega arith))) (h n (omega arith))

pub leb_min : (e a b : ℕ) → leb e (min a b) ≡ leb e a && leb e b
leb_min e a b = go (dec_lt a e) (dec_lt b e)
  where
    go : Dec (a < e) → Dec (b < e) → leb e (min a b) ≡ leb e a && leb e b
    go (yes p) q = rw (lt-leb e a p, lt-leb e (min a b) (omega arith)) refl
    go (no p) (yes q) = rw (lt-leb e b q, lt-leb e (min a b) (omega arith), le-leb e a (omega arith)) refl
    go (no p) (no q) = rw (le-leb e a (omega arith), le-leb e b (omega arith), le-leb e (min a b) (omega arith)) refl

-- ---- an end is at most the least that fails exactly if nothing below it fails
pub least_failing_lem : (ok : ℕ → Bool) (f : ℕ → ℕ) (m e n : ℕ) → leb e (least_failing ok f m n) ≡ leb e m && all_below (λ k. ok k || leb e (f k)) n
least_failing_lem ok f m e zero = and_true (leb e m)
  where
    and_true : (a : Bool) → a ≡ a && true
    and_true true = refl
    and_true false = refl
least_failing_lem ok f m e (suc n) = go (ok n) (least_failing_lem ok f m e n)
  where
    shift : (a b c : Bool) → a && b && c ≡ a && (b && c)
    shift true b c = refl
    shift false b c = refl

    go : (b : Bool) → leb e (least_failing ok f m n) ≡ leb e m && all_below (λ k. ok k || leb e (f k)) n
        → leb e (pick b (least_failing ok f m n) (min (least_failing ok f m n) (f n))) ≡ leb e m && (all_below (λ k. ok k || leb e (f k)) n && (b || leb e (f n)))
    go true ih = ih ∙ last (leb e m) (all_below (λ k. ok k || leb e (f k)) n)
      where
        last : (a b : Bool) → a && b ≡ a && (b && true)
        last true true = refl
        last true false = refl
        last false b = refl
    go false ih = leb_min e (least_failing ok f m n) (f n) ∙ ap (λ (c : Bool). c && leb e (f n)) ih ∙ shift (leb e m) (all_below (λ k. ok k || leb e (f k)) n) (leb e (f n))

-- ---- numbers of a row
pub stripe_end_small : (g : Geometry) (a : ℕ) → Valid g → a < zone_sectors g → (stripe_of g.drives g.unit a * stripe_sectors g ≤ a) × (a < stripe_end g a) × (stripe_end g a ≤ 458864)
unfolding stripe_end
stripe_end_small g a ok h =
    let k = stripe_small g ok in
    let q = stripe_rest g.drives g.unit a in
    let r : a % stripe_sectors g < stripe_sectors g = mod-lt a k.0 in
    (omega (arith, q), omega (arith, q, r), omega (arith, q, k.1, (zone_small g ok).1))

pub stripe_end_is : (g : Geometry) (a : ℕ) → stripe_end g a ≡ stripe_of g.drives g.unit a * stripe_sectors g + stripe_sectors g
unfolding stripe_end
stripe_end_is g a = refl

pub row_address_below : (g : Geometry) (a k : ℕ) → Valid g → k < g.drives - 1 → row_address g.drives g.unit a k < stripe_end g a
unfolding stripe_end
row_address_below g a k ok h =
    let l = unit_row_lt g.drives g.unit zero (omega (arith, ok.drives_least)) ok.unit_least k (row_index g.drives g.unit a) (omega arith) (row_index_below g.drives g.unit zero (omega (arith, ok.drives_least)) ok.unit_least a) in
    omega (arith, l, address_sum g.drives g.unit (stripe_of g.drives g.unit a) k (row_index g.drives g.unit a))

-- the numbers of which the code makes a row's addresses (n: the stripe's sectors)
pub row_small : (g : Geometry) (a k n : ℕ) → Valid g → a < zone_sectors g → k < g.drives → (a / n * n ≤ 458752) × (k * g.unit ≤ 112) × (a % n % g.unit ≤ 16)
row_small g a k n ok h l =
    let m : k * g.unit ≤ 7 * 16 = mul-le-mul {n₂ = 7} {m₂ = 16} (omega (arith, ok.drives_most)) ok.unit_most in
    (omega (arith, div-add-mod' a n, (zone_small g ok).1), omega arith, omega (arith, mod-lt (a % n) ok.unit_least, ok.unit_most))

-- ---- the drives of a row
pub parity_in : (g : Geometry) (z a : ℕ) → Valid g → parity_of g.drives g.unit z a < g.drives
parity_in g z a ok = parity_drive_below g.drives g.unit z (omega (arith, ok.drives_least)) ok.unit_least (stripe_of g.drives g.unit a)

pub row_drive_in : (g : Geometry) (z a k : ℕ) → Valid g → row_drive g.drives g.unit z a k < g.drives
row_drive_in g z a k ok = unit_drive_below g.drives (parity_of g.drives g.unit z a) (parity_in g z a ok) k

module _ (g : Geometry) (here : List Bool) (xs ws : List ℕ) (z : ℕ) (r : Readable g here xs ws z) where
  -- ---- the zones of present drives
  pub sectors_are : (d y : ℕ) → d < g.drives → is_set here d ≡ true → y < physical_zones g → (read_device g xs ws d y).sectors ≡ log_sectors g d y xs (get_or ws (cell g d y) 0)
  sectors_are d y hd h hy = device_sectors g (tables_of xs ws []) d y hd hy (r.pointers d y hd h hy)

  pub written_is : (d y : ℕ) → d < g.drives → is_set here d ≡ true → y < physical_zones g → length (read_device g xs ws d y).sectors ≡ get_or ws (cell g d y) 0
  written_is d y hd h hy = device_pointer g (tables_of xs ws []) d y hd hy (r.pointers d y hd h hy)

  -- their general logs
  pub heads_are : (d : ℕ) → d < g.drives → is_set here d ≡ true → general_heads g (read_device g xs ws) d ≡ heads_of (walk_log g d false (log_sectors g d general_zone xs (get_or ws (cell g d general_zone) 0)))
  unfolding general_heads
  heads_are d hd h = ap (λ (ss : List (List ℕ)). heads_of (walk_log g d false ss)) (sectors_are d general_zone hd h (omega arith))

  pub entries_are : (d : ℕ) → d < g.drives → is_set here d ≡ true → parity_entries g (read_device g xs ws) d ≡ (walk_log g d true (log_sectors g d parity_zone xs (get_or ws (cell g d parity_zone) 0))).entries
  unfolding parity_entries
  entries_are d hd h = ap (λ (ss : List (List ℕ)). (walk_log g d true ss).entries) (sectors_are d parity_zone hd h (omega arith))

  -- ---- held sectors
  pub held_is : (n d x : ℕ) → d < g.drives → held_at (zone_view g (is_set here) (read_device g xs ws) z n) d x ≡ held_on g here ws z d x
  unfolding zone_view view_of
  held_is n d x hd = go (is_set here d) refl
    where
      go : (b : Bool) → is_set here d ≡ b → b && ltb x (length (read_device g xs ws d (data_zone z)).sectors) ≡ b && ltb x (get_or ws (cell g d (data_zone z)) 0)
      go true e = ap (λ (n : ℕ). ltb x n) (written_is d (data_zone z) hd e (omega (arith, r.zone_in_lem)))
      go false e = refl

  pub held_sector : (n d x : ℕ) → d < g.drives → held_on g here ws z d x ≡ true → (zone_view g (is_set here) (read_device g xs ws) z n).sector_at d x ≡ sector_at g xs d (data_zone z) x
  unfolding zone_view view_of
  held_sector n d x hd h =
      let (p, q) = and_split (is_set here d) (ltb x (get_or ws (cell g d (data_zone z)) 0)) h in
      ap (λ (ss : List (List ℕ)). get_or ss x []) (sectors_are d (data_zone z) hd p (omega (arith, r.zone_in_lem)))
      ∙ get_d_tabulate (λ i. sector_at g xs d (data_zone z) i) (get_or ws (cell g d (data_zone z)) 0) x [] (ltb-true x (get_or ws (cell g d (data_zone z)) 0) q)

  -- what is held is known: no sector of a run that is held is gone
  pub held_known : (n a : ℕ) → Valid g → own_held g here ws z a ≡ true → known g.drives g.unit z (zone_view g (is_set here) (read_device g xs ws) z n) a ≡ true
  held_known n a ok h = rw (held_is n (drive_of g.drives g.unit z a) (sector_of g.drives g.unit a) (drive_below g.drives g.unit z (omega (arith, ok.drives_least)) ok.unit_least a) ∙ h) refl

  pub held_none_gone : (n offset count : ℕ) → Valid g → all_held g here ws z offset count ≡ true → gone_in g (is_set here) (read_device g xs ws) z n offset count ≡ false
  unfolding gone_in
  held_none_gone n offset count ok h =
      none_any_below (λ i. not (known g.drives g.unit z (zone_view g (is_set here) (read_device g xs ws) z n) (offset + i))) count
      (λ i l. ap not (held_known n (offset + i) ok (all_below_all (λ i. own_held g here ws z (offset + i)) count i h l)))

  -- ---- rows
  module _ (ok : Valid g) (n a : ℕ) where
    turn : (p q s : Bool) → p || s || q ≡ p || (q || s)
    turn true q s = refl
    turn false true true = refl
    turn false true false = refl
    turn false false true = refl
    turn false false false = refl

    -- the row's other sectors below an end are held exactly if the end is at most its reach
    pub reach_is : (e : ℕ) → e ≤ stripe_end g a → leb e (reach_of g here ws z a)
        ≡ all_below (λ k. eqb k (unit_index g.drives g.unit a) || (leb e (row_address g.drives g.unit a k) || held_at (zone_view g (is_set here) (read_device g xs ws) z n) (row_drive g.drives g.unit z a k) (sector_of g.drives g.unit a))) (g.drives - 1)
    unfolding reach_of
    reach_is e h =
        least_failing_lem (row_held g here ws z a) (row_address g.drives g.unit a) (stripe_end g a) e (g.drives - 1)
        ∙ ap (λ (b : Bool). b && all_below (λ k. row_held g here ws z a k || leb e (row_address g.drives g.unit a k)) (g.drives - 1)) (le-leb e (stripe_end g a) h)
        ∙ all_below_cong (λ k. row_held g here ws z a k || leb e (row_address g.drives g.unit a k)) (λ k. eqb k (unit_index g.drives g.unit a) || (leb e (row_address g.drives g.unit a k) || held_at (zone_view g (is_set here) (read_device g xs ws) z n) (row_drive g.drives g.unit z a k) (sector_of g.drives g.unit a))) (g.drives - 1)
        (λ k l. turn (eqb k (unit_index g.drives g.unit a)) (leb e (row_address g.drives g.unit a k)) (held_on g here ws z (row_drive g.drives g.unit z a k) (sector_of g.drives g.unit a))
        ∙ ap (λ (b : Bool). eqb k (unit_index g.drives g.unit a) || (leb e (row_address g.drives g.unit a k) || b)) (sym (held_is n (row_drive g.drives g.unit z a k) (sector_of g.drives g.unit a) (row_drive_in g z a k ok))))

    pub reach_most : (e : ℕ) → leb e (reach_of g here ws z a) ≡ true → e ≤ stripe_end g a
    unfolding reach_of
    reach_most e h =
        leb-true e (stripe_end g a) (and_split (leb e (stripe_end g a)) (all_below (λ k. row_held g here ws z a k || leb e (row_address g.drives g.unit a k)) (g.drives - 1))
        (sym (least_failing_lem (row_held g here ws z a) (row_address g.drives g.unit a) (stripe_end g a) e (g.drives - 1)) ∙ h)).0

    -- below its reach another sector of the row is held
    pub reach_held : (e k : ℕ) → e ≤ stripe_end g a → leb e (reach_of g here ws z a) ≡ true → k < g.drives - 1 → eqb k (unit_index g.drives g.unit a) ≡ false
        → row_address g.drives g.unit a k < e → held_on g here ws z (row_drive g.drives g.unit z a k) (sector_of g.drives g.unit a) ≡ true
    reach_held e k h l hk ne below =
        let x = sector_of g.drives g.unit a in
        let d = row_drive g.drives g.unit z a k in
        let p = all_below_all (λ k. eqb k (unit_index g.drives g.unit a) || (leb e (row_address g.drives g.unit a k) || held_at (zone_view g (is_set here) (read_device g xs ws) z n) (row_drive g.drives g.unit z a k) (sector_of g.drives g.unit a))) (g.drives - 1) k (sym (reach_is e h) ∙ l) hk in
        sym (held_is n d x (row_drive_in g z a k ok)) ∙ only (eqb k (unit_index g.drives g.unit a)) (leb e (row_address g.drives g.unit a k)) (held_at (zone_view g (is_set here) (read_device g xs ws) z n) d x) ne (lt-leb e (row_address g.drives g.unit a k) below) p
      where
        only : (p q s : Bool) → p ≡ false → q ≡ false → p || (q || s) ≡ true → s ≡ true
        only true q s e f h = absurd (true≢false e)
        only false true s e f h = absurd (true≢false f)
        only false false s e f h = h

    -- the row's parity with all its other data: its reach is the stripe's end
    pub by_parity_is : by_parity g.drives g.unit z (zone_view g (is_set here) (read_device g xs ws) z n) a
        ≡ row_complete g here ws z a
    by_parity_is =
        ap₂ (λ (p q : Bool). p && q) (held_is n (parity_of g.drives g.unit z a) (sector_of g.drives g.unit a) (parity_in g z a ok))
        (all_below_cong (λ k. eqb k (unit_index g.drives g.unit a) || held_at (zone_view g (is_set here) (read_device g xs ws) z n) (row_drive g.drives g.unit z a k) (sector_of g.drives g.unit a))
        (λ k. eqb k (unit_index g.drives g.unit a) || (leb (stripe_end g a) (row_address g.drives g.unit a k) || held_at (zone_view g (is_set here) (read_device g xs ws) z n) (row_drive g.drives g.unit z a k) (sector_of g.drives g.unit a))) (g.drives - 1)
        (λ k l. ap (λ (b : Bool). eqb k (unit_index g.drives g.unit a) || (b || held_at (zone_view g (is_set here) (read_device g xs ws) z n) (row_drive g.drives g.unit z a k) (sector_of g.drives g.unit a))) (sym (lt-leb (stripe_end g a) (row_address g.drives g.unit a k) (row_address_below g a k ok l))))
        ∙ sym (reach_is (stripe_end g a) (omega arith)))

-- a sector of a run of which none is gone is known
pub known_in : (g : Geometry) (present : ℕ → Bool) (v : Device) (z n start count i : ℕ) → gone_in g present v z n start count ≡ false → i < count → known g.drives g.unit z (zone_view g present v z n) (start + i) ≡ true
unfolding gone_in
known_in g present v z n start count i h l = not_not (known g.drives g.unit z (zone_view g present v z n) (start + i)) (any_below_false (λ (j : ℕ). not (known g.drives g.unit z (zone_view g present v z n) (start + j))) count i h l)
