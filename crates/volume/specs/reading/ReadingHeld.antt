-- Why a read needs no log but for the pointer's own stripe. A run that has passed refusals 4, 7 and 13 lies below the pointer of a zone whose
-- present drives have what that pointer needs. With all drives present each of its sectors is held. With one absent a sector of a stripe that is
-- complete below the pointer is held, or the parity of its row is in place with all other data: whatever the seals say.
use Rattle.std.specs.Prelude.{◌≡◌, ◌≢◌, Bool, ◌||◌, ℕ, ◌+◌, ◌-◌, ◌*◌, ◌≤◌, ◌<◌, List, [], length, get_or, ltb}
use Rattle.std.proofs.Math.Path.{refl, sym, ap, fun_ext}
use Rattle.std.proofs.Common.{ap₂, ◌∙◌, true≢false}
use Rattle.std.proofs.Math.Bool.{true, false, not}
use native.Mathlib.Omega.{arith}
use Rattle.std.proofs.Math.Dec.{leb, eqb}
use borrow.Author.Tests.{lt-ltb, le-ltb, ltb-false, le-leb, eqb-false}
use Rattle.tables.specs.declared.Geometry.{Geometry}
use Rattle.tables.specs.meaning.Basics.{pick}
use Rattle.tables.specs.laws.Basics.{and_join, or_left, or_right}
use Rattle.tables.specs.meaning.Below.{all_below, count_below}
use Rattle.tables.specs.laws.Below.{all_all_below, none_any_below, some_count_below, two_count_below, tabulate_from_cong}
use Rattle.tables.specs.meaning.Lists.{concat}
use Rattle.tables.specs.meaning.Xor.{xor_bytes}
use Rattle.tables.specs.meaning.Device.{Device}
use Rattle.tables.specs.meaning.Geometry.{Valid, stripe_sectors, zone_sectors, data_zone}
use Rattle.tables.specs.meaning.Placement.{needed, drive_of, sector_of, stripe_of, unit_index, row_index}
use Rattle.tables.specs.laws.Placement.{unit_injective, unit_index_below, row_index_below, drive_below, drive_not_parity, address_drive, address_sector, needed_iff, needed_parity, complete_lt, stripe_lt, sector_sum, drive_of_unit}
use Rattle.tables.specs.meaning.Tables.{cell}
use Rattle.volume.specs.declared.Zone.{Zone}
use Rattle.volume.specs.declared.knowing.Source.{Source}
use Rattle.volume.specs.declared.knowing.Source.TheVariants.{Unknown, Held, Row, Entry}
use Rattle.volume.specs.meaning.Rules.{ParityEntry, View, is_found, parity_of, row_drive, row_address, held_at, by_parity, entry_for, known, others_xor, from_entry, value_of, parity_entries, seal_limit, serving_entries, view_of, zone_view, value_at}
use Rattle.volume.specs.meaning.Refusals.{gone_in}
use Rattle.volume.specs.meaning.CallContracts.{is_set, values_on}
use Rattle.volume.specs.checks.ZoneChecks.{PointersReach, needs_log, second_fails}
use Rattle.volume.specs.looking.Knowing.{read_device, Readable, own_held, all_held, held_on, row_held, stripe_end, reach_of, row_complete, serving_place, source_of, has_source}
use Rattle.volume.specs.looking.KnowingLaws.{held_is, by_parity_is, least_failing_lem, parity_in, row_drive_in}
use Rattle.volume.specs.looking.KnowingEntries.{known_is}
use Rattle.volume.specs.looking.SeenByRoles.{data_seen}
use Rattle.volume.specs.reading.Reading.{read_by_roles, RunReady, RunRead}

-- a limit serves a run: it finds each sector by the way that the zone's least current seal finds
pub record LimitServes (g : Geometry) (here : List Bool) (xs ws : List ℕ) (z generation limit offset count : ℕ) : Type 0 where
  pub same_source : (i : ℕ) → i < count → source_of g here xs ws z generation limit (offset + i) ≡ source_of g here xs ws z generation (seal_limit g (is_set here) (read_device g xs ws) z generation) (offset + i)

-- address a is known without a log
abbrev pub directly : Geometry → List Bool → List ℕ → ℕ → ℕ → Bool
directly g here ws z a = own_held g here ws z a || row_complete g here ws z a

module _ (g : Geometry) (ok : Valid g) (here : List Bool) (ws : List ℕ) (z n : ℕ) (r : PointersReach g here ws z n) where
  two_drives : 1 < g.drives
  two_drives = omega (arith, ok.drives_least)

  needed_held : (d x : ℕ) → d < g.drives → is_set here d ≡ true → x < needed g.drives g.unit z n d → held_on g here ws z d x ≡ true
  needed_held d x hd h l = and_join (is_set here d) (ltb x (get_or ws (cell g d (data_zone z)) 0)) h (lt-ltb x (get_or ws (cell g d (data_zone z)) 0) (omega (arith, l, r.reaches d hd h)))

  -- ---- below the pointer
  data_held : (a : ℕ) → a < n → is_set here (drive_of g.drives g.unit z a) ≡ true → own_held g here ws z a ≡ true
  data_held a l h = needed_held (drive_of g.drives g.unit z a) (sector_of g.drives g.unit a) (drive_below g.drives g.unit z two_drives ok.unit_least a) h ((needed_iff g.drives g.unit z two_drives ok.unit_least n a).1 l)

  -- all drives present: nothing is rebuilt
  pub run_held : (offset count : ℕ) → count_below (λ d. not (is_set here d)) g.drives ≡ 0 → offset + count ≤ n → all_held g here ws z offset count ≡ true
  run_held offset count none l = all_all_below (λ i. own_held g here ws z (offset + i)) count (λ i h. data_held (offset + i) (omega (arith, l, h)) (present (drive_of g.drives g.unit z (offset + i)) (drive_below g.drives g.unit z two_drives ok.unit_least (offset + i))))
    where
      present : (d : ℕ) → d < g.drives → is_set here d ≡ true
      present d hd = go (is_set here d) refl
        where
          go : (b : Bool) → is_set here d ≡ b → b ≡ true
          go true e = refl
          go false e = absurd (omega (arith, none, some_count_below (λ d. not (is_set here d)) g.drives d hd (ap not e)))

  -- ---- in a complete stripe
  parity_held : (a : ℕ) → stripe_of g.drives g.unit a < stripe_of g.drives g.unit n → is_set here (parity_of g.drives g.unit z a) ≡ true → held_on g here ws z (parity_of g.drives g.unit z a) (sector_of g.drives g.unit a) ≡ true
  parity_held a l h =
      needed_held (parity_of g.drives g.unit z a) (sector_of g.drives g.unit a) (parity_in g z a ok) h
      (rw (sector_sum g.drives g.unit a) ((needed_parity g.drives g.unit z two_drives ok.unit_least n (stripe_of g.drives g.unit a) (row_index g.drives g.unit a) (row_index_below g.drives g.unit z two_drives ok.unit_least a)).1 l))

  unit_held : (a k : ℕ) → k + 1 < g.drives → stripe_of g.drives g.unit a < stripe_of g.drives g.unit n → is_set here (row_drive g.drives g.unit z a k) ≡ true → held_on g here ws z (row_drive g.drives g.unit z a k) (sector_of g.drives g.unit a) ≡ true
  unit_held a k hk l h =
      let s = stripe_of g.drives g.unit a in
      let i = row_index g.drives g.unit a in
      let hi = row_index_below g.drives g.unit z two_drives ok.unit_least a in
      let m = (needed_iff g.drives g.unit z two_drives ok.unit_least n (row_address g.drives g.unit a k)).1 (complete_lt g.drives g.unit z two_drives ok.unit_least n s k i l hk hi) in
      needed_held (row_drive g.drives g.unit z a k) (sector_of g.drives g.unit a) (row_drive_in g z a k ok) h
      (rw (address_drive g.drives g.unit z two_drives ok.unit_least s k i hk hi, address_sector g.drives g.unit z two_drives ok.unit_least s k i hk hi, ← sector_sum g.drives g.unit a) at m)

  -- one drive is absent: all others are present
  others_present : (d e : ℕ) → d < g.drives → e < g.drives → d ≢ e → is_set here d ≡ false → is_set here e ≡ true
  others_present d e hd he ne h = go (is_set here e) refl
    where
      go : (b : Bool) → is_set here e ≡ b → b ≡ true
      go true q = refl
      go false q = absurd (omega (arith, r.one_absent, two_count_below (λ d. not (is_set here d)) g.drives d e hd he ne (ap not h) (ap not q)))

  complete_row : (a : ℕ) → stripe_of g.drives g.unit a < stripe_of g.drives g.unit n → is_set here (drive_of g.drives g.unit z a) ≡ false → row_complete g here ws z a ≡ true
  unfolding reach_of
  complete_row a l h =
      let d = drive_of g.drives g.unit z a in
      let hd = drive_below g.drives g.unit z two_drives ok.unit_least a in
      and_join (held_on g here ws z (parity_of g.drives g.unit z a) (sector_of g.drives g.unit a)) (leb (stripe_end g a) (reach_of g here ws z a))
      (parity_held a l (others_present d (parity_of g.drives g.unit z a) hd (parity_in g z a ok) (drive_not_parity g.drives g.unit z two_drives ok.unit_least a) h))
      (least_failing_lem (row_held g here ws z a) (row_address g.drives g.unit a) (stripe_end g a) (stripe_end g a) (g.drives - 1)
      ∙ and_join (leb (stripe_end g a) (stripe_end g a)) (all_below (λ k. row_held g here ws z a k || leb (stripe_end g a) (row_address g.drives g.unit a k)) (g.drives - 1)) (le-leb (stripe_end g a) (stripe_end g a) (omega arith))
      (all_all_below (λ k. row_held g here ws z a k || leb (stripe_end g a) (row_address g.drives g.unit a k)) (g.drives - 1) (λ k m. or_left (row_held g here ws z a k) (leb (stripe_end g a) (row_address g.drives g.unit a k)) (at k m (eqb k (unit_index g.drives g.unit a)) refl))))
    where
      at : (k : ℕ) → k < g.drives - 1 → (b : Bool) → eqb k (unit_index g.drives g.unit a) ≡ b → b || held_on g here ws z (row_drive g.drives g.unit z a k) (sector_of g.drives g.unit a) ≡ true
      at k m true e = refl
      at k m false e =
          let hk : k + 1 < g.drives = omega arith in
          let ne : drive_of g.drives g.unit z a ≢ row_drive g.drives g.unit z a k =
          λ q. eqb-false k (unit_index g.drives g.unit a) e (unit_injective g.drives (parity_of g.drives g.unit z a) (parity_in g z a ok) k (unit_index g.drives g.unit a) (omega arith) (omega (arith, unit_index_below g.drives g.unit z two_drives ok.unit_least a)) (sym q ∙ drive_of_unit g.drives g.unit z a)) in
          unit_held a k hk l (others_present (drive_of g.drives g.unit z a) (row_drive g.drives g.unit z a k) (drive_below g.drives g.unit z two_drives ok.unit_least a) (row_drive_in g z a k ok) ne h)

  -- ---- WHERE NO LOG IS NEEDED
  pub known_directly : (end a : ℕ) → end ≤ n → needs_log g here n end ≡ false → a < end → directly g here ws z a ≡ true
  unfolding needs_log
  known_directly end a le none l = go (is_set here (drive_of g.drives g.unit z a)) refl
    where
      go : (b : Bool) → is_set here (drive_of g.drives g.unit z a) ≡ b → directly g here ws z a ≡ true
      go true e = or_left (own_held g here ws z a) (row_complete g here ws z a) (data_held a (omega (arith, l, le)) e)
      go false e =
          let c = some_count_below (λ d. not (is_set here d)) g.drives (drive_of g.drives g.unit z a) (drive_below g.drives g.unit z two_drives ok.unit_least a) (ap not e) in
          let p = ltb-false (stripe_of g.drives g.unit n * stripe_sectors g) end (second_fails (ltb 0 (count_below (λ d. not (is_set here d)) g.drives)) (ltb (stripe_of g.drives g.unit n * stripe_sectors g) end) (lt-ltb 0 (count_below (λ d. not (is_set here d)) g.drives) (omega (arith, c))) none) in
          let m : a < stripe_of g.drives g.unit n * stripe_sectors g = omega (arith, p, l) in
          or_right (own_held g here ws z a) (row_complete g here ws z a) (complete_row a ((stripe_lt g.drives g.unit z two_drives ok.unit_least (stripe_of g.drives g.unit n) a).0 m) e)

-- what is known without a log is found by the same way under every limit
pub direct_way : (g : Geometry) (here : List Bool) (xs ws : List ℕ) (z generation a limit other : ℕ) → directly g here ws z a ≡ true → source_of g here xs ws z generation limit a ≡ source_of g here xs ws z generation other a
unfolding source_of
direct_way g here xs ws z generation a limit other h = go (own_held g here ws z a) (row_complete g here ws z a) h (by_entry limit) (by_entry other)
  where
    by_entry : ℕ → Source
    by_entry l = pick (eqb (serving_place g here xs ws z generation l a) 0) Unknown (Entry (serving_place g here xs ws z generation l a))

    go : (b c : Bool) → b || c ≡ true → (v w : Source) → pick b Held (pick c Row v) ≡ pick b Held (pick c Row w)
    go true c k v w = refl
    go false true k v w = refl
    go false false k v w = absurd (true≢false (sym k))

pub direct_has_source : (g : Geometry) (here : List Bool) (xs ws : List ℕ) (z generation a limit : ℕ) → directly g here ws z a ≡ true → has_source (source_of g here xs ws z generation limit a) ≡ true
unfolding source_of
direct_has_source g here xs ws z generation a limit h =
    go (own_held g here ws z a) (row_complete g here ws z a) h (pick (eqb (serving_place g here xs ws z generation limit a) 0) Unknown (Entry (serving_place g here xs ws z generation limit a)))
  where
    go : (b c : Bool) → b || c ≡ true → (v : Source) → has_source (pick b Held (pick c Row v)) ≡ true
    go true c k v = refl
    go false true k v = refl
    go false false k v = absurd (true≢false (sym k))

-- ---- such a sector is known, and its value the same, on every device with these data zones: no log has a say
module _ (D U z a : ℕ) (present : ℕ → Bool) where
  -- a view of data zones and entries
  abbrev view_with : (ℕ → List (List ℕ)) → (ℕ → List ParityEntry) → View
  view_with zones logs = record { present = present; written = λ d. length (zones d); sector_at = λ d x. get_or (zones d) x []; entries = logs }

  abbrev direct : View → Bool
  direct v = held_at v (drive_of D U z a) (sector_of D U a) || by_parity D U z v a

  any_entries : (zones : ℕ → List (List ℕ)) (logs others : ℕ → List ParityEntry) → direct (view_with zones logs) ≡ true
      → (known D U z (view_with zones others) a ≡ true) × (value_of D U z (view_with zones logs) a ≡ value_of D U z (view_with zones others) a)
  any_entries zones logs others h = go (held_at (view_with zones logs) (drive_of D U z a) (sector_of D U a)) (by_parity D U z (view_with zones logs) a) h
    where
      go : (b c : Bool) → b || c ≡ true
          → (b || (c || is_found (entry_for D U z (view_with zones others) a)) ≡ true)
          × (pick b (get_or (zones (drive_of D U z a)) (sector_of D U a) []) (pick c (xor_bytes (others_xor D U z (view_with zones logs) a) (get_or (zones (parity_of D U z a)) (sector_of D U a) [])) (from_entry D U z (view_with zones logs) a (entry_for D U z (view_with zones logs) a)))
          ≡ pick b (get_or (zones (drive_of D U z a)) (sector_of D U a) []) (pick c (xor_bytes (others_xor D U z (view_with zones logs) a) (get_or (zones (parity_of D U z a)) (sector_of D U a) [])) (from_entry D U z (view_with zones others) a (entry_for D U z (view_with zones others) a))))
      go true c k = (refl, refl)
      go false true k = (refl, refl)
      go false false k = absurd (true≢false (sym k))

  same_data : (zones zones' : ℕ → List (List ℕ)) (logs others : ℕ → List ParityEntry) → zones ≡ zones' → direct (view_with zones logs) ≡ true
      → (known D U z (view_with zones' others) a ≡ true) × (value_of D U z (view_with zones logs) a ≡ value_of D U z (view_with zones' others) a)
  same_data zones zones' logs others e h =
      let (p, q) = any_entries zones' logs others (ap (λ (y : ℕ → List (List ℕ)). direct (view_with y logs)) (sym e) ∙ h) in
      (p, ap (λ (y : ℕ → List (List ℕ)). value_of D U z (view_with y logs) a) e ∙ q)

module _ (g : Geometry) (ok : Valid g) (here : List Bool) (xs ws : List ℕ) (z : ℕ) (readable : Readable g here xs ws z) (w : Device) (same : (d : ℕ) → (w d (data_zone z)).sectors ≡ (read_device g xs ws d (data_zone z)).sectors) where
  pub direct_same : (n a : ℕ) → directly g here ws z a ≡ true
      → (known g.drives g.unit z (zone_view g (is_set here) w z n) a ≡ true) × (value_at g (is_set here) (read_device g xs ws) z n a ≡ value_at g (is_set here) w z n a)
  unfolding zone_view view_of value_at
  direct_same n a h =
      let v = read_device g xs ws in
      same_data g.drives g.unit z a (is_set here) (λ d. (v d (data_zone z)).sectors) (λ d. (w d (data_zone z)).sectors)
      (λ d. serving_entries g z n (seal_limit g (is_set here) v z n) (parity_entries g v d)) (λ d. serving_entries g z n (seal_limit g (is_set here) w z n) (parity_entries g w d)) (fun_ext λ d. sym (same d))
      (ap₂ (λ (b c : Bool). b || c) (held_is g here xs ws z readable n (drive_of g.drives g.unit z a) (sector_of g.drives g.unit a) (drive_below g.drives g.unit z (omega (arith, ok.drives_least)) ok.unit_least a)) (by_parity_is g here xs ws z readable ok n a) ∙ h)

module _ (g : Geometry) (ok : Valid g) (here : List Bool) (xs ws : List ℕ) (z n : ℕ) (readable : Readable g here xs ws z) (r : PointersReach g here ws z n) (generation offset count : ℕ) (below : offset + count ≤ n) where
  pub none_gone : offset + count ≤ zone_sectors g → needs_log g here n (offset + count) ≡ false → gone_in g (is_set here) (read_device g xs ws) z generation offset count ≡ false
  unfolding gone_in
  none_gone within none =
      none_any_below (λ i. not (known g.drives g.unit z (zone_view g (is_set here) (read_device g xs ws) z generation) (offset + i))) count
      (λ i l. ap not (known_is g here xs ws z readable ok generation (offset + i) (omega (arith, l, within))
      ∙ direct_has_source g here xs ws z generation (offset + i) (seal_limit g (is_set here) (read_device g xs ws) z generation) (known_directly g ok here ws z n r (offset + count) (offset + i) below none (omega (arith, l)))))

  pub limit_serves : LimitServes g here xs ws z generation (pick (needs_log g here n (offset + count)) (seal_limit g (is_set here) (read_device g xs ws) z generation) 0) offset count
  limit_serves = go (needs_log g here n (offset + count)) refl
    where
      go : (b : Bool) → needs_log g here n (offset + count) ≡ b → LimitServes g here xs ws z generation (pick b (seal_limit g (is_set here) (read_device g xs ws) z generation) 0) offset count
      go true e = record { same_source = λ i l. refl }
      go false e = record { same_source = λ i l. direct_way g here xs ws z generation (offset + i) 0 (seal_limit g (is_set here) (read_device g xs ws) z generation) (known_directly g ok here ws z n r (offset + count) (offset + i) below e (omega (arith, l))) }

  -- by every device with these data zones
  module _ (w : Device) (same : (d : ℕ) → (w d (data_zone z)).sectors ≡ (read_device g xs ws d (data_zone z)).sectors) (none : needs_log g here n (offset + count) ≡ false) where
    pub direct_none_gone : gone_in g (is_set here) w z generation offset count ≡ false
    unfolding gone_in
    direct_none_gone = none_any_below (λ i. not (known g.drives g.unit z (zone_view g (is_set here) w z generation) (offset + i))) count
        (λ i l. ap not (direct_same g ok here xs ws z readable w same generation (offset + i) (known_directly g ok here ws z n r (offset + count) (offset + i) below none (omega (arith, l)))).0)

    pub direct_values : values_on g (is_set here) (read_device g xs ws) z generation offset count ≡ values_on g (is_set here) w z generation offset count
    unfolding values_on
    direct_values = ap concat (tabulate_from_cong (value_at g (is_set here) (read_device g xs ws) z generation) (value_at g (is_set here) w z generation) offset offset count
        (λ i l. (direct_same g ok here xs ws z readable w same generation (offset + i) (known_directly g ok here ws z n r (offset + count) (offset + i) below none (omega (arith, l)))).1))

-- no drive absent: no log is needed
pub none_needed : (g : Geometry) (here : List Bool) (n end : ℕ) → count_below (λ d. not (is_set here d)) g.drives ≡ 0 → needs_log g here n end ≡ false
unfolding needs_log
none_needed g here n end e = rw (le-ltb 0 (count_below (λ d. not (is_set here d)) g.drives) (omega (arith, e))) refl

-- A READ WITHOUT LOGS is the read by roles
pub read_directly : (zone : Zone) → Valid zone.geometry → (xs ws : List ℕ) (pointer offset count : ℕ) (out left : List ℕ) → RunReady zone xs ws pointer offset count out
    → needs_log zone.geometry zone.here pointer (offset + count) ≡ false → left ≡ values_on zone.geometry (is_set zone.here) (read_device zone.geometry xs ws) zone.number zone.generation offset count
    → RunRead zone xs ws offset count out false left
read_directly zone ok xs ws pointer offset count out left r none e =
    let g = zone.geometry in
    let same : (d : ℕ) → (read_by_roles g xs ws d (data_zone zone.number)).sectors ≡ (read_device g xs ws d (data_zone zone.number)).sectors = λ d. data_seen g xs ws [] d zone.number in
    record {
      gone_is = sym (direct_none_gone g ok zone.here xs ws zone.number pointer r.readable r.reaches zone.generation offset count r.below (read_by_roles g xs ws) same none);
      left_is = e ∙ direct_values g ok zone.here xs ws zone.number pointer r.readable r.reaches zone.generation offset count r.below (read_by_roles g xs ws) same none;
    }
