-- What the stores of a write hang on, and where they go: the content from its first stripe on; data zones, and the log of its entry, on the volume's drives.
use Rattle.std.specs.Prelude.{◌≡◌, refl, Bool, length, ltb, eqb}
use Rattle.std.proofs.Common.{sym, mul-le-mul_right, arith}
use Rattle.std.proofs.Math.Path.{ap, ap₂, subst}
use Rattle.std.proofs.Math.Bool.{true, false}
use Prim.Native.Nat.{ℕ, zero, suc, ◌+◌, ◌-◌, ◌*◌, ◌%◌, ◌≤◌, ◌<◌, min}
use Rattle.std.proofs.Math.Decide.{dec_lt}
use mathlib.Core.List.{List, [], ◌∷◌, ◌++◌}
use Rattle.tables.specs.declared.Geometry.{Geometry}
use Rattle.tables.specs.meaning.Basics.{pick}
use Rattle.tables.specs.meaning.Below.{tabulate_from}
use Rattle.tables.specs.laws.Below.{tabulate_from_cong, length_tabulate_from}
use Rattle.tables.specs.laws.Xor.{xor_below_cong}
use Rattle.tables.specs.meaning.Geometry.{Valid, stripe_sectors, data_zone}
use Rattle.tables.specs.meaning.Device.{Store, append, store_drive}
use Rattle.tables.specs.meaning.Phases.{on_present}
use Rattle.tables.specs.laws.Phases.{on_present_append}
use Rattle.tables.specs.meaning.Placement.{stripe_of, stripe_length, drive_of, parity_drive, address}
use Rattle.tables.specs.laws.Placement.{address_sum, stripe_below, stripe_lt, drive_below, parity_drive_below}
use Rattle.tables.specs.meaning.Tables.{cell}
use Rattle.logs.specs.meaning.Entry.{parity_zone, encode}
use Rattle.logs.specs.meaning.Walk.{sectors_of}
use Rattle.volume.specs.meaning.Content.{row_xor, row_xor_below, inside_stripe, fill_of, parity_drive_at, entry_header, entry_at}
use Rattle.volume.specs.meaning.Roles.{Roles, zone_of_role}
use Rattle.volume.specs.meaning.Calls.{append_all, parity_stores, sector_stores, data_stores, entry_stores, write_with}
use Rattle.volume.specs.meaning.Answers.{sectors_in}
use Rattle.volume.specs.laws.LogPlaces.{with_logs, OnDrives, CellsAt}
use Rattle.volume.specs.emptying.Carried.{on_drives_append, on_drives_present}

-- ---- the stores of a write hang on the content from its first stripe on
module _ (g : Geometry) (ok : Valid g) (z n : ℕ) (S S' : ℕ → List ℕ) (same : (a : ℕ) → stripe_of g.drives g.unit n * stripe_sectors g ≤ a → S a ≡ S' a) where
  abbrev first : ℕ
  first = stripe_of g.drives g.unit n

  two : 1 < g.drives
  two = omega (arith, ok.drives_least)

  begins : (a : ℕ) → n ≤ a → first * stripe_sectors g ≤ a
  begins a l = omega (arith, stripe_below g.drives g.unit z two ok.unit_least n)

  later : (a : ℕ) → n ≤ a → first ≤ stripe_of g.drives g.unit a
  later a l = go (dec_lt (stripe_of g.drives g.unit a) first)
    where
      go : Dec (stripe_of g.drives g.unit a < first) → first ≤ stripe_of g.drives g.unit a
      go (yes h) = absurd (omega (arith, begins a l, (stripe_lt g.drives g.unit z two ok.unit_least first a).1 h))
      go (no h) = omega arith

  in_stripe : (s k r : ℕ) → first ≤ s → first * stripe_sectors g ≤ address g.drives g.unit s k r
  in_stripe s k r l = omega (arith, address_sum g.drives g.unit s k r, mul-le-mul_right (stripe_sectors g) l)

  row_same : (s r : ℕ) → first ≤ s → row_xor g.drives g.unit S s r ≡ row_xor g.drives g.unit S' s r
  unfolding row_xor
  row_same s r l = xor_below_cong (λ k. S (address g.drives g.unit s k r)) (λ k. S' (address g.drives g.unit s k r)) (g.drives - 1) (λ k h. same (address g.drives g.unit s k r) (in_stripe s k r l))

  row_below_same : (s end r : ℕ) → first ≤ s → row_xor_below g.drives g.unit S s end r ≡ row_xor_below g.drives g.unit S' s end r
  unfolding row_xor_below
  row_below_same s end r l =
      xor_below_cong (λ k. pick (ltb (address g.drives g.unit s k r) end) (S (address g.drives g.unit s k r)) []) (λ k. pick (ltb (address g.drives g.unit s k r) end) (S' (address g.drives g.unit s k r)) []) (g.drives - 1)
      (λ k h. ap (λ (x : List ℕ). pick (ltb (address g.drives g.unit s k r) end) x []) (same (address g.drives g.unit s k r) (in_stripe s k r l)))

  sector_same : (a : ℕ) → n ≤ a → sector_stores g.drives g.unit z S a ≡ sector_stores g.drives g.unit z S' a
  sector_same a l =
      let s = stripe_of g.drives g.unit a in
      ap₂ (λ (x : List ℕ) (rows : List (List ℕ)). append (drive_of g.drives g.unit z a) (data_zone z) x ∷ pick (eqb (suc (a % stripe_sectors g)) (stripe_sectors g)) (append_all (parity_drive g.drives z s) (data_zone z) rows) [])
      (same a (begins a l)) (tabulate_from_cong (row_xor g.drives g.unit S s) (row_xor g.drives g.unit S' s) zero zero g.unit (λ r h. row_same s (zero + r) (later a l)))

  data_same : (a k : ℕ) → n ≤ a → data_stores g.drives g.unit z S a k ≡ data_stores g.drives g.unit z S' a k
  data_same a zero l = refl
  data_same a (suc k) l = ap₂ (λ (x y : List Store). x ++ y) (sector_same a l) (data_same (suc a) k (omega arith))

  pub write_with_same : (generation k : ℕ) → write_with g z generation S n k ≡ write_with g z generation S' n k
  unfolding write_with entry_at
  write_with_same generation k =
      let s = stripe_of g.drives g.unit (n + k) in
      let p = parity_drive_at g z (n + k) in
      ap₂ (λ (x : List Store) (rows : List (List ℕ)). x ++ pick (inside_stripe g (n + k)) (append p parity_zone (encode g p (entry_header g z generation (n + k))) ∷ append_all p parity_zone rows) []) (data_same n k (omega arith))
      (tabulate_from_cong (row_xor_below g.drives g.unit S s (n + k)) (row_xor_below g.drives g.unit S' s (n + k)) zero zero (min (fill_of g (n + k)) g.unit) (λ r h. row_below_same s (n + k) (zero + r) (later (n + k) (omega arith))))

-- ---- they go to data zones and to the entry's log
module _ (g : Geometry) (m : ℕ) (r : ℕ → Roles) (z : ℕ) (S : ℕ → List ℕ) (present : ℕ → Bool) (data_at : (d : ℕ) → cell (with_logs g m) d (data_zone z) ≡ cell g d (zone_of_role (r d) (data_zone z))) where
  cells_append : (xs ys : List Store) → CellsAt g m r xs → CellsAt g m r ys → CellsAt g m r (xs ++ ys)
  cells_append [] ys p q = q
  cells_append (x ∷ xs) ys p q = (p.0, cells_append xs ys p.1 q)

  cells_appends : (d y : ℕ) (ss : List (List ℕ)) → cell (with_logs g m) d y ≡ cell g d (zone_of_role (r d) y) → CellsAt g m r (append_all d y ss)
  cells_appends d y [] h = tt
  cells_appends d y (s ∷ ss) h = (h, cells_appends d y ss h)

  cells_pick : (b : Bool) (xs : List Store) → CellsAt g m r xs → CellsAt g m r (pick b xs [])
  cells_pick true xs h = h
  cells_pick false xs h = tt

  cells_present : (xs : List Store) → CellsAt g m r xs → CellsAt g m r (on_present present xs)
  cells_present [] h = tt
  cells_present (x ∷ xs) h = go (present (store_drive x)) (cells_present xs h.1)
    where
      go : (b : Bool) → CellsAt g m r (on_present present xs) → CellsAt g m r (pick b (x ∷ on_present present xs) (on_present present xs))
      go true q = (h.0, q)
      go false q = q

  cells_data : (a k : ℕ) → CellsAt g m r (data_stores g.drives g.unit z S a k)
  cells_data a zero = tt
  cells_data a (suc k) =
      cells_append (sector_stores g.drives g.unit z S a) (data_stores g.drives g.unit z S (suc a) k) (
        data_at (drive_of g.drives g.unit z a),
        cells_pick (eqb (suc (a % stripe_length g.drives g.unit)) (stripe_length g.drives g.unit)) (parity_stores g.drives g.unit z S (stripe_of g.drives g.unit a))
            (cells_appends (parity_drive g.drives z (stripe_of g.drives g.unit a)) (data_zone z) (tabulate_from (row_xor g.drives g.unit S (stripe_of g.drives g.unit a)) zero g.unit) (data_at (parity_drive g.drives z (stripe_of g.drives g.unit a)))),
      )
      (cells_data (suc a) k)

  cells_log : (d : ℕ) (ss : List (List ℕ)) → (present d ≡ true → cell (with_logs g m) d parity_zone ≡ cell g d (zone_of_role (r d) parity_zone)) → CellsAt g m r (on_present present (append_all d parity_zone ss))
  cells_log d [] h = tt
  cells_log d (s ∷ ss) h = go (present d) refl (cells_log d ss h)
    where
      go : (b : Bool) → present d ≡ b → CellsAt g m r (on_present present (append_all d parity_zone ss)) → CellsAt g m r (pick b (append d parity_zone s ∷ on_present present (append_all d parity_zone ss)) (on_present present (append_all d parity_zone ss)))
      go true e q = (h e, q)
      go false e q = q

  pub cells_write : (generation n k : ℕ) → (inside_stripe g (n + k) ≡ true → present (parity_drive_at g z (n + k)) ≡ true → cell (with_logs g m) (parity_drive_at g z (n + k)) parity_zone ≡ cell g (parity_drive_at g z (n + k)) (zone_of_role (r (parity_drive_at g z (n + k))) parity_zone))
      → CellsAt g m r (on_present present (write_with g z generation S n k))
  unfolding write_with
  cells_write generation n k h =
      subst (CellsAt g m r) (sym (on_present_append present (data_stores g.drives g.unit z S n k) (pick (inside_stripe g (n + k)) (entry_stores g z generation S (n + k)) [])))
      (cells_append (on_present present (data_stores g.drives g.unit z S n k)) (on_present present (pick (inside_stripe g (n + k)) (entry_stores g z generation S (n + k)) [])) (cells_present (data_stores g.drives g.unit z S n k) (cells_data n k)) (go (inside_stripe g (n + k)) refl))
    where
      go : (b : Bool) → inside_stripe g (n + k) ≡ b → CellsAt g m r (on_present present (pick b (entry_stores g z generation S (n + k)) []))
      go true e = cells_log (parity_drive_at g z (n + k)) (sectors_of g (parity_drive_at g z (n + k)) true (entry_at g z generation S (n + k))) (h e)
      go false e = tt

-- ---- they are on the volume's drives
module _ (g : Geometry) (ok : Valid g) (z : ℕ) (S : ℕ → List ℕ) where
  on_appends : (d y : ℕ) (ss : List (List ℕ)) → d < g.drives → OnDrives g (append_all d y ss)
  on_appends d y [] h = tt
  on_appends d y (s ∷ ss) h = (h, on_appends d y ss h)

  on_pick : (b : Bool) (xs : List Store) → OnDrives g xs → OnDrives g (pick b xs [])
  on_pick true xs h = h
  on_pick false xs h = tt

  parity_in : (s : ℕ) → parity_drive g.drives z s < g.drives
  parity_in = parity_drive_below g.drives g.unit z (omega (arith, ok.drives_least)) ok.unit_least

  on_data : (a k : ℕ) → OnDrives g (data_stores g.drives g.unit z S a k)
  on_data a zero = tt
  on_data a (suc k) =
      let s = stripe_of g.drives g.unit a in
      on_drives_append g (sector_stores g.drives g.unit z S a) (data_stores g.drives g.unit z S (suc a) k) (
        drive_below g.drives g.unit z (omega (arith, ok.drives_least)) ok.unit_least a,
        on_pick (eqb (suc (a % stripe_length g.drives g.unit)) (stripe_length g.drives g.unit)) (parity_stores g.drives g.unit z S s) (on_appends (parity_drive g.drives z s) (data_zone z) (tabulate_from (row_xor g.drives g.unit S s) zero g.unit) (parity_in s)),
      )
      (on_data (suc a) k)

  pub write_on_drives : (present : ℕ → Bool) (generation n k : ℕ) → OnDrives g (on_present present (write_with g z generation S n k))
  unfolding write_with
  write_on_drives present generation n k =
      let p = parity_drive_at g z (n + k) in
      let entry = pick (inside_stripe g (n + k)) (entry_stores g z generation S (n + k)) [] in
      on_drives_present g present (data_stores g.drives g.unit z S n k ++ entry) (on_drives_append g (data_stores g.drives g.unit z S n k) entry (on_data n k)
      (on_pick (inside_stripe g (n + k)) (entry_stores g z generation S (n + k)) (on_appends p parity_zone (sectors_of g p true (entry_at g z generation S (n + k))) (parity_in (stripe_of g.drives g.unit (n + k))))))

-- ---- as many sectors as are asked for
pub sectors_count : (g : Geometry) (c : ℕ) (buffer : List ℕ) → length (sectors_in g c buffer) ≡ c
unfolding sectors_in
sectors_count g c buffer = length_tabulate_from _ zero c
