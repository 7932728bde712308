-- A stripe that is written whole, with every drive present: its stores are those of its units, drive after drive, the row of parity last. Unit j lies on
-- drive (p + 1 + j) mod D, and so does the parity, as unit D − 1.
use Rattle.std.specs.Prelude.{◌≡◌, refl, Bool, true, ℕ, zero, suc, ◌+◌, ◌-◌, ◌*◌, ◌%◌, ◌≤◌, ◌<◌, List, [], ◌∷◌, ◌++◌, length}
use Rattle.std.proofs.Common.{sym, ap₂, ◌∙◌, suc-mul, arith, append_assoc, append-nil, eq-eqb}
use Rattle.std.proofs.Math.Path.{ap}
use Rattle.tables.specs.declared.Geometry.{Geometry}
use Rattle.tables.specs.meaning.Below.{tabulate_from, each_below}
use Rattle.tables.specs.laws.Below.{tabulate_from_add, tabulate_from_cong}
use Rattle.tables.specs.meaning.Lists.{concat}
use Rattle.tables.specs.meaning.Geometry.{Valid, stripe_sectors, data_zone}
use Rattle.tables.specs.meaning.Device.{Store, append}
use Rattle.tables.specs.meaning.Phases.{on_present}
use Rattle.tables.specs.laws.Phases.{on_present_append}
use Rattle.tables.specs.meaning.Placement.{stripe_of, drive_of, parity_drive, unit_drive, address}
use Rattle.tables.specs.laws.Placement.{address_sum, address_drive, rest_at, stripe_at_lem, stripe_length_lem, unit_row_lt, unit_drive_below, parity_drive_below}
use Rattle.tables.specs.meaning.Xor.{xor_below}
use Rattle.tables.specs.laws.Xor.{xor_below_cong}
use Rattle.volume.specs.meaning.Content.{row_xor}
use Rattle.volume.specs.meaning.Calls.{append_all, parity_stores, sector_stores, data_stores}
use Rattle.volume.specs.rows.RowStores.{append_all_append, present_all, present_one}
use Rattle.volume.specs.writing.WriteStores.{data_snoc, sector_inside}
use Rattle.volume.specs.stripes.UnitRows.{rows_joined}

append_one : (d y : ℕ) (S : ℕ → List ℕ) (i m : ℕ) → append_all d y (tabulate_from S i (suc m)) ≡ append_all d y (tabulate_from S i m) ++ (append d y (S (i + m)) ∷ [])
append_one d y S i m =
    let e : suc m ≡ m + 1 = omega arith in
    ap (λ (k : ℕ). append_all d y (tabulate_from S i k)) e ∙ ap (append_all d y) (tabulate_from_add S i m 1) ∙ append_all_append d y (tabulate_from S i m) (tabulate_from S (i + m) 1)

module _ (g : Geometry) (ok : Valid g) (present : ℕ → Bool) (all : (d : ℕ) → d < g.drives → present d ≡ true) (z : ℕ) (S : ℕ → List ℕ) (s : ℕ) where
  abbrev D : ℕ
  D = g.drives

  abbrev U : ℕ
  U = g.unit

  abbrev K : ℕ
  K = stripe_sectors g

  abbrev start : ℕ
  start = s * stripe_sectors g

  abbrev p : ℕ
  p = parity_drive g.drives z s

  two : 1 < D
  two = omega (arith, ok.drives_least)

  hp : p < D
  hp = parity_drive_below D U z two ok.unit_least s

  abbrev unit_stores : ℕ → List Store
  unit_stores j = append_all (unit_drive g.drives (parity_drive g.drives z s) j) (data_zone z) (tabulate_from S (s * stripe_sectors g + j * g.unit) g.unit)

  drive_is : (j r : ℕ) → j + 1 < D → r < U → drive_of D U z (start + (j * U + r)) ≡ unit_drive D p j
  drive_is j r h k = ap (drive_of D U z) (sym (address_sum D U s j r)) ∙ address_drive D U z two ok.unit_least s j r h k

  here : (j : ℕ) → present (unit_drive D p j) ≡ true
  here j = all (unit_drive D p j) (unit_drive_below D p hp j)

  -- the first units, and m sectors of the next: not the whole stripe
  next_unit : (j m : ℕ) → j + 1 < D → m ≤ U → j * U + m < K → on_present present (data_stores D U z S start (j * U)) ≡ each_below unit_stores j
      → on_present present (data_stores D U z S start (j * U + m)) ≡ each_below unit_stores j ++ append_all (unit_drive D p j) (data_zone z) (tabulate_from S (start + j * U) m)
  next_unit j zero h l q before = let e : j * U + zero ≡ j * U = omega arith in rw e before ∙ sym (append-nil (each_below unit_stores j))
  next_unit j (suc m) h l q before =
      let a = start + (j * U + m) in
      let d = unit_drive D p j in
      let e : j * U + suc m ≡ suc (j * U + m) = omega arith in
      let f : start + j * U + m ≡ a = omega arith in
      let one : on_present present (sector_stores D U z S a) ≡ append d (data_zone z) (S a) ∷ [] =
      sector_inside g ok present z S a (rw (rest_at D U z two ok.unit_least s j m h (omega arith)) (omega arith)) ∙ rw (drive_is j m h (omega arith), here j) refl in
      ap (λ (n : ℕ). on_present present (data_stores D U z S start n)) e
      ∙ ap (on_present present) (data_snoc D U z S start (j * U + m)) ∙ on_present_append present (data_stores D U z S start (j * U + m)) (sector_stores D U z S a)
      ∙ ap₂ (λ (x y : List Store). x ++ y) (next_unit j m h (omega arith) (omega arith) before) one
      ∙ append_assoc (each_below unit_stores j) (append_all d (data_zone z) (tabulate_from S (start + j * U) m)) (append d (data_zone z) (S a) ∷ [])
      ∙ ap (λ (x : List Store). each_below unit_stores j ++ x) (sym (append_one d (data_zone z) S (start + j * U) m ∙ ap (λ (b : ℕ). append_all d (data_zone z) (tabulate_from S (start + j * U) m) ++ (append d (data_zone z) (S b) ∷ [])) f))

  first_units : (j : ℕ) → j + 1 < D → on_present present (data_stores D U z S start (j * U)) ≡ each_below unit_stores j
  first_units zero h = let e : zero * U ≡ zero = omega arith in rw e refl
  first_units (suc j) h =
      let e : suc j * U ≡ j * U + U = rw suc-mul (omega arith) in
      let q : suc j * U + 0 < K = unit_row_lt D U z two ok.unit_least (suc j) 0 h ok.unit_least in
      ap (λ (n : ℕ). on_present present (data_stores D U z S start n)) e ∙ next_unit j U (omega arith) (omega arith) (omega (arith, e)) (first_units j (omega arith))

  -- all of it
  pub whole_stripe : on_present present (data_stores g.drives g.unit z S (s * stripe_sectors g) (stripe_sectors g)) ≡ each_below unit_stores (g.drives - 1) ++ parity_stores g.drives g.unit z S s
  whole_stripe =
      let j = D - 2 in
      let m = U - 1 in
      let hj : j + 1 < D = omega (arith, ok.drives_least) in
      let hm : m < U = omega (arith, ok.unit_least) in
      let a = start + (j * U + m) in
      let d = unit_drive D p j in
      let n : D - 1 ≡ suc j = omega (arith, ok.drives_least) in
      let k : K ≡ suc (j * U + m) = stripe_length_lem D U ∙ rw (n, suc-mul) (omega arith) in
      let rest : suc (a % K) ≡ K = ap suc (rest_at D U z two ok.unit_least s j m hj hm) ∙ sym k in
      let full : suc m ≡ U = omega arith in
      let f : start + j * U + m ≡ a = omega arith in
      let one = append d (data_zone z) (S a) ∷ [] in
      let rows = tabulate_from (row_xor D U S s) zero U in
      let part = append_all d (data_zone z) (tabulate_from S (start + j * U) m) in
      let at_last : on_present present (append (drive_of D U z a) (data_zone z) (S a) ∷ []) ≡ one = present_one present (drive_of D U z a) (data_zone z) (S a) ∙ rw (drive_is j m hj hm, here j) refl in
      let parity : on_present present (parity_stores D U z S (stripe_of D U a)) ≡ parity_stores D U z S s =
      ap (λ (t : ℕ). on_present present (parity_stores D U z S t)) (stripe_at_lem D U z two ok.unit_least s j m hj hm) ∙ present_all present p (data_zone z) rows ∙ rw (all p hp) refl in
      let last : on_present present (sector_stores D U z S a) ≡ one ++ parity_stores D U z S s =
      rw (eq-eqb (suc (a % K)) K rest)
      (on_present_append present (append (drive_of D U z a) (data_zone z) (S a) ∷ []) (parity_stores D U z S (stripe_of D U a)) ∙ ap₂ (λ (x y : List Store). x ++ y) at_last parity) in
      let unit : part ++ one ≡ unit_stores j = sym (ap (λ (i : ℕ). append_all d (data_zone z) (tabulate_from S (start + j * U) i)) (sym full) ∙ append_one d (data_zone z) S (start + j * U) m ∙ ap (λ (b : ℕ). part ++ (append d (data_zone z) (S b) ∷ [])) f) in
      ap (λ (i : ℕ). on_present present (data_stores D U z S start i)) k
      ∙ ap (on_present present) (data_snoc D U z S start (j * U + m)) ∙ on_present_append present (data_stores D U z S start (j * U + m)) (sector_stores D U z S a)
      ∙ ap₂ (λ (x y : List Store). x ++ y) (next_unit j m hj (omega arith) (omega (arith, k)) (first_units j hj)) last
      ∙ sym (append_assoc (each_below unit_stores j ++ part) one (parity_stores D U z S s))
      ∙ ap (λ (x : List Store). x ++ parity_stores D U z S s) (append_assoc (each_below unit_stores j) part one ∙ ap (λ (x : List Store). each_below unit_stores j ++ x) unit)
      ∙ ap (λ (i : ℕ). each_below unit_stores i ++ parity_stores D U z S s) (sym n)

  -- its rows joined are the exclusive or of its units
  pub parity_joined : ((a : ℕ) → s * stripe_sectors g ≤ a → a < s * stripe_sectors g + stripe_sectors g → length (S a) ≡ g.sector)
      → concat (tabulate_from (row_xor g.drives g.unit S s) 0 g.unit) ≡ xor_below (λ j. concat (tabulate_from S (s * stripe_sectors g + j * g.unit) g.unit)) (g.drives - 1)
  unfolding row_xor
  parity_joined long =
      ap concat (tabulate_from_cong (row_xor D U S s) (λ r. xor_below (λ j. S (start + (j * U + r))) (D - 1)) 0 0 U (λ r l. xor_below_cong (λ j. S (address D U s j (0 + r))) (λ j. S (start + (j * U + (0 + r)))) (D - 1) (λ j h. ap S (address_sum D U s j (0 + r)))))
      ∙ rows_joined g.sector (λ j r. S (start + (j * U + r))) (D - 1) 0 U (λ j r h k l. long (start + (j * U + r)) (omega arith) (omega (arith, unit_row_lt D U z two ok.unit_least j r (omega arith) (omega arith))))
      ∙ xor_below_cong (λ j. concat (tabulate_from (λ r. S (start + (j * U + r))) 0 U)) (λ j. concat (tabulate_from S (start + j * U) U)) (D - 1)
      (λ j h. ap concat (tabulate_from_cong (λ r. S (start + (j * U + r))) S 0 (start + j * U) U (λ r l. ap S (omega arith))))
