-- Where things lie: the laws of Placement, for every number of drives and every unit, with no split on either.
-- `needed_iff` is what ties addresses to write pointers: with it no proof above divides.
use Rattle.std.specs.Prelude.{◌≡◌, ◌≢◌, ◌↔◌, ◌⊎◌, eqb}
use Rattle.std.proofs.Math.Path.{refl, sym}
use Rattle.std.proofs.Common.{◌∙◌, inl, inr, le_refl, le_trans, mod-eq_of_lt, div-lt_iff_lt-mul, eq-eqb, ne_eqb}
use Rattle.std.proofs.Math.Bool.{true, false}
use Prim.Native.Nat.{ℕ, zero, suc, ◌+◌, ◌-◌, ◌*◌, ◌/◌, ◌%◌, ◌≤◌, ◌<◌, min}
use Rattle.std.proofs.Math.Nat.{mod-lt, mod-eq-sub-mod, div-add-mod', mul-le-mul_right, mul-pos, zero-div, zero-mod}
use Rattle.std.proofs.Math.Decide.{ℕ_discrete, dec_lt}
use native.Mathlib.Omega.{arith}
use Rattle.std.proofs.Math.Arith.{digits_lt, digits_div, digits_mod}
use Rattle.tables.specs.laws.Basics.{Tri, lt, eq, gt, tri}
use Rattle.tables.specs.meaning.Placement.{stripe_length, parity_drive, unit_drive, unit_of, stripe_of, unit_index, row_index, drive_of, sector_of, address, address_at, needed}

-- ---- a sum below 2 × D, reduced: two linear cases
pub data Once (x D : ℕ) : Type 0 where
  below : x < D → x % D ≡ x → Once x D
  above : D ≤ x → x % D + D ≡ x → Once x D

pub once : (x D : ℕ) → x < D + D → Once x D
once x D k = go (dec_lt x D)
  where
    go : Dec (x < D) → Once x D
    go (yes h) = below h (mod-eq_of_lt h)
    go (no h) =
        let g : D ≤ x = omega arith in
        let l : x - D < D = omega arith in
        let e : x % D ≡ x - D = mod-eq-sub-mod g ∙ mod-eq_of_lt l in
        above g (omega arith)

module _ (D p : ℕ) (hp : p < D) where
  pub unit_drive_below : (j : ℕ) → unit_drive D p j < D
  unfolding unit_drive
  unit_drive_below j = mod-lt (p + 1 + j) (omega arith)

  pub unit_not_parity : (j : ℕ) → j + 1 < D → unit_drive D p j ≢ p
  unfolding unit_drive
  unit_not_parity j h e = go (once (p + 1 + j) D (omega arith))
    where
      go : Once (p + 1 + j) D → ⊥
      go (below a b) = omega arith
      go (above a b) = omega arith

  -- every unit has a drive of its own, and as unit D − 1 the parity has its
  pub unit_injective : (i j : ℕ) → i < D → j < D → unit_drive D p i ≡ unit_drive D p j → i ≡ j
  unfolding unit_drive
  unit_injective i j hi hj e = go (once (p + 1 + i) D (omega arith)) (once (p + 1 + j) D (omega arith))
    where
      go : Once (p + 1 + i) D → Once (p + 1 + j) D → i ≡ j
      go (below a b) (below c d) = omega arith
      go (below a b) (above c d) = omega arith
      go (above a b) (below c d) = omega arith
      go (above a b) (above c d) = omega arith

  pub unit_last : unit_drive D p (D - 1) ≡ p
  unfolding unit_drive
  unit_last = go (once (p + 1 + (D - 1)) D (omega arith))
    where
      go : Once (p + 1 + (D - 1)) D → (p + 1 + (D - 1)) % D ≡ p
      go (below a b) = absurd (omega arith)
      go (above a b) = omega arith

  pub unit_of_drive : (d : ℕ) → d < D → d ≢ p → (unit_of D p d + 1 < D) × (unit_drive D p (unit_of D p d) ≡ d)
  unfolding unit_drive unit_of
  unit_of_drive d h n = go (once (d + D - (p + 1)) D (omega arith)) (once (p + 1 + (d + D - (p + 1)) % D) D (omega (arith, mod-lt (d + D - (p + 1)) h_d)))
    where
      h_d : zero < D
      h_d = omega arith

      go : Once (d + D - (p + 1)) D → Once (p + 1 + (d + D - (p + 1)) % D) D → (unit_of D p d + 1 < D) × (unit_drive D p (unit_of D p d) ≡ d)
      go (below a b) (below c e) = omega arith
      go (below a b) (above c e) = omega arith
      go (above a b) (below c e) = omega arith
      go (above a b) (above c e) = omega arith

  pub unit_of_unit : (j : ℕ) → j + 1 < D → unit_of D p (unit_drive D p j) ≡ j
  unit_of_unit j h =
      let (a, b) = unit_of_drive (unit_drive D p j) (unit_drive_below j) (unit_not_parity j h) in
      unit_injective (unit_of D p (unit_drive D p j)) j (omega arith) (omega arith) b

-- ---- what needs no condition on drives and units
module _ (D U : ℕ) where
  -- code divides by k, a stripe's length: the quotient is the stripe, and from the rest it has unit and row
  pub stripe_length_lem : stripe_length D U ≡ (D - 1) * U
  unfolding stripe_length
  stripe_length_lem = refl

  pub stripe_quotient : (a k : ℕ) → k ≡ stripe_length D U → a / k ≡ stripe_of D U a
  unfolding stripe_of
  stripe_quotient a k e = rw e refl

  pub stripe_begin : (a k : ℕ) → k ≡ stripe_length D U → a / k * k ≡ stripe_of D U a * stripe_length D U
  unfolding stripe_of
  stripe_begin a k e = rw e refl

  pub unit_quotient : (a k : ℕ) → k ≡ stripe_length D U → a % k / U ≡ unit_index D U a
  unfolding unit_index
  unit_quotient a k e = rw e refl

  pub row_remainder : (a k : ℕ) → k ≡ stripe_length D U → a % k % U ≡ row_index D U a
  unfolding row_index
  row_remainder a k e = rw e refl

  -- an address is its stripe's start and a rest
  pub stripe_rest : (a : ℕ) → stripe_of D U a * stripe_length D U + a % stripe_length D U ≡ a
  unfolding stripe_of
  stripe_rest a = div-add-mod' a (stripe_length D U)

  pub stripe_of_sum : (s f : ℕ) → f < stripe_length D U → stripe_of D U (s * stripe_length D U + f) ≡ s
  unfolding stripe_of
  stripe_of_sum s f h = digits_div s h

  -- sector, address and drive as sums of their parts
  pub sector_sum : (a : ℕ) → sector_of D U a ≡ stripe_of D U a * U + row_index D U a
  unfolding sector_of
  sector_sum a = refl

  pub address_sum : (s j r : ℕ) → address D U s j r ≡ s * stripe_length D U + (j * U + r)
  unfolding address
  address_sum s j r = refl

  pub drive_of_unit : (z a : ℕ) → drive_of D U z a ≡ unit_drive D (parity_drive D z (stripe_of D U a)) (unit_index D U a)
  unfolding drive_of
  drive_of_unit z a = refl

  -- address 0 begins stripe 0
  pub stripe_zero : stripe_of D U zero ≡ zero
  unfolding stripe_of
  stripe_zero = zero-div (stripe_length D U)

  pub unit_zero : unit_index D U zero ≡ zero
  unfolding unit_index
  unit_zero = rw (zero-mod (stripe_length D U)) (zero-div U)

  pub row_zero : row_index D U zero ≡ zero
  unfolding row_index
  row_zero = rw (zero-mod (stripe_length D U)) (zero-mod U)

-- ---- addresses: at least two drives, units of at least one sector
module _ (D U z : ℕ) (h_d : 1 < D) (h_u : zero < U) where
  pub stripe_pos : zero < stripe_length D U
  unfolding stripe_length
  stripe_pos = mul-pos (omega arith) h_u

  pub parity_drive_below : (s : ℕ) → parity_drive D z s < D
  unfolding parity_drive
  parity_drive_below s = mod-lt (z + s + D - 1) (omega arith)

  pub unit_index_below : (a : ℕ) → unit_index D U a + 1 < D
  unfolding unit_index stripe_length
  unit_index_below a =
      let h : a % ((D - 1) * U) < (D - 1) * U = mod-lt a (stripe_pos) in
      let k : a % ((D - 1) * U) / U < D - 1 = (div-lt_iff_lt-mul h_u).1 h in
      omega arith

  pub row_index_below : (a : ℕ) → row_index D U a < U
  unfolding row_index
  row_index_below a = mod-lt (a % stripe_length D U) h_u

  pub address_parts : (a : ℕ) → a ≡ stripe_of D U a * stripe_length D U + (unit_index D U a * U + row_index D U a)
  unfolding stripe_of unit_index row_index
  address_parts a = omega (arith, div-add-mod' a (stripe_length D U), div-add-mod' (a % stripe_length D U) U)

  pub sector_stripe : (a : ℕ) → sector_of D U a / U ≡ stripe_of D U a
  unfolding sector_of
  sector_stripe a = digits_div (stripe_of D U a) (row_index_below a)

  pub sector_row : (a : ℕ) → sector_of D U a % U ≡ row_index D U a
  unfolding sector_of
  sector_row a = digits_mod (stripe_of D U a) (row_index_below a)

  -- two addresses in one place are one address
  pub place_injective : (a b : ℕ) → drive_of D U z a ≡ drive_of D U z b → sector_of D U a ≡ sector_of D U b → a ≡ b
  unfolding drive_of
  place_injective a b d s =
      let es : stripe_of D U a ≡ stripe_of D U b = cc (sector_stripe a, sector_stripe b) in
      let er : row_index D U a ≡ row_index D U b = cc (sector_row a, sector_row b) in
      let d' : unit_drive D (parity_drive D z (stripe_of D U b)) (unit_index D U a) ≡ unit_drive D (parity_drive D z (stripe_of D U b)) (unit_index D U b) = cc in
      let ej : unit_index D U a ≡ unit_index D U b = unit_injective D (parity_drive D z (stripe_of D U b)) (parity_drive_below (stripe_of D U b)) (unit_index D U a) (unit_index D U b) (omega (arith, unit_index_below a)) (omega (arith, unit_index_below b)) d' in
      address_parts a ∙ rw (es, ej, er) (sym (address_parts b))

  pub unit_row_lt : (j r : ℕ) → j + 1 < D → r < U → j * U + r < stripe_length D U
  unfolding stripe_length
  unit_row_lt j r h k = digits_lt (omega arith) k

  pub stripe_at_lem : (s j r : ℕ) → j + 1 < D → r < U → stripe_of D U (s * stripe_length D U + (j * U + r)) ≡ s
  unfolding stripe_of
  stripe_at_lem s j r h k = digits_div s (unit_row_lt j r h k)

  pub rest_at : (s j r : ℕ) → j + 1 < D → r < U → (s * stripe_length D U + (j * U + r)) % stripe_length D U ≡ j * U + r
  rest_at s j r h k = digits_mod s (unit_row_lt j r h k)

  pub unit_at : (s j r : ℕ) → j + 1 < D → r < U → unit_index D U (s * stripe_length D U + (j * U + r)) ≡ j
  unfolding unit_index
  unit_at s j r h k = rw (rest_at s j r h k) (digits_div j k)

  pub row_at : (s j r : ℕ) → j + 1 < D → r < U → row_index D U (s * stripe_length D U + (j * U + r)) ≡ r
  unfolding row_index
  row_at s j r h k = rw (rest_at s j r h k) (digits_mod j k)

  pub place_onto : (d x : ℕ) → d < D → d ≢ parity_drive D z (x / U)
      → (drive_of D U z (address_at D U z d x) ≡ d) × (sector_of D U (address_at D U z d x) ≡ x)
  unfolding drive_of sector_of address_at
  place_onto d x h n =
      let p = parity_drive D z (x / U) in
      let j = unit_of D p d in
      let (j1, e) = unit_of_drive D p (parity_drive_below (x / U)) d h n in
      let r1 : x % U < U = mod-lt x h_u in (
        rw (stripe_at_lem (x / U) j (x % U) j1 r1, unit_at (x / U) j (x % U) j1 r1) e,
        rw (stripe_at_lem (x / U) j (x % U) j1 r1, row_at (x / U) j (x % U) j1 r1) (div-add-mod' x U),
      )

  pub address_at_below : (m d x : ℕ) → d < D → d ≢ parity_drive D z (x / U) → x < m * U → address_at D U z d x < m * stripe_length D U
  unfolding address_at
  address_at_below m d x h n k =
      let (j1, e) = unit_of_drive D (parity_drive D z (x / U)) (parity_drive_below (x / U)) d h n in
      digits_lt ((div-lt_iff_lt-mul h_u).1 k) (unit_row_lt (unit_of D (parity_drive D z (x / U)) d) (x % U) j1 (mod-lt x h_u))

  -- drive d's need at n, where d holds unit j of the stripe of n, is not its parity drive
  needed_unit : (n j : ℕ) → j + 1 < D
      → needed D U z n (unit_drive D (parity_drive D z (stripe_of D U n)) j) ≡ stripe_of D U n * U + min (n % stripe_length D U - j * U) U
  unfolding needed
  needed_unit n j h =
      let p = parity_drive D z (stripe_of D U n) in
      let d = unit_drive D p j in
      let ne : d ≢ p = unit_not_parity D p (parity_drive_below (stripe_of D U n)) j h in
      rw (ne_eqb d p ne, needed) (rw (unit_of_unit D p (parity_drive_below (stripe_of D U n)) j h) refl)

  -- bounds on the need of any drive
  pub needed_least : (n d : ℕ) → stripe_of D U n * U ≤ needed D U z n d
  unfolding needed
  needed_least n d = elim (eqb d (parity_drive D z (stripe_of D U n))) as
      (λ b. stripe_of D U n * U ≤ (elim b as (λ _. ℕ) [ true ↦ stripe_of D U n * U | false ↦ stripe_of D U n * U + min (n % stripe_length D U - unit_of D (parity_drive D z (stripe_of D U n)) d * U) U ]))
      [ true ↦ omega arith | false ↦ omega arith ]

  pub needed_within : (n d : ℕ) → needed D U z n d ≤ suc (stripe_of D U n) * U
  unfolding needed
  needed_within n d = elim (eqb d (parity_drive D z (stripe_of D U n))) as
      (λ b. (elim b as (λ _. ℕ) [ true ↦ stripe_of D U n * U | false ↦ stripe_of D U n * U + min (n % stripe_length D U - unit_of D (parity_drive D z (stripe_of D U n)) d * U) U ]) ≤ suc (stripe_of D U n) * U)
      [ true ↦ omega arith | false ↦ omega arith ]

  -- an address stands below the pointer exactly if its sector is needed on its drive
  pub needed_iff : (n a : ℕ) → (sector_of D U a < needed D U z n (drive_of D U z a)) ↔ (a < n)
  unfolding drive_of sector_of
  needed_iff n a = go (tri (stripe_of D U a) (stripe_of D U n))
    where
      S : ℕ
      S = stripe_length D U

      wn : stripe_of D U n * stripe_length D U + n % stripe_length D U ≡ n
      wn = unfold stripe_of in div-add-mod' n (stripe_length D U)

      jr : unit_index D U a * U + row_index D U a < stripe_length D U
      jr = unit_row_lt (unit_index D U a) (row_index D U a) (unit_index_below a) (row_index_below a)

      go : Tri (stripe_of D U a) (stripe_of D U n)
          → (stripe_of D U a * U + row_index D U a < needed D U z n (drive_of D U z a)) ↔ (a < n)
      go (lt h) = ((λ _. omega (arith, address_parts a, wn, jr, mul-le-mul_right S h)), (λ _. omega (arith, row_index_below a, needed_least n (drive_of D U z a), mul-le-mul_right U h)))
      go (gt h) = (
        (λ k. omega (arith, needed_within n (drive_of D U z a), mul-le-mul_right U h)),
        (λ k. omega (arith, address_parts a, wn, mod-lt n stripe_pos, mul-le-mul_right S h)),
      )
      go (eq h) =
          let e : needed D U z n (drive_of D U z a) ≡ stripe_of D U n * U + min (n % stripe_length D U - unit_index D U a * U) U = rw h (needed_unit n (unit_index D U a) (unit_index_below a)) in
          let k : stripe_of D U a * stripe_length D U ≡ stripe_of D U n * stripe_length D U = rw h refl in
          let k' : stripe_of D U a * U ≡ stripe_of D U n * U = rw h refl in
          ((λ l. omega (arith, address_parts a, wn, row_index_below a)), (λ l. omega (arith, address_parts a, wn, row_index_below a)))

  pub drive_below : (a : ℕ) → drive_of D U z a < D
  unfolding drive_of
  drive_below a = unit_drive_below D (parity_drive D z (stripe_of D U a)) (parity_drive_below (stripe_of D U a)) (unit_index D U a)

  pub address_drive : (s j r : ℕ) → j + 1 < D → r < U → drive_of D U z (address D U s j r) ≡ unit_drive D (parity_drive D z s) j
  unfolding address drive_of
  address_drive s j r h k = rw (stripe_at_lem s j r h k, unit_at s j r h k) refl

  pub address_sector : (s j r : ℕ) → j + 1 < D → r < U → sector_of D U (address D U s j r) ≡ s * U + r
  unfolding address sector_of
  address_sector s j r h k = rw (stripe_at_lem s j r h k, row_at s j r h k) refl

  pub address_own : (a : ℕ) → address D U (stripe_of D U a) (unit_index D U a) (row_index D U a) ≡ a
  unfolding address
  address_own a = sym (address_parts a)

  -- the parity of a stripe is needed exactly when the stripe is complete
  pub needed_parity : (n s r : ℕ) → r < U → (s * U + r < needed D U z n (parity_drive D z s)) ↔ (s < stripe_of D U n)
  unfolding needed
  needed_parity n s r hr = go (tri s (stripe_of D U n))
    where
      go : Tri s (stripe_of D U n) → (s * U + r < needed D U z n (parity_drive D z s)) ↔ (s < stripe_of D U n)
      go (lt h) = ((λ _. h), (λ _. omega (arith, needed_least n (parity_drive D z s), mul-le-mul_right U h)))
      go (gt h) = ((λ k. absurd (omega (arith, needed_within n (parity_drive D z s), mul-le-mul_right U h))), (λ k. absurd (omega arith)))
      go (eq h) =
          let e : needed D U z n (parity_drive D z (stripe_of D U n)) ≡ stripe_of D U n * U = rw (eq-eqb (parity_drive D z (stripe_of D U n)) (parity_drive D z (stripe_of D U n)) refl, needed) refl in
          ((λ k. absurd (omega (arith, rw h at k))), (λ k. absurd (omega arith)))

  -- a complete stripe's addresses stand below the pointer
  pub complete_lt : (n s j r : ℕ) → s < stripe_of D U n → j + 1 < D → r < U → address D U s j r < n
  unfolding address stripe_of
  complete_lt n s j r h hj hr =
      omega (arith, unit_row_lt j r hj hr, div-add-mod' n (stripe_length D U), mul-le-mul_right (stripe_length D U) h)

  pub stripe_mono : (a n : ℕ) → a < n → stripe_of D U n < stripe_of D U a → ⊥
  unfolding stripe_of
  stripe_mono a n h k = omega (arith, div-add-mod' a (stripe_length D U), div-add-mod' n (stripe_length D U), mod-lt n stripe_pos, mul-le-mul_right (stripe_length D U) k)

  pub stripe_start_lem : (a n : ℕ) → a < n → stripe_of D U a ≡ stripe_of D U n → stripe_of D U n * stripe_length D U < n
  unfolding stripe_of
  stripe_start_lem a n h e =
      let k : a / stripe_length D U * stripe_length D U ≡ n / stripe_length D U * stripe_length D U = rw e refl in
      omega (arith, div-add-mod' a (stripe_length D U))

  pub address_at_own : (a : ℕ) → address_at D U z (drive_of D U z a) (sector_of D U a) ≡ a
  unfolding address_at drive_of
  address_at_own a =
      let s = stripe_of D U a in
      rw (sector_stripe a, sector_row a, unit_of_unit D (parity_drive D z s) (parity_drive_below s) (unit_index D U a) (unit_index_below a)) (sym (address_parts a))

  pub drive_not_parity : (a : ℕ) → drive_of D U z a ≢ parity_drive D z (stripe_of D U a)
  unfolding drive_of
  drive_not_parity a = unit_not_parity D (parity_drive D z (stripe_of D U a)) (parity_drive_below (stripe_of D U a)) (unit_index D U a) (unit_index_below a)

  -- the need of a drive that is not the parity of the pointer's stripe
  pub needed_other : (n d : ℕ) → d ≢ parity_drive D z (stripe_of D U n) → needed D U z n d ≡ stripe_of D U n * U + min (n % stripe_length D U - unit_of D (parity_drive D z (stripe_of D U n)) d * U) U
  unfolding needed
  needed_other n d h = rw (ne_eqb d (parity_drive D z (stripe_of D U n)) h, needed) refl

  pub needed_at_parity : (n : ℕ) → needed D U z n (parity_drive D z (stripe_of D U n)) ≡ stripe_of D U n * U
  unfolding needed
  needed_at_parity n = rw (eq-eqb (parity_drive D z (stripe_of D U n)) (parity_drive D z (stripe_of D U n)) refl, needed) refl

  -- at a stripe's start every drive needs the same
  pub needed_start : (n d : ℕ) → n % stripe_length D U ≡ zero → needed D U z n d ≡ stripe_of D U n * U
  needed_start n d h = go (ℕ_discrete d (parity_drive D z (stripe_of D U n)))
    where
      go : Dec (d ≡ parity_drive D z (stripe_of D U n)) → needed D U z n d ≡ stripe_of D U n * U
      go (yes e) = rw e (needed_at_parity n)
      go (no e) = needed_other n d e ∙ rw h (omega arith)

  -- the rest of a, in units and rows
  pub rest_is : (a : ℕ) → a % stripe_length D U ≡ unit_index D U a * U + row_index D U a
  unfolding unit_index row_index
  rest_is a = sym (div-add-mod' (a % stripe_length D U) U)

  pub needed_own : (a : ℕ) → needed D U z a (drive_of D U z a) ≡ sector_of D U a
  unfolding drive_of sector_of
  needed_own a = needed_unit a (unit_index D U a) (unit_index_below a) ∙ omega (arith, rest_is a, row_index_below a)

  -- one address more, inside its stripe
  next_stripe : (a : ℕ) → suc (a % stripe_length D U) < stripe_length D U → (stripe_of D U (suc a) ≡ stripe_of D U a) × (suc a % stripe_length D U ≡ suc (a % stripe_length D U))
  unfolding stripe_of
  next_stripe a h =
      let e : suc a ≡ a / stripe_length D U * stripe_length D U + suc (a % stripe_length D U) = omega (arith, div-add-mod' a (stripe_length D U)) in
      (rw e (digits_div (a / stripe_length D U) h), rw e (digits_mod (a / stripe_length D U) h))

  needed_parity_stripe : (n d s : ℕ) → stripe_of D U n ≡ s → d ≡ parity_drive D z s → needed D U z n d ≡ s * U
  needed_parity_stripe n d s q e = rw (e, ← q) (needed_at_parity n)

  needed_data_stripe : (n d s : ℕ) → stripe_of D U n ≡ s → d ≢ parity_drive D z s → needed D U z n d ≡ s * U + min (n % stripe_length D U - unit_of D (parity_drive D z s) d * U) U
  needed_data_stripe n d s q e = rw (← q) (needed_other n d (λ k. e (k ∙ rw q refl)))

  -- two units apart: the earlier one's end is at most the later one's start
  apart : (i j : ℕ) → i ≢ j → (suc i * U ≤ j * U) ⊎ (suc j * U ≤ i * U)
  apart i j n = go (dec_lt i j)
    where
      go : Dec (i < j) → (suc i * U ≤ j * U) ⊎ (suc j * U ≤ i * U)
      go (yes h) = inl (mul-le-mul_right U h)
      go (no h) = let k : j < i = omega arith in inr (mul-le-mul_right U k)

  unit_apart : (a d : ℕ) → d < D → d ≢ parity_drive D z (stripe_of D U a) → d ≢ drive_of D U z a → unit_of D (parity_drive D z (stripe_of D U a)) d ≢ unit_index D U a
  unfolding drive_of
  unit_apart a d hd n m e =
      let (l, q) = unit_of_drive D (parity_drive D z (stripe_of D U a)) (parity_drive_below (stripe_of D U a)) d hd n in
      m (sym q ∙ rw e refl)

  pub needed_inside : (a d : ℕ) → d < D → suc (a % stripe_length D U) < stripe_length D U → d ≢ drive_of D U z a → needed D U z (suc a) d ≡ needed D U z a d
  needed_inside a d hd h n = go (ℕ_discrete d (parity_drive D z (stripe_of D U a)))
    where
      s : ℕ
      s = stripe_of D U a

      i : ℕ
      i = unit_of D (parity_drive D z (stripe_of D U a)) d

      step : (suc i * U ≤ unit_index D U a * U) ⊎ (suc (unit_index D U a) * U ≤ i * U)
          → s * U + min (suc (a % stripe_length D U) - i * U) U ≡ s * U + min (a % stripe_length D U - i * U) U
      step (inl q) = omega (arith, rest_is a, row_index_below a)
      step (inr q) = omega (arith, rest_is a, row_index_below a)

      go : Dec (d ≡ parity_drive D z (stripe_of D U a)) → needed D U z (suc a) d ≡ needed D U z a d
      go (yes e) = needed_parity_stripe (suc a) d s (next_stripe a h).0 e ∙ sym (needed_parity_stripe a d s refl e)
      go (no e) =
          let p : needed D U z (suc a) d ≡ s * U + min (suc a % stripe_length D U - i * U) U = needed_data_stripe (suc a) d s (next_stripe a h).0 e in
          (rw (next_stripe a h).1 at p) ∙ step (apart i (unit_index D U a) (unit_apart a d hd e n)) ∙ sym (needed_data_stripe a d s refl e)

  pub needed_inside_own : (a : ℕ) → suc (a % stripe_length D U) < stripe_length D U → needed D U z (suc a) (drive_of D U z a) ≡ suc (sector_of D U a)
  needed_inside_own a h =
      let s = stripe_of D U a in
      let p = needed_data_stripe (suc a) (drive_of D U z a) s (next_stripe a h).0 (drive_not_parity a) in
      let u : unit_of D (parity_drive D z s) (drive_of D U z a) ≡ unit_index D U a = (unfold drive_of in unit_of_unit D (parity_drive D z s) (parity_drive_below s) (unit_index D U a) (unit_index_below a)) in
      let x : sector_of D U a ≡ s * U + row_index D U a = (unfold sector_of in refl) in
      (rw ((next_stripe a h).1, u) at p) ∙ omega (arith, rest_is a, row_index_below a)

  -- one address more, at its stripe's end
  last_stripe : (a : ℕ) → suc (a % stripe_length D U) ≡ stripe_length D U → (stripe_of D U (suc a) ≡ suc (stripe_of D U a)) × (suc a % stripe_length D U ≡ zero)
  unfolding stripe_of
  last_stripe a h =
      let e : suc a ≡ suc (a / stripe_length D U) * stripe_length D U + zero = omega (arith, div-add-mod' a (stripe_length D U)) in
      (rw e (digits_div (suc (a / stripe_length D U)) stripe_pos), rw e (digits_mod (suc (a / stripe_length D U)) stripe_pos))

  pub needed_last : (a d : ℕ) → suc (a % stripe_length D U) ≡ stripe_length D U → needed D U z (suc a) d ≡ suc (stripe_of D U a) * U
  needed_last a d h = rw (needed_start (suc a) d (last_stripe a h).1, (last_stripe a h).0) refl

  -- before that, every other data drive is full, and the parity drive has nothing of the stripe
  pub needed_last_other : (a d : ℕ) → d < D → suc (a % stripe_length D U) ≡ stripe_length D U → d ≢ drive_of D U z a → d ≢ parity_drive D z (stripe_of D U a) → needed D U z a d ≡ suc (stripe_of D U a) * U
  unfolding stripe_length
  needed_last_other a d hd h n e =
      let s = stripe_of D U a in
      let p = parity_drive D z s in
      let i = unit_of D p d in
      let (l, q) = unit_of_drive D p (parity_drive_below s) d hd e in
      needed_data_stripe a d s refl e ∙ go l (apart i (unit_index D U a) (unit_apart a d hd e n))
    where
      go : unit_of D (parity_drive D z (stripe_of D U a)) d + 1 < D
          → (suc (unit_of D (parity_drive D z (stripe_of D U a)) d) * U ≤ unit_index D U a * U) ⊎ (suc (unit_index D U a) * U ≤ unit_of D (parity_drive D z (stripe_of D U a)) d * U)
          → stripe_of D U a * U + min (a % ((D - 1) * U) - unit_of D (parity_drive D z (stripe_of D U a)) d * U) U ≡ suc (stripe_of D U a) * U
      go l (inl q) = omega (arith, rest_is a)
      go l (inr q) =
          let k : suc (unit_of D (parity_drive D z (stripe_of D U a)) d) ≤ D - 1 = omega arith in
          omega (arith, rest_is a, row_index_below a, mul-le-mul_right U k)

  pub needed_last_own : (a : ℕ) → suc (a % stripe_length D U) ≡ stripe_length D U → suc (sector_of D U a) ≡ suc (stripe_of D U a) * U
  unfolding stripe_length sector_of
  needed_last_own a h =
      let k : suc (unit_index D U a) ≤ D - 1 = omega (arith, unit_index_below a) in
      omega (arith, rest_is a, row_index_below a, mul-le-mul_right U k)

  -- ---- a pointer and its stripe
  pub stripe_below : (n : ℕ) → stripe_of D U n * stripe_length D U ≤ n
  unfolding stripe_of
  stripe_below n = omega (arith, div-add-mod' n (stripe_length D U))

  pub stripe_above : (n : ℕ) → n < stripe_of D U n * stripe_length D U + stripe_length D U
  unfolding stripe_of
  stripe_above n = omega (arith, div-add-mod' n (stripe_length D U), mod-lt n stripe_pos)

  -- an address lies below m stripes exactly if its stripe does
  pub stripe_lt : (m n : ℕ) → (n < m * stripe_length D U) ↔ (stripe_of D U n < m)
  unfolding stripe_of
  stripe_lt m n = ((div-lt_iff_lt-mul stripe_pos).1, (div-lt_iff_lt-mul stripe_pos).0)

  -- m stripes need at most m units of a drive
  pub needed_most : (m n d : ℕ) → n ≤ m * stripe_length D U → needed D U z n d ≤ m * U
  needed_most m n d h = go (tri (stripe_of D U n) m)
    where
      go : Tri (stripe_of D U n) m → needed D U z n d ≤ m * U
      go (lt k) = omega (arith, needed_within n d, mul-le-mul_right U k)
      go (eq k) =
          let e : n % stripe_length D U ≡ zero = unfold stripe_of in
          let q : stripe_of D U n * stripe_length D U ≡ m * stripe_length D U = rw k refl in omega (arith, div-add-mod' n (stripe_length D U), q, h) in
          rw (← k) (omega (arith, needed_start n d e))
      go (gt k) = absurd (omega (arith, stripe_below n, mul-le-mul_right (stripe_length D U) k, stripe_pos))

  pub needed_zero : (d : ℕ) → needed D U z zero d ≡ zero
  needed_zero d = omega (arith, needed_most zero zero d (omega arith))

  -- a pointer needs no less than one below it
  pub needed_grows : (a d : ℕ) → d < D → needed D U z a d ≤ needed D U z (suc a) d
  needed_grows a d hd = go (ℕ_discrete d (drive_of D U z a)) (ℕ_discrete (suc (a % stripe_length D U)) (stripe_length D U)) (ℕ_discrete d (parity_drive D z (stripe_of D U a)))
    where
      more : suc (a % stripe_length D U) ≢ stripe_length D U → suc (a % stripe_length D U) < stripe_length D U
      more l = omega (arith, mod-lt a (stripe_pos))

      go : Dec (d ≡ drive_of D U z a) → Dec (suc (a % stripe_length D U) ≡ stripe_length D U) → Dec (d ≡ parity_drive D z (stripe_of D U a)) → needed D U z a d ≤ needed D U z (suc a) d
      go (yes e) (yes l) c = rw e (omega (arith, needed_own a, needed_last a (drive_of D U z a) l, needed_last_own a l))
      go (yes e) (no l) c = rw e (omega (arith, needed_own a, needed_inside_own a (more l)))
      go (no e) (yes l) (yes c) = rw c (omega (arith, needed_at_parity a, needed_last a (parity_drive D z (stripe_of D U a)) l))
      go (no e) (yes l) (no c) = omega (arith, needed_last a d l, needed_last_other a d hd l e c)
      go (no e) (no l) c = omega (arith, needed_inside a d hd (more l) e)

  pub needed_mono : (k a d : ℕ) → d < D → needed D U z a d ≤ needed D U z (a + k) d
  needed_mono zero a d hd = let e : a + zero ≡ a = omega arith in rw e (le_refl (needed D U z a d))
  needed_mono (suc k) a d hd = let e : a + suc k ≡ suc a + k = omega arith in rw e (le_trans (needed_grows a d hd) (needed_mono k (suc a) d hd))
