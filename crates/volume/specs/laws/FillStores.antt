-- The stores of a mount's step 7, "sectors missing below the pointer, and parity of complete stripes": those of one zone of one drive, and what they are made of.
use Rattle.std.specs.Prelude.{◌≡◌, ◌≢◌, ℕ, zero, ◌+◌, ◌-◌, ◌*◌, ◌/◌, ◌%◌, ◌<◌, List, [], length, ltb}
use Rattle.std.proofs.Math.Path.{refl}
use Rattle.std.proofs.Common.{mod-lt, div-add-mod', arith, eq-eqb, ne_eqb, lt-ltb}
use Rattle.tables.specs.declared.Geometry.{Geometry}
use Rattle.tables.specs.meaning.Basics.{pick}
use Rattle.tables.specs.meaning.Below.{tabulate_from}
use Rattle.tables.specs.meaning.Geometry.{data_zone}
use Rattle.tables.specs.laws.Xor.{xor_below_cong}
use Rattle.tables.specs.meaning.Placement.{needed, stripe_of, stripe_length, parity_drive, address, address_at, drive_of, sector_of}
use Rattle.tables.specs.laws.Placement.{needed_iff, needed_parity, complete_lt, place_onto, address_sum}
use Rattle.tables.specs.meaning.Device.{Device, Store}
use Rattle.volume.specs.meaning.Content.{content_at, row_xor, row_xor_below}
use Rattle.volume.specs.meaning.Calls.{append_all}
use Rattle.volume.specs.meaning.Rules.{Shown}

-- ---- the stores: zone z of drive d, from the sectors that were there up to those needed
abbrev pub missing : Geometry → Shown → Device → ℕ → ℕ → List (List ℕ)
missing g s w d z = tabulate_from (content_at g.drives g.unit z (s.zone z).value d) (length (w d (data_zone z)).sectors) (needed g.drives g.unit z (s.zone z).pointer d - length (w d (data_zone z)).sectors)

abbrev pub fill_zone : Geometry → Shown → Device → ℕ → ℕ → List Store
fill_zone g s w d z = append_all d (data_zone z) (missing g s w d z)

-- ---- what is missing is made of sectors below the pointer
module _ (D U z : ℕ) (h_d : 1 < D) (h_u : zero < U) where
  -- the parity of a row whose stripe is complete
  pub row_all : (S : ℕ → List ℕ) (n s r : ℕ) → s < stripe_of D U n → r < U → row_xor_below D U S s n r ≡ row_xor D U S s r
  unfolding row_xor_below row_xor
  row_all S n s r h hr =
      xor_below_cong (λ k. pick (ltb (address D U s k r) n) (S (address D U s k r)) []) (λ k. S (address D U s k r)) (D - 1)
      (λ k l. rw (lt-ltb (address D U s k r) n (complete_lt D U z h_d h_u n s k r h (omega arith) hr)) refl)

  pub content_parity : (S : ℕ → List ℕ) (d x : ℕ) → d ≡ parity_drive D z (x / U) → content_at D U z S d x ≡ row_xor D U S (x / U) (x % U)
  unfolding content_at
  content_parity S d x e = rw (eq-eqb d (parity_drive D z (x / U)) e) refl

  pub content_data : (S : ℕ → List ℕ) (d x : ℕ) → d ≢ parity_drive D z (x / U) → content_at D U z S d x ≡ S (address_at D U z d x)
  unfolding content_at
  content_data S d x e = rw (ne_eqb d (parity_drive D z (x / U)) e) refl

  -- a parity sector that is needed belongs to a complete stripe
  pub parity_complete : (n d x : ℕ) → x < needed D U z n d → d ≡ parity_drive D z (x / U) → x / U < stripe_of D U n
  parity_complete n d x h e =
      let k : x / U * U + x % U ≡ x = div-add-mod' x U in
      let l : x / U * U + x % U < needed D U z n (parity_drive D z (x / U)) = rw (k, ← e) h in
      (needed_parity D U z h_d h_u n (x / U) (x % U) (mod-lt x h_u)).0 l

  pub parity_first : (n s r : ℕ) → s < stripe_of D U n → r < U → s * stripe_length D U + r < n
  parity_first n s r h hr = omega (arith, complete_lt D U z h_d h_u n s 0 r h (omega arith) hr, address_sum D U s 0 r)

  -- a data sector that is needed has its address below the pointer
  pub data_below : (n d x : ℕ) → d < D → x < needed D U z n d → d ≢ parity_drive D z (x / U) → address_at D U z d x < n
  data_below n d x hd h e =
      let (p, q) = place_onto D U z h_d h_u d x hd e in
      let l : sector_of D U (address_at D U z d x) < needed D U z n (drive_of D U z (address_at D U z d x)) = rw (p, q) h in
      (needed_iff D U z h_d h_u n (address_at D U z d x)).0 l
