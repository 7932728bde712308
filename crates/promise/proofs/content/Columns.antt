-- The columns of a zone: what its content puts on each drive, in order, how a column grows with the content, and that drives which hold
-- a front of their columns tell rules 4 and 5 the truth.
use Rattle.volume.specs.meaning.Content.{at, row_xor, content_at}
use Rattle.volume.specs.meaning.Rules.{view_of, ParityEntry}
use Rattle.tables.specs.laws.Lists.{Prefix, prefix_length}
use Rattle.tables.specs.laws.Below.{tabulate_from_add, get_d_tabulate_from, length_tabulate_from, tabulate_from_cong}
use Rattle.tables.specs.meaning.Below.{tabulate_from}
use Rattle.tables.specs.laws.Placement.{needed_mono, address_at_own, drive_not_parity, sector_stripe, place_onto, needed_iff, needed_parity, complete_lt, drive_below, parity_drive_below}
use Rattle.std.specs.Prelude.{◌≡◌, get_or, eqb, ltb, Bool, true}
use Rattle.std.proofs.Math.Path.{refl, ap}
use Rattle.std.proofs.Common.{sym, ◌∙◌, div-add-mod', length-append}
use Prim.Native.Nat.{ℕ, zero, ◌+◌, ◌-◌, ◌*◌, ◌/◌, ◌%◌, ◌≤◌, ◌<◌}
use Rattle.std.proofs.Math.Nat.{mod-lt}
use native.Mathlib.Omega.{arith}
use Rattle.std.proofs.Math.Decide.{ℕ_discrete}
use mathlib.Core.List.{List, [], ◌++◌}
use Rattle.std.proofs.Math.ListN.{length, get_or-append}
use Rattle.std.proofs.Math.Arith.{digits_div, digits_mod}
use borrow.Author.Tests.{eq-eqb, ne_eqb}
use Rattle.tables.specs.meaning.Basics.{pick}
use Rattle.tables.specs.laws.Xor.{xor_below_cong}
use Rattle.tables.specs.meaning.Xor.{xor_below}
use Rattle.tables.specs.meaning.Placement.{drive_of, sector_of, needed, stripe_of, parity_drive, address, address_at}
use Rattle.tables.specs.meaning.Device.{Device}
use Rattle.promise.proofs.content.Recover.{Truth, All}
use Rattle.tables.specs.meaning.Geometry.{data_zone}

module _ (D U z : ℕ) (h_d : 1 < D) (h_u : zero < U) (S : ℕ → List ℕ) where
  pub content_at_data : (a : ℕ) → content_at D U z S (drive_of D U z a) (sector_of D U a) ≡ S a
  unfolding content_at
  content_at_data a =
      rw (sector_stripe D U z h_d h_u a, ne_eqb (drive_of D U z a) (parity_drive D z (stripe_of D U a)) (drive_not_parity D U z h_d h_u a)) (ap S (address_at_own D U z h_d h_u a))

  pub content_at_parity : (s r : ℕ) → r < U → content_at D U z S (parity_drive D z s) (s * U + r) ≡ row_xor D U S s r
  unfolding content_at
  content_at_parity s r h = rw (digits_div s h, digits_mod s h, eq-eqb (parity_drive D z s) (parity_drive D z s) refl) refl

  -- a front of the column tells the truth
  pub front_of_column : (N d : ℕ) (xs : List (List ℕ)) → Prefix xs (tabulate_from (content_at D U z S d) zero (needed D U z N d))
      → (length xs ≤ needed D U z N d) × ((x : ℕ) → x < length xs → get_or xs x [] ≡ content_at D U z S d x)
  front_of_column N d xs p =
      let l : length xs ≤ needed D U z N d = rw (length_tabulate_from (content_at D U z S d) zero (needed D U z N d)) at (prefix_length p) in (
        l,
        λ x h. sym (get_or-append xs p.rest [] x h) ∙ rw p.is (let e : zero + x ≡ x = omega arith in rw e at (get_d_tabulate_from (content_at D U z S d) zero (needed D U z N d) x (omega arith))),
      )

-- the column of drive d: what it holds of the sectors l of zone z
unfoldable pub column : ℕ → ℕ → ℕ → List (List ℕ) → ℕ → List (List ℕ)
column D U z l d = tabulate_from (content_at D U z (at l) d) zero (needed D U z (length l) d)

-- what joins a column when ss joins the content
unfoldable pub piece : ℕ → ℕ → ℕ → List (List ℕ) → List (List ℕ) → ℕ → List (List ℕ)
piece D U z l ss d = tabulate_from (content_at D U z (at (l ++ ss)) d) (needed D U z (length l) d) (needed D U z (length l + length ss) d - needed D U z (length l) d)

module _ (D U z : ℕ) (h_d : 1 < D) (h_u : zero < U) where
  -- what stands below the need of N speaks of addresses below N alone
  pub content_at_cong : (S S' : ℕ → List ℕ) (N : ℕ) → ((a : ℕ) → a < N → S a ≡ S' a) → (d x : ℕ) → d < D → x < needed D U z N d → content_at D U z S d x ≡ content_at D U z S' d x
  unfolding content_at row_xor
  content_at_cong S S' N h d x hd l = go (ℕ_discrete d (parity_drive D z (x / U)))
    where
      r : x % U < U
      r = mod-lt x h_u

      e : x / U * U + x % U ≡ x
      e = div-add-mod' x U

      go : Dec (d ≡ parity_drive D z (x / U)) → pick (eqb d (parity_drive D z (x / U))) (xor_below (λ k. S (address D U (x / U) k (x % U))) (D - 1)) (S (address_at D U z d x)) ≡ pick (eqb d (parity_drive D z (x / U))) (xor_below (λ k. S' (address D U (x / U) k (x % U))) (D - 1)) (S' (address_at D U z d x))
      go (yes q) =
          let c : x / U < stripe_of D U N = (needed_parity D U z h_d h_u N (x / U) (x % U) r).0 (rw (e, ← q) l) in
          rw (eq-eqb d (parity_drive D z (x / U)) q) (xor_below_cong (λ k. S (address D U (x / U) k (x % U))) (λ k. S' (address D U (x / U) k (x % U))) (D - 1) (λ k hk. h (address D U (x / U) k (x % U)) (complete_lt D U z h_d h_u N (x / U) k (x % U) c (omega arith) r)))
      go (no q) =
          let (p1, p2) = place_onto D U z h_d h_u d x hd q in
          rw (ne_eqb d (parity_drive D z (x / U)) q) (h (address_at D U z d x) ((needed_iff D U z h_d h_u N (address_at D U z d x)).0 (rw (p1, p2) l)))

  pub column_grows : (l ss : List (List ℕ)) (d : ℕ) → d < D → column D U z (l ++ ss) d ≡ column D U z l d ++ piece D U z l ss d
  unfolding column piece
  column_grows l ss d hd =
      let f = content_at D U z (at (l ++ ss)) d in
      let i = needed D U z (length l) d in
      let j = needed D U z (length l + length ss) d in
      let h : i ≤ j = needed_mono D U z h_d h_u (length ss) (length l) d hd in
      let n : j ≡ i + (j - i) = omega arith in
      let q : zero + i ≡ i = omega arith in
      rw (length-append l ss) (
      ap (tabulate_from f zero) n ∙ tabulate_from_add f zero i (j - i)
      ∙ rw q (ap (λ (x : List (List ℕ)). x ++ tabulate_from f i (j - i)) (tabulate_from_cong f (content_at D U z (at l) d) zero zero i (λ k m. let e : zero + k ≡ k = omega arith in rw e (content_at_cong (at (l ++ ss)) (at l) (length l) (λ a b. get_or-append l ss [] a b) d k hd m)))))

  -- ---- from columns to the rules
  pub columns_tell_truth : (present : ℕ → Bool) (v : Device) (logs : ℕ → List ParityEntry) (l : List (List ℕ)) (B : ℕ)
      → ((a : ℕ) → a < length l → length (at l a) ≡ B)
      → ((d : ℕ) → d < D → present d ≡ true → Prefix (v d (data_zone z)).sectors (column D U z l d))
      → ((d : ℕ) → d < D → present d ≡ true → All (λ e. (e.end ≤ length l) × ((r : ℕ) → r < U → e.rows r ≡ xor_below (λ k. pick (ltb (address D U e.stripe k r) e.end) (at l (address D U e.stripe k r)) []) (D - 1))) (logs d))
      → Truth D U z (at l) (length l) B (view_of z present v logs)
  unfolding view_of column row_xor
  columns_tell_truth present v logs l B size pre tells = record {
    size = size;
    upper = λ d hd a. (front_of_column D U z h_d h_u (at l) (length l) d (v d (data_zone z)).sectors (pre d hd a)).0;
    data_is = λ a h x. (front_of_column D U z h_d h_u (at l) (length l) (drive_of D U z a) (v (drive_of D U z a) (data_zone z)).sectors (pre (drive_of D U z a) (drive_below D U z h_d h_u a) h)).1 (sector_of D U a) x ∙ content_at_data D U z h_d h_u (at l) a;
    parity_is = λ s r hr h x. (front_of_column D U z h_d h_u (at l) (length l) (parity_drive D z s) (v (parity_drive D z s) (data_zone z)).sectors (pre (parity_drive D z s) (parity_drive_below D U z h_d h_u s) h)).1 (s * U + r) x ∙ content_at_parity D U z h_d h_u (at l) s r hr;
    log_is = tells;
  }
