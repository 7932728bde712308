-- The data stores of a write as each place sees them: the data place of a drive sees the next piece of its column, and no other place sees
-- anything.
use Rattle.volume.specs.meaning.Content.{content_at, row_xor, at}
use Rattle.promise.proofs.content.Columns.{piece, content_at_data, content_at_parity}
use Rattle.volume.specs.meaning.Calls.{sector_stores, data_stores, parity_stores, append_all}
use Rattle.tables.specs.laws.Lists.{map_append}
use Rattle.tables.specs.laws.Below.{tabulate_from_add, tabulate_from_cong}
use Rattle.tables.specs.meaning.Below.{tabulate_from}
use Rattle.tables.specs.laws.Placement.{needed_mono, needed_grows, drive_not_parity, stripe_pos, needed_own, needed_inside, needed_inside_own, needed_last, needed_last_other, needed_last_own, needed_at_parity}
use Rattle.std.specs.Prelude.{◌≡◌, ◌≢◌, ◌&&◌, Bool, true, false, length, eqb}
use Rattle.std.proofs.Math.Path.{refl, ap}
use Rattle.std.proofs.Common.{sym, ◌∙◌, mod-lt}
use Prim.Native.Nat.{ℕ, zero, suc, ◌+◌, ◌-◌, ◌*◌, ◌%◌, ◌≤◌, ◌<◌}
use native.Mathlib.Omega.{arith}
use Rattle.std.proofs.Math.Decide.{ℕ_discrete}
use mathlib.Core.List.{List, [], ◌∷◌, ◌++◌, map}
use borrow.Author.Tests.{eq-eqb, ne_eqb}
use Rattle.tables.specs.meaning.Basics.{pick}
use Rattle.tables.specs.laws.Local.{LocalStore, append_here, local_stores, local_append}
use Rattle.tables.specs.meaning.Placement.{drive_of, sector_of, needed, stripe_of, parity_drive, stripe_length, address}
use Rattle.tables.specs.meaning.Geometry.{data_zone}

-- ---- sectors appended to a place: another zone sees nothing, nor does another drive
pub appends_other_zone : (d e y y' : ℕ) (ss : List (List ℕ)) → y ≢ y' → local_stores d y (append_all e y' ss) ≡ []
appends_other_zone d e y y' [] n = refl
appends_other_zone d e y y' (s ∷ ss) n = go (eqb d e) (appends_other_zone d e y y' ss n)
  where
    go : (b : Bool) → local_stores d y (append_all e y' ss) ≡ [] → pick (b && eqb y y') (append_here s ∷ []) [] ++ local_stores d y (append_all e y' ss) ≡ []
    go true ih = rw (ne_eqb y y' n, ih) refl
    go false ih = rw ih refl

pub appends_own : (d y : ℕ) (ss : List (List ℕ)) → local_stores d y (append_all d y ss) ≡ map append_here ss
appends_own d y [] = refl
appends_own d y (s ∷ ss) = rw (eq-eqb d d refl, eq-eqb y y refl) (ap (λ (r : List LocalStore). append_here s ∷ r) (appends_own d y ss))

pub appends_same : (d e y : ℕ) (ss : List (List ℕ)) → d ≡ e → local_stores d y (append_all e y ss) ≡ map append_here ss
appends_same d e y ss q = rw q (appends_own e y ss)

pub appends_other_drive : (d e y : ℕ) (ss : List (List ℕ)) → d ≢ e → local_stores d y (append_all e y ss) ≡ []
appends_other_drive d e y [] n = refl
appends_other_drive d e y (s ∷ ss) n = rw (ne_eqb d e n) (appends_other_drive d e y ss n)

module _ (D U z : ℕ) (h_d : 1 < D) (h_u : zero < U) (S : ℕ → List ℕ) where
  -- what drive d sees of one address
  Gain : ℕ → ℕ → List LocalStore
  Gain a d = map append_here (tabulate_from (content_at D U z S d) (needed D U z a d) (needed D U z (suc a) d - needed D U z a d))

  gain_is : (a d i n : ℕ) → needed D U z a d ≡ i → needed D U z (suc a) d ≡ i + n → Gain a d ≡ map append_here (tabulate_from (content_at D U z S d) i n)
  unfolding Gain
  gain_is a d i n p q = let e : i + n - i ≡ n = omega arith in rw (p, q, e) refl

  Front : ℕ → ℕ → List LocalStore
  Front a d = pick (eqb d (drive_of D U z a) && eqb (data_zone z) (data_zone z)) (append_here (S a) ∷ []) []

  front_own : (a : ℕ) → Front a (drive_of D U z a) ≡ append_here (S a) ∷ []
  unfolding Front
  front_own a = rw (eq-eqb (drive_of D U z a) (drive_of D U z a) refl, eq-eqb (data_zone z) (data_zone z) refl) refl

  front_other : (a d : ℕ) → d ≢ drive_of D U z a → Front a d ≡ []
  unfolding Front
  front_other a d n = rw (ne_eqb d (drive_of D U z a) n) refl

  Back : ℕ → ℕ → List LocalStore
  Back a d = local_stores d (data_zone z) (pick (eqb (suc (a % stripe_length D U)) (stripe_length D U)) (parity_stores D U z S (stripe_of D U a)) [])

  back_inside : (a d : ℕ) → suc (a % stripe_length D U) ≢ stripe_length D U → Back a d ≡ []
  unfolding Back
  back_inside a d n = rw (ne_eqb (suc (a % stripe_length D U)) (stripe_length D U) n) refl

  back_last : (a d : ℕ) → suc (a % stripe_length D U) ≡ stripe_length D U → Back a d ≡ local_stores d (data_zone z) (parity_stores D U z S (stripe_of D U a))
  unfolding Back
  back_last a d n = rw (eq-eqb (suc (a % stripe_length D U)) (stripe_length D U) n) refl

  own_gain : (a : ℕ) → needed D U z (suc a) (drive_of D U z a) ≡ suc (sector_of D U a) → Gain a (drive_of D U z a) ≡ append_here (S a) ∷ []
  own_gain a q =
      let q' : needed D U z (suc a) (drive_of D U z a) ≡ sector_of D U a + 1 = omega arith in
      gain_is a (drive_of D U z a) (sector_of D U a) 1 (needed_own D U z h_d h_u a) q' ∙ rw (content_at_data D U z h_d h_u S a) refl

  no_gain : (a d : ℕ) → needed D U z (suc a) d ≡ needed D U z a d → Gain a d ≡ []
  no_gain a d q = let q' : needed D U z (suc a) d ≡ needed D U z a d + zero = omega arith in gain_is a d (needed D U z a d) zero refl q'

  parity_gain : (a : ℕ) → suc (a % stripe_length D U) ≡ stripe_length D U → Gain a (parity_drive D z (stripe_of D U a)) ≡ map append_here (tabulate_from (row_xor D U S (stripe_of D U a)) zero U)
  parity_gain a l =
      let s = stripe_of D U a in
      let q : needed D U z (suc a) (parity_drive D z s) ≡ s * U + U = omega (arith, needed_last D U z h_d h_u a (parity_drive D z s) l) in
      gain_is a (parity_drive D z s) (s * U) U (needed_at_parity D U z h_d h_u a) q
      ∙ ap (map append_here) (tabulate_from_cong (content_at D U z S (parity_drive D z s)) (row_xor D U S s) (s * U) zero U (λ k h. let e : zero + k ≡ k = omega arith in rw e (content_at_parity D U z h_d h_u S s k h)))

  split_step : (a d : ℕ) → local_stores d (data_zone z) (sector_stores D U z S a) ≡ Front a d ++ Back a d
  unfolding Front Back
  split_step a d = refl

  step_sees : (a d : ℕ) → d < D → local_stores d (data_zone z) (sector_stores D U z S a) ≡ Gain a d
  step_sees a d hd = split_step a d ∙ go (ℕ_discrete d (drive_of D U z a)) (ℕ_discrete (suc (a % stripe_length D U)) (stripe_length D U)) (ℕ_discrete d (parity_drive D z (stripe_of D U a)))
    where
      more : suc (a % stripe_length D U) ≢ stripe_length D U → suc (a % stripe_length D U) < stripe_length D U
      more l = omega (arith, mod-lt a (stripe_pos D U z h_d h_u))

      go : Dec (d ≡ drive_of D U z a) → Dec (suc (a % stripe_length D U) ≡ stripe_length D U) → Dec (d ≡ parity_drive D z (stripe_of D U a)) → Front a d ++ Back a d ≡ Gain a d
      go (yes e) (yes l) c =
          rw (e, front_own a, back_last a (drive_of D U z a) l, appends_other_drive (drive_of D U z a) (parity_drive D z (stripe_of D U a)) (data_zone z) (tabulate_from (row_xor D U S (stripe_of D U a)) zero U) (drive_not_parity D U z h_d h_u a))
          (sym (own_gain a (needed_last D U z h_d h_u a (drive_of D U z a) l ∙ sym (needed_last_own D U z h_d h_u a l))))
      go (yes e) (no l) c = rw (e, front_own a, back_inside a (drive_of D U z a) l) (sym (own_gain a (needed_inside_own D U z h_d h_u a (more l))))
      go (no e) (yes l) (yes c) =
          rw (front_other a d e, back_last a d l) (rw (c, appends_own (parity_drive D z (stripe_of D U a)) (data_zone z) (tabulate_from (row_xor D U S (stripe_of D U a)) zero U)) (sym (parity_gain a l)))
      go (no e) (yes l) (no c) =
          rw (front_other a d e, back_last a d l, appends_other_drive d (parity_drive D z (stripe_of D U a)) (data_zone z) (tabulate_from (row_xor D U S (stripe_of D U a)) zero U) c)
          (sym (no_gain a d (needed_last D U z h_d h_u a d l ∙ sym (needed_last_other D U z h_d h_u a d hd l e c))))
      go (no e) (no l) c = rw (front_other a d e, back_inside a d l) (sym (no_gain a d (needed_inside D U z h_d h_u a d hd (more l) e)))

  -- A WRITE, AS DRIVE d SEES IT: the next piece of its column
  pub data_stores_seen : (k a d : ℕ) → d < D
      → local_stores d (data_zone z) (data_stores D U z S a k) ≡ map append_here (tabulate_from (content_at D U z S d) (needed D U z a d) (needed D U z (a + k) d - needed D U z a d))
  unfolding Gain
  data_stores_seen zero a d hd =
      let e : a + zero ≡ a = omega arith in
      let n : needed D U z a d - needed D U z a d ≡ zero = omega arith in
      rw (e, n) refl
  data_stores_seen (suc k) a d hd =
      let e : a + suc k ≡ suc a + k = omega arith in
      let i = needed D U z a d in
      let j = needed D U z (suc a) d in
      let m = needed D U z (suc a + k) d in
      let h1 : i ≤ j = needed_grows D U z h_d h_u a d hd in
      let h2 : j ≤ m = needed_mono D U z h_d h_u k (suc a) d hd in
      let n : m - i ≡ (j - i) + (m - j) = omega arith in
      let q : i + (j - i) ≡ j = omega arith in
      local_append d (data_zone z) (sector_stores D U z S a) (data_stores D U z S (suc a) k)
      ∙ rw (step_sees a d hd, data_stores_seen k (suc a) d hd, e) (sym (
      ap (λ (c : ℕ). map append_here (tabulate_from (content_at D U z S d) i c)) n
      ∙ ap (map append_here) (tabulate_from_add (content_at D U z S d) i (j - i) (m - j))
      ∙ map_append append_here (tabulate_from (content_at D U z S d) i (j - i)) (tabulate_from (content_at D U z S d) (i + (j - i)) (m - j))
      ∙ ap (λ (c : ℕ). map append_here (tabulate_from (content_at D U z S d) i (j - i)) ++ map append_here (tabulate_from (content_at D U z S d) c (m - j))) q))

-- no other place sees the data stores
pub data_stores_elsewhere : (D U z y : ℕ) (S : ℕ → List ℕ) → y ≢ data_zone z → (k a d : ℕ) → local_stores d y (data_stores D U z S a k) ≡ []
data_stores_elsewhere D U z y S n zero a d = refl
data_stores_elsewhere D U z y S n (suc k) a d = local_append d y (sector_stores D U z S a) (data_stores D U z S (suc a) k) ∙ rw (data_stores_elsewhere D U z y S n k (suc a) d) (go (eqb (suc (a % stripe_length D U)) (stripe_length D U)) (eqb d (drive_of D U z a)))
  where
    go : (b c : Bool) → pick (c && eqb y (data_zone z)) (append_here (S a) ∷ []) [] ++ local_stores d y (pick b (parity_stores D U z S (stripe_of D U a)) []) ++ [] ≡ []
    go true true = rw (ne_eqb y (data_zone z) n, appends_other_zone d (parity_drive D z (stripe_of D U a)) y (data_zone z) _ n) refl
    go true false = rw (appends_other_zone d (parity_drive D z (stripe_of D U a)) y (data_zone z) _ n) refl
    go false true = rw (ne_eqb y (data_zone z) n) refl
    go false false = refl

module _ (D U z : ℕ) (h_d : 1 < D) (h_u : zero < U) where
  pub data_piece : (l ss : List (List ℕ)) (d : ℕ) → d < D → local_stores d (data_zone z) (data_stores D U z (at (l ++ ss)) (length l) (length ss)) ≡ map append_here (piece D U z l ss d)
  unfolding piece
  data_piece l ss d hd = data_stores_seen D U z h_d h_u (at (l ++ ss)) (length ss) (length l) d hd
