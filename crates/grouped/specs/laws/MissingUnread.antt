-- The missing drive's memory is never read: two inputs that differ only in its blocks and its metadata get the same answer and leave the same buffer.
use Rattle.std.specs.Prelude.{◌≡◌, ◌≢◌, Bool, ◌&&◌, List, [], ◌∷◌, length, take, drop}
use Rattle.std.proofs.Math.Path.{refl, ap}
use Rattle.std.proofs.Common.{sym, ◌∙◌, take-take, drop-drop, eq-eqb}
use Rattle.std.proofs.Math.Bool.{true, false, not}
use Prim.Native.Nat.{ℕ, zero, suc, ◌+◌, ◌-◌, ◌*◌, ◌/◌, ◌%◌, ◌≤◌, ◌<◌}
use native.Mathlib.Omega.{arith}
use Rattle.std.proofs.Math.Decide.{ℕ_discrete}
use Rattle.std.proofs.Math.Dec.{eqb}
use Rattle.std.proofs.lemmas.Bool.{eqb-false}
use Rattle.tables.specs.meaning.Basics.{pick}
use Rattle.tables.specs.meaning.Below.{any_below, count_below}
use Rattle.tables.specs.meaning.LittleEndian.{number_le}
use Rattle.tables.specs.meaning.Tables.{sector_no}
use Rattle.tables.specs.meaning.Xor.{without}
use Rattle.tables.specs.laws.Below.{any_below_cong, count_below_cong}
use Rattle.tables.specs.laws.Xor.{xor_below_cong, without_self, without_other}
use Rattle.grouped.specs.declared.Segment.{Segment}
use Rattle.grouped.specs.meaning.Segment.{record_bytes, missing_drive}
use Rattle.grouped.specs.meaning.Stripes.{block_address, timestamp_at, id_at, of_stripe, wrong_drive, wrong_i_ds, last_below, block_place, xor_numbers, except, address_of, timestamp_of, block_of}
use Rattle.grouped.specs.meaning.Reading.{request, grouped_number, grouped_left}
use Rattle.grouped.specs.places.Placed.{place_within}
use Rattle.grouped.specs.laws.Holdings.{SameHeld}
use Rattle.grouped.specs.reading.SameCall.{same_call}

-- the parts of so many bytes of all drives but x are the same
pub record SameBut (s : Segment) (x width : ℕ) (xs ys : List ℕ) : Type 0 where
  pub long : length ys ≡ length xs
  pub same : (d i : ℕ) → d < s.drives → d ≢ x → i < s.blocks → sector_no width xs (d * s.blocks + i) ≡ sector_no width ys (d * s.blocks + i)

-- ---- a block's metadata lie in its record
take_within : (k j n : ℕ) (l : List ℕ) → j + k ≤ n → take k (drop j (take n l)) ≡ take k (drop j l)
take_within k zero n l h = take-take k n l (omega arith)
take_within k (suc j) zero l h = absurd (omega arith)
take_within k (suc j) (suc n) [] h = refl
take_within k (suc j) (suc n) (x ∷ l) h = take_within k j n l (omega arith)

in_record : (k j at : ℕ) (ms : List ℕ) → j + k ≤ 20 → number_le (take k (drop (at + j) ms)) ≡ number_le (take k (drop j (take 20 (drop at ms))))
in_record k j at ms h = ap (λ (l : List ℕ). number_le (take k l)) (sym (drop-drop j at ms)) ∙ ap number_le (sym (take_within k j 20 (drop at ms) h))

module _ (s : Segment) (x : ℕ) (ms ns : List ℕ) (r : SameBut s x record_bytes ms ns) where
  told : (k j d i : ℕ) → j + k ≤ 20 → d < s.drives → d ≢ x → i < s.blocks
      → number_le (take k (drop ((d * s.blocks + i) * 20 + j) ms)) ≡ number_le (take k (drop ((d * s.blocks + i) * 20 + j) ns))
  told k j d i b h ne l =
      in_record k j ((d * s.blocks + i) * 20) ms b ∙ ap (λ (p : List ℕ). number_le (take k (drop j p))) (r.same d i h ne l) ∙ sym (in_record k j ((d * s.blocks + i) * 20) ns b)

  same_id : (d i : ℕ) → d < s.drives → d ≢ x → i < s.blocks → id_at ms (d * s.blocks + i) ≡ id_at ns (d * s.blocks + i)
  unfolding id_at
  same_id d i h ne l = told 4 16 d i (omega arith) h ne l

  same_address : (d i : ℕ) → d < s.drives → d ≢ x → i < s.blocks → block_address ms (d * s.blocks + i) ≡ block_address ns (d * s.blocks + i)
  unfolding block_address
  same_address d i h ne l =
      let z : (d * s.blocks + i) * 20 + 0 ≡ (d * s.blocks + i) * 20 = omega arith in
      ap (λ (n : ℕ). number_le (take 8 (drop n ms))) (sym z) ∙ told 8 0 d i (omega arith) h ne l ∙ ap (λ (n : ℕ). number_le (take 8 (drop n ns))) z

  same_timestamp : (d i : ℕ) → d < s.drives → d ≢ x → i < s.blocks → timestamp_at ms (d * s.blocks + i) ≡ timestamp_at ns (d * s.blocks + i)
  unfolding timestamp_at
  same_timestamp d i h ne l = told 8 8 d i (omega arith) h ne l

  -- ---- so the stripes are the same
  same_of : (d n i : ℕ) → d < s.drives → d ≢ x → i < s.blocks → of_stripe s ms d n i ≡ of_stripe s ns d n i
  unfolding of_stripe
  same_of d n i h ne l = ap (λ (k : ℕ). eqb (i / s.group) (n / s.group) && eqb k (n % s.group)) (same_id d i h ne l)

  same_wrong : wrong_i_ds s ms x ≡ wrong_i_ds s ns x
  unfolding wrong_i_ds wrong_drive
  same_wrong = any_below_cong _ _ s.drives (λ d h. go d h (ℕ_discrete d x))
    where
      go : (d : ℕ) → d < s.drives → Dec (d ≡ x)
          → not (eqb d x) && any_below (λ n. not (eqb (count_below (of_stripe s ms d n) s.blocks) 1)) s.blocks ≡ not (eqb d x) && any_below (λ n. not (eqb (count_below (of_stripe s ns d n) s.blocks) 1)) s.blocks
      go d h (yes e) = rw (eq-eqb d x e) refl
      go d h (no e) =
          ap (λ (t : Bool). not (eqb d x) && t)
          (any_below_cong _ _ s.blocks (λ n l. ap (λ (k : ℕ). not (eqb k 1)) (count_below_cong (of_stripe s ms d n) (of_stripe s ns d n) s.blocks (λ i m. same_of d n i h e m))))

  last_cong : (d n m : ℕ) → d < s.drives → d ≢ x → m ≤ s.blocks → last_below (of_stripe s ms d n) m ≡ last_below (of_stripe s ns d n) m
  last_cong d n zero h ne l = refl
  last_cong d n (suc m) h ne l = rw (same_of d n m h ne (omega arith), last_cong d n m h ne (omega arith)) refl

  same_place_lem : (d n : ℕ) → d < s.drives → d ≢ x → block_place s ms d n ≡ block_place s ns d n
  unfolding block_place
  same_place_lem d n h ne = ap (λ (k : ℕ). d * s.blocks + k - 1) (last_cong d n s.blocks h ne (omega arith))

  module _ (right : wrong_i_ds s ms x ≡ false) where
    -- what lies in a place of the drive is the same, so what lies at the stripe's block is
    at_place : (A : Type 0) (f g : ℕ → A) → ((d i : ℕ) → d < s.drives → d ≢ x → i < s.blocks → f (d * s.blocks + i) ≡ g (d * s.blocks + i))
        → (d n : ℕ) → d < s.drives → d ≢ x → n < s.blocks → f (block_place s ms d n) ≡ g (block_place s ns d n)
    at_place A f g same d n h ne l =
        let (p, q) = place_within s ms x d n right h ne l in
        let e : d * s.blocks + (block_place s ms d n - d * s.blocks) ≡ block_place s ms d n = omega arith in
        ap f (sym e) ∙ same d (block_place s ms d n - d * s.blocks) h ne (omega arith) ∙ ap g (e ∙ same_place_lem d n h ne)

    numbers : (f g : ℕ → ℕ) → ((d i : ℕ) → d < s.drives → d ≢ x → i < s.blocks → f (d * s.blocks + i) ≡ g (d * s.blocks + i))
        → (n m : ℕ) → n < s.blocks → m ≤ s.drives → xor_numbers (except x (λ e. f (block_place s ms e n))) m ≡ xor_numbers (except x (λ e. g (block_place s ns e n))) m
    numbers f g same n zero l k = refl
    numbers f g same n (suc m) l k = rw (numbers f g same n m l (omega arith), one (ℕ_discrete m x)) refl
      where
        one : Dec (m ≡ x) → except x (λ e. f (block_place s ms e n)) m ≡ except x (λ e. g (block_place s ns e n)) m
        one (yes e) = rw (eq-eqb m x e) refl
        one (no e) = ap (pick (eqb m x) 0) (at_place ℕ f g same m n (omega arith) e l)

    pub unread_held : (xs ys : List ℕ) → SameBut s x s.block xs ys → SameHeld s xs ms x ys ns x
    unfolding address_of timestamp_of block_of
    unread_held xs ys b = record {
      address = λ d n h l. choose ℕ (block_address ms) (block_address ns) same_address d n h l _ _ (numbers (block_address ms) (block_address ns) same_address n s.drives l (omega arith));
      timestamp = λ d n h l. choose ℕ (timestamp_at ms) (timestamp_at ns) same_timestamp d n h l _ _ (numbers (timestamp_at ms) (timestamp_at ns) same_timestamp n s.drives l (omega arith));
      block = λ d n h l. choose (List ℕ) (sector_no s.block xs) (sector_no s.block ys) b.same d n h l _ _ (xor_below_cong _ _ s.drives (λ e k. member n l e k (ℕ_discrete e x)));
    }
      where
        choose : (A : Type 0) (f g : ℕ → A) → ((d i : ℕ) → d < s.drives → d ≢ x → i < s.blocks → f (d * s.blocks + i) ≡ g (d * s.blocks + i))
            → (d n : ℕ) → d < s.drives → n < s.blocks → (u v : A) → u ≡ v → pick (eqb d x) u (f (block_place s ms d n)) ≡ pick (eqb d x) v (g (block_place s ns d n))
        choose A f g same d n h l u v e = by (eqb d x) refl
          where
            by : (t : Bool) → eqb d x ≡ t → pick t u (f (block_place s ms d n)) ≡ pick t v (g (block_place s ns d n))
            by true q = e
            by false q = at_place A f g same d n h (eqb-false d x q) l

        member : (n : ℕ) → n < s.blocks → (e : ℕ) → e < s.drives → Dec (e ≡ x) → without (λ e. sector_no s.block xs (block_place s ms e n)) x e ≡ without (λ e. sector_no s.block ys (block_place s ns e n)) x e
        member n l e k (yes q) = rw q (without_self (λ e. sector_no s.block xs (block_place s ms e n)) x ∙ sym (without_self (λ e. sector_no s.block ys (block_place s ns e n)) x))
        member n l e k (no q) =
            without_other (λ e. sector_no s.block xs (block_place s ms e n)) x e q ∙ at_place (List ℕ) (sector_no s.block xs) (sector_no s.block ys) b.same e n k q l ∙ sym (without_other (λ e. sector_no s.block ys (block_place s ns e n)) x e q)

-- THE LAW
pub missing_unread : (s : Segment) (named : List Bool) (xs ys ms ns : List ℕ) (work a : ℕ) (out : List ℕ)
    → SameBut s (missing_drive s named) s.block xs ys → SameBut s (missing_drive s named) record_bytes ms ns
    → (grouped_number (request s named xs ms work a) out ≡ grouped_number (request s named ys ns work a) out) × (grouped_left (request s named xs ms work a) out ≡ grouped_left (request s named ys ns work a) out)
missing_unread s named xs ys ms ns work a out b r =
    same_call s named xs ms named ys ns work a out
    (rw (b.long, r.long) refl)
    (same_wrong s (missing_drive s named) ms ns r)
    (λ right. unread_held s (missing_drive s named) ms ns r right xs ys b)
