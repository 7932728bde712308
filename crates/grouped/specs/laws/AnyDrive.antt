-- Of a segment in which every stripe is true to its parity, a read with any one drive missing answers as the read with all drives; 23 aside, which asks the
-- stripe IDs of present drives only.
use Rattle.std.specs.Prelude.{◌≡◌, refl, ◌≢◌, Bool, true, ◌&&◌, List, [], ◌∷◌, length, replicate, eqb}
use Rattle.std.proofs.Math.Path.{sym}
use Rattle.std.proofs.Common.{ap, ap₂, ◌∙◌, mod-lt, not-suc-le-zero, arith, eqb-true, eq-eqb, ne_eqb}
use Rattle.std.proofs.Math.Bool.{false, not}
use Prim.Native.Nat.{ℕ, zero, suc, ◌-◌, ◌*◌, ◌≤◌, ◌<◌}
use Rattle.std.proofs.Math.Decide.{ℕ_discrete}
use Rattle.std.specs.Int.Bits.{bit_xor, xor_self, xor_zero_l}
use Rattle.std.proofs.lemmas.Nat.{xor_comm}
use Rattle.tables.specs.meaning.Basics.{pick}
use Rattle.tables.specs.meaning.Drives.{no_drive}
use Rattle.tables.specs.meaning.Tables.{sector_no}
use Rattle.tables.specs.meaning.Xor.{xor_bytes, xor_below, without}
use Rattle.tables.specs.laws.Below.{any_below_false, none_any_below}
use Rattle.tables.specs.laws.Xor.{xor_assoc, xor_bytes_comm, xor_zeros, xor_bytes_cancel, xor_below_split, xor_below_length, without_self, without_other}
use Rattle.grouped.specs.declared.Segment.{Segment}
use Rattle.grouped.specs.meaning.Segment.{total_blocks, two_missing, missing_drive}
use Rattle.grouped.specs.meaning.Stripes.{block_address, timestamp_at, wrong_drive, wrong_i_ds, block_place, stripe_parity, xor_numbers, except, address_of, timestamp_of, block_of}
use Rattle.grouped.specs.meaning.Reading.{request, numbers_refused, grouped_number, grouped_left}
use Rattle.grouped.specs.laws.Segment.{cell_in}
use Rattle.grouped.specs.laws.Holdings.{SameHeld}
use Rattle.grouped.specs.places.Placed.{place_within}
use Rattle.grouped.specs.reading.Blocks.{held_length, row_least}
use Rattle.grouped.specs.reading.SameCall.{same_call}

-- the parity block of every stripe is the exclusive or of its others, as are its address and timestamp
pub record TrueToParity (s : Segment) (xs ms : List ℕ) : Type 0 where
  pub address : (n : ℕ) → n < s.blocks → block_address ms (block_place s ms (stripe_parity s n) n) ≡ xor_numbers (except (stripe_parity s n) (λ e. block_address ms (block_place s ms e n))) s.drives
  pub timestamp : (n : ℕ) → n < s.blocks → timestamp_at ms (block_place s ms (stripe_parity s n) n) ≡ xor_numbers (except (stripe_parity s n) (λ e. timestamp_at ms (block_place s ms e n))) s.drives
  pub block : (n : ℕ) → n < s.blocks → sector_no s.block xs (block_place s ms (stripe_parity s n) n) ≡ xor_below (without (λ e. sector_no s.block xs (block_place s ms e n)) (stripe_parity s n)) s.drives

-- ---- numbers: the exclusive or of all is that of all but one, and that one
except_self : (f : ℕ → ℕ) (i : ℕ) → except i f i ≡ 0
except_self f i = rw (eq-eqb i i refl) refl

except_other : (f : ℕ → ℕ) (i k : ℕ) → k ≢ i → except i f k ≡ f k
except_other f i k ne = rw (ne_eqb k i ne) refl

xor_zero_r : (a : ℕ) → bit_xor a 0 ≡ a
xor_zero_r a = xor_comm a 0 ∙ xor_zero_l a

except_below : (f : ℕ → ℕ) (i n : ℕ) → n ≤ i → xor_numbers (except i f) n ≡ xor_numbers f n
except_below f i zero h = refl
except_below f i (suc n) h = ap₂ bit_xor (except_below f i n (omega arith)) (except_other f i n (omega arith))

numbers_split : (f : ℕ → ℕ) (i n : ℕ) → i < n → xor_numbers f n ≡ bit_xor (xor_numbers (except i f) n) (f i)
numbers_split f i zero h = absurd (not-suc-le-zero h)
numbers_split f i (suc n) h = go (ℕ_discrete i n) (λ k. numbers_split f i n k)
  where
    r : ℕ
    r = xor_numbers (except i f) n

    go : Dec (i ≡ n) → (i < n → xor_numbers f n ≡ bit_xor (xor_numbers (except i f) n) (f i)) → bit_xor (xor_numbers f n) (f n) ≡ bit_xor (bit_xor (xor_numbers (except i f) n) (except i f n)) (f i)
    go (yes e) ih =
        ap₂ bit_xor (sym (except_below f i n (omega arith))) (ap f (sym e))
        ∙ ap (λ (k : ℕ). bit_xor k (f i)) (sym (xor_zero_r r) ∙ ap (bit_xor r) (sym (except_self f i) ∙ ap (except i f) e))
    go (no e) ih =
        ap (λ (k : ℕ). bit_xor k (f n)) (ih (omega arith)) ∙ xor_assoc r (f i) (f n) ∙ ap (bit_xor r) (xor_comm (f i) (f n)) ∙ sym (xor_assoc r (f n) (f i))
        ∙ ap (λ (k : ℕ). bit_xor (bit_xor r k) (f i)) (sym (except_other f i n (omega arith)))

-- where one is the exclusive or of the others, every one is
pub numbers_rebuild : (f : ℕ → ℕ) (n p x : ℕ) → p < n → x < n → f p ≡ xor_numbers (except p f) n → xor_numbers (except x f) n ≡ f x
numbers_rebuild f n p x hp hx e =
    let r = xor_numbers (except x f) n in
    let z : xor_numbers f n ≡ 0 = numbers_split f p n hp ∙ ap (λ (k : ℕ). bit_xor k (f p)) (sym e) ∙ xor_self (f p) in
    let q : bit_xor r (f x) ≡ 0 = sym (numbers_split f x n hx) ∙ z in
    sym (xor_zero_r r) ∙ ap (bit_xor r) (sym (xor_self (f x))) ∙ sym (xor_assoc r (f x) (f x)) ∙ ap (λ (k : ℕ). bit_xor k (f x)) q ∙ xor_zero_l (f x)

-- ---- blocks alike
xor_same : (v : List ℕ) → xor_bytes v v ≡ replicate (length v) 0
xor_same [] = refl
xor_same (a ∷ v) = ap₂ (λ (b : ℕ) (l : List ℕ). b ∷ l) (xor_self a) (xor_same v)

pub blocks_rebuild : (B : ℕ) (f : ℕ → List ℕ) (n p x e : ℕ) → ((k : ℕ) → k < n → length (f k) ≡ B) → p < n → x < n → e < n → e ≢ x → f p ≡ xor_below (without f p) n → xor_below (without f x) n ≡ f x
blocks_rebuild B f n p x e long hp hx he ne q =
    sym (xor_zeros B r all) ∙ xor_bytes_comm (replicate B 0) r ∙ ap (xor_bytes r) (sym zero_row_lem) ∙ xor_bytes_cancel r (f x) (rw (all, long x hx) (omega arith))
  where
    r : List ℕ
    r = xor_below (without f x) n

    short : (k : ℕ) → k < n → length (without f x k) ≤ B
    short k l = go (ℕ_discrete k x)
      where
        go : Dec (k ≡ x) → length (without f x k) ≤ B
        go (yes i) = rw (i, without_self f x) (omega arith)
        go (no i) = rw (without_other f x k i, long k l) (omega arith)

    all : length r ≡ B
    all =
        let m : length r ≤ B = xor_below_length B (without f x) n short in
        let l : length (without f x e) ≡ B = ap length (without_other f x e ne) ∙ long e he in
        omega (arith, row_least (without f x) n e he)

    zero_row_lem : xor_bytes r (f x) ≡ replicate B 0
    zero_row_lem =
        sym (xor_below_split f x n hx) ∙ xor_below_split f p n hp ∙ ap (λ (v : List ℕ). xor_bytes v (f p)) (sym q) ∙ xor_same (f p) ∙ ap (λ (k : ℕ). replicate k 0) (long p hp)

-- ---- the stripes with x missing are those with all drives
module _ (s : Segment) (xs ms : List ℕ) (x : ℕ) (many : 3 ≤ s.drives) (few : s.drives ≤ 8) (hx : x < s.drives) (right : wrong_i_ds s ms no_drive ≡ false)
    (long : length xs ≡ total_blocks s * s.block) (parity : TrueToParity s xs ms) where
  present : (d : ℕ) → d < s.drives → d ≢ no_drive
  present d h = omega arith

  pub right_without : wrong_i_ds s ms x ≡ false
  unfolding wrong_i_ds
  right_without = none_any_below (λ d. not (eqb d x) && wrong_drive s ms d) s.drives (λ d h. go d h (eqb d x))
    where
      whole : (d : ℕ) → d < s.drives → wrong_drive s ms d ≡ false
      whole d h = let a = any_below_false (λ d. not (eqb d no_drive) && wrong_drive s ms d) s.drives d right h in rw (ne_eqb d no_drive (present d h)) at a

      go : (d : ℕ) → d < s.drives → (t : Bool) → not t && wrong_drive s ms d ≡ false
      go d h true = refl
      go d h false = whole d h

  -- the place of a block that is there
  inside : (d n : ℕ) → d < s.drives → n < s.blocks → block_place s ms d n < total_blocks s
  inside d n h l =
      let (p, q) = place_within s ms no_drive d n right h (present d h) l in
      let c = cell_in s d (block_place s ms d n - d * s.blocks) h (omega arith) in
      omega arith

  pick_all : (A : Type 0) (d : ℕ) → d < s.drives → (u v : A) → pick (eqb d no_drive) u v ≡ v
  pick_all A d h u v = rw (ne_eqb d no_drive (present d h)) refl

  by_number : (f : ℕ → ℕ) (n d : ℕ) → n < s.blocks → d < s.drives → f (stripe_parity s n) ≡ xor_numbers (except (stripe_parity s n) f) s.drives → pick (eqb d x) (xor_numbers (except x f) s.drives) (f d) ≡ f d
  by_number f n d l h e = go (eqb d x) refl
    where
      go : (t : Bool) → eqb d x ≡ t → pick t (xor_numbers (except x f) s.drives) (f d) ≡ f d
      go true q = numbers_rebuild f s.drives (stripe_parity s n) x (mod-lt n (omega arith)) hx e ∙ ap f (sym (eqb-true d x q))
      go false q = refl

  by_block : (n d : ℕ) → n < s.blocks → d < s.drives → pick (eqb d x) (xor_below (without (λ e. sector_no s.block xs (block_place s ms e n)) x) s.drives) (sector_no s.block xs (block_place s ms d n)) ≡ sector_no s.block xs (block_place s ms d n)
  by_block n d l h = go (eqb d x) refl (ℕ_discrete x 0)
    where
      f : ℕ → List ℕ
      f e = sector_no s.block xs (block_place s ms e n)

      rebuilt : (e : ℕ) → e < s.drives → e ≢ x → xor_below (without f x) s.drives ≡ f x
      rebuilt e he ne = blocks_rebuild s.block f s.drives (stripe_parity s n) x e (λ k m. held_length s xs (block_place s ms k n) (inside k n m l) long) (mod-lt n (omega arith)) hx he ne (parity.block n l)

      go : (t : Bool) → eqb d x ≡ t → Dec (x ≡ 0) → pick t (xor_below (without f x) s.drives) (f d) ≡ f d
      go true q (yes z) = rebuilt 1 (omega arith) (omega arith) ∙ ap f (sym (eqb-true d x q))
      go true q (no z) = rebuilt 0 (omega arith) (omega arith) ∙ ap f (sym (eqb-true d x q))
      go false q z = refl

  pub same_without : SameHeld s xs ms x xs ms no_drive
  unfolding address_of timestamp_of block_of
  same_without = record {
    address = λ d n h l. by_number (λ e. block_address ms (block_place s ms e n)) n d l h (parity.address n l) ∙ sym (pick_all ℕ d h _ _);
    timestamp = λ d n h l. by_number (λ e. timestamp_at ms (block_place s ms e n)) n d l h (parity.timestamp n l) ∙ sym (pick_all ℕ d h _ _);
    block = λ d n h l. by_block n d l h ∙ sym (pick_all (List ℕ) d h _ _);
  }

  -- THE LAW: `all` names every drive, `rest` every one but x
  pub any_drive_may_be_missing : (all rest : List Bool) (work a : ℕ) (out : List ℕ) → missing_drive s all ≡ no_drive → missing_drive s rest ≡ x → two_missing s all ≡ false → two_missing s rest ≡ false
      → (grouped_number (request s rest xs ms work a) out ≡ grouped_number (request s all xs ms work a) out)
      × (grouped_left (request s rest xs ms work a) out ≡ grouped_left (request s all xs ms work a) out)
  unfolding numbers_refused
  any_drive_may_be_missing all rest work a out p q f g =
      same_call s rest xs ms all xs ms work a out (rw (f, g) refl) (rw (p, q) (right_without ∙ sym right)) (λ r. rw (p, q) same_without)
