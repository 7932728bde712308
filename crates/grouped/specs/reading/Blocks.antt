-- The block that is read, as the code makes it from where the work table says that the blocks lie.
use Rattle.std.specs.Prelude.{◌≡◌, refl, ◌≢◌, Bool, true, false, ℕ, zero, suc, ◌*◌, ◌/◌, ◌%◌, ◌≤◌, ◌<◌, List, [], ◌∷◌, drop, replicate, eqb}
use Rattle.std.proofs.Common.{sym, ap, ◌∙◌, suc-le-suc, mul-le-mul_right, le_refl, le_trans, arith, length-drop, length-take-le, eqb-true}
use Rattle.std.proofs.Math.Decide.{ℕ_discrete}
use Rattle.std.proofs.Math.ListN.{length}
use Rattle.std.proofs.lemmas.List.{length-replicate}
use Rattle.std.proofs.lemmas.Bool.{eqb-false}
use Rattle.tables.specs.meaning.Basics.{pick}
use Rattle.tables.specs.meaning.Tables.{sector_no}
use Rattle.tables.specs.meaning.Xor.{xor_bytes, xor_below, without}
use Rattle.tables.specs.laws.Xor.{xor_nil, xor_row_suc, xor_zeros, xor_below_cong, xor_below_length, length_xor, xor_bytes_comm, without_self, without_other}
use Rattle.grouped.specs.declared.Segment.{Segment}
use Rattle.grouped.specs.meaning.Segment.{total_blocks}
use Rattle.grouped.specs.meaning.Stripes.{block_place, block_of}
use Rattle.grouped.specs.meaning.Reading.{block_in, metadata_number}
use Rattle.grouped.specs.places.Placed.{Placed, Found, place_in, place_is, place_in_total, Cell, cell}

-- the block of drive d in stripe n
abbrev pub held_block : Segment → List ℕ → List ℕ → ℕ → ℕ → List ℕ
held_block s xs w n d = sector_no s.block xs (place_in s w d n)

-- with drive d's block
unfoldable pub add_block : Segment → List ℕ → ℕ → List ℕ → ℕ → ℕ → List ℕ → List ℕ
add_block s xs x w n d out = pick (eqb d x) out (xor_bytes out (held_block s xs w n d))

unfoldable pub rebuilt_block : Segment → List ℕ → ℕ → List ℕ → ℕ → List ℕ
rebuilt_block s xs x w n = xor_below (without (held_block s xs w n) x) s.drives

unfoldable pub block_noted_at : Segment → List ℕ → ℕ → List ℕ → ℕ → List ℕ
block_noted_at s xs x w c = pick (eqb (c / s.blocks) x) (rebuilt_block s xs x w (c % s.blocks)) (held_block s xs w (c % s.blocks) (c / s.blocks))

-- ---- lengths
pub held_length : (s : Segment) (xs : List ℕ) (k : ℕ) → k < total_blocks s → length xs ≡ total_blocks s * s.block → length (sector_no s.block xs k) ≡ s.block
held_length s xs k h l =
    let m : suc k * s.block ≤ total_blocks s * s.block = mul-le-mul_right s.block h in
    length-take-le s.block (drop (k * s.block) xs) (rw length-drop (omega arith))

xor_left : (xs ys : List ℕ) → length xs ≤ length (xor_bytes xs ys)
xor_left [] ys = omega arith
xor_left (x ∷ xs) [] = le_refl (length (x ∷ xs))
xor_left (x ∷ xs) (y ∷ ys) = suc-le-suc (xor_left xs ys)

xor_right : (xs ys : List ℕ) → length ys ≤ length (xor_bytes xs ys)
xor_right xs ys = rw (xor_bytes_comm xs ys) (xor_left ys xs)

-- a row is as long as each of its members
pub row_least : (f : ℕ → List ℕ) (n k : ℕ) → k < n → length (f k) ≤ length (xor_below f n)
row_least f zero k h = absurd (omega arith)
row_least f (suc n) k h = go (ℕ_discrete k n) (λ l. row_least f n k l)
  where
    go : Dec (k ≡ n) → (k < n → length (f k) ≤ length (xor_below f n)) → length (f k) ≤ length (xor_bytes (xor_below f n) (f n))
    go (yes e) ih = rw e (xor_right (xor_below f n) (f n))
    go (no e) ih = le_trans (ih (omega arith)) (xor_left (xor_below f n) (f n))

-- ---- the loop: what was added so far, begun with zeros
abbrev pub sum_so_far : Segment → List ℕ → ℕ → List ℕ → ℕ → ℕ → List ℕ
sum_so_far s xs x w n d = xor_bytes (replicate s.block 0) (xor_below (without (held_block s xs w n) x) d)

pub add_block_suc : (s : Segment) (xs : List ℕ) (x : ℕ) (w : List ℕ) (n d : ℕ) → add_block s xs x w n d (sum_so_far s xs x w n d) ≡ sum_so_far s xs x w n (suc d)
unfolding add_block
add_block_suc s xs x w n d = go (eqb d x) refl
  where
    f : ℕ → List ℕ
    f = held_block s xs w n

    go : (t : Bool) → eqb d x ≡ t → pick t (sum_so_far s xs x w n d) (xor_bytes (sum_so_far s xs x w n d) (f d)) ≡ sum_so_far s xs x w n (suc d)
    go true e = let i : without f x d ≡ [] = ap (without f x) (eqb-true d x e) ∙ without_self f x in sym (ap (λ (b : List ℕ). xor_bytes (replicate s.block 0) (xor_bytes (xor_below (without f x) d) b)) i ∙ ap (xor_bytes (replicate s.block 0)) (xor_nil (xor_below (without f x) d)))
    go false e =
        let i : without f x d ≡ f d = without_other f x d (eqb-false d x e) in
        ap (λ (b : List ℕ). xor_bytes (sum_so_far s xs x w n d) b) (sym i) ∙ xor_row_suc (replicate s.block 0) (without f x) d

module _ (s : Segment) (xs : List ℕ) (x : ℕ) (w : List ℕ) (n : ℕ) (found : Found s x w) (hn : n < s.blocks) (long : length xs ≡ total_blocks s * s.block) where
  member_length : (d : ℕ) → d < s.drives → length (without (held_block s xs w n) x d) ≤ s.block
  member_length d h = go (eqb d x) refl
    where
      go : (t : Bool) → eqb d x ≡ t → length (without (held_block s xs w n) x d) ≤ s.block
      go true e = rw (eqb-true d x e, without_self (held_block s xs w n) x) (omega arith)
      go false e = rw (without_other (held_block s xs w n) x d (eqb-false d x e), held_length s xs (place_in s w d n) (place_in_total s x w d n found h (eqb-false d x e) hn) long) (le_refl s.block)

  pub so_far_length : (d : ℕ) → d ≤ s.drives → length (sum_so_far s xs x w n d) ≡ s.block
  so_far_length d h =
      let l : length (xor_below (without (held_block s xs w n) x) d) ≤ s.block = xor_below_length s.block (without (held_block s xs w n) x) d (λ k m. member_length k (omega arith)) in
      length_xor (replicate s.block 0) (xor_below (without (held_block s xs w n) x) d) (rw (length-replicate {A = ℕ} s.block 0) l) ∙ length-replicate {A = ℕ} s.block 0

  pub rebuilt_end : 3 ≤ s.drives → sum_so_far s xs x w n s.drives ≡ rebuilt_block s xs x w n
  unfolding rebuilt_block
  rebuilt_end h = xor_zeros s.block (xor_below (without (held_block s xs w n) x) s.drives) (omega (arith, most, least (ℕ_discrete x 0)))
    where
      most : length (xor_below (without (held_block s xs w n) x) s.drives) ≤ s.block
      most = xor_below_length s.block (without (held_block s xs w n) x) s.drives (λ k m. member_length k m)

      -- some drive is not missing
      there : (d : ℕ) → d < s.drives → d ≢ x → s.block ≤ length (xor_below (without (held_block s xs w n) x) s.drives)
      there d k ne =
          let e : length (without (held_block s xs w n) x d) ≡ s.block = ap length (without_other (held_block s xs w n) x d ne) ∙ held_length s xs (place_in s w d n) (place_in_total s x w d n found k ne hn) long in
          omega (arith, row_least (without (held_block s xs w n) x) s.drives d k)

      least : Dec (x ≡ 0) → s.block ≤ length (xor_below (without (held_block s xs w n) x) s.drives)
      least (yes e) = there 1 (omega arith) (omega arith)
      least (no e) = there 0 (omega arith) (omega arith)

-- ---- it is the definition's
pub block_noted_is : (s : Segment) (xs ms : List ℕ) (x : ℕ) (w : List ℕ) (c : ℕ) → Placed s ms x w → c < total_blocks s → block_noted_at s xs x w c ≡ block_in s xs ms x c
unfolding block_noted_at block_in block_of rebuilt_block
block_noted_is s xs ms x w c p h = go (eqb (c / s.blocks) x) refl (cell s c h)
  where
    n : ℕ
    n = c % s.blocks

    f : ℕ → List ℕ
    f e = sector_no s.block xs (block_place s ms e n)

    same : Cell s c → (d : ℕ) → d < s.drives → d ≢ x → held_block s xs w n d ≡ f d
    same k d l ne = ap (sector_no s.block xs) (place_is s ms x w d n p l ne k.stripe)

    members : Cell s c → (d : ℕ) → d < s.drives → without (held_block s xs w n) x d ≡ without f x d
    members k d l = by (eqb d x) refl
      where
        by : (t : Bool) → eqb d x ≡ t → without (held_block s xs w n) x d ≡ without f x d
        by true e = ap (without (held_block s xs w n) x) (eqb-true d x e) ∙ without_self (held_block s xs w n) x ∙ sym (ap (without f x) (eqb-true d x e) ∙ without_self f x)
        by false e = without_other (held_block s xs w n) x d (eqb-false d x e) ∙ same k d l (eqb-false d x e) ∙ sym (without_other f x d (eqb-false d x e))

    go : (t : Bool) → eqb (c / s.blocks) x ≡ t → Cell s c → pick t (xor_below (without (held_block s xs w n) x) s.drives) (held_block s xs w n (c / s.blocks)) ≡ pick t (xor_below (without f x) s.drives) (f (c / s.blocks))
    go true e k = xor_below_cong (without (held_block s xs w n) x) (without f x) s.drives (λ d l. members k d l)
    go false e k = same k (c / s.blocks) k.drive (eqb-false (c / s.blocks) x e)

-- ---- what the metadata refuse; where they refuse nothing, the work table tells where the blocks lie
pub record MetadataRead (s : Segment) (ms : List ℕ) (x : ℕ) (w : List ℕ) (r : ℕ) : Type 0 where
  pub told : r ≡ metadata_number s ms x
  pub placed : r ≡ 0 → Placed s ms x w
