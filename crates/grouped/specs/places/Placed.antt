-- A work table that tells where every stripe's blocks lie, once 23 is past.
use Rattle.std.specs.Prelude.{◌≡◌, refl, ◌≢◌, false, ℕ, zero, suc, ◌+◌, ◌-◌, ◌*◌, ◌/◌, ◌%◌, ◌≤◌, ◌<◌, List, length, eqb}
use Rattle.std.proofs.Common.{sym, ◌∙◌, mod-lt, div-add-mod', div-lt_iff_lt-mul, arith, ne_eqb}
use Rattle.std.proofs.lemmas.Bool.{eqb-false}
use Rattle.tables.specs.meaning.Below.{any_below}
use Rattle.tables.specs.laws.Below.{any_below_false}
use Rattle.grouped.specs.declared.Segment.{Segment}
use Rattle.grouped.specs.meaning.Segment.{total_blocks}
use Rattle.grouped.specs.meaning.Stripes.{of_stripe, wrong_drive, wrong_i_ds, last_below, block_place}
use Rattle.grouped.specs.laws.Segment.{Sized, cell_in}
use Rattle.grouped.specs.laws.Words.{word}
use Rattle.grouped.specs.laws.Pigeonhole.{last_most}
use Rattle.grouped.specs.places.Places.{Noted, wrong_drive_lacks}

pub record Placed (s : Segment) (ms : List ℕ) (x : ℕ) (w : List ℕ) : Type 0 where
  pub sized : Sized s ms w
  pub missing_most : x ≤ 255
  pub noted : Noted s ms x s.drives w
  pub right : wrong_i_ds s ms x ≡ false

-- every present drive has a block of every stripe
pub last_there : (s : Segment) (ms : List ℕ) (x d n : ℕ) → wrong_i_ds s ms x ≡ false → d < s.drives → d ≢ x → n < s.blocks → 1 ≤ last_below (of_stripe s ms d n) s.blocks
unfolding wrong_i_ds
last_there s ms x d n e h ne k =
    let a = any_below_false (λ d. _) s.drives d e h in
    let b : wrong_drive s ms d ≡ false = rw (ne_eqb d x ne) at a in
    let c : any_below (λ n. eqb (last_below (of_stripe s ms d n) s.blocks) 0) s.blocks ≡ false = sym (wrong_drive_lacks s ms d) ∙ b in
    omega (arith, eqb-false (last_below (of_stripe s ms d n) s.blocks) 0 (any_below_false (λ n. eqb (last_below (of_stripe s ms d n) s.blocks) 0) s.blocks n c k))

-- the block lies on its drive
pub place_within : (s : Segment) (ms : List ℕ) (x d n : ℕ) → wrong_i_ds s ms x ≡ false → d < s.drives → d ≢ x → n < s.blocks → (d * s.blocks ≤ block_place s ms d n) × (block_place s ms d n < d * s.blocks + s.blocks)
unfolding block_place
place_within s ms x d n e h ne k = let l = last_there s ms x d n e h ne k in let m = last_most (of_stripe s ms d n) s.blocks in (omega arith, omega arith)

-- ---- as the work table has it, whatever it was made from
unfoldable pub place_in : Segment → List ℕ → ℕ → ℕ → ℕ
place_in s w d n = d * s.blocks + word w (d * s.blocks + n) - 1

pub record Found (s : Segment) (x : ℕ) (w : List ℕ) : Type 0 where
  pub work_long : length w ≡ total_blocks s * 8
  pub least : (d n : ℕ) → d < s.drives → d ≢ x → n < s.blocks → 1 ≤ word w (d * s.blocks + n)
  pub most : (d n : ℕ) → d < s.drives → d ≢ x → n < s.blocks → word w (d * s.blocks + n) ≤ s.blocks

-- what one drive has of one stripe
pub record Has (s : Segment) (w : List ℕ) (d n : ℕ) : Type 0 where
  pub long : length w ≡ total_blocks s * 8
  pub drive : d < s.drives
  pub stripe : n < s.blocks
  pub least : 1 ≤ word w (d * s.blocks + n)
  pub most : word w (d * s.blocks + n) ≤ s.blocks

pub found_has : (s : Segment) (x : ℕ) (w : List ℕ) (d n : ℕ) → Found s x w → d < s.drives → d ≢ x → n < s.blocks → Has s w d n
found_has s x w d n f h ne k = record { long = f.work_long; drive = h; stripe = k; least = f.least d n h ne k; most = f.most d n h ne k }

pub has_in : (s : Segment) (w : List ℕ) (d n : ℕ) → Has s w d n → d * s.blocks + word w (d * s.blocks + n) ≤ total_blocks s
has_in s w d n h = let c = cell_in s d (word w (d * s.blocks + n) - 1) h.drive (omega (arith, h.least, h.most)) in omega (arith, h.least)

pub placed_found : (s : Segment) (ms : List ℕ) (x : ℕ) (w : List ℕ) → Placed s ms x w → Found s x w
placed_found s ms x w p = record {
  work_long = p.sized.work_long;
  least = λ d n h ne k. rw (p.noted.here d n h ne k) (last_there s ms x d n p.right h ne k);
  most = λ d n h ne k. rw (p.noted.here d n h ne k) (last_most (of_stripe s ms d n) s.blocks);
}

pub place_is : (s : Segment) (ms : List ℕ) (x : ℕ) (w : List ℕ) (d n : ℕ) → Placed s ms x w → d < s.drives → d ≢ x → n < s.blocks → place_in s w d n ≡ block_place s ms d n
unfolding place_in block_place
place_is s ms x w d n p h ne k = rw (p.noted.here d n h ne k) refl

pub place_in_total : (s : Segment) (x : ℕ) (w : List ℕ) (d n : ℕ) → Found s x w → d < s.drives → d ≢ x → n < s.blocks → place_in s w d n < total_blocks s
unfolding place_in
place_in_total s x w d n f h ne k = omega (arith, has_in s w d n (found_has s x w d n f h ne k), f.least d n h ne k)

-- ---- only the numbers of the first half count
pub placed_kept : (s : Segment) (ms : List ℕ) (x : ℕ) (w u : List ℕ) → Placed s ms x w → length u ≡ length w → ((k : ℕ) → k < total_blocks s → word u k ≡ word w k) → Placed s ms x u
placed_kept s ms x w u p l same = record {
  sized = record { valid = p.sized.valid; whole = p.sized.whole; metadata_long = p.sized.metadata_long; work_long = l ∙ p.sized.work_long };
  missing_most = p.missing_most;
  noted = record {
    long = l ∙ p.noted.long;
    here = λ d n h ne k. same (d * s.blocks + n) (cell_in s d n h k) ∙ p.noted.here d n h ne k;
    rest = λ k h m. same k m ∙ p.noted.rest k h m;
  };
  right = p.right;
}

-- ---- c: drive c div N, stripe c mod N
pub record Cell (s : Segment) (c : ℕ) : Type 0 where
  pub some : 1 ≤ s.blocks
  pub drive : c / s.blocks < s.drives
  pub stripe : c % s.blocks < s.blocks
  pub is : c / s.blocks * s.blocks + c % s.blocks ≡ c

pub cell : (s : Segment) (c : ℕ) → c < total_blocks s → Cell s c
cell s c h = record { some = pos; drive = (div-lt_iff_lt-mul pos).1 h; stripe = mod-lt c pos; is = div-add-mod' c s.blocks }
  where
    pos : 1 ≤ s.blocks
    pos = go s.blocks h
      where
        go : (n : ℕ) → c < s.drives * n → 1 ≤ n
        go zero k = absurd (omega arith)
        go (suc n) k = omega arith
