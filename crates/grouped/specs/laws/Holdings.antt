-- A read depends on nothing but what the drives hold of the stripes: where two segments hold the same, block by block, an address names the same.
use Rattle.std.specs.Prelude.{◌≡◌, Bool, ◌&&◌, ℕ, zero, suc, ◌≤◌, ◌<◌, List, ltb, eqb}
use Rattle.std.proofs.Math.Path.{refl, ap, ap₂}
use Rattle.std.proofs.Common.{le_refl, arith}
use Rattle.std.proofs.Math.Bool.{not}
use Rattle.tables.specs.laws.Below.{any_below_cong}
use Rattle.grouped.specs.declared.Segment.{Segment}
use Rattle.grouped.specs.meaning.Segment.{total_blocks}
use Rattle.grouped.specs.meaning.Stripes.{address_of, timestamp_of, block_of}
use Rattle.grouped.specs.meaning.Reading.{filler, address_in, timestamp_in, is_data, counts, alike, some_alike, is_later, later_of, newest_below, newest, block_in}
use Rattle.grouped.specs.places.Placed.{cell}
use Rattle.grouped.specs.reading.Later.{newest_most}

-- blocks xs and metadata ms with drive x missing, and ys and ns with y missing
pub record SameHeld (s : Segment) (xs ms : List ℕ) (x : ℕ) (ys ns : List ℕ) (y : ℕ) : Type 0 where
  pub address : (d n : ℕ) → d < s.drives → n < s.blocks → address_of s ms x d n ≡ address_of s ns y d n
  pub timestamp : (d n : ℕ) → d < s.drives → n < s.blocks → timestamp_of s ms x d n ≡ timestamp_of s ns y d n
  pub block : (d n : ℕ) → d < s.drives → n < s.blocks → block_of s xs ms x d n ≡ block_of s ys ns y d n

module _ (s : Segment) (xs ms : List ℕ) (x : ℕ) (ys ns : List ℕ) (y : ℕ) (h : SameHeld s xs ms x ys ns y) where
  addresses : (c : ℕ) → c < total_blocks s → address_in s ms x c ≡ address_in s ns y c
  unfolding address_in
  addresses c l = let k = cell s c l in h.address _ _ k.drive k.stripe

  timestamps : (c : ℕ) → c < total_blocks s → timestamp_in s ms x c ≡ timestamp_in s ns y c
  unfolding timestamp_in
  timestamps c l = let k = cell s c l in h.timestamp _ _ k.drive k.stripe

  pub same_blocks : (c : ℕ) → c < total_blocks s → block_in s xs ms x c ≡ block_in s ys ns y c
  unfolding block_in
  same_blocks c l = let k = cell s c l in h.block _ _ k.drive k.stripe

  same_counts : (c : ℕ) → c < total_blocks s → counts s ms x c ≡ counts s ns y c
  unfolding counts
  same_counts c l = ap (λ (a : ℕ). is_data s c && not (eqb a filler)) (addresses c l)

  same_alike : (b c : ℕ) → b < total_blocks s → c < total_blocks s → alike s ms x b c ≡ alike s ns y b c
  unfolding alike
  same_alike b c i l = rw (addresses b i, addresses c l, timestamps b i, timestamps c l) refl

  pub same_some_alike : some_alike s ms x ≡ some_alike s ns y
  unfolding some_alike
  same_some_alike = any_below_cong _ _ (total_blocks s) (λ c l. ap₂ (λ (p q : Bool). p && q) (same_counts c l) (any_below_cong _ _ c (λ b i. ap₂ (λ (p q : Bool). p && q) (same_counts b (omega arith)) (same_alike b c (omega arith) l))))

  same_later : (found c : ℕ) → found ≤ c → c < total_blocks s → is_later s ms x found c ≡ is_later s ns y found c
  same_later zero c i l = refl
  same_later (suc b) c i l = ap₂ ltb (timestamps b (omega arith)) (timestamps c l)

  same_newest_below : (a c : ℕ) → c ≤ total_blocks s → newest_below s ms x a c ≡ newest_below s ns y a c
  same_newest_below a zero l = refl
  same_newest_below a (suc c) l = go (newest_below s ms x a c) (newest_below s ns y a c) (newest_most s ms x a c) (same_newest_below a c (omega arith))
    where
      go : (f g : ℕ) → f ≤ c → f ≡ g → later_of s ms x a f c ≡ later_of s ns y a g c
      go f g i e = rw (← e) (rw (same_counts c l, addresses c l, same_later f c i l) refl)

  pub same_newest : (a : ℕ) → newest s ms x a ≡ newest s ns y a
  unfolding newest
  same_newest a = same_newest_below a (total_blocks s) (le_refl (total_blocks s))
