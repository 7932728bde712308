-- The call as a whole: which row of the refusals applies, and what it leaves.
use Rattle.std.specs.Prelude.{◌≡◌, ◌≢◌, Bool, true, false, ◌&&◌, ℕ, ◌-◌, ◌*◌, ◌%◌, List, length, eqb}
use Rattle.std.proofs.Math.Path.{refl}
use Rattle.std.proofs.Common.{arith}
use borrow.Author.Tests.{ne_eqb, eqb-true}
use Rattle.tables.specs.meaning.Basics.{pick}
use Rattle.tables.specs.meaning.GeometryTest.{all}
use Rattle.tables.specs.laws.Basics.{and_split}
use Rattle.grouped.specs.declared.Segment.{Segment}
use Rattle.grouped.specs.meaning.Segment.{segment_bounds, is_segment, ranges_fit, two_missing, missing_drive, total_blocks}
use Rattle.grouped.specs.meaning.Reading.{Request, numbers_refused, metadata_number, address_number, newest, grouped_number, grouped_left, block_in}
use Rattle.grouped.specs.laws.Segment.{Valid, ranged}

pub valid_if : (s : Segment) → is_segment s ≡ true → Valid s
unfolding is_segment
valid_if s h = ranged s (and_split (all (segment_bounds s)) (eqb (s.blocks % s.group) 0) h).0

-- nothing of the input is refused: what is lent has its form
pub record Admitted (s : Segment) (blocks metadata work answer : ℕ) : Type 0 where
  pub valid : Valid s
  pub whole : s.blocks % s.group ≡ 0
  pub blocks_long : blocks ≡ total_blocks s * s.block
  pub metadata_long : metadata ≡ total_blocks s * 20
  pub work_long : work ≡ total_blocks s * 8
  pub answer_long : answer ≡ s.block

pub admitted : (s : Segment) (named : List Bool) (blocks metadata work answer : ℕ) → numbers_refused s named blocks metadata work answer ≡ 0 → Admitted s blocks metadata work answer
unfolding numbers_refused is_segment ranges_fit
admitted s named blocks metadata work answer h = go (is_segment s) refl (ranges_fit s blocks metadata work answer) refl h
  where
    wholes : is_segment s ≡ true → eqb (s.blocks % s.group) 0 ≡ true
    wholes p = (and_split (all (segment_bounds s)) (eqb (s.blocks % s.group) 0) p).1

    lengths : ranges_fit s blocks metadata work answer ≡ true → eqb blocks (total_blocks s * s.block) && (eqb metadata (total_blocks s * 20) && (eqb work (total_blocks s * 8) && eqb answer s.block)) ≡ true
    lengths q = q

    fit : is_segment s ≡ true → ranges_fit s blocks metadata work answer ≡ true → Admitted s blocks metadata work answer
    fit p q =
        let (a, b) = and_split (eqb blocks (total_blocks s * s.block)) _ (lengths q) in
        let (c, d) = and_split (eqb metadata (total_blocks s * 20)) _ b in
        let (e, f) = and_split (eqb work (total_blocks s * 8)) (eqb answer s.block) d in
        record {
          valid = valid_if s p;
          whole = eqb-true (s.blocks % s.group) 0 (wholes p);
          blocks_long = eqb-true blocks (total_blocks s * s.block) a;
          metadata_long = eqb-true metadata (total_blocks s * 20) c;
          work_long = eqb-true work (total_blocks s * 8) e;
          answer_long = eqb-true answer s.block f;
        }

    go : (t : Bool) → is_segment s ≡ t → (u : Bool) → ranges_fit s blocks metadata work answer ≡ u → ◌≡◌ {A = ℕ} (pick t (pick u (pick (two_missing s named) 4 0) 2) 1) 0 → Admitted s blocks metadata work answer
    go true p true q e = fit p q
    go true p false q e = absurd (omega arith)
    go false p u q e = absurd (omega arith)

-- ---- the rows, in their order
module _ (r : Request) (out : List ℕ) where
  pub refused_left : (n : ℕ) → grouped_number r out ≡ n → n ≢ 0 → grouped_left r out ≡ out
  unfolding grouped_left
  refused_left n e ne = rw (e, ne_eqb n 0 ne) refl

  pub by_input : (n : ℕ) → numbers_refused r.segment r.named (length r.blocks) (length r.metadata) r.work (length out) ≡ n → n ≢ 0 → grouped_number r out ≡ n
  unfolding grouped_number
  by_input n e ne = rw (e, ne_eqb n 0 ne) refl

  pub by_metadata : (n : ℕ) → numbers_refused r.segment r.named (length r.blocks) (length r.metadata) r.work (length out) ≡ 0 → metadata_number r.segment r.metadata (missing_drive r.segment r.named) ≡ n → n ≢ 0 → grouped_number r out ≡ n
  unfolding grouped_number
  by_metadata n p e ne = rw (p, e, ne_eqb n 0 ne) refl

  pub by_address : numbers_refused r.segment r.named (length r.blocks) (length r.metadata) r.work (length out) ≡ 0 → metadata_number r.segment r.metadata (missing_drive r.segment r.named) ≡ 0
      → (n : ℕ) → newest r.segment r.metadata (missing_drive r.segment r.named) r.address ≡ n → grouped_number r out ≡ pick (eqb n 0) 13 0
  unfolding grouped_number address_number
  by_address p q n e = rw (p, q, e) refl

  pub finished_left_lem : grouped_number r out ≡ 0 → grouped_left r out ≡ block_in r.segment r.blocks r.metadata (missing_drive r.segment r.named) (newest r.segment r.metadata (missing_drive r.segment r.named) r.address - 1)
  unfolding grouped_left
  finished_left_lem e = rw e refl
